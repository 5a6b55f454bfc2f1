-- A part of a list put back: the same part, another one, one after another. Assumes nothing.
use Rattle.std.proofs.Common.{◌≡◌, ℕ, ◌+◌, ◌≤◌, List, ◌++◌, length, take, drop, sym, ap, ◌∙◌, append_assoc, arith, length-append, length-drop, take-append-drop, length-take, length-take-le, take_at, take-add, drop_at}
use lib.Seq.{sets, sets-eq, length-sets}
use Rattle.num.specs.Lists.{part}

pub part_length : {A : Type 0} (l : List A) (a n : ℕ) → a + n ≤ length l → length (part l a n) ≡ n
part_length l a n h = simp (length-take, length-drop) (omega arith)

pub part-back : {A : Type 0} (l : List A) (a n : ℕ) → a + n ≤ length l → sets l a (part l a n) ≡ l
part-back l a n h =
    let e = part_length l a n h in
    sets-eq (part l a n) l a (omega arith)
    ∙ ap (λ (k : ℕ). take a l ++ part l a n ++ drop (a + k) l) e
    ∙ ap (λ (r : List _). r ++ drop (a + n) l) (sym (take-add a n l))
    ∙ take-append-drop (a + n) l

module _ {A : Type 0} (l xs : List A) (a n : ℕ) (h : a + n ≤ length l) (e : length xs ≡ n) where
  abbrev front : List A
  front = take a l ++ xs

  put_is : sets l a xs ≡ front ++ drop (a + n) l
  put_is = sets-eq xs l a (omega arith) ∙ ap (λ (k : ℕ). front ++ drop (a + k) l) e

  head-long : length (take a l) ≡ a
  head-long = length-take-le a l (omega arith)

  front_long : length front ≡ a + n
  front_long = length-append (take a l) xs ∙ ap (λ (k : ℕ). k + length xs) head-long ∙ ap (λ (k : ℕ). a + k) e

  pub part-put : part (sets l a xs) a n ≡ xs
  part-put =
      ap (λ (m : List A). part m a n) (put_is ∙ append_assoc (take a l) xs (drop (a + n) l))
      ∙ ap (take n) (drop_at (take a l) (xs ++ drop (a + n) l) a head-long)
      ∙ take_at xs (drop (a + n) l) n e

  pub put-twice : (ys : List A) → length ys ≡ n → sets (sets l a xs) a ys ≡ sets l a ys
  put-twice ys f =
      sets-eq ys (sets l a xs) a (simp length-sets (omega arith))
      ∙ ap (λ (k : ℕ). take a (sets l a xs) ++ ys ++ drop (a + k) (sets l a xs)) f
      ∙ ap (λ (r : List A). take a (sets l a xs) ++ ys ++ r) (ap (drop (a + n)) put_is ∙ drop_at front (drop (a + n) l) (a + n) front_long)
      ∙ ap (λ (r : List A). r ++ ys ++ drop (a + n) l) (ap (take a) (put_is ∙ append_assoc (take a l) xs (drop (a + n) l)) ∙ take_at (take a l) (xs ++ drop (a + n) l) a head-long)
      ∙ ap (λ (k : ℕ). take a l ++ ys ++ drop (a + k) l) (sym f)
      ∙ sym (sets-eq ys l a (omega arith))
