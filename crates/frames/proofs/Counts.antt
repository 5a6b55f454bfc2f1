-- Frames that a list clocks, bytes that it stores. Assumes nothing.
use Rattle.std.proofs.Common.{◌≡◌, ℕ, zero, suc, ◌+◌, ◌-◌, ◌<◌, ◌≤◌, Bool, true, false, not, eqb, List, ◌∷◌, length, get_or, take, drop, set, sym, refl, ap, ◌∙◌, subst, add-one, arith, length-drop, get_or-drop, get_or-take, eq-eqb, ne_eqb, eqb-true}
use lib.Seq.{drop-cons, length-take-le}
use mathlib.Core.Bool.{beq}
use native.Mathlib.Decide.{dec_lt}
use borrow.Author.Tests.{eqb-false}
use Rattle.num.proofs.Choice.{never}
use Rattle.frames.specs.Listing.{asked_of, clocked_as, clocked_by, frames_asked}
use Rattle.frames.specs.Stored.{calls_stored}

pub differ : (a b : Bool) → not (beq a b) ≡ true → a ≡ not b
differ true true e = never (sym e)
differ true false e = refl
differ false true e = refl
differ false false e = never (sym e)

pub alike : (a b : Bool) → not (beq a b) ≡ false → a ≡ b
alike true true e = refl
alike true false e = never e
alike false true e = never e
alike false false e = refl

-- one more of those from `from` on
pub grown : (P : ℕ → Type 0) (from i : ℕ) → ((j : ℕ) → from ≤ j → j < i → P j) → P i → (j : ℕ) → from ≤ j → j < i + 1 → P j
grown P from i f p j g h = elim (dec_lt j i) [ yes y ↦ f j g y | no y ↦ subst P (last i j h y) p ]
  where
    last : (i j : ℕ) → j < i + 1 → (j < i → ⊥) → i ≡ j
    last i j h l = omega arith

pub zero-add : (n : ℕ) → n ≡ 0 + n
zero-add n = omega arith

-- an element of a list whose elements are taken in turn, and what is left behind it
pub element : (l rest after : List ℕ) (x i : ℕ) → rest ≡ drop i l → rest ≡ x ∷ after → (i < length l) × (x ≡ get_or l i 0) × (after ≡ drop (i + 1) l)
element l rest after x i e f =
    let h : i < length l = omega (arith, ap length e, ap length f, length-drop i l) in
    let g : x ∷ after ≡ get_or l i 0 ∷ drop (suc i) l = sym f ∙ e ∙ drop-cons l i 0 h in
    (h, cc, rw (add-one i) cc)

-- an element of a part
pub part-at : (l : List ℕ) (from n j k : ℕ) → j < n → from + j ≡ k → get_or (take n (drop from l)) j 0 ≡ get_or l k 0
part-at l from n j k h e = get_or-take n (drop from l) j 0 h ∙ get_or-drop from l j 0 ∙ ap (λ (m : ℕ). get_or l m 0) e

-- nothing is left exactly where all was taken
pub none_left : (rest x s : ℕ) → rest + x ≡ s → eqb rest 0 ≡ eqb s x
none_left rest x s e = by (eqb rest 0) refl
  where
    by : (t : Bool) → eqb rest 0 ≡ t → eqb rest 0 ≡ eqb s x
    by true h = h ∙ sym (eq-eqb s x (let z = eqb-true rest 0 h in omega arith))
    by false h = h ∙ sym (ne_eqb s x (λ y. eqb-false rest 0 h (omega arith)))

module _ (kinds addresses : List ℕ) where
  abbrev F : ℕ → ℕ → ℕ
  F = frames_asked kinds addresses

  pub frames-none : (from : ℕ) → F from 0 ≡ 0
  unfolding frames_asked
  frames-none from = refl

  pub frames-more : (from m : ℕ) → F from (m + 1) ≡ F from m + clocked_by kinds addresses (from + m)
  unfolding frames_asked
  frames-more from m = ap (F from) (add-one m)

  pub frames-most : (from m k : ℕ) → F from m ≤ F from (m + k)
  unfolding frames_asked
  frames-most from m zero = let e : m + 0 ≡ m = omega arith in rw e (omega arith)
  frames-most from m (suc k) = let h = frames-most from m k in let e : m + suc k ≡ suc (m + k) = omega arith in rw e (omega arith)

  pub frames-within : (from m n : ℕ) → m ≤ n → F from m ≤ F from n
  frames-within from m n h = let e : n ≡ m + (n - m) = omega arith in rw e (frames-most from m (n - m))

  -- in two parts
  pub frames-parts : (from m : ℕ) → F 0 (from + m) ≡ F 0 from + F from m
  unfolding frames_asked
  frames-parts from zero = let e : from + 0 ≡ from = omega arith in rw e (omega arith)
  frames-parts from (suc m) =
      let h = frames-parts from m in
      let e : from + suc m ≡ suc (from + m) = omega arith in
      ap (F 0) e ∙ (let z : 0 + (from + m) ≡ from + m = omega arith in rw (h, z) (omega arith))

  -- those of the first calls
  frames_cut : (n m : ℕ) → m ≤ n → frames_asked (take n kinds) (take n addresses) 0 m ≡ F 0 m
  unfolding frames_asked
  frames_cut n zero h = refl
  frames_cut n (suc m) h =
      let p = frames_cut n m (omega arith) in
      let k = get_or-take n kinds (0 + m) 0 (omega arith) in
      let a = get_or-take n addresses (0 + m) 0 (omega arith) in
      λ j. p j + clocked_as (asked_of (k j)) (a j)

  pub frames-cut : (n : ℕ) → n ≤ length kinds → frames_asked (take n kinds) (take n addresses) 0 (length (take n kinds)) ≡ F 0 n
  frames-cut n h = ap (frames_asked (take n kinds) (take n addresses) 0) (length-take-le n kinds h) ∙ frames_cut n n (omega arith)

module _ (addresses values : List ℕ) (from : ℕ) (ram : List ℕ) where
  pub stored-none : ram ≡ calls_stored addresses values from 0 ram
  unfolding calls_stored
  stored-none = refl

  pub stored_more : (m i : ℕ) (now next : List ℕ) → i ≡ from + m → now ≡ calls_stored addresses values from m ram → next ≡ set now (get_or addresses i 0) (get_or values i 0) → next ≡ calls_stored addresses values from (m + 1) ram
  unfolding calls_stored
  stored_more m i now next p e f =
      f ∙ ap (λ (l : List ℕ). set l (get_or addresses i 0) (get_or values i 0)) e ∙ ap (λ (j : ℕ). set (calls_stored addresses values from m ram) (get_or addresses j 0) (get_or values j 0)) p
      ∙ ap (λ (k : ℕ). calls_stored addresses values from k ram) (sym (add-one m))

  pub stored_at : (i : ℕ) (now next : List ℕ) → from ≤ i → now ≡ calls_stored addresses values from (i - from) ram → next ≡ set now (get_or addresses i 0) (get_or values i 0) → next ≡ calls_stored addresses values from (i + 1 - from) ram
  stored_at i now next h e f =
      let p : i ≡ from + (i - from) = omega arith in
      let q : i - from + 1 ≡ i + 1 - from = omega arith in
      stored_more (i - from) i now next p e f ∙ ap (λ (k : ℕ). calls_stored addresses values from k ram) q

  -- by the calls of a part
  stored_part : (n m : ℕ) → m ≤ n → calls_stored (take n (drop from addresses)) (take n (drop from values)) 0 m ram ≡ calls_stored addresses values from m ram
  unfolding calls_stored
  stored_part n zero h = refl
  stored_part n (suc m) h =
      let p = stored_part n m (omega arith) in
      let a = part-at addresses from n (0 + m) (from + m) (omega arith) (omega arith) in
      let v = part-at values from n (0 + m) (from + m) (omega arith) (omega arith) in
      λ j. set (p j) (a j) (v j)

  pub stored-part : (n : ℕ) → from + n ≤ length addresses → calls_stored (take n (drop from addresses)) (take n (drop from values)) 0 (length (take n (drop from addresses))) ram ≡ calls_stored addresses values from n ram
  stored-part n h = ap (λ (m : ℕ). calls_stored (take n (drop from addresses)) (take n (drop from values)) 0 m ram) (length-take-le n (drop from addresses) (omega (arith, length-drop from addresses))) ∙ stored_part n n (omega arith)
