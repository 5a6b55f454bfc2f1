-- Parts of one width, side by side: elements set in one of them. Assumes nothing.
use mathlib.Core.Path.{◌≡◌, refl, sym, ap, ◌∙◌}
use mathlib.Core.List.{List, [], ◌∷◌, ◌++◌, append_assoc, map}
use mathlib.Core.Logic.{◌⊎◌, inl, inr, ⊎_elim}
use Prim.Native.Nat.{ℕ, zero, suc, ◌+◌, ◌-◌, ◌*◌, ◌≤◌, ◌<◌}
use native.Mathlib.Omega.{arith}
use native.Mathlib.Decide.{dec_lt}
use native.Mathlib.Nat.{mul-le-mul_right, suc-mul}
use lib.ListN.{length, take, drop, set, get_or, replicate, length-take, length-replicate, replicate-append-replicate}
use lib.Seq.{sets, sets-eq, take_at, drop_at, take-set-le, drop-set-lt, take-set-lt, drop-set-add}
use Rattle.num.specs.Lists.{part}

-- two of one width
apart : (w i j : ℕ) → (j ≡ i → ⊥) → (i * w + w ≤ j * w) ⊎ (j * w + w ≤ i * w)
apart w i j d = elim (dec_lt i j) [ yes h ↦ inl (below i j h) | no h ↦ inr (below j i (under i j d h)) ]
  where
    below : (i j : ℕ) → i < j → i * w + w ≤ j * w
    below i j h = let m = mul-le-mul_right {m = suc i} {n = j} w h in let s = suc-mul i w in omega arith

    under : (i j : ℕ) → (j ≡ i → ⊥) → (i < j → ⊥) → j < i
    under i j d h = elim (dec_lt j i) [ yes l ↦ l | no l ↦ absurd (d (omega arith)) ]

module _ {A : Type 0} where
  -- ---- one element
  pub part-set-in : (l : List A) (a n i : ℕ) (x : A) → i < n → part (set l (a + i) x) a n ≡ set (part l a n) i x
  part-set-in l a n i x h = ap (take n) (drop-set-add a l i x) ∙ take-set-lt n (drop a l) i x h

  pub part-set-out : (l : List A) (p a n : ℕ) (x : A) → (p < a) ⊎ (a + n ≤ p) → part (set l p x) a n ≡ part l a n
  part-set-out l p a n x (inl h) = ap (take n) (drop-set-lt a l p x h)
  part-set-out l p a n x (inr h) =
      let e : p ≡ a + (p - a) = omega arith in
      ap (λ (q : ℕ). part (set l q x) a n) e ∙ ap (take n) (drop-set-add a l (p - a) x) ∙ take-set-le n (drop a l) (p - a) x (omega arith)

  -- ---- a run of them
  pub part-sets-out : (xs l : List A) (p a n : ℕ) → (p + length xs ≤ a) ⊎ (a + n ≤ p) → part (sets l p xs) a n ≡ part l a n
  part-sets-out [] l p a n h = refl
  part-sets-out (x ∷ xs) l p a n h =
      part-sets-out xs (set l p x) (suc p) a n (⊎_elim (λ e. inl (less p (length xs) a e)) (λ e. inr (more p a n e)) h)
      ∙ part-set-out l p a n x (⊎_elim (λ e. inl (first p (length xs) a e)) (λ e. inr e) h)
    where
      less : (p m a : ℕ) → p + suc m ≤ a → suc p + m ≤ a
      less p m a e = omega arith

      more : (p a n : ℕ) → a + n ≤ p → a + n ≤ suc p
      more p a n e = omega arith

      first : (p m a : ℕ) → p + suc m ≤ a → p < a
      first p m a e = omega arith

  pub part-sets-in : (xs l : List A) (a n : ℕ) → length xs ≡ n → a + n ≤ length l → part (sets l a xs) a n ≡ xs
  part-sets-in xs l a n e h =
      let r : a + length xs ≤ length l = omega arith in
      let d : length (take a l) ≡ a = length-take a l ∙ omega arith in
      ap (λ (m : List A). part m a n) (sets-eq xs l a r ∙ append_assoc (take a l) xs (drop (a + length xs) l))
      ∙ ap (take n) (drop_at (take a l) (xs ++ drop (a + length xs) l) a d) ∙ take_at xs (drop (a + length xs) l) n e

  -- ---- over the width
  module _ (w : ℕ) where
    pub width-own : (l xs : List A) (i : ℕ) → length xs ≡ w → i * w + w ≤ length l → part (sets l (i * w) xs) (i * w) w ≡ xs
    width-own l xs i e h = part-sets-in xs l (i * w) w e h

    pub width-other : (l xs : List A) (i j : ℕ) → length xs ≡ w → (j ≡ i → ⊥) → part (sets l (i * w) xs) (j * w) w ≡ part l (j * w) w
    width-other l xs i j e d = part-sets-out xs l (i * w) (j * w) w (⊎_elim (λ h. inl (omega arith)) (λ h. inr h) (apart w i j d))

    pub element-own : (l : List A) (i at : ℕ) (x : A) → at < w → part (set l (i * w + at) x) (i * w) w ≡ set (part l (i * w) w) at x
    element-own l i at x h = part-set-in l (i * w) w at x h

    pub element-other : (l : List A) (i j at : ℕ) (x : A) → at < w → (j ≡ i → ⊥) → part (set l (i * w + at) x) (j * w) w ≡ part l (j * w) w
    element-other l i j at x h d = part-set-out l (i * w + at) (j * w) w x (⊎_elim (λ e. inl (omega arith)) (λ e. inr (omega arith)) (apart w i j d))

  -- ---- lists of the same element, and lists changed alike
  pub part-replicate : (x : A) (a n m : ℕ) → a + n ≤ m → part (replicate m x) a n ≡ replicate n x
  part-replicate x a n m h =
      let e : m ≡ a + (n + (m - (a + n))) = omega arith in
      ap (λ (k : ℕ). part (replicate k x) a n) e
      ∙ ap (λ (l : List A). part l a n) (sym (replicate-append-replicate a (n + (m - (a + n))) x) ∙ ap (λ (l : List A). replicate a x ++ l) (sym (replicate-append-replicate n (m - (a + n)) x)))
      ∙ ap (take n) (drop_at (replicate a x) (replicate n x ++ replicate (m - (a + n)) x) a (length-replicate a x))
      ∙ take_at (replicate n x) (replicate (m - (a + n)) x) n (length-replicate n x)

  pub get_d-changed : (f : A → A) (d : A) (l : List A) (j : ℕ) → j < length l → get_or (map f l) j d ≡ f (get_or l j d)
  get_d-changed f d [] j h = absurd (omega arith)
  get_d-changed f d (x ∷ l) zero h = refl
  get_d-changed f d (x ∷ l) (suc j) h = get_d-changed f d l j (omega arith)
