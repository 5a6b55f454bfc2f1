-- A list from a function of the index: its elements, one of them changed, all of them changed. Assumes nothing.
use mathlib.Core.Path.{◌≡◌, refl, ap, ap₂}
use mathlib.Core.List.{List, ◌∷◌, map}
use Prim.Native.Nat.{ℕ, zero, suc, ◌<◌}
use native.Mathlib.Nat.{suc-ne-zero, suc_inj}
use native.Mathlib.Omega.{arith}
use lib.ListN.{length, get_or, set, replicate}
use Rattle.plain_chip.specs.Lists.{Every}
use Rattle.chip_as_slots.specs.Whole.{row}

module _ {A : Type 0} where
  pub length-row : (n : ℕ) (f : ℕ → A) → length (row n f) ≡ n
  length-row zero f = refl
  length-row (suc n) f = ap suc (length-row n (λ i. f (suc i)))

  pub row_at : (n : ℕ) (f : ℕ → A) (k : ℕ) (d : A) → k < n → get_or (row n f) k d ≡ f k
  row_at zero f k d h = absurd (omega arith)
  row_at (suc n) f zero d h = refl
  row_at (suc n) f (suc k) d h = row_at n (λ i. f (suc i)) k d (omega arith)

  pub row_same : (n : ℕ) (f f' : ℕ → A) → ((i : ℕ) → i < n → f i ≡ f' i) → row n f ≡ row n f'
  row_same zero f f' h = refl
  row_same (suc n) f f' h = ap₂ (λ (x : A) (l : List A). x ∷ l) (h 0 (omega arith)) (row_same n (λ i. f (suc i)) (λ i. f' (suc i)) (λ i l. h (suc i) (omega arith)))

  -- one of them changed
  pub row-set : (n : ℕ) (f f' : ℕ → A) (k : ℕ) (x : A) → (k < n → f' k ≡ x) → ((i : ℕ) → i < n → (i ≡ k → ⊥) → f' i ≡ f i) → row n f' ≡ set (row n f) k x
  row-set zero f f' k x e h = refl
  row-set (suc n) f f' zero x e h =
      ap₂ (λ (y : A) (l : List A). y ∷ l) (e (omega arith)) (row_same n (λ i. f' (suc i)) (λ i. f (suc i)) (λ i l. h (suc i) (omega arith) (suc-ne-zero i)))
  row-set (suc n) f f' (suc k) x e h =
      ap₂ (λ (y : A) (l : List A). y ∷ l) (h 0 (omega arith) (λ e. omega arith))
      (row-set n (λ i. f (suc i)) (λ i. f' (suc i)) k x (λ l. e (omega arith)) (λ i l m. h (suc i) (omega arith) (λ q. m (suc_inj q))))

  pub row-every : (P : A → Type 0) (n : ℕ) (f : ℕ → A) → Every P (row n f) → (k : ℕ) → k < n → P (f k)
  row-every P zero f p k h = absurd (omega arith)
  row-every P (suc n) f p zero h = p.0
  row-every P (suc n) f p (suc k) h = row-every P n (λ i. f (suc i)) p.1 k (omega arith)

  pub every-row : (P : A → Type 0) (n : ℕ) (f : ℕ → A) → ((i : ℕ) → i < n → P (f i)) → Every P (row n f)
  every-row P zero f h = tt
  every-row P (suc n) f h = (h 0 (omega arith), every-row P n (λ i. f (suc i)) (λ i l. h (suc i) (omega arith)))

  pub row-all : (x : A) (n : ℕ) → row n (λ i. x) ≡ replicate n x
  row-all x zero = refl
  row-all x (suc n) = ap (λ (l : List A). x ∷ l) (row-all x n)

pub map_row : {A B : Type 0} (g : A → B) (n : ℕ) (f : ℕ → A) → map g (row n f) ≡ row n (λ i. g (f i))
map_row g zero f = refl
map_row {A} {B} g (suc n) f = ap (λ (l : List B). g (f 0) ∷ l) (map_row g n (λ i. f (suc i)))
