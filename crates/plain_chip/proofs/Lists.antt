-- A change of one element of a list: what holds of each, and the list seen through a map. Assumes nothing.
use mathlib.Core.Path.{◌≡◌, refl, ap}
use mathlib.Core.List.{List, [], ◌∷◌, map}
use Prim.Native.Nat.{ℕ, zero, suc, ◌<◌}
use native.Mathlib.Omega.{arith}
use lib.ListN.{get_or, set, replicate}
use Rattle.plain_chip.specs.Lists.{adjust, Every}
use Rattle.plain_chip.specs.Good.{Bytes}

module _ {A : Type 0} (P : A → Type 0) where
  pub every_get : (d : A) (l : List A) (k : ℕ) → Every P l → P d → P (get_or l k d)
  every_get d [] k p q = q
  every_get d (x ∷ l) zero p q = p.0
  every_get d (x ∷ l) (suc k) p q = every_get d l k p.1 q

  pub every_set : (x : A) → P x → (l : List A) (k : ℕ) → Every P l → Every P (set l k x)
  every_set x h [] k p = tt
  every_set x h (y ∷ l) zero p = (h, p.1)
  every_set x h (y ∷ l) (suc k) p = (p.0, every_set x h l k p.1)

  pub every-adjust : (d : A) (f : A → A) → ((x : A) → P x → P (f x)) → (l : List A) (k : ℕ) → Every P l → Every P (adjust d k f l)
  every-adjust d f h [] k p = tt
  every-adjust d f h (x ∷ l) zero p = (h x p.0, p.1)
  every-adjust d f h (x ∷ l) (suc k) p = (p.0, every-adjust d f h l k p.1)

  pub every-replicate : (x : A) → P x → (n : ℕ) → Every P (replicate n x)
  every-replicate x h zero = tt
  every-replicate x h (suc n) = (h, every-replicate x h n)

pub every_map : {A B : Type 0} (P : A → Type 0) (Q : B → Type 0) (f : A → B) → ((x : A) → P x → Q (f x)) → (l : List A) → Every P l → Every Q (map f l)
every_map P Q f h [] p = tt
every_map P Q f h (x ∷ l) p = (h x p.0, every_map P Q f h l p.1)

module _ {A B : Type 0} (g : A → B) where
  pub map-set : (x : A) (l : List A) (k : ℕ) → map g (set l k x) ≡ set (map g l) k (g x)
  map-set x [] k = refl
  map-set x (y ∷ l) zero = refl
  map-set x (y ∷ l) (suc k) = ap (λ (r : List B). g y ∷ r) (map-set x l k)

  -- a change of one element, seen through a map
  pub map-adjust : (P : A → Type 0) (d : A) (d' : B) (f : A → A) (f' : B → B) → ((x : A) → P x → g (f x) ≡ f' (g x)) → (l : List A) (k : ℕ) → Every P l
      → map g (adjust d k f l) ≡ adjust d' k f' (map g l)
  map-adjust P d d' f f' h [] k p = refl
  map-adjust P d d' f f' h (x ∷ l) zero p = ap (λ (y : B). y ∷ map g l) (h x p.0)
  map-adjust P d d' f f' h (x ∷ l) (suc k) p = ap (λ (r : List B). g x ∷ r) (map-adjust P d d' f f' h l k p.1)

  -- a change of all of them
  pub map-all : (P : A → Type 0) (f : A → A) (f' : B → B) → ((x : A) → P x → g (f x) ≡ f' (g x)) → (l : List A) → Every P l → map g (map f l) ≡ map f' (map g l)
  map-all P f f' h [] p = refl
  map-all P f f' h (x ∷ l) p = rw (h x p.0, map-all P f f' h l p.1)

  pub map_same : (f : A → A) → ((x : A) → g (f x) ≡ g x) → (l : List A) → map g (map f l) ≡ map g l
  map_same f h [] = refl
  map_same f h (x ∷ l) = rw (h x, map_same f h l)

  pub map-replicate : (x : A) (n : ℕ) → map g (replicate n x) ≡ replicate n (g x)
  map-replicate x zero = refl
  map-replicate x (suc n) = ap (λ (r : List B). g x ∷ r) (map-replicate x n)

-- ---- bytes
pub bytes-replicate : (n x : ℕ) → x < 256 → Bytes (replicate n x)
bytes-replicate n x h = record { each = go n }
  where
    go : (n i : ℕ) → get_or (replicate n x) i 0 < 256
    go zero i = omega arith
    go (suc n) zero = h
    go (suc n) (suc i) = go n i
