-- The nearest code: none is nearer, and a smaller one is farther. Assumes nothing.
use mathlib.Core.Path.{◌≡◌, refl, ap, ◌∙◌}
use mathlib.Core.Bool.{Bool, true, false}
use Prim.Native.Nat.{ℕ, zero, suc, ◌-◌, ◌<◌, ◌≤◌}
use native.Mathlib.Omega.{arith}
use lib.Dec.{ltb, leb}
use borrow.Author.Tests.{ltb-true, ltb-false, leb-true, leb-false, lt-ltb, le-ltb}
use Rattle.num.proofs.Choice.{cond-by}
use Rattle.adpcm.specs.declared.Variant.{Variant}
use Rattle.adpcm.specs.declared.Variant.TheVariants.{H, L, LPlus}
use Rattle.sqv4_writer.specs.Choice.{nearest_of, last_code}

pub record IsNearest (distance : ℕ → ℕ) (n code : ℕ) : Type 0 where
  pub there : code ≤ n
  pub least : (c : ℕ) → c ≤ n → distance code ≤ distance c
  pub smallest : (c : ℕ) → c < code → distance code < distance c

pub nearest : (distance : ℕ → ℕ) (n : ℕ) → IsNearest distance n (nearest_of distance n)
unfolding nearest_of
nearest d zero = record { there = omega arith; least = λ c h. only c (none c h); smallest = λ c h. absurd (omega arith) }
  where
    none : (c : ℕ) → c ≤ 0 → c ≡ 0
    none c h = omega arith

    only : (c : ℕ) → c ≡ 0 → d 0 ≤ d c
    only c e = let f : d c ≡ d 0 = ap d e in omega arith
nearest d (suc n) = cond-by (IsNearest d (suc n)) (ltb (d (suc n)) (d (nearest_of d n))) (suc n) (nearest_of d n) (λ e. taken (nearest d n) (ltb-true _ _ e)) (λ e. kept (nearest d n) (ltb-false _ _ e))
  where
    last : {A : Type 0} (c : ℕ) → c ≤ suc n → (c ≤ n → A) → (c ≡ suc n → A) → A
    last {A} c g f h = go (leb c n) refl
      where
        go : (b : Bool) → leb c n ≡ b → A
        go true e = f (leb-true c n e)
        go false e = h (omega (arith, g, leb-false c n e))

    taken : IsNearest d n (nearest_of d n) → d (suc n) < d (nearest_of d n) → IsNearest d (suc n) (suc n)
    taken r h = record { there = omega arith; least = λ c g. last c g (λ q. omega (arith, h, r.least c q)) (λ q. let f : d c ≡ d (suc n) = ap d q in omega arith); smallest = λ c g. omega (arith, h, r.least c (omega arith)) }

    kept : IsNearest d n (nearest_of d n) → d (nearest_of d n) ≤ d (suc n) → IsNearest d (suc n) (nearest_of d n)
    kept r h = record { there = omega (arith, r.there); least = λ c g. last c g (r.least c) (λ q. let f : d c ≡ d (suc n) = ap d q in omega arith); smallest = λ c g. r.smallest c g }

-- ---- the search, where the numbers below `code` were looked at
module _ (d : ℕ → ℕ) (best least far : ℕ) (there : least ≡ d best) where
  -- the next is nearer
  pub nearer : (code : ℕ) → 1 ≤ code → best ≡ nearest_of d (code - 1) → far ≡ d code → far < least → code ≡ nearest_of d code
  unfolding nearest_of
  nearer zero g is next h = absurd (omega arith)
  nearer (suc n) g is next h = let e : best ≡ nearest_of d n = is ∙ ap (nearest_of d) (omega arith) in rw (lt-ltb (d (suc n)) (d (nearest_of d n)) (omega (arith, next, there, ap d e)))

  -- it is not
  pub not-nearer : (code : ℕ) → 1 ≤ code → best ≡ nearest_of d (code - 1) → far ≡ d code → least ≤ far → best ≡ nearest_of d code
  unfolding nearest_of
  not-nearer zero g is next h = absurd (omega arith)
  not-nearer (suc n) g is next h = let e : best ≡ nearest_of d n = is ∙ ap (nearest_of d) (omega arith) in rw (le-ltb (d (suc n)) (d (nearest_of d n)) (omega (arith, next, there, ap d e))) e

-- each variant has more codes than one
pub codes-more : (k : Variant) → 1 ≤ last_code k
codes-more H = omega arith
codes-more L = omega arith
codes-more LPlus = omega arith
