-- Bounds of the sizes of a variant's fragments, and the codes of a whole one. Assumes nothing.
use mathlib.Core.Path.{◌≡◌, refl, ap, ◌∙◌}
use mathlib.Core.Bool.{Bool, true, false, cond}
use mathlib.Core.List.{List}
use Prim.Native.Nat.{ℕ, ◌-◌, ◌*◌, ◌/◌, ◌≤◌, min}
use native.Mathlib.Omega.{arith}
use lib.Dec.{eqb}
use lib.ListN.{length}
use Rattle.adpcm.specs.declared.Variant.{Variant}
use Rattle.adpcm.specs.declared.Variant.TheVariants.{H, L, LPlus}
use Rattle.adpcm.specs.Codes.{bits_of, fragment_size, legacy_fragment_size}
use Rattle.sqv4.specs.Files.{frame_size_of, prefix_of}
use Rattle.sqv4.specs.Decoding.{reached}

pub payload-size : (k : Variant) → (2 ≤ fragment_size k) × (fragment_size k ≤ 34)
payload-size H = omega arith
payload-size L = omega arith
payload-size LPlus = omega arith

pub legacy-size : (k : Variant) → (2 ≤ legacy_fragment_size k) × (legacy_fragment_size k ≤ 34)
legacy-size H = omega arith
legacy-size L = omega arith
legacy-size LPlus = omega arith

pub narrow : (k : Variant) → bits_of k ≤ 4
narrow H = omega arith
narrow L = omega arith
narrow LPlus = omega arith

-- a whole fragment has 64 codes, which are the 64 samples of an older one, and one more than version 3's 63
whole-codes : (v : ℕ) (k : Variant) → 8 * (frame_size_of v k - prefix_of v) / bits_of k ≡ 64
whole-codes v k = go (eqb v 3) k
  where
    go : (b : Bool) (k : Variant) → 8 * (cond b (fragment_size k) (legacy_fragment_size k) - cond b 2 1) / bits_of k ≡ 64
    go true H = refl
    go true L = refl
    go true LPlus = refl
    go false H = refl
    go false L = refl
    go false LPlus = refl

pub reached-whole : (v : ℕ) (k : Variant) (b : List ℕ) (n : ℕ) → length b ≡ frame_size_of v k → n ≤ 64 → reached v k b n ≡ n
reached-whole v k b n e h =
    ap (λ (size : ℕ). min n (8 * (size - prefix_of v) / bits_of k)) e ∙ ap (min n) (whole-codes v k) ∙ all n h
  where
    all : (n : ℕ) → n ≤ 64 → min n 64 ≡ n
    all n h = omega arith
