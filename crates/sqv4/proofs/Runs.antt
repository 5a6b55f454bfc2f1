-- A turn of the loop over codes: what is placed, and what is to come, are the whole run. Assumes nothing.
use mathlib.Core.Path.{◌≡◌, sym, ap, ◌∙◌}
use mathlib.Core.List.{List, ◌∷◌}
use Prim.Native.Nat.{ℕ, suc, ◌+◌, ◌*◌, ◌/◌, ◌%◌, ◌^◌, ◌-◌, ◌≤◌, ◌<◌, min}
use native.Mathlib.Nat.{add-mul, one-mul}
use native.Mathlib.Numerals.{add-one}
use native.Mathlib.Omega.{arith}
use lib.ListN.{set}
use lib.IntN.{ℤ}
use Rattle.num.specs.Bytes.{field}
use Rattle.adpcm.specs.declared.Variant.{Variant}
use Rattle.adpcm.specs.declared.Variant.TheVariants.{H, L, LPlus}
use Rattle.adpcm.specs.declared.State.{State}
use Rattle.adpcm.specs.Codes.{bits_of, decode_code, code_from, code_at}
use Rattle.adpcm.proofs.Packed.{narrow-code}
use Rattle.sqv4.proofs.Sizes.{narrow}
use Rattle.sqv4.specs.Decoding.{codes_from, sound_of, sounds, ends, strided}

-- ---- the bit at which a code begins
module _ (k : Variant) (bits : ℕ) (e : bits ≡ bits_of k) where
  pub width : bits ≤ 4
  width = rw e (narrow k)

  pub code-at : (payload : List ℕ) (i bit : ℕ) → bit < 2 ^ 64 → bit ≡ i * bits → field payload bit (min bits 8) ≡ code_at payload i (bits_of k)
  code-at payload i bit h f =
      let m : min bits 8 ≡ bits = omega (arith, width) in
      let uncut : bit ≡ i * bits % 2 ^ 64 = omega arith in
      ap (field payload bit) m
      ∙ sym (narrow-code payload bit bits (omega (arith, width)))
      ∙ ap (λ (b : ℕ). code_from payload b bits) uncut
      ∙ ap (code_at payload i) e

  pub next_bit : (i bit : ℕ) → bit ≡ i * bits → bit + bits ≡ (i + 1) * bits
  next_bit i bit f = rw (add-mul, one-mul) (ap (λ (n : ℕ). n + bits) f)

-- ---- how far a fragment's codes reach
pub codes-h : (n : ℕ) → 2 * n ≡ 8 * n / 4
codes-h n = omega arith

pub codes-l : (n : ℕ) → 2 * n + 2 * n / 3 ≡ 8 * n / 3
codes-l n = omega arith

-- more bytes than samples hold them all
pub reach-is : (k : Variant) (size ahead wanted : ℕ) → min wanted (8 * min (size - min size ahead) wanted / bits_of k) ≡ min wanted (8 * (size - ahead) / bits_of k)
reach-is H size ahead wanted = omega arith
reach-is L size ahead wanted = omega arith
reach-is LPlus size ahead wanted = omega arith

-- the first of the codes to come
next-code : (k : Variant) (payload : List ℕ) (i n : ℕ) → i < n → codes_from k payload i (n - i) ≡ code_at payload i (bits_of k) ∷ codes_from k payload (suc i) (n - suc i)
unfolding codes_from
next-code k payload i n h = ap (λ (m : ℕ). codes_from k payload i m) (one i n h)
  where
    one : (i n : ℕ) → i < n → n - i ≡ suc (n - suc i)
    one i n h = omega arith

none_left : (i n : ℕ) → n ≤ i → n - i ≡ 0
none_left i n h = omega arith

module _ (v : ℕ) (k : Variant) (volume : ℕ) (payload : List ℕ) where
  -- what is to come from a state at sample i of n: samples at their places, and the last state
  abbrev pub placed : List ℤ → ℕ → ℕ → State → ℕ → ℕ → List ℤ
  placed out at step s i n = strided out at step (sounds v k volume s (codes_from k payload i (n - i)))

  abbrev pub last : State → ℕ → ℕ → State
  last s i n = ends v k s (codes_from k payload i (n - i))

  pub turn : (out : List ℤ) (at step : ℕ) (s : State) (i n : ℕ) (x : ℤ) → i < n → x ≡ sound_of v (decode_code v k s (code_at payload i (bits_of k))).predictor volume → placed (set out at x) (at + step) step (decode_code v k s (code_at payload i (bits_of k))) (i + 1) n ≡ placed out at step s i n
  unfolding sounds strided
  turn out at step s i n x h e = rw (add-one i, next-code k payload i n h, e)

  pub turn_last : (s : State) (i n : ℕ) → i < n → last (decode_code v k s (code_at payload i (bits_of k))) (i + 1) n ≡ last s i n
  unfolding ends
  turn_last s i n h = rw (add-one i, next-code k payload i n h)

  pub done : (out : List ℤ) (at step : ℕ) (s : State) (i n : ℕ) → n ≤ i → placed out at step s i n ≡ out
  unfolding sounds codes_from strided
  done out at step s i n h = rw (none_left i n h)

  pub done-last : (s : State) (i n : ℕ) → n ≤ i → last s i n ≡ s
  unfolding ends codes_from
  done-last s i n h = rw (none_left i n h)
