-- What was packed is unpacked, and no bit stands past the last code. Assumes nothing.
use mathlib.Core.Path.{◌≡◌, refl, sym, ap, ◌∙◌, subst}
use mathlib.Core.List.{List, [], ◌∷◌}
use Prim.Native.Nat.{ℕ, zero, suc, ◌+◌, ◌*◌, ◌/◌, ◌%◌, ◌^◌, ◌<◌}
use Rattle.std.specs.Int.{bytes_low_first}
use native.Mathlib.Nat.{pow-suc, div-div-eq-div-mul, div-one, zero-div, zero-mod, mul-le-mul_right, suc-mul, zero-mul, add_comm}
use native.Mathlib.Omega.{arith}
use lib.ListN.{length, get_or}
use lib.Pow.{pow_pos, pow-add, high, low, shr-shr, shr_lt}
use Rattle.num.specs.Bytes.{le}
use Rattle.sqv4_writer.specs.Packing.{codes_number, bytes_of}

abbrev pub Codes : ℕ → List ℕ → Type 0
Codes w [] = Unit {0}
Codes w (c ∷ cs) = (c < 2 ^ w) × Codes w cs

-- m bytes hold a number of 8 m bits
pub le_bytes : (m n : ℕ) → n < 2 ^ (8 * m) → le (bytes_of m n) ≡ n
unfolding le bytes_of
le_bytes zero n h = omega arith
le_bytes (suc m) n h = rw (le_bytes m (n / 256) (shr_lt {n = n} (8 * m) 8 (subst (λ (e : ℕ). n < 2 ^ e) (more m) h))) (omega arith)
  where
    more : (m : ℕ) → 8 * suc m ≡ 8 * m + 8
    more m = omega arith

-- code i
pub number_at : (w : ℕ) (cs : List ℕ) → Codes w cs → (i : ℕ) → codes_number w cs / 2 ^ (i * w) % 2 ^ w ≡ get_or cs i 0
unfolding codes_number
number_at w [] h i = rw (zero-div (2 ^ (i * w)), zero-mod (2 ^ w))
number_at w (c ∷ cs) h zero = ap (λ (n : ℕ). n % 2 ^ w) (first (codes_number w cs * 2 ^ w + c) w) ∙ low (codes_number w cs) w h.0
  where
    first : (n k : ℕ) → n / 2 ^ (0 * k) ≡ n
    first n k = ap (λ (m : ℕ). n / 2 ^ m) (zero-mul k) ∙ div-one n
number_at w (c ∷ cs) h (suc i) =
    ap (λ (n : ℕ). n % 2 ^ w) (ap (λ (k : ℕ). (codes_number w cs * 2 ^ w + c) / 2 ^ k) (places i w) ∙ sym (shr-shr (codes_number w cs * 2 ^ w + c) w (i * w)) ∙ ap (λ (n : ℕ). n / 2 ^ (i * w)) (high (codes_number w cs) w h.0))
    ∙ number_at w cs h.1 i
  where
    places : (j k : ℕ) → suc j * k ≡ k + j * k
    places j k = suc-mul j k ∙ add_comm (j * k) k

-- no bit past the last code
pub number_lt : (w : ℕ) (cs : List ℕ) → Codes w cs → codes_number w cs < 2 ^ (length cs * w)
unfolding codes_number
number_lt w [] h = pow_pos (length {A = ℕ} [] * w)
number_lt w (c ∷ cs) h =
    subst (λ (n : ℕ). codes_number w cs * 2 ^ w + c < n) (sym (pow-add 2 (length cs * w) w) ∙ ap (λ (k : ℕ). 2 ^ k) (places (length cs) w))
    (below (codes_number w cs) (2 ^ (length cs * w)) (2 ^ w) (number_lt w cs h.1) h.0)
  where
    below : (n m k : ℕ) → n < m → c < k → n * k + c < m * k
    below n m k a b = omega (arith, mul-le-mul_right {m = suc n} k a, suc-mul n k)

    places : (j k : ℕ) → j * k + k ≡ suc j * k
    places j k = sym (suc-mul j k)

-- the low bytes of a number, as the library has them
low-from : (i k n : ℕ) → bytes_low_first (suc i) k n ≡ bytes_of k (n / 256 ^ suc i)
unfolding bytes_of
low-from i zero n = refl
low-from i (suc k) n = ap (λ (l : List ℕ). n / 256 ^ suc i % 256 ∷ l) (low-from (suc i) k n ∙ ap (bytes_of k) (sym next))
  where
    next : n / 256 ^ suc i / 256 ≡ n / 256 ^ suc (suc i)
    next = div-div-eq-div-mul n (256 ^ suc i) 256 ∙ ap (λ (x : ℕ). n / x) (sym (pow-suc 256 (suc i)))

pub low-bytes : (k n : ℕ) → bytes_low_first 0 k n ≡ bytes_of k n
unfolding bytes_of
low-bytes zero n = refl
low-bytes (suc k) n = ap (λ (l : List ℕ). n % 256 ∷ l) (low-from 0 k n)
