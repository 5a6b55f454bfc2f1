-- What holds of every accepted file: its header's numbers fit its bytes. Assumes nothing.
use Rattle.std.specs.Prelude.{Result, Ok, Err}
use mathlib.Core.Path.{◌≡◌, refl, sym, subst}
use mathlib.Core.Bool.{Bool, true, false, cond}
use mathlib.Core.List.{List}
use Prim.Native.Nat.{ℕ, zero, suc, ◌+◌, ◌-◌, ◌^◌, ◌≤◌, ◌<◌}
use native.Mathlib.Omega.{arith}
use native.Mathlib.Nat.{div-lt_iff_lt-mul}
use lib.Dec.{ltb, eqb}
use lib.ListN.{length, get_or}
use borrow.Author.Tests.{eqb-true, ltb-true, ltb-false}
use Rattle.num.specs.Lists.{part}
use Rattle.num.specs.Bytes.{le}
use Rattle.num.proofs.Choice.{cond-by, never}
use Rattle.num.proofs.Bytes.{le_four}
use Rattle.adpcm.specs.declared.Variant.{Variant}
use Rattle.adpcm.specs.Codes.{variant_of, fragment_size, legacy_fragment_size}
use Rattle.sqv4.specs.declared.Header.{Header}
use Rattle.sqv4.specs.declared.Fault.{Fault}
use Rattle.sqv4.specs.Files.{frame_samples_of, frame_size_of, frame_count_of, header_of, length_of, fault_in, unless_fault, used_at, fragment_at, faults_from, named, by_variant, magic, inspected, Fills}
use Rattle.sqv4.specs.declared.InspectError.{InspectError}
use Rattle.adpcm.specs.declared.UnknownVariant.{UnknownVariant}
use Rattle.sqv4.proofs.Sizes.{payload-size, legacy-size}

-- ---- P holds of the header where there is one
abbrev pub Takes : (Header → Type 0) → Result Header InspectError → Type 0
Takes P (Ok h) = P h
Takes P (Err e) = Unit

-- a record of it, whose arguments antt finds
pub record Took (P : Header → Type 0) (x : Result Header InspectError) : Type 0 where
  pub it : Takes P x

-- what a header says follows from a file's bytes; the number of samples is of 32 bits where they are bytes
pub record Told (d : List ℕ) (h : Header) : Type 0 where
  pub samples : h.frame_samples ≡ frame_samples_of h.version
  pub count : h.frame_count ≡ frame_count_of h.frame_samples h.samples_per_channel
  pub size : h.frame_size ≡ frame_size_of h.version h.variant
  pub long : length d ≡ length_of h
  pub one-or-two : (1 ≤ h.channels) × (h.channels ≤ 2)
  pub known : (1 ≤ h.version) × (h.version ≤ 3)
  pub few : ((i : ℕ) → get_or d i 0 < 256) → h.samples_per_channel < 2 ^ 32

faults-keep : (P : Header → Type 0) (d : List ℕ) (h : Header) → P h → (p n : ℕ) → Took P (faults_from d h p n)
unfolding faults_from
faults-keep P d h g p zero = record { it = g }
faults-keep P d h g p (suc n) = go (fault_in h.version (used_at h p) (fragment_at d h p)) (faults-keep P d h g (suc p) n)
  where
    go : (x : Result (Unit {0}) Fault) {y : Result Header InspectError} → Took P y → Took P (unless_fault x y)
    go (Ok u) t = t
    go (Err e) t = record { it = tt }

one-or-two : (n : ℕ) → cond (eqb n 1) true (eqb n 2) ≡ true → (1 ≤ n) × (n ≤ 2)
one-or-two n e = go (eqb n 1) refl (eqb n 2) refl e
  where
    go : (a : Bool) → eqb n 1 ≡ a → (b : Bool) → eqb n 2 ≡ b → cond a true b ≡ true → (1 ≤ n) × (n ≤ 2)
    go true p b q r = omega (arith, eqb-true n 1 p)
    go false p true q r = omega (arith, eqb-true n 2 q)
    go false p false q r = never (sym r)

known-version : (n : ℕ) → cond (ltb 0 n) (ltb n 4) false ≡ true → (1 ≤ n) × (n ≤ 3)
known-version n e = go (ltb 0 n) refl (ltb n 4) refl e
  where
    go : (a : Bool) → ltb 0 n ≡ a → (b : Bool) → ltb n 4 ≡ b → cond a b false ≡ true → (1 ≤ n) × (n ≤ 3)
    go true p true q r = omega (arith, ltb-true 0 n p, ltb-true n 4 q)
    go true p false q r = never (sym r)
    go false p b q r = never (sym r)

module _ (d : List ℕ) (long : 16 ≤ length d) where
  four_bytes : ((i : ℕ) → get_or d i 0 < 256) → (a : ℕ) → a + 4 ≤ length d → le (part d a 4) < 2 ^ 32
  four_bytes bytes a h = omega (arith, le_four d a h, bytes a, bytes (a + 1), bytes (a + 2), bytes (a + 3))

  named-told : (k : Variant) → (1 ≤ get_or d 4 0) × (get_or d 4 0 ≤ 3) → Took (Told d) (named d k)
  unfolding named
  named-told k v =
      cond-by (Took (Told d)) (cond (eqb (get_or d 6 0) 1) true (eqb (get_or d 6 0) 2)) _ _
      (λ a. cond-by (Took (Told d)) (eqb (get_or d 7 0) 0) _ _
      (λ b. cond-by (Took (Told d)) (eqb (le (part d 8 4)) 0) _ _ (λ e. record { it = tt })
      (λ e. cond-by (Took (Told d)) (eqb (length d) (length_of (header_of d k))) _ _
      (λ l. faults-keep (Told d) d (header_of d k) (record { samples = refl; count = refl; size = refl; long = eqb-true _ _ l; one-or-two = one-or-two (get_or d 6 0) a; known = v; few = λ bytes. four_bytes bytes 12 (omega arith) }) 0 _)
      (λ l. record { it = tt })))
      (λ b. record { it = tt }))
      (λ a. record { it = tt })

  by-variant : (b : Result Variant UnknownVariant) → (1 ≤ get_or d 4 0) × (get_or d 4 0 ≤ 3) → Took (Told d) (by_variant d b)
  by-variant (Ok k) v = named-told k v
  by-variant (Err u) v = record { it = tt }

long-enough : (d : List ℕ) → ltb (length d) 16 ≡ false → 16 ≤ length d
long-enough d e = ltb-false (length d) 16 e

inspected-told : (d : List ℕ) → Took (Told d) (inspected d)
unfolding inspected
inspected-told d =
    cond-by (Took (Told d)) (ltb (length d) 16) _ _ (λ a. record { it = tt })
    (λ a. cond-by (Took (Told d)) (magic d) _ _
    (λ b. cond-by (Took (Told d)) (cond (ltb 0 (get_or d 4 0)) (ltb (get_or d 4 0) 4) false) _ _
    (λ e. by-variant d (long-enough d a) (variant_of (get_or d 5 0)) (known-version (get_or d 4 0) e)) (λ e. record { it = tt }))
    (λ b. record { it = tt }))

-- of an accepted file
pub accepted-told : (d : List ℕ) (h : Header) → inspected d ≡ Ok h → Told d h
accepted-told d h e = (subst (λ (x : Result Header InspectError). Took (Told d) x) e (inspected-told d)).it

-- and of one that is bytes
pub record Says (d : List ℕ) (h : Header) : Type 0 where
  pub samples : h.frame_samples ≡ frame_samples_of h.version
  pub count : h.frame_count ≡ frame_count_of h.frame_samples h.samples_per_channel
  pub size : h.frame_size ≡ frame_size_of h.version h.variant
  pub long : length d ≡ length_of h
  pub one-or-two : (1 ≤ h.channels) × (h.channels ≤ 2)
  pub known : (1 ≤ h.version) × (h.version ≤ 3)
  pub few : h.samples_per_channel < 2 ^ 32

pub accepted-says : (d : List ℕ) (h : Header) → ((i : ℕ) → get_or d i 0 < 256) → inspected d ≡ Ok h → Says d h
accepted-says d h bytes e =
    let t = accepted-told d h e in
    record { samples = t.samples; count = t.count; size = t.size; long = t.long; one-or-two = t.one-or-two; known = t.known; few = t.few bytes }

samples-range : (v : ℕ) → (63 ≤ frame_samples_of v) × (frame_samples_of v ≤ 64)
samples-range v = cond-by (λ (n : ℕ). (63 ≤ n) × (n ≤ 64)) (eqb v 3) 63 64 (λ e. omega arith) (λ e. omega arith)

size-range : (v : ℕ) (k : Variant) → (2 ≤ frame_size_of v k) × (frame_size_of v k ≤ 34)
size-range v k = cond-by (λ (n : ℕ). (2 ≤ n) × (n ≤ 34)) (eqb v 3) (fragment_size k) (legacy_fragment_size k) (λ e. payload-size k) (λ e. legacy-size k)

pub says-fills : (d : List ℕ) (h : Header) → Says d h → Fills d h
says-fills d h s =
    let p = samples-range h.version in
    let z = size-range h.version h.variant in
    record {
      long = s.long;
      few = s.one-or-two;
      per = omega (arith, s.samples);
      count = omega (arith, s.count, (div-lt_iff_lt-mul {k = h.frame_samples} {x = h.samples_per_channel + (h.frame_samples - 1)} {y = 2 ^ 32} (omega (arith, s.samples))).1 (omega (arith, s.few, s.samples)));
      size = omega (arith, s.size);
    }
