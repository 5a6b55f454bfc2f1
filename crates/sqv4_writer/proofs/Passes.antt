-- THE FIRST THEOREM: `inspect` accepts every file that is written, with exactly its header. Assumes nothing.
use Rattle.std.specs.Prelude.{Result, Ok, Err}
use mathlib.Core.Path.{◌≡◌, refl, sym, ap, ◌∙◌}
use mathlib.Core.Bool.{Bool, true, false, cond}
use mathlib.Core.List.{List}
use Prim.Native.Nat.{ℕ, zero, suc, ◌+◌, ◌*◌, ◌^◌, ◌<◌, ◌≤◌}
use native.Mathlib.Nat as N
use native.Mathlib.Omega.{arith}
use lib.Dec.{ltb}
use lib.IntN.{ℤ}
use lib.ListN.{length, get_or}
use borrow.Author.Tests.{lt-ltb, le-ltb, eq-eqb, ne_eqb}
use Rattle.num.specs.Lists.{part}
use Rattle.num.specs.Bytes.{le}
use Rattle.adpcm.specs.declared.Variant.{Variant}
use Rattle.adpcm.specs.Codes.{variant_of, bits_of}
use Rattle.sqv4.specs.declared.Header.{Header}
use Rattle.sqv4.specs.declared.Fault.{Fault}
use Rattle.sqv4.specs.Files.{magic, header_of, length_of, fragment_at, used_at, fault_in, unless_fault, faults_from, named, by_variant, inspected}
use Rattle.sqv4.specs.Decoding.{start_of}
use Rattle.sqv4_writer.specs.Streams.{fragment_samples, fragment_count, length_for, samples_at, fragment_for, file_of, header_for}
use Rattle.sqv4_writer.proofs.Limits.{InTerms}
use Rattle.sqv4.specs.declared.InspectError.{InspectError}
use Rattle.sqv4.specs.declared.InspectError.TheVariants.{TruncatedHeader, InvalidMagic, UnsupportedVersion}
use Rattle.sqv4_writer.proofs.Written.{codes-lt, packed-number, length-samples-at, known-again, length-file, is-magic, bytes-are, rate-is, header_is, fragment-is}

-- what is chosen where the first test fails and the next two hold
third : (a b c : Bool) (x y z w : Result Header InspectError) → a ≡ false → b ≡ true → c ≡ true → cond a x (cond b (cond c y z) w) ≡ y
third a b c x y z w e f g = rw (e, f, g)

-- ---- the check of a file whose header is right
module _ (d : List ℕ) (k : Variant) where
  named-is : get_or d 6 0 ≡ 1 → get_or d 7 0 ≡ 0 → (le (part d 8 4) ≡ 0 → ⊥) → length d ≡ length_of (header_of d k) → named d k ≡ faults_from d (header_of d k) 0 ((header_of d k).frame_count * (header_of d k).channels)
  unfolding named
  named-is one none rate long = rw (eq-eqb (get_or d 6 0) 1 one, eq-eqb (get_or d 7 0) 0 none, ne_eqb (le (part d 8 4)) 0 rate, eq-eqb (length d) (length_of (header_of d k)) long)

  inspected-is : 16 ≤ length d → magic d ≡ true → get_or d 4 0 ≡ 3 → variant_of (get_or d 5 0) ≡ Ok k → inspected d ≡ named d k
  unfolding inspected
  inspected-is long name version variant =
      third (ltb (length d) 16) (magic d) (cond (ltb 0 (get_or d 4 0)) (ltb (get_or d 4 0) 4) false)
      (Err TruncatedHeader) (by_variant d (variant_of (get_or d 5 0))) (Err (UnsupportedVersion (get_or d 4 0))) (Err InvalidMagic)
      (le-ltb (length d) 16 long) name (ap (λ (v : ℕ). cond (ltb 0 v) (ltb v 4) false) version)
      ∙ ap (by_variant d) variant

-- ---- fragments without a fault
all-fine : (d : List ℕ) (h : Header) (total : ℕ) → ((p : ℕ) → p < total → fault_in h.version (used_at h p) (fragment_at d h p) ≡ Ok tt) → (left p : ℕ) → p + left ≤ total → faults_from d h p left ≡ Ok h
unfolding faults_from
all-fine d h total fine zero p l = refl
all-fine d h total fine (suc left) p l =
    ap (λ (x : Result (Unit {0}) Fault). unless_fault x (faults_from d h (suc p) left)) (fine p (omega arith)) ∙ all-fine d h total fine left (suc p) (omega arith)

-- a fragment as it is written
fine : (k : Variant) (volume index : ℕ) (xs : List ℤ) → index ≤ 88 → length xs ≤ fragment_samples → fault_in 3 (length xs * bits_of k) (fragment_for k volume index xs) ≡ Ok tt
unfolding fault_in fragment_for
fine k volume index xs low few =
    rw (le-ltb 88 index low, packed-number k volume (start_of index) xs few, lt-ltb _ (2 ^ (length xs * bits_of k)) (codes-lt k volume (start_of index) xs))

module _ (xs : List ℤ) (k : Variant) (rate volume index : ℕ) (t : InTerms (length xs) rate volume index) (wide : rate < 2 ^ 32) where
  every-fine : (p : ℕ) → p < fragment_count (length xs) → fault_in 3 (used_at (header_for k rate (length xs)) p) (fragment_at (file_of xs k rate volume index) (header_for k rate (length xs)) p) ≡ Ok tt
  every-fine p h =
      rw (fragment-is xs k rate volume index p h, N.div-one p, sym (length-samples-at xs p))
      (fine k volume index (samples_at xs p) t.low (omega (arith, length-samples-at xs p)))

  pub passes : inspected (file_of xs k rate volume index) ≡ Ok (header_for k rate (length xs))
  unfolding length_for
  passes =
      let d = file_of xs k rate volume index in
      let h = header_for k rate (length xs) in
      let b = bytes-are xs k rate volume index in
      let e : header_of d k ≡ h = header_is xs k rate volume index wide t.few in
      inspected-is d k long (is-magic xs k rate volume index) b.0 (ap variant_of b.1 ∙ known-again k)
      ∙ named-is d k b.2 b.3 some (length-file xs k rate volume index ∙ sized ∙ sym (ap length_of e))
      ∙ ap (λ (x : Header). faults_from d x 0 (x.frame_count * x.channels)) e
      ∙ ap (faults_from d h 0) (N.mul-one (fragment_count (length xs)))
      ∙ all-fine d h (fragment_count (length xs)) every-fine (fragment_count (length xs)) 0 (omega arith)
    where
      sized : length_for k (length xs) ≡ length_of (header_for k rate (length xs))
      sized = rw (N.mul-one (fragment_count (length xs)))

      long : 16 ≤ length (file_of xs k rate volume index)
      long = omega (arith, length-file xs k rate volume index)

      some : le (part (file_of xs k rate volume index) 8 4) ≡ 0 → ⊥
      some e = omega (arith, rate-is xs k rate volume index wide, t.some-rate)
