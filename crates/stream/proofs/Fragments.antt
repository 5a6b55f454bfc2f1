-- A fragment decoded into its half of the samples. Assumes nothing.
use Rattle.std.proofs.Common.{◌≡◌, ℕ, ◌+◌, ◌-◌, ◌*◌, ◌/◌, ◌<◌, ◌≤◌, true, eqb, List, ◌++◌, length, take, drop, ℤ, sym, ap, ◌∙◌, subst, append_assoc, append-nil, le-add_right, mul-le-mul_right, mul-le-mul_left, le-div_iff_mul-le, div-mul-le_self, arith, length-drop, drop_of_length-le, length-take, eqb-true}
use lib.Seq.{sets, sets-eq}
use borrow.Rule.Slice.PartMut.{put_mid, Post-is}
use borrow.Author.Tests.{eqb-false}
use Rattle.num.proofs.Choice.{cond-by}
use Rattle.adpcm.specs.declared.Variant.{Variant}
use Rattle.adpcm.specs.declared.State.{State}
use Rattle.adpcm.specs.Codes.{fragment_size, legacy_fragment_size}
use Rattle.sqv4.specs.Files.{frame_samples_of, frame_size_of, frame_count_of}
use Rattle.sqv4.specs.Decoding.{samples_of, state_of, zero_state, reached, legacy_version}
use Rattle.sqv4.proofs.Sizes.{payload-size, legacy-size, reached-whole}
use Rattle.sqv4.proofs.Wholes.{length-samples}
use Rattle.stream.specs.declared.Info.{Info}
use Rattle.stream.specs.Cache.{Plays, frames_of, count_at, bytes_at, fragment_samples, fragment_state}

-- ---- numbers
pub samples-range : (v : ℕ) → (63 ≤ frame_samples_of v) × (frame_samples_of v ≤ 64)
samples-range v = cond-by (λ (n : ℕ). (63 ≤ n) × (n ≤ 64)) (eqb v 3) 63 64 (λ e. omega arith) (λ e. omega arith)

pub size-range : (v : ℕ) (k : Variant) → (2 ≤ frame_size_of v k) × (frame_size_of v k ≤ 34)
size-range v k = cond-by (λ (n : ℕ). (2 ≤ n) × (n ≤ 34)) (eqb v 3) (fragment_size k) (legacy_fragment_size k) (λ e. payload-size k) (λ e. legacy-size k)

-- the first sample of a fragment that there is, and the fragment of a sample that there is
pub first_below : (f per n : ℕ) → 0 < per → f < frame_count_of per n → f * per < n
first_below f per n p h = omega (arith, (le-div_iff_mul-le p).0 h)

pub frame_below : (i per n : ℕ) → 0 < per → i < n → i / per < frame_count_of per n
frame_below i per n p h = (le-div_iff_mul-le p).1 (omega (arith, div-mul-le_self i per))

module _ (d : List ℕ) (k : Variant) (i : Info) (p : Plays d k i) where
  pub per-range : (63 ≤ i.frame_samples) × (i.frame_samples ≤ 64)
  per-range = omega (arith, samples-range i.version, p.per)

  pub room_for : (f : ℕ) → f < frames_of i → 16 + f * i.frame_size + i.frame_size ≤ length d
  room_for f l = omega (arith, p.long, mul-le-mul_right i.frame_size l)

  pub first-there : (f : ℕ) → f < frames_of i → f * i.frame_samples < i.sample_count
  first-there f l = first_below f i.frame_samples i.sample_count (omega (arith, per-range)) l

  pub frame-there : (at : ℕ) → at < i.sample_count → at / frame_samples_of i.version < frames_of i
  frame-there at h = subst (λ (n : ℕ). at / n < frames_of i) p.per (frame_below at i.frame_samples i.sample_count (omega (arith, per-range)) h)

  -- there are fewer fragments than bytes
  pub frames-below : frames_of i < length d
  frames-below = omega (arith, p.long, size-range i.version k, p.size, mul-le-mul_left {m = 1} {n = i.frame_size} (frames_of i) (omega (arith, size-range i.version k, p.size)))

-- ---- a part of the samples, filled from its start
all_set : (l xs : List ℤ) → length xs ≡ length l → sets l 0 xs ≡ xs
all_set l xs e =
    sets-eq xs l 0 (omega arith)
    ∙ rw (drop_of_length-le l {i = 0 + length xs} (omega arith), append-nil xs)

pub part-set : (l ys xs : List ℤ) (a n : ℕ) → a + n ≤ length l → length xs ≡ n → ys ≡ sets (take (a + n - a) (drop a l)) 0 xs → put_mid a (a + n - a) l ys ≡ sets l a xs
part-set l ys xs a n r e q =
    let m : length xs ≡ length (take (a + n - a) (drop a l)) = simp (length-take, length-drop) (omega arith) in
    let y : ys ≡ xs = q ∙ all_set (take (a + n - a) (drop a l)) xs m in
    ap (λ (z : List ℤ). take a l ++ (z ++ drop (a + n - a) (drop a l))) y
    ∙ ap (λ (z : List ℤ). take a l ++ (xs ++ z)) (Post-is a (a + n) l (le-add_right a n) ∙ ap (λ (m : ℕ). drop (a + m) l) (sym e))
    ∙ sym (append_assoc (take a l) xs (drop (a + length xs) l)) ∙ sym (sets-eq xs l a (omega arith))

-- ---- what the decoders of a fragment give
pub length-fragment : (d : List ℕ) (k : Variant) (i : Info) (s : State) (f : ℕ) → length (fragment_samples d k i s f) ≡ count_at i f
unfolding fragment_samples
length-fragment d k i s f = length-samples i.version k s (bytes_at d i f) (count_at i f)

-- version 3 forgets the state before
pub fragment-alone : (d : List ℕ) (k : Variant) (i : Info) → eqb i.version 3 ≡ true → (s t : State) (f : ℕ) → fragment_samples d k i s f ≡ fragment_samples d k i t f
unfolding fragment_samples samples_of
fragment-alone d k i e s t f = rw (e)

legacy-is : (v : ℕ) → (1 ≤ v) × (v ≤ 3) → (v ≡ 3 → ⊥) → legacy_version v ≡ v
legacy-is v h k = cond-by (λ (n : ℕ). n ≡ v) (eqb v 1) 1 2 (λ e. sym (eqb-true v 1 e)) (λ e. two (eqb-false v 1 e))
  where
    two : (v ≡ 1 → ⊥) → 2 ≡ v
    two e = omega arith

module _ (d : List ℕ) (k : Variant) (i : Info) (p : Plays d k i) (s : State) (f : ℕ) (there : f < frames_of i) where
  -- its bytes, and as many samples as it has
  bytes-are : (from : ℕ) → from ≡ 16 + f * i.frame_size → take (from + i.frame_size - from) (drop from d) ≡ bytes_at d i f
  bytes-are from a =
      let z : from + i.frame_size - from ≡ i.frame_size = omega arith in
      rw (z, a)

  all_there : (m : ℕ) → m ≡ count_at i f → reached i.version k (bytes_at d i f) m ≡ count_at i f
  all_there m q =
      let e : length (bytes_at d i f) ≡ frame_size_of i.version k = simp (length-take, length-drop) (omega (arith, room_for d k i p f there, p.size)) in
      reached-whole i.version k (bytes_at d i f) m e (omega (arith, per-range d k i p)) ∙ q

  pub alone-is : i.version ≡ 3 → (from m : ℕ) → from ≡ 16 + f * i.frame_size → m ≡ count_at i f
      → let b = take (from + i.frame_size - from) (drop from d) in samples_of 3 k zero_state b (reached 3 k b m) ≡ fragment_samples d k i s f
  unfolding fragment_samples samples_of
  alone-is e from m a q =
      rw (bytes-are from a, rw e at (all_there m q), e)

  pub legacy-samples : (i.version ≡ 3 → ⊥) → (from m : ℕ) → from ≡ 16 + f * i.frame_size → m ≡ count_at i f
      → let b = take (from + i.frame_size - from) (drop from d) in samples_of (legacy_version i.version) k s b (reached (legacy_version i.version) k b m) ≡ fragment_samples d k i s f
  unfolding fragment_samples
  legacy-samples e from m a q = rw (legacy-is i.version p.known e, bytes-are from a, all_there m q)

  pub legacy-state : (i.version ≡ 3 → ⊥) → (from m : ℕ) → from ≡ 16 + f * i.frame_size → m ≡ count_at i f
      → let b = take (from + i.frame_size - from) (drop from d) in state_of (legacy_version i.version) k s b (reached (legacy_version i.version) k b m) ≡ fragment_state d k i s f
  unfolding fragment_state
  legacy-state e from m a q = rw (legacy-is i.version p.known e, bytes-are from a, all_there m q)
