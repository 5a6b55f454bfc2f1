-- The check of an SQV4 file, and document 01's numbers for its refusals.
use Rattle.std.specs.Prelude.{Bool, true, false, cond, List, [], ◌∷◌, ◌≡◌, ℕ, zero, suc, ◌+◌, ◌-◌, ◌*◌, ◌/◌, ◌^◌, ◌<◌, ◌≤◌, min, ltb, eqb, length, get_or, drop, Result, Ok, Err}
use Rattle.num.specs.Lists.{part}
use Rattle.num.specs.Bytes.{le}
use Rattle.adpcm.specs.declared.Variant.{Variant}
use Rattle.adpcm.specs.Codes.{variant_of, bits_of, fragment_size, legacy_fragment_size}
use Rattle.adpcm.specs.declared.UnknownVariant.{UnknownVariant}
use Rattle.sqv4.specs.declared.Header.{Header}
use Rattle.sqv4.specs.declared.Fault.{Fault}
use Rattle.sqv4.specs.declared.Fault.TheVariants.{Step, Padding}
use Rattle.sqv4.specs.declared.InspectError.{InspectError}
use Rattle.sqv4.specs.declared.InspectError.TheVariants.{TruncatedHeader, InvalidMagic, UnsupportedVersion, InvalidVariant, InvalidChannels, InvalidReservedByte, ZeroSampleRate, InvalidFileLength, InvalidStepIndex, NonZeroPadding}

-- ---- sizes
-- the samples of a full fragment of one channel
abbrev pub frame_samples_of : ℕ → ℕ
frame_samples_of version = cond (eqb version 3) 63 64

-- the bytes ahead of its codes
abbrev pub prefix_of : ℕ → ℕ
prefix_of version = cond (eqb version 3) 2 1

-- its bytes
abbrev pub frame_size_of : ℕ → Variant → ℕ
frame_size_of version k = cond (eqb version 3) (fragment_size k) (legacy_fragment_size k)

-- the fragments that hold n samples
abbrev pub frame_count_of : ℕ → ℕ → ℕ
frame_count_of per n = (n + (per - 1)) / per

-- ---- the header
-- the four bytes SQV4
abbrev pub magic : List ℕ → Bool
magic d = cond (eqb (get_or d 0 0) 83) (cond (eqb (get_or d 1 0) 81) (cond (eqb (get_or d 2 0) 86) (eqb (get_or d 3 0) 52) false) false) false

abbrev pub header_of : List ℕ → Variant → Header
header_of d k =
    let version = get_or d 4 0 in
    let samples = le (part d 12 4) in
    record {
      version = version;
      variant = k;
      channels = get_or d 6 0;
      sample_rate = le (part d 8 4);
      samples_per_channel = samples;
      frame_samples = frame_samples_of version;
      frame_count = frame_count_of (frame_samples_of version) samples;
      frame_size = frame_size_of version k;
    }

abbrev pub length_of : Header → ℕ
length_of h = h.frame_count * h.channels * h.frame_size + 16

-- ---- fragments
-- the samples of fragment f of a channel
abbrev pub frame_length : Header → ℕ → ℕ
frame_length h f = min (h.samples_per_channel - f * h.frame_samples) h.frame_samples

-- the bytes of the fragment at position p; fragments alternate by channel
abbrev pub fragment_at : List ℕ → Header → ℕ → List ℕ
fragment_at d h p = part d (16 + p * h.frame_size) h.frame_size

-- the bits of its codes
abbrev pub used_at : Header → ℕ → ℕ
used_at h p = frame_length h (p / h.channels) * bits_of h.variant

-- a step index that no version 3 fragment has
abbrev pub bad_step : ℕ → List ℕ → Bool
bad_step version b = cond (eqb version 3) (ltb 88 (get_or b 1 0)) false

-- no bit is set past the last code
abbrev pub clean_tail : ℕ → ℕ → List ℕ → Bool
clean_tail version used b = ltb (le (drop (prefix_of version) b)) (2 ^ used)

-- a fragment's fault: its step index first, then its padding
unfoldable pub fault_in : ℕ → ℕ → List ℕ → Result (Unit {0}) Fault
fault_in version used b = cond (bad_step version b) (Err (Step (get_or b 1 0))) (cond (clean_tail version used b) (Ok tt) (Err Padding))

-- document 01's number for a fragment's fault, and its value
abbrev pub fault_number : Fault → List ℕ
fault_number (Step i) = 12 ∷ i ∷ []
fault_number Padding = 13 ∷ []

-- the fault as the check's answer
abbrev pub told : Fault → InspectError
told (Step i) = InvalidStepIndex i
told Padding = NonZeroPadding

abbrev pub unless_fault : Result (Unit {0}) Fault → Result Header InspectError → Result Header InspectError
unless_fault (Ok u) x = x
unless_fault (Err f) x = Err (told f)

-- the first fault of `left` fragments from position p on
unfoldable pub faults_from : List ℕ → Header → ℕ → ℕ → Result Header InspectError
faults_from d h p zero = Ok h
faults_from d h p (suc left) =
    let rest = faults_from d h (suc p) left in
    unless_fault (fault_in h.version (used_at h p) (fragment_at d h p)) rest

-- ---- the check
abbrev pub measured : List ℕ → Header → Result Header InspectError
measured d h = cond (eqb (length d) (length_of h)) (faults_from d h 0 (h.frame_count * h.channels)) (Err (InvalidFileLength (length_of h) (length d)))

unfoldable pub named : List ℕ → Variant → Result Header InspectError
named d k =
    cond (cond (eqb (get_or d 6 0) 1) true (eqb (get_or d 6 0) 2))
    (cond (eqb (get_or d 7 0) 0)
    (cond (eqb (le (part d 8 4)) 0) (Err ZeroSampleRate) (measured d (header_of d k)))
    (Err (InvalidReservedByte (get_or d 7 0))))
    (Err (InvalidChannels (get_or d 6 0)))

abbrev pub unknown_variant : UnknownVariant → InspectError
unknown_variant u = InvalidVariant u.byte

abbrev pub by_variant : List ℕ → Result Variant UnknownVariant → Result Header InspectError
by_variant d (Ok k) = named d k
by_variant d (Err u) = Err (unknown_variant u)

unfoldable pub inspected : List ℕ → Result Header InspectError
inspected d =
    cond (ltb (length d) 16) (Err TruncatedHeader)
    (cond (magic d)
    (cond (cond (ltb 0 (get_or d 4 0)) (ltb (get_or d 4 0) 4) false) (by_variant d (variant_of (get_or d 5 0))) (Err (UnsupportedVersion (get_or d 4 0))))
    (Err InvalidMagic))

-- document 01's number for a refusal, and its values
abbrev pub error_number : InspectError → List ℕ
error_number TruncatedHeader = 4 ∷ []
error_number InvalidMagic = 5 ∷ []
error_number (UnsupportedVersion x) = 6 ∷ x ∷ []
error_number (InvalidVariant x) = 7 ∷ x ∷ []
error_number (InvalidChannels x) = 8 ∷ x ∷ []
error_number (InvalidReservedByte x) = 9 ∷ x ∷ []
error_number ZeroSampleRate = 10 ∷ []
error_number (InvalidFileLength expected actual) = 11 ∷ expected ∷ actual ∷ []
error_number (InvalidStepIndex x) = 12 ∷ x ∷ []
error_number NonZeroPadding = 13 ∷ []

abbrev pub number_of : Result Header InspectError → List ℕ
number_of (Ok h) = []
number_of (Err e) = error_number e

-- what the table gives for a file: nothing where it is accepted
abbrev pub refused_with : List ℕ → List ℕ
refused_with d = number_of (inspected d)

-- a header whose fragments fill a file of the right length
pub record Fills (d : List ℕ) (h : Header) : Type 0 where
  pub long : length d ≡ length_of h
  pub few : (1 ≤ h.channels) × (h.channels ≤ 2)
  pub per : (1 ≤ h.frame_samples) × (h.frame_samples ≤ 64)
  pub count : h.frame_count < 2 ^ 32
  pub size : (2 ≤ h.frame_size) × (h.frame_size ≤ 34)
