-- The cache of a stream voice's decoded fragments.
use Rattle.std.specs.Prelude.{◌≡◌, ℕ, zero, suc, ◌+◌, ◌-◌, ◌*◌, ◌%◌, ◌≤◌, min, Bool, true, false, cond, List, length, ℤ, ◌==◌, nat_lt, Option, Some, None}
use Rattle.std.proofs.lemmas.List.Edits.{sets}
use Rattle.num.specs.Lists.{part}
use Rattle.adpcm.specs.declared.Variant.{Variant}
use Rattle.adpcm.specs.declared.State.{State}
use Rattle.sqv4.specs.Files.{frame_samples_of, frame_size_of, frame_count_of}
use Rattle.sqv4.specs.Decoding.{samples_of, state_of, zero_state}
use Rattle.stream.specs.declared.Info.{Info}
use Rattle.stream.specs.declared.StreamCache.{StreamCache}

-- a cache with the decoded samples that are lent beside it
pub record Stock : Type 0 where
  pub cache : StreamCache
  pub samples : List ℤ

abbrev pub stock : StreamCache → List ℤ → Stock
stock c samples = record { cache = c; samples = samples }

-- ---- caches
abbrev pub no_info : Info
no_info = record { version = 0; sample_count = 0; frame_samples = 0; frame_size = 0; loop_sample = 0 }

abbrev pub emptied : StreamCache
emptied = record { valid = false; variant = None; info = no_info; even = None; odd = None; next_frame = 0; decoder = zero_state }

-- the cache of a file that was just taken
abbrev pub filled_with : Variant → Info → StreamCache
filled_with k i = record { valid = true; variant = Some k; info = i; even = None; odd = None; next_frame = 0; decoder = zero_state }

-- the same file from its first fragment on
abbrev pub rewound_from : StreamCache → StreamCache
rewound_from c = record { valid = c.valid; variant = c.variant; info = c.info; even = None; odd = None; next_frame = 0; decoder = zero_state }

-- the fragment in the half of a parity
abbrev pub cached_at : StreamCache → ℕ → Option ℕ
cached_at c parity = cond (parity == 0) c.even c.odd

abbrev pub is_held : Option ℕ → ℕ → Bool
is_held None f = false
is_held (Some g) f = g == f

-- fragment f in its half, and the decoder before fragment n in state s
unfoldable pub stored_as : StreamCache → ℕ → ℕ → State → StreamCache
stored_as c f n s =
    record {
      valid = c.valid;
      variant = c.variant;
      info = c.info;
      even = cond (f % 2 == 0) (Some f) c.even;
      odd = cond (f % 2 == 0) c.odd (Some f);
      next_frame = n;
      decoder = s;
    }

-- ---- a decoder that carries a state from piece to piece; one that decodes each `alone` keeps it
module _ (alone : Bool) (from : State → ℕ → List ℤ) (next : State → ℕ → State) where
  -- piece f, decoded into its half
  unfoldable pub load : Stock → ℕ → Stock
  load s f = record { cache = stored_as s.cache f s.cache.next_frame s.cache.decoder; samples = sets s.samples (64 * (f % 2)) (from s.cache.decoder f) }

  -- the next piece, and the state carried on
  unfoldable pub step : Stock → Stock
  step s =
      let f = s.cache.next_frame in
      record { cache = stored_as s.cache f (f + 1) (next s.cache.decoder f); samples = sets s.samples (64 * (f % 2)) (from s.cache.decoder f) }

  unfoldable pub steps : ℕ → Stock → Stock
  steps zero s = s
  steps (suc n) s = step (steps n s)

  -- on to piece t, with the decoder at or before it
  abbrev pub onward_to : Stock → ℕ → Stock
  onward_to s t = steps (t + 1 - s.cache.next_frame) s

  -- a decoder that is past piece t starts anew, predictor and index at 0
  unfoldable pub ensure : Stock → ℕ → Stock
  ensure s t =
      cond (is_held (cached_at s.cache (t % 2)) t) s
      (cond alone (load s t)
      (cond (nat_lt t s.cache.next_frame) (onward_to (stock (rewound_from s.cache) s.samples) t) (onward_to s t)))

-- ---- the fragments of a mono file
abbrev pub frames_of : Info → ℕ
frames_of i = frame_count_of i.frame_samples i.sample_count

-- the samples of fragment f
abbrev pub count_at : Info → ℕ → ℕ
count_at i f = min (i.sample_count - f * i.frame_samples) i.frame_samples

-- its bytes
abbrev pub bytes_at : List ℕ → Info → ℕ → List ℕ
bytes_at d i f = part d (16 + f * i.frame_size) i.frame_size

-- its samples and the state after it, where the fragment before it ended in state s
unfoldable pub fragment_samples : List ℕ → Variant → Info → State → ℕ → List ℤ
fragment_samples d k i s f = samples_of i.version k s (bytes_at d i f) (count_at i f)

unfoldable pub fragment_state : List ℕ → Variant → Info → State → ℕ → State
fragment_state d k i s f = state_of i.version k s (bytes_at d i f) (count_at i f)

module _ (d : List ℕ) (k : Variant) (i : Info) where
  abbrev pub load_in : Stock → ℕ → Stock
  load_in = load (i.version == 3) (fragment_samples d k i) (fragment_state d k i)

  abbrev pub step_in : Stock → Stock
  step_in = step (i.version == 3) (fragment_samples d k i) (fragment_state d k i)

  abbrev pub steps_in : ℕ → Stock → Stock
  steps_in = steps (i.version == 3) (fragment_samples d k i) (fragment_state d k i)

  abbrev pub onward_in : Stock → ℕ → Stock
  onward_in = onward_to (i.version == 3) (fragment_samples d k i) (fragment_state d k i)

  abbrev pub ensure_in : Stock → ℕ → Stock
  ensure_in = ensure (i.version == 3) (fragment_samples d k i) (fragment_state d k i)

-- numbers that fit a file's bytes
pub record Plays (d : List ℕ) (k : Variant) (i : Info) : Type 0 where
  pub known : (1 ≤ i.version) × (i.version ≤ 3)
  pub per : i.frame_samples ≡ frame_samples_of i.version
  pub size : i.frame_size ≡ frame_size_of i.version k
  pub long : length d ≡ frames_of i * i.frame_size + 16
