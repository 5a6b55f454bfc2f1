-- A whole file decoded from its first fragment.
use Rattle.std.specs.Prelude.{cond, List, [], ◌∷◌, ◌++◌, ℕ, zero, suc, ◌+◌, ◌*◌, eqb, ℤ, Result, Ok, Err}
use Rattle.std.proofs.lemmas.List.Edits.{sets}
use Rattle.adpcm.specs.declared.State.{State}
use Rattle.sqv4.specs.declared.Header.{Header}
use Rattle.sqv4.specs.Files.{frame_length, fragment_at}
use Rattle.sqv4.specs.declared.InspectError.{InspectError}
use Rattle.sqv4.specs.Decoding.{samples_of, state_of, zero_state}

-- ---- fragment f of channel c, where the one before it ended in state s
unfoldable pub samples_from : List ℕ → Header → ℕ → State → ℕ → List ℤ
samples_from d h c s f = samples_of h.version h.variant s (fragment_at d h (f * h.channels + c)) (frame_length h f)

unfoldable pub state_from : List ℕ → Header → ℕ → State → ℕ → State
state_from d h c s f = state_of h.version h.variant s (fragment_at d h (f * h.channels + c)) (frame_length h f)

-- ---- a decoder that carries a state from piece to piece
module _ (from : State → ℕ → List ℤ) (next : State → ℕ → State) where
  -- the state after f pieces, from the first on
  abbrev pub state_after : ℕ → State
  state_after zero = zero_state
  state_after (suc f) = next (state_after f) f

  -- piece f
  abbrev pub piece : ℕ → List ℤ
  piece f = from (state_after f) f

  -- the first m pieces
  abbrev pub pieces : ℕ → List ℤ
  pieces zero = []
  pieces (suc m) = pieces m ++ piece m

-- the samples of one channel, and the state after its first f fragments
unfoldable pub channel_whole : List ℕ → Header → ℕ → List ℤ
channel_whole d h c = pieces (samples_from d h c) (state_from d h c) h.frame_count

unfoldable pub channel_state : List ℕ → Header → ℕ → ℕ → State
channel_state d h c f = state_after (samples_from d h c) (state_from d h c) f

-- two channels, sample after sample
unfoldable pub interleaved : List ℤ → List ℤ → List ℤ
interleaved [] ys = []
interleaved (x ∷ xs) [] = []
interleaved (x ∷ xs) (y ∷ ys) = x ∷ y ∷ interleaved xs ys

-- a whole file: one channel, or two interleaved
unfoldable pub whole_of : List ℕ → Header → List ℤ
whole_of d h = cond (eqb h.channels 2) (interleaved (channel_whole d h 0) (channel_whole d h 1)) (channel_whole d h 0)

-- a buffer after a file's decoding: the shorter of the two is served, and a refused file leaves it
abbrev pub decoded_into : List ℤ → List ℕ → Result Header InspectError → List ℤ
decoded_into out d (Ok h) = sets out 0 (whole_of d h)
decoded_into out d (Err e) = out
