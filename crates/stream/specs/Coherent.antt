-- A cache that agrees with the RAM.
use Rattle.std.specs.Prelude.{◌≡◌, ℕ, ◌+◌, ◌*◌, ◌%◌, ◌<◌, Bool, true, false, List, length, ℤ, pos, ◌==◌, slice_index_or, Option, Some}
use Rattle.adpcm.specs.declared.Variant.{Variant}
use Rattle.adpcm.specs.declared.State.{State}
use Rattle.sqv4.specs.Whole.{state_after, piece}
use Rattle.stream.specs.declared.Info.{Info}
use Rattle.stream.specs.File.{Source, source_of, opened_from}
use Rattle.stream.specs.Cache.{Stock, cached_at, fragment_samples, fragment_state}

-- its tagged halves hold those pieces, and a decoder that carries a state is where it says
pub record Holds (alone : Bool) (from : State → ℕ → List ℤ) (next : State → ℕ → State) (s : Stock) : Type 0 where
  pub room : length s.samples ≡ 128
  pub tagged : (f : ℕ) → cached_at s.cache (f % 2) ≡ Some f → (n : ℕ) → n < length (piece from next f) → slice_index_or s.samples (64 * (f % 2) + n) (pos 0) ≡ slice_index_or (piece from next f) n (pos 0)
  pub carried : alone ≡ false → s.cache.decoder ≡ state_after from next s.cache.next_frame

abbrev pub HoldsFile : List ℕ → Variant → Info → Stock → Type 0
HoldsFile d k i s = Holds (i.version == 3) (fragment_samples d k i) (fragment_state d k i) s

-- a valid cache has the variant and the numbers that are found now
pub record Valid (found : Option (Variant × Info)) (d : List ℕ) (s : Stock) : Type 0 where
  pub variant : Variant
  pub held : s.cache.variant ≡ Some variant
  pub same : found ≡ Some (variant, s.cache.info)
  pub holds : HoldsFile d variant s.cache.info s

pub record Coherent (found : Option (Variant × Info)) (d : List ℕ) (s : Stock) : Type 0 where
  pub room : length s.samples ≡ 128
  pub valid : s.cache.valid ≡ true → Valid found d s

-- over all that the RAM gives a voice
abbrev pub CoherentFrom : Source → Bool → ℕ → ℕ → Stock → Type 0
CoherentFrom src wants start again s = Coherent (opened_from src wants start again) src.bytes s

abbrev pub CoherentIn : List ℕ → Bool → ℕ → ℕ → ℕ → Stock → Type 0
CoherentIn ram wants start end again s = CoherentFrom (source_of ram start end) wants start again s
