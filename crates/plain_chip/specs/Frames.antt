-- Voices of a list in turn, each for some ticks from silence; frames.
use Rattle.std.specs.Prelude.{List, [], ◌∷◌, ◌++◌, ℕ, zero, suc, ◌+◌, ◌%◌, ℤ, pos, get_or, set}
use Rattle.sizes.specs.Sizes.{num_channels, ticks_per_frame}
use Rattle.version.specs.declared.SguVersion.{SguVersion}
use Rattle.registers.specs.Control.{target_channel}
use Rattle.ticks.specs.Again.{again}
use Rattle.ticks.specs.Oscillators.{target_from}
use Rattle.ticks.specs.Mix.{silence}
use Rattle.ticks.specs.declared.Sides.{Sides}
use Rattle.ticks.specs.declared.Target.{Target}
use Rattle.plain_chip.specs.Ticks.{VoiceTick}
use Rattle.plain_chip.specs.Models.{Model}

-- some ticks of one of the voices: the sides so far, and each tick's value ahead of the volume
pub record Ticking (A : Type 0) : Type 0 where
  pub voices : List A
  pub sides : Sides
  pub values : List ℤ

-- some turns: each turn's left and right stem, the last turn's sample, the values of all their ticks
pub record ModelTurns (A : Type 0) : Type 0 where
  pub voices : List A
  pub stems : List ℤ
  pub sample : ℤ
  pub values : List ℤ

module _ {A : Type 0} where
  abbrev pub with_tick : ℕ → Ticking A → VoiceTick A → Ticking A
  with_tick ch s r = record { voices = set s.voices ch r.voice; sides = r.sides; values = s.values ++ (r.value ∷ []) }

  abbrev pub no_turn : List A → ModelTurns A
  no_turn l = record { voices = l; stems = []; sample = pos 0; values = [] }

  abbrev pub one_turn : ModelTurns A → Ticking A → ModelTurns A
  one_turn r s = record {
    voices = s.voices;
    stems = r.stems ++ (s.sides.left ∷ s.sides.right ∷ []);
    sample = s.sides.sample;
    values = r.values ++ s.values;
  }

  abbrev pub followed : ModelTurns A → ModelTurns A → ModelTurns A
  followed r s = record { voices = s.voices; stems = r.stems ++ s.stems; sample = s.sample; values = r.values ++ s.values }

module _ {A : Type 0} (m : Model A) (version : SguVersion) (ram : List ℕ) where
  -- what a voice shows of itself to the one that it modulates
  abbrev pub shown : A → Target
  shown x = target_from (m.session x).oscillator version (m.session x).pcm.sample_control

  -- what modulates voice ch, as it stands
  abbrev pub modulator : List A → ℕ → Target
  modulator l ch = shown (get_or l (target_channel (m.session (get_or l ch m.absent)).registers ch) m.absent)

  -- a tick of voice ch where it stands
  unfoldable pub tick_at : ℕ → Ticking A → Ticking A
  tick_at ch s = with_tick ch s (m.tick version ram (modulator s.voices ch) s.sides (get_or s.voices ch m.absent))

  -- k turns of n ticks each, from voice `first` on and round again
  unfoldable pub turned : ℕ → ℕ → ℕ → List A → ModelTurns A
  turned first n zero l = no_turn l
  turned first n (suc k) l =
      let r = turned first n k l in
      one_turn r (again n (tick_at ((first + k) % num_channels)) (record { voices = r.voices; sides = silence; values = [] }))

  -- a frame: four ticks of each of the eight voices
  abbrev pub frame : List A → ModelTurns A
  frame l = turned 0 ticks_per_frame num_channels l

  unfoldable pub frames : ℕ → List A → ModelTurns A
  frames zero l = no_turn l
  frames (suc n) l = followed (frames n l) (frame (frames n l).voices)
