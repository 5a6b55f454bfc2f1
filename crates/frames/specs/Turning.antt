-- Voices in turn, from a first one on and round again, each for some ticks from silence; frames.
use Rattle.std.specs.Prelude.{ℕ, zero, suc, ◌+◌, ◌%◌, Bool, cond, ◌&&◌, List, [], ◌∷◌, ◌++◌, length, ℤ, pos, ◌==◌, nat_le}
use Rattle.sizes.specs.Sizes.{num_channels, queue_buffer, ticks_per_frame}
use Rattle.version.specs.declared.SguVersion.{SguVersion}
use Rattle.ticks.specs.Mix.{silence}
use Rattle.voices.specs.Accepted.{accepts_core}
use Rattle.voices.specs.declared.Core.{Core}
use Rattle.frames.specs.declared.Turned.{Turned}
use Rattle.frames.specs.Ticking.{Voiced, voiced, voice_ticks}

-- the eight voices after some turns, each turn's left and right stem, and the last turn's sample
pub record Turns : Type 0 where
  pub core : Core
  pub stems : List ℤ
  pub sample : ℤ

abbrev pub no_turn : Core → Turns
no_turn core = record { core = core; stems = []; sample = pos 0 }

-- what is left of some turns beside their stems
abbrev pub after_turns : Turns → Turned
after_turns t = record { core = t.core; sample = t.sample }

-- one more turn, of a voice that has ticked
abbrev pub one_turn : Turns → Voiced → Turns
one_turn t v = record { core = v.core; stems = t.stems ++ (v.sides.left ∷ v.sides.right ∷ []); sample = v.sides.sample }

module _ (version : SguVersion) (ram : List ℕ) (queues : List ℤ) where
  -- k turns of n ticks each
  unfoldable pub turned : ℕ → ℕ → ℕ → Core → Turns
  turned first n zero core = no_turn core
  turned first n (suc k) core = one_turn (turned first n k core) (voice_ticks version ram queues ((first + k) % num_channels) n (voiced (turned first n k core).core silence))

  -- a frame: four ticks of each of the eight voices
  abbrev pub frame : Core → Turns
  frame core = turned 0 ticks_per_frame num_channels core

  -- m frames, one after the other
  unfoldable pub frames : ℕ → Core → Turns
  frames zero core = no_turn core
  frames (suc m) core = record { core = (frame (frames m core).core).core; stems = (frames m core).stems ++ (frame (frames m core).core).stems; sample = (frame (frames m core).core).sample }

  -- what turns ask for: 16,384 queue entries, one to four ticks, accepted voices
  unfoldable pub may_run : ℕ → Core → Bool
  may_run n core = length queues == queue_buffer && (nat_le 1 n && (nat_le n 4 && accepts_core core version (length ram)))

  -- turns that ask for something else are none
  unfoldable pub run_of : ℕ → ℕ → ℕ → Core → Turns
  run_of first n k core = cond (may_run n core) (turned first n k core) (no_turn core)

  -- one tick of one voice; queue entries of another number give none
  unfoldable pub single_tick : ℕ → Core → Turns
  single_tick ch core = cond (length queues == queue_buffer) (turned ch 1 1 core) (no_turn core)
