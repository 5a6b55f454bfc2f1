-- Turns and frames keep every voice accepted and in range, and their sides fit the stems. Assumes nothing.
use Rattle.std.proofs.Common.{◌≡◌, ℕ, zero, suc, ◌+◌, ◌*◌, ◌%◌, ◌<◌, ◌≤◌, Bool, true, false, eqb, List, length, ℤ, sym, refl, ap, ◌∙◌, subst, arith, get_or-set_other, get_or-set_same, eqb-true}
use borrow.Author.Tests.{eqb-false}
use Rattle.sizes.specs.Sizes.{fifo_capacity, num_channels}
use Rattle.num.specs.Lists.{part}
use Rattle.version.specs.declared.SguVersion.{SguVersion}
use Rattle.registers.specs.Control.{target_channel}
use Rattle.registers.specs.PlainQueue.{FitEntries}
use Rattle.ticks.specs.Mix.{silence, Room}
use Rattle.ticks.specs.declared.Sides.{Sides}
use Rattle.voice.specs.Sounding.{kind_of, play_of, served_of, stream_sound_of, after_stream}
use Rattle.voice.specs.Streaming.{Lent, lent, stream_ticks_at}
use Rattle.voice.specs.declared.Channel.{Channel}
use Rattle.voice.specs.declared.Kind.{Kind}
use Rattle.voice.specs.declared.Kind.TheVariants as kinds
use Rattle.voices.specs.Core.{no_channel, channel_at, set_channel, set_fragments}
use Rattle.voices.specs.declared.Core.{Core}
use Rattle.frames.specs.Kept.{EachByte, FitSounding}
use Rattle.frames.specs.Ticking.{Voiced, voiced, voice_ticks}
use Rattle.frames.specs.Turning.{turned}
use Rattle.frames.proofs.Keeping.{sound-kept, queue-kept-from}
use Rattle.frames.proofs.Turns.{Ready, Turn, silent-turn, sound-turn, queue-turn, whole-kept, whole-turn}

pub record Well (version : SguVersion) (ram : ℕ) (core : Core) : Type 0 where
  pub ready : Ready version ram core
  pub fits : (j : ℕ) → j < num_channels → FitSounding (channel_at core j)

-- after a turn
pub record WellTurn (version : SguVersion) (ram : ℕ) (v : Voiced) : Type 0 where
  pub well : Well version ram v.core
  pub room : Room 4 v.sides

module _ (version : SguVersion) (ram : List ℕ) (queues : List ℤ) (n : ℕ) (low : 1 ≤ n) (high : n ≤ 4) (bytes : EachByte ram) (entries : (ch : ℕ) → FitEntries (part queues (ch * fifo_capacity) fifo_capacity)) where
  module _ (ch : ℕ) (core : Core) (there : ch < num_channels) (w : Well version (length ram) core) where
    abbrev c : Channel
    c = channel_at core ch

    stored : (d : Channel) (samples : List ℤ) → FitSounding d → (j : ℕ) → j < num_channels → FitSounding (channel_at (set_fragments (set_channel core ch d) samples) j)
    stored d samples k j h = by (eqb j ch) refl
      where
        by : (b : Bool) → eqb j ch ≡ b → FitSounding (channel_at (set_fragments (set_channel core ch d) samples) j)
        by true e =
            subst FitSounding (sym (ap (λ (i : ℕ). channel_at (set_channel core ch d) i) (eqb-true j ch e) ∙ get_or-set_same core.channels ch d no_channel (omega (arith, w.ready.accepted.sized.channels)))) k
        by false e = subst FitSounding (sym (get_or-set_other core.channels ch j d no_channel (eqb-false j ch e))) (w.fits j h)

    turn-well : (after : Core) (sides : Sides) → Turn version ram queues ch n core after sides → ((j : ℕ) → j < num_channels → FitSounding (channel_at after j)) → WellTurn version (length ram) (voice_ticks version ram queues ch n (voiced core silence))
    turn-well after sides t f = subst (WellTurn version (length ram)) t.same (record { well = record { ready = t.ready; fits = f }; room = t.room })

    pub ticks-well : WellTurn version (length ram) (voice_ticks version ram queues ch n (voiced core silence))
    ticks-well = by (kind_of c) refl
      where
        by : (k : Kind) → kind_of c ≡ k → WellTurn version (length ram) (voice_ticks version ram queues ch n (voiced core silence))
        by kinds.Silent e = turn-well core silence (silent-turn version ram queues ch n core low high there w.ready e) w.fits
        by kinds.Oscillator e =
            let k = sound-kept c version ram n (omega arith) (w.ready.accepted.each ch there) (w.fits ch there) core.wavetables ch (eqb (target_channel c.registers ch) ch) _ w.ready.bytes bytes in
            turn-well _ _ (sound-turn version ram queues ch n core low high there w.ready e (target_channel c.registers ch) _ _ _ refl refl refl (λ a. k) refl) (stored _ core.fragments k.fits)
        by kinds.Sqv4 e =
            let k = whole-kept version ram queues ch n core low high there w.ready e (w.fits ch there) _ refl in
            let v : Lent = stream_ticks_at (ch * 128) n ram (play_of c version) c.registers.volume c.registers.panpot (lent (stream_sound_of c (served_of c)) core.fragments) in
            turn-well _ _ (whole-turn version ram queues ch n core low high there w.ready e (w.fits ch there) _ refl v (after_stream c v.sound) refl refl) (stored (after_stream c v.sound) v.samples k.fits)
        by kinds.FifoDac e =
            let k = queue-kept-from c version (length ram) n (omega arith) e (w.ready.accepted.each ch there) (w.fits ch there) (part queues (ch * fifo_capacity) fifo_capacity) (entries ch) in
            turn-well _ _ (queue-turn version ram queues ch n core low high there w.ready e _ _ refl (λ k m a. queue-kept-from c version m n (omega arith) k a (w.fits ch there) (part queues (ch * fifo_capacity) fifo_capacity) (entries ch)) refl) (stored _ core.fragments k.fits)

  pub turned-well : (first : ℕ) (core : Core) → Well version (length ram) core → (k : ℕ) → Well version (length ram) (turned version ram queues first n k core).core
  unfolding turned
  turned-well first core w zero = w
  turned-well first core w (suc k) = (ticks-well ((first + k) % num_channels) (turned version ram queues first n k core).core (omega arith) (turned-well first core w k)).well

  -- so each stem of the turns is a sum of at most four ticks
  pub turned-room : (first : ℕ) (core : Core) → Well version (length ram) core → (k : ℕ) → Room 4 (voice_ticks version ram queues ((first + k) % num_channels) n (voiced (turned version ram queues first n k core).core silence)).sides
  turned-room first core w k = (ticks-well ((first + k) % num_channels) (turned version ram queues first n k core).core (omega arith) (turned-well first core w k)).room
