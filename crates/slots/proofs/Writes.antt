-- What each call but a tick does to a voice of the chip, seen as a plain voice: the same as to the plain voice. A good voice stays
-- good. Assumes nothing.
use mathlib.Core.Path.{◌≡◌, refl, sym, ap, ◌∙◌, subst}
use mathlib.Core.Bool.{Bool, true, false, cond}
use mathlib.Core.List.{List}
use Prim.Native.Nat.{ℕ, ◌%◌, ◌<◌}
use native.Mathlib.Omega.{arith}
use native.Mathlib.Decide.{ℕ_discrete}
use lib.Dec.{eqb, leb}
use lib.IntN.{ℤ, pos}
use lib.ListN.{length, replicate, length-replicate, length-set}
use borrow.Author.Tests.{ne_eqb}
use Rattle.sizes.specs.Sizes.{fifo_capacity}
use Rattle.num.proofs.Choice.{cond-by}
use Rattle.num.proofs.Lists.{each_set}
use Rattle.version.specs.Versions.{has3ws8pna, has_sample_control}
use Rattle.version.specs.declared.SguVersion.{SguVersion}
use Rattle.registers.specs.Control.{write_registers}
use Rattle.registers.specs.Pcm.{set_sample_control, write_pcm}
use Rattle.registers.specs.Queue.{set_latch, pushed, pushed_entries, queued, plain_queue_of}
use Rattle.registers.specs.PlainQueue.{plain_pushed, FitEntries}
use Rattle.registers.specs.declared.Fifo.{Fifo}
use Rattle.registers.proofs.Ring.{line-pushed, length-queued}
use Rattle.stream.specs.Cache.{emptied}
use Rattle.ticks.specs.Oscillators.{set_phase}
use Rattle.voice.specs.Channel.{default_channel, set_oscillator, set_fifo, set_stream, set_pcm, set_channel_version}
use Rattle.voice.specs.Kinds.{sample_of}
use Rattle.voice.specs.Writes.{waveform_written, restarted, latch_written, sample_written, sample_entries, sample_control_written, write_control, write_control_entries, write_pcm_reg, empties_cache}
use Rattle.voice.specs.Reads.{read_queue, read_sample_control, read_control, after_read, streams_from}
use Rattle.voice.specs.declared.Channel.{Channel}
use Rattle.voice.proofs.Offsets.{write-rest, entries-kept}
use Rattle.voice.proofs.Clears.{version-empties}
use Rattle.voice.proofs.Keeps.{default-accepted, version-accepted, write_kept, pcm-write-kept, read_kept}
use Rattle.slots.specs.Slots.{Slot, fresh_slot, slot_write_control, slot_write_pcm, slot_after_read, slot_write_wave, slot_reset, slot_set_version, slot_poked, plain_of}
use Rattle.plain_chip.specs.Voices.{PlainVoice, fresh_voice, with_registers, with_pcm, with_plain_queue, plain_write_control, plain_write_pcm, plain_write_wave, plain_read, plain_after_read, plain_set_version}
use Rattle.slots.specs.Good.{SlotOk, AcceptedSlot}
use Rattle.slots.proofs.Kept.{coherent-none, coherent-stored, write-empties, write_keeps, pcm-empties, pcm-keeps, read-empties, read_keeps}
use Rattle.slots.proofs.Fits.{default-channel-fits, version-fits, write-control-fits, write-entries-fit, write-pcm-reg-fits, after-read-fits, length-entries}
use Rattle.plain_chip.proofs.Lists.{bytes-replicate}

pub choice : {A B : Type 0} (b : Bool) (f : A → B) (x y : A) → f (cond b x y) ≡ cond b (f x) (f y)
choice true f x y = refl
choice false f x y = refl

abbrev within : Slot → Channel → Slot
within s c = record { channel = c; fragments = s.fragments; wavetable = s.wavetable; queue = s.queue }

-- ---- a control register is written
module _ (version : SguVersion) (value : ℕ) (s : Slot) where
  abbrev Same : ℕ → Type 0
  Same o = plain_of (slot_write_control version o value s) ≡ plain_write_control version o value (plain_of s)

  at-waveform : Same 2
  unfolding slot_write_control plain_write_control write_control write_control_entries waveform_written
  at-waveform = refl

  at-restart : Same 10
  unfolding slot_write_control plain_write_control write_control write_control_entries restarted queued
  at-restart = refl

  at-latch : Same 12
  unfolding slot_write_control plain_write_control write_control write_control_entries latch_written
  at-latch = choice (has3ws8pna version) (λ (c : Channel). plain_of (within s c)) (set_fifo s.channel (set_latch s.channel.fifo value)) s.channel

  at-sample : length s.queue ≡ fifo_capacity → Same 13
  unfolding slot_write_control plain_write_control write_control write_control_entries sample_written sample_entries
  at-sample room = at (has3ws8pna version)
    where
      f : Fifo
      f = s.channel.fifo

      x : ℤ
      x = sample_of f.latch value

      at : (b : Bool) → plain_of (record { channel = cond b (set_fifo s.channel (pushed f)) s.channel; fragments = s.fragments; wavetable = s.wavetable; queue = cond b (pushed_entries f s.queue x) s.queue }) ≡ cond b (with_plain_queue (plain_of s) (plain_pushed (plain_queue_of s.queue f) x)) (plain_of s)
      at true = ap (with_plain_queue (plain_of s)) (line-pushed f s.queue x room)
      at false = refl

  at-control : Same 26
  unfolding slot_write_control plain_write_control write_control write_control_entries sample_control_written
  at-control = choice (has_sample_control version) (λ (c : Channel). plain_of (within s c)) (set_pcm s.channel (set_sample_control s.channel.pcm (value % 8))) s.channel

  plain_other : (v : PlainVoice) (o : ℕ) → (o ≡ 2 → ⊥) → (o ≡ 10 → ⊥) → (o ≡ 12 → ⊥) → (o ≡ 13 → ⊥) → (o ≡ 26 → ⊥) → with_registers v (write_registers v.registers o value) ≡ plain_write_control version o value v
  unfolding plain_write_control
  plain_other v o a b c d e = simp (ne_eqb o 2 a, ne_eqb o 10 b, ne_eqb o 12 c, ne_eqb o 13 d, ne_eqb o 26 e)

  at_other : (o : ℕ) → (o ≡ 2 → ⊥) → (o ≡ 10 → ⊥) → (o ≡ 12 → ⊥) → (o ≡ 13 → ⊥) → (o ≡ 26 → ⊥) → Same o
  unfolding slot_write_control
  at_other o a b c d e =
      sym (λ i. plain_of (record { channel = write-rest version s.channel o value a b c d e i; fragments = s.fragments; wavetable = s.wavetable; queue = entries-kept version s.channel o value s.queue d i }))
      ∙ plain_other (plain_of s) o a b c d e

  pub same-write-control : length s.queue ≡ fifo_capacity → (o : ℕ) → Same o
  same-write-control room o =
      elim (ℕ_discrete o 2) [
        | yes e ↦ subst Same (sym e) at-waveform
        | no a ↦ elim (ℕ_discrete o 10) [
          | yes e ↦ subst Same (sym e) at-restart
          | no b ↦ elim (ℕ_discrete o 12) [
            | yes e ↦ subst Same (sym e) at-latch
            | no c ↦ elim (ℕ_discrete o 13) [
              | yes e ↦ subst Same (sym e) (at-sample room)
              | no d ↦ elim (ℕ_discrete o 26) [
                | yes e ↦ subst Same (sym e) at-control
                | no e ↦ at_other o a b c d e
              ]
            ]
          ]
        ]
      ]

-- ---- the other registers
pub same-write-pcm : (offset value : ℕ) (s : Slot) → plain_of (slot_write_pcm offset value s) ≡ plain_write_pcm offset value (plain_of s)
unfolding slot_write_pcm plain_write_pcm write_pcm_reg
same-write-pcm offset value s =
    cond-by (λ (c : Channel). plain_of (within s c) ≡ with_pcm (plain_of s) (write_pcm s.channel.pcm offset value)) (leb offset 9) _ _ (λ e. refl) (λ e. refl)

pub same-write-wave : (at value : ℕ) (s : Slot) → plain_of (slot_write_wave at value s) ≡ plain_write_wave at value (plain_of s)
unfolding slot_write_wave plain_write_wave
same-write-wave at value s = refl

-- ---- reads
pub same_read : (version : SguVersion) (offset : ℕ) (s : Slot) → read_control version s.channel offset ≡ plain_read version offset (plain_of s)
unfolding read_control read_queue read_sample_control plain_read
same_read version offset s = rw length-queued

pub same-after-read : (offset : ℕ) (s : Slot) → plain_of (slot_after_read offset s) ≡ plain_after_read offset (plain_of s)
unfolding slot_after_read plain_after_read after_read
same-after-read offset s = choice (eqb offset 10) (λ (c : Channel). plain_of (within s c)) (set_stream (set_oscillator s.channel (set_phase s.channel.oscillator 0)) emptied) s.channel

-- ---- the whole voice
pub same-fresh : (q : List ℤ) → plain_of (fresh_slot q) ≡ fresh_voice
unfolding queued
same-fresh q = refl

pub same-reset : (s : Slot) → plain_of (slot_reset s) ≡ fresh_voice
unfolding slot_reset
same-reset s = same-fresh s.queue

pub same_version : (version : SguVersion) (s : Slot) → plain_of (slot_set_version version s) ≡ plain_set_version version (plain_of s)
unfolding slot_set_version plain_set_version set_channel_version queued
same_version version s = refl

-- a RAM write leaves the plain voice as it is
pub same-poked : (address : ℕ) (s : Slot) → plain_of (slot_poked address s) ≡ plain_of s
unfolding slot_poked
same-poked address s = cond-by (λ (x : Slot). plain_of x ≡ plain_of s) (streams_from s.channel address) _ s (λ e. refl) (λ e. refl)

-- ---- a good voice stays good
pub ok-fresh : (version : SguVersion) (ram : List ℕ) (q : List ℤ) → length q ≡ fifo_capacity → FitEntries q → SlotOk version ram (fresh_slot q)
ok-fresh version ram q room fit = record {
  accepted = default-accepted version (length ram);
  coherent = coherent-none version ram default_channel (replicate 128 (pos 0)) refl (length-replicate 128 (pos 0));
  fits = default-channel-fits;
  table = length-replicate {A = ℕ} 256 128;
  bytes = bytes-replicate 256 128 (omega arith);
  room = room;
  entries = fit;
}

module _ (version : SguVersion) (ram : List ℕ) (s : Slot) (ok : SlotOk version ram s) where
  pub ok-write-control : (offset value : ℕ) → value < 256 → SlotOk version ram (slot_write_control version offset value s)
  unfolding slot_write_control
  ok-write-control offset value h = record {
    accepted = write_kept s.channel version (length ram) ok.accepted offset value;
    coherent = coherent-stored version ram (empties_cache offset) s.channel (write_control version s.channel offset value) s.fragments (write-empties version s.channel offset value) (write_keeps version s.channel offset value) ok.coherent;
    fits = write-control-fits s.channel ok.fits version value h offset;
    table = ok.table;
    bytes = ok.bytes;
    room = length-entries version s.channel s.queue offset value ∙ ok.room;
    entries = write-entries-fit s.channel ok.fits version value h s.queue offset ok.entries;
  }

  pub ok-write-pcm : (offset value : ℕ) → value < 256 → SlotOk version ram (slot_write_pcm offset value s)
  unfolding slot_write_pcm
  ok-write-pcm offset value h = record {
    accepted = pcm-write-kept s.channel version (length ram) ok.accepted offset value h;
    coherent = coherent-stored version ram (leb offset 9) s.channel (write_pcm_reg s.channel offset value) s.fragments (pcm-empties s.channel offset value) (pcm-keeps s.channel offset value) ok.coherent;
    fits = write-pcm-reg-fits s.channel ok.fits offset value h;
    table = ok.table;
    bytes = ok.bytes;
    room = ok.room;
    entries = ok.entries;
  }

  pub ok-after-read : (offset : ℕ) → SlotOk version ram (slot_after_read offset s)
  unfolding slot_after_read
  ok-after-read offset = record {
    accepted = read_kept s.channel version (length ram) ok.accepted offset;
    coherent = coherent-stored version ram (eqb offset 10) s.channel (after_read s.channel offset) s.fragments (read-empties s.channel offset) (read_keeps s.channel offset) ok.coherent;
    fits = after-read-fits s.channel ok.fits offset;
    table = ok.table;
    bytes = ok.bytes;
    room = ok.room;
    entries = ok.entries;
  }

  pub ok-write-wave : (at value : ℕ) → value < 256 → SlotOk version ram (slot_write_wave at value s)
  unfolding slot_write_wave
  ok-write-wave at value h = record {
    accepted = ok.accepted;
    coherent = ok.coherent;
    fits = ok.fits;
    table = length-set s.wavetable at value ∙ ok.table;
    bytes = record { each = each_set (λ (x : ℕ). x < 256) 0 value h s.wavetable ok.bytes.each at };
    room = ok.room;
    entries = ok.entries;
  }

  -- whatever the RAM is then
  pub ok-reset : (ram' : List ℕ) (other : SguVersion) → SlotOk other ram' (slot_reset s)
  unfolding slot_reset
  ok-reset ram' other = ok-fresh other ram' s.queue ok.room ok.entries

  pub ok-accepted : AcceptedSlot version (length ram) s
  ok-accepted = record { accepted = ok.accepted; fits = ok.fits; fragments = ok.coherent.room; table = ok.table; bytes = ok.bytes; room = ok.room; entries = ok.entries }

-- under another version a voice is good, whatever its cache held
pub ok-version : (old : SguVersion) (n : ℕ) (s : Slot) → AcceptedSlot old n s → (ram : List ℕ) (version : SguVersion) → SlotOk version ram (slot_set_version version s)
unfolding slot_set_version
ok-version old n s ok ram version = record {
  accepted = version-accepted s.channel old version n (length ram) ok.accepted;
  coherent = coherent-none version ram (set_channel_version s.channel version) (replicate 128 (pos 0)) (version-empties s.channel version).1 (length-replicate 128 (pos 0));
  fits = version-fits s.channel ok.fits version;
  table = ok.table;
  bytes = ok.bytes;
  room = ok.room;
  entries = ok.entries;
}
