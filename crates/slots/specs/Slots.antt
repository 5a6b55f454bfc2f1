-- A voice of the chip with its own parts of the tables and of the queue buffer, and what each call on it does.
use Rattle.std.specs.Prelude.{Bool, true, cond, List, ℕ, eqb, leb, ℤ, pos, length, replicate, set}
use Rattle.std.proofs.lemmas.List.Edits.{sets}
use Rattle.sizes.specs.Sizes.{fifo_capacity}
use Rattle.version.specs.declared.SguVersion.{SguVersion}
use Rattle.registers.specs.Queue.{plain_queue_of}
use Rattle.stream.specs.Cache.{emptied}
use Rattle.voice.specs.Channel.{default_channel, set_stream, set_channel_version}
use Rattle.voice.specs.Writes.{write_control, write_control_entries, empties_cache, write_pcm_reg}
use Rattle.voice.specs.Reads.{after_read, streams_from}
use Rattle.voice.specs.declared.Channel.{Channel}
use Rattle.plain_chip.specs.Voices.{PlainVoice, fresh_wavetable}

-- 128 decoded samples, 256 bytes, 2,048 entries
pub record Slot : Type 0 where
  pub channel : Channel
  pub fragments : List ℤ
  pub wavetable : List ℕ
  pub queue : List ℤ

abbrev pub fresh_slot : List ℤ → Slot
fresh_slot queue = record { channel = default_channel; fragments = replicate 128 (pos 0); wavetable = fresh_wavetable; queue = queue }

-- what stands for a voice that is not there
abbrev pub empty_slot : Slot
empty_slot = fresh_slot (replicate fifo_capacity (pos 0))

-- another channel; with an emptied cache go its decoded samples
abbrev pub stored : Bool → Channel → Slot → Slot
stored empties c s = record {
  channel = c;
  fragments = cond empties (replicate 128 (pos 0)) s.fragments;
  wavetable = s.wavetable;
  queue = s.queue;
}

-- ---- registers: written and read at an offset
unfoldable pub slot_write_control : SguVersion → ℕ → ℕ → Slot → Slot
slot_write_control version offset value s = record {
  channel = write_control version s.channel offset value;
  fragments = cond (empties_cache offset) (replicate 128 (pos 0)) s.fragments;
  wavetable = s.wavetable;
  queue = write_control_entries version s.channel s.queue offset value;
}

unfoldable pub slot_write_pcm : ℕ → ℕ → Slot → Slot
slot_write_pcm offset value s = stored (leb offset 9) (write_pcm_reg s.channel offset value) s

unfoldable pub slot_after_read : ℕ → Slot → Slot
slot_after_read offset s = stored (eqb offset 10) (after_read s.channel offset) s

unfoldable pub slot_write_wave : ℕ → ℕ → Slot → Slot
slot_write_wave at value s = record { channel = s.channel; fragments = s.fragments; wavetable = set s.wavetable at value; queue = s.queue }

-- ---- the whole voice: the queue's entries stay as they are
unfoldable pub slot_reset : Slot → Slot
slot_reset s = fresh_slot s.queue

unfoldable pub slot_set_version : SguVersion → Slot → Slot
slot_set_version version s = stored true (set_channel_version s.channel version) s

-- ---- a byte of the RAM is written: a stream that has it begins anew
unfoldable pub slot_poked : ℕ → Slot → Slot
slot_poked address s = cond (streams_from s.channel address) (stored true (set_stream s.channel emptied) s) s

-- ---- as a plain voice
-- the plain voice that a voice of the chip is
abbrev pub plain_of : Slot → PlainVoice
plain_of s = record {
  registers = s.channel.registers;
  pcm = s.channel.pcm;
  oscillator = s.channel.oscillator;
  queue = plain_queue_of s.queue s.channel.fifo;
  wavetable = s.wavetable;
}

-- a voice with these fields: an empty cache, the queue's head at 0
abbrev pub channel_with : PlainVoice → Channel
channel_with v = record {
  oscillator = v.oscillator;
  fifo = record { head = 0; count = length v.queue.samples; held = v.queue.held; hold = v.queue.hold; sub = v.queue.sub; latch = v.queue.latch };
  stream = emptied;
  pcm = v.pcm;
  registers = v.registers;
}

-- what reading them from a session makes of a voice; other entries of the queue are untouched
unfoldable pub slot_loaded : PlainVoice → Slot → Slot
slot_loaded v s = record { channel = channel_with v; fragments = s.fragments; wavetable = sets s.wavetable 0 v.wavetable; queue = sets s.queue 0 v.queue.samples }
