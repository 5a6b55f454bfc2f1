-- The chip's voices as a model, a core and the chip over them with its lent buffers, and the plain chip that it is.
use Rattle.std.specs.Prelude.{map}
use Rattle.slots.specs.Slots.{Slot, empty_slot, slot_write_control, slot_write_pcm, slot_after_read, slot_write_wave, slot_reset, slot_set_version, slot_poked, plain_of, slot_loaded}
use Rattle.slots.specs.Ticks.{slot_tick}
use Rattle.plain_chip.specs.Models.{Model}
use Rattle.plain_chip.specs.Chips.{ModelChip}
use Rattle.pair_chip.specs.Pairs.{Pair, Plain}

abbrev pub slots : Model Slot
slots = record {
  absent = empty_slot;
  session = plain_of;
  load = slot_loaded;
  reset = slot_reset;
  set_version = slot_set_version;
  write_control = slot_write_control;
  write_pcm = slot_write_pcm;
  write_wave = slot_write_wave;
  after_read = slot_after_read;
  poked = slot_poked;
  tick = slot_tick;
}

abbrev pub SlotChip : Type 0
SlotChip = ModelChip Slot

abbrev pub SlotPair : Type 0
SlotPair = Pair Slot

-- the plain chip that a chip is
abbrev pub plain : SlotPair → Plain
plain w = record { version = w.version; ram = w.ram; cores = map (map plain_of) w.cores }
