-- Each call of the list on a good world: what the code does is what the list's call does. Assumes nothing.
use mathlib.Core.Path.{sym, subst}
use Rattle.slots.specs.Models.{slots}
use Rattle.slots.specs.Good.{SlotPairOk}
use Rattle.slots.proofs.Slots.{slots-plain}
use Rattle.call_lists.specs.Calls.{Call, reset, set_version, reset_channel, write_register, read_register, peek_register, write_channel_control, read_channel_control, write_channel_pcm_reg, read_channel_pcm_reg, write_channel_wavetable, read_channel_wavetable, wavetable_length, interpolates, write_pcm_ram, read_pcm_ram, generate_sample, clock, clock_mixed, clock_mixed_into, clock_mixed_into_i32, write_head, read_head, write_voice, read_voice, read_stored_voice, run}
use Rattle.call_lists.specs.Seen.{FitCall}
use Rattle.call_lists.proofs.Steps.{step}
use Rattle.session_texts.specs.Session.{session}
use Rattle.session_texts.proofs.Read.{session-is-ok}
use Rattle.chip_calls.specs.Ties.{Machine, slot_pair, GoodMachine, Tied}
use Rattle.chip_calls.specs.Code.{code}
use Rattle.chip_calls.proofs.Calls as calls
use Rattle.chip_calls.proofs.Calls.{Agrees}
use Rattle.chip_calls.proofs.Sounds as sounds
use Rattle.chip_calls.proofs.Lines as lines

module _ (m : Machine) (held : GoodMachine m.chip m.ram m.queues) where
  agrees : (c : Call) → FitCall c → Agrees (code m c) (run slots session (slot_pair m.chip m.ram m.queues) c)
  unfolding code
  agrees reset f = calls.tied-reset session m.chip m.ram m.queues held
  agrees (set_version version) f = calls.tied-version session m.chip m.ram m.queues held version
  agrees (reset_channel core ch) f = calls.tied-reset-channel session m.chip m.ram m.queues held core ch
  agrees (write_register core address value) f = calls.tied-write-register session m.chip m.ram m.queues held core address value f
  agrees (read_register core address) f = calls.tied-read-register session m.chip m.ram m.queues held core address
  agrees (peek_register core address) f = calls.tied-peek session m.chip m.ram m.queues held core address
  agrees (write_channel_control core ch offset value) f = calls.tied-control session m.chip m.ram m.queues held core ch offset value
  agrees (read_channel_control core ch offset) f = calls.tied-read-control session m.chip m.ram m.queues held core ch offset
  agrees (write_channel_pcm_reg core ch offset value) f = calls.tied-pcm session m.chip m.ram m.queues held core ch offset value f
  agrees (read_channel_pcm_reg core ch offset) f = calls.tied-read-pcm session m.chip m.ram m.queues held core ch offset
  agrees (write_channel_wavetable core ch at value) f = calls.tied-wave session m.chip m.ram m.queues held core ch at value f.0
  agrees (read_channel_wavetable core ch at) f = calls.tied-read-wave session m.chip m.ram m.queues held core ch at f
  agrees (wavetable_length core ch) f = calls.tied-length session m.chip m.ram m.queues held core ch
  agrees (interpolates core ch) f = calls.tied-interpolates session m.chip m.ram m.queues held core ch
  agrees (write_pcm_ram address value) f = calls.tied-write-ram session m.chip m.ram m.queues held address value
  agrees (read_pcm_ram address) f = calls.tied-read-ram session m.chip m.ram m.queues held address
  agrees (generate_sample core ch) f = sounds.tied-sample session m.chip m.ram m.queues held core ch
  agrees (clock n stems) f = sounds.tied-clock session m.chip m.ram m.queues held n stems
  agrees (clock_mixed left right) f = sounds.tied-clock-mixed session m.chip m.ram m.queues held left right
  agrees (clock_mixed_into left right) f = sounds.tied-mixed-into session m.chip m.ram m.queues held left right
  agrees (clock_mixed_into_i32 left right) f = sounds.tied-mixed-into-i32 session m.chip m.ram m.queues held left right
  agrees (write_head out) f = lines.tied-write-head m.chip m.ram m.queues held out
  agrees (read_head text) f = lines.tied-read-head m.chip m.ram m.queues held text
  agrees (write_voice voice out) f = lines.tied-write-voice m.chip m.ram m.queues held voice out
  agrees (read_voice text) f = lines.tied-read-voice m.chip m.ram m.queues held text
  agrees (read_stored_voice text) f = lines.tied-read-stored-voice m.chip m.ram m.queues held text

  pub tied : (c : Call) → FitCall c → Tied (code m c) (run slots session (slot_pair m.chip m.ram m.queues) c)
  tied c f =
      let a = agrees c f in
      let ok = (step slots-plain session session-is-ok (slot_pair m.chip m.ram m.queues) held.good c f).ok in
      record { next = a.next; answer = a.answer; held = record { allowed = a.allowed; sized = a.sized; long = a.long; good = subst SlotPairOk (sym a.next) ok } }
