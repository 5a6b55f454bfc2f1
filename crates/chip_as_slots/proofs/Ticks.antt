-- A tick of a voice where it stands in the core is a tick of that voice of the world. Assumes nothing.
use mathlib.Core.Path.{◌≡◌, refl, sym, ap, ◌∙◌}
use mathlib.Core.Bool.{true, false}
use mathlib.Core.List.{List}
use Prim.Native.Nat.{ℕ, ◌*◌, ◌%◌, ◌<◌}
use native.Mathlib.Omega.{arith}
use lib.Dec.{eqb}
use lib.IntN.{ℤ}
use lib.ListN.{length, get_or, set}
use lib.Seq.{sets, set-get_or}
use borrow.Author.Tests.{eqb-true}
use Rattle.sizes.specs.Sizes.{fifo_capacity, num_channels}
use Rattle.num.specs.Lists.{part}
use Rattle.num.proofs.Choice.{cond-by}
use Rattle.tone.specs.Targets.{absolute_channel}
use Rattle.version.specs.declared.SguVersion.{SguVersion}
use Rattle.registers.specs.Control.{target_channel}
use Rattle.registers.specs.declared.Registers.{Registers}
use Rattle.ticks.specs.Oscillators.{target_from}
use Rattle.ticks.specs.Settings.{setting_of}
use Rattle.ticks.specs.Sounds.{target_for, sound_ticks, sound_value}
use Rattle.ticks.specs.Queues.{queue_ticks}
use Rattle.ticks.specs.declared.Sides.{Sides}
use Rattle.ticks.specs.declared.Target.{Target}
use Rattle.ticks.specs.declared.Sound.{Sound}
use Rattle.ticks.specs.declared.QueueSound.{QueueSound}
use Rattle.voice.specs.Sounding.{kind_of, after_sound, after_queue, after_stream}
use Rattle.voice.specs.Streaming.{Lent}
use Rattle.voice.specs.declared.Channel.{Channel}
use Rattle.voice.specs.declared.Kind.{Kind}
use Rattle.voice.specs.declared.Kind.TheVariants.{Silent, Sqv4, FifoDac}
use Rattle.voice.specs.declared.Kind.TheVariants as kinds
use Rattle.voices.specs.Core.{no_channel, channel_at}
use Rattle.voices.specs.Accepted.{SizedCore}
use Rattle.voices.specs.declared.Core.{Core}
use Rattle.frames.specs.Ticking.{Voiced, voiced, modulator, ticks_as, voice_tick}
use Rattle.frame_reports.specs.Values.{value_as, tick_value}
use Rattle.frames.proofs.Parts.{part-back}
use Rattle.frame_reports.proofs.Heard.{stream-here}
use Rattle.slots.specs.Slots.{Slot, empty_slot}
use Rattle.slots.specs.Models.{slots}
use Rattle.plain_chip.specs.Ticks.{VoiceTick}
use Rattle.slots.specs.Ticks.{slot_sound, slot_stream, slot_fifo, slot_tick_as, slot_tick}
use Rattle.slots.proofs.Tables.{mask-small, own-table, own-target, own_value, target-itself}
use Rattle.plain_chip.specs.Frames as plays
use Rattle.chip_as_slots.specs.Whole.{slot_at, slots_of}
use Rattle.chip_as_slots.proofs.Puts.{put_core, slot-at}

target-lt : (r : Registers) (ch : ℕ) → target_channel r ch < num_channels
unfolding absolute_channel
target-lt r ch = cond-by (λ (n : ℕ). n < 8) (eqb r.modulation_targeting_mode 0) _ _ (λ e. omega arith) (λ e. omega arith)

module _ (version : SguVersion) (ram : List ℕ) (q : List ℤ) (ch : ℕ) (here : ch < num_channels) (k : Core) (sized : SizedCore k) (sides : Sides) where
  abbrev c : Channel
  c = channel_at k ch

  abbrev s : Slot
  s = slot_at k q ch

  -- what modulates the voice, in the core and in the world
  abbrev t : Target
  t = modulator version ram q ch 1 k sides c

  same_seen : t ≡ plays.modulator slots version ram (slots_of k q) ch
  same_seen =
      let shown : Slot → Target = plays.shown slots version ram in
      sym (ap (λ (x : Slot). shown (get_or (slots_of k q) (target_channel x.channel.registers ch) empty_slot)) (slot-at k q ch here)
      ∙ ap shown (slot-at k q (target_channel c.registers ch) (target-lt c.registers ch)))

  -- ---- what stays as it is
  fragments-back : k.fragments ≡ sets k.fragments (ch * 128) (part k.fragments (ch * 128) 128)
  fragments-back = sym (part-back k.fragments (ch * 128) 128 (omega (arith, sized.fragments)))

  wavetable-back : k.wavetables ≡ sets k.wavetables (ch * 256) (part k.wavetables (ch * 256) 256)
  wavetable-back = sym (part-back k.wavetables (ch * 256) 256 (omega (arith, sized.wavetables)))

  abbrev put : VoiceTick Slot → Voiced
  put r = voiced (put_core k ch r.voice) r.sides

  -- ---- each kind of voice
  silent : voiced k sides ≡ put (slot_tick_as version ram t sides Silent s)
  silent =
      let e : k.channels ≡ set k.channels ch c = sym (set-get_or k.channels ch no_channel) in
      λ i. voiced (record { channels = e i; fragments = fragments-back i; wavetables = wavetable-back i }) sides

  -- a voice that modulates itself sees itself as it stands
  itself : eqb (target_channel c.registers ch) ch ≡ true → target_for true t c.oscillator ≡ t
  itself e =
      let at : ℕ → Target = λ n. target_from (channel_at k n).oscillator version (channel_at k n).pcm.sample_control in
      let x : t ≡ at ch = ap at (eqb-true (target_channel c.registers ch) ch e) in
      ap (λ (u : Target). target_for true u c.oscillator) x ∙ sym x

  sound : ticks_as version ram q ch 1 kinds.Oscillator (voiced k sides) c ≡ put (slot_tick_as version ram t sides kinds.Oscillator s)
  unfolding slot_sound
  sound =
      let w = c.registers.waveform_type in
      let set = setting_of c.registers c.pcm.sample_control version in
      let v : Sound = record { oscillator = c.oscillator; sides = sides } in
      let n : ch % 8 ≡ ch = omega arith in
      let e : sound_ticks 1 w set c.pcm k.wavetables ram ch (eqb (target_channel c.registers ch) ch) t v ≡ sound_ticks 1 w set c.pcm (part k.wavetables (ch * 256) 256) ram 0 false t v =
      own-target w set c.pcm k.wavetables ram ch (eqb (target_channel c.registers ch) ch) t v itself
      ∙ own-table set (mask-small version c.pcm.sample_control) c.pcm k.wavetables ram ch w 1 false t v
      ∙ ap (λ (m : ℕ). sound_ticks 1 w set c.pcm (part k.wavetables (m * 256) 256) ram 0 false t v) n in
      λ i. voiced (record { channels = lib.ListN.set k.channels ch (after_sound c (e i)); fragments = fragments-back i; wavetables = wavetable-back i }) (e i).sides

  fifo : ticks_as version ram q ch 1 FifoDac (voiced k sides) c ≡ put (slot_tick_as version ram t sides FifoDac s)
  unfolding slot_fifo
  fifo =
      let r : QueueSound = queue_ticks 1 c.registers.frequency c.registers.panpot (part q (ch * fifo_capacity) fifo_capacity) (record { fifo = c.fifo; sides = sides }) in
      λ i. voiced (record { channels = set k.channels ch (after_queue c r); fragments = fragments-back i; wavetables = wavetable-back i }) r.sides

  stream : ticks_as version ram q ch 1 Sqv4 (voiced k sides) c ≡ put (slot_tick_as version ram t sides Sqv4 s)
  unfolding slot_stream
  stream =
      let e = stream-here version ram q ch here k sized sides in
      λ i. voiced (record { channels = set k.channels ch (after_stream c (e i).sound); fragments = (e i).samples; wavetables = wavetable-back i }) (e i).sound.sides

  -- ---- the tick
  by_kind : (m : Kind) → ticks_as version ram q ch 1 m (voiced k sides) c ≡ put (slot_tick_as version ram t sides m s)
  by_kind Silent = silent
  by_kind kinds.Oscillator = sound
  by_kind Sqv4 = stream
  by_kind FifoDac = fifo

  pub tick-put : voice_tick version ram q ch (voiced k sides) ≡ put (slot_tick version ram (plays.modulator slots version ram (slots_of k q) ch) sides s)
  unfolding voice_tick slot_tick
  tick-put = by_kind (kind_of c) ∙ ap (λ (u : Target). put (slot_tick_as version ram u sides (kind_of c) s)) same_seen

  -- ---- its value ahead of the volume
  value-sound : value_as version ram q ch kinds.Oscillator (voiced k sides) c ≡ (slot_tick_as version ram t sides kinds.Oscillator s).value
  unfolding slot_sound
  value-sound =
      let w = c.registers.waveform_type in
      let set = setting_of c.registers c.pcm.sample_control version in
      let n : ch % 8 ≡ ch = omega arith in
      ap (λ (u : Target). sound_value w set c.pcm k.wavetables ram ch u c.oscillator) (target-itself (eqb (target_channel c.registers ch) ch) t c.oscillator itself)
      ∙ own_value set (mask-small version c.pcm.sample_control) c.pcm k.wavetables ram ch w t c.oscillator
      ∙ ap (λ (m : ℕ). sound_value w set c.pcm (part k.wavetables (m * 256) 256) ram 0 t c.oscillator) n

  value-by : (m : Kind) → value_as version ram q ch m (voiced k sides) c ≡ (slot_tick_as version ram t sides m s).value
  unfolding slot_stream slot_fifo
  value-by Silent = refl
  value-by kinds.Oscillator = value-sound
  value-by Sqv4 = ap (λ (r : Lent). r.sound.voice.q8) (stream-here version ram q ch here k sized sides)
  value-by FifoDac = refl

  pub tick-value : tick_value version ram q ch (voiced k sides) ≡ (slot_tick version ram (plays.modulator slots version ram (slots_of k q) ch) sides s).value
  unfolding tick_value slot_tick
  tick-value = value-by (kind_of c) ∙ ap (λ (u : Target). (slot_tick_as version ram u sides (kind_of c) s).value) same_seen
