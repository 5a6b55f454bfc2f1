-- A core over a model of voices: eight voices with the version and the RAM, and what each call does to them.
use Rattle.std.specs.Prelude.{Bool, true, false, cond, List, map, ℕ, ◌+◌, ◌-◌, ◌/◌, ◌%◌, eqb, ltb, length, get_or, set, replicate}
use Rattle.sizes.specs.Sizes.{num_channels, registers_end, wavetables_size}
use Rattle.version.specs.Versions.{has3ws8pna, has_sample_control, interpolates, wavetable_mask_of}
use Rattle.version.specs.declared.SguVersion.{SguVersion}
use Rattle.registers.specs.Pcm.{read_pcm}
use Rattle.plain_chip.specs.Voices.{PlainVoice, plain_read}
use Rattle.plain_chip.specs.Models.{Model}
use Rattle.plain_chip.specs.Frames.{ModelTurns, no_turn, turned, frames}
use Rattle.plain_chip.specs.Lists.{adjust}

pub record ModelChip (A : Type 0) : Type 0 where
  pub version : SguVersion
  pub ram : List ℕ
  pub voices : List A

abbrev pub with_voices : {A : Type 0} → ModelChip A → List A → ModelChip A
with_voices c l = record { version = c.version; ram = c.ram; voices = l }

-- 0x800 to 0x8FF are eight blocks of 32; offsets 0 to 15 and 26 of a block are control registers
abbrev pub channel_of : ℕ → ℕ
channel_of address = address / 32 % num_channels

abbrev pub offset_of : ℕ → ℕ
offset_of address = address % 32

abbrev pub is_control : ℕ → Bool
is_control offset = cond (ltb offset 16) true (eqb offset 26)

module _ {A : Type 0} (m : Model A) where
  -- the session's fields of a voice
  abbrev pub fields_at : ModelChip A → ℕ → PlainVoice
  fields_at c ch = m.session (get_or c.voices ch m.absent)

  abbrev pub changed : ModelChip A → ℕ → (A → A) → ModelChip A
  changed c ch f = with_voices c (adjust m.absent ch f c.voices)

  -- a voice read from a session
  abbrev pub load_voice : ℕ → PlainVoice → ModelChip A → ModelChip A
  load_voice ch fields c = changed c ch (m.load fields)

  -- ---- the whole chip
  unfoldable pub reset : ModelChip A → ModelChip A
  reset c = record { version = c.version; ram = replicate (length c.ram) 0; voices = map m.reset c.voices }

  unfoldable pub set_version : SguVersion → ModelChip A → ModelChip A
  set_version version c = record { version = version; ram = c.ram; voices = map (m.set_version version) c.voices }

  -- ---- one voice; one above 7 is none
  unfoldable pub reset_channel : ℕ → ModelChip A → ModelChip A
  reset_channel ch c = changed c ch m.reset

  unfoldable pub write_channel_control : ℕ → ℕ → ℕ → ModelChip A → ModelChip A
  write_channel_control ch offset value c = changed c ch (m.write_control c.version offset value)

  unfoldable pub write_channel_pcm_reg : ℕ → ℕ → ℕ → ModelChip A → ModelChip A
  write_channel_pcm_reg ch offset value c = changed c ch (m.write_pcm offset value)

  unfoldable pub write_channel_wavetable : ℕ → ℕ → ℕ → ModelChip A → ModelChip A
  write_channel_wavetable ch at value c = changed c ch (m.write_wave at value)

  unfoldable pub after_read_channel : ℕ → ℕ → ModelChip A → ModelChip A
  after_read_channel ch offset c = changed c ch (m.after_read offset)

  unfoldable pub read_channel_control : ℕ → ℕ → ModelChip A → ℕ
  read_channel_control ch offset c = cond (ltb ch num_channels) (plain_read c.version offset (fields_at c ch)) 0

  unfoldable pub read_channel_pcm_reg : ℕ → ℕ → ModelChip A → ℕ
  read_channel_pcm_reg ch offset c = cond (ltb ch num_channels) (read_pcm (fields_at c ch).pcm offset) 0

  unfoldable pub read_channel_wavetable : ℕ → ℕ → ModelChip A → ℕ
  read_channel_wavetable ch at c = cond (ltb ch num_channels) (get_or (fields_at c ch).wavetable at 0) 0

  -- above 7, where sample control is not looked at, as the version has it, and 0 and no under V3.1
  unfoldable pub wavetable_length : ℕ → ModelChip A → ℕ
  wavetable_length ch c =
      cond (ltb ch num_channels) (wavetable_mask_of c.version (fields_at c ch).pcm.sample_control + 1) (cond (has_sample_control c.version) 0 256)

  unfoldable pub interpolates_at : ℕ → ModelChip A → Bool
  interpolates_at ch c =
      cond (ltb ch num_channels) (interpolates c.version (fields_at c ch).pcm.sample_control) (cond (has_sample_control c.version) false (has3ws8pna c.version))

  -- ---- the registers by address: wavetables to 0x7FF, blocks to 0x8FF, nothing above
  unfoldable pub write_register : ℕ → ℕ → ModelChip A → ModelChip A
  write_register address value c =
      let offset = offset_of address in
      cond (ltb address wavetables_size) (write_channel_wavetable (address / 256) (address % 256) value c)
      (cond (ltb address registers_end)
      (cond (is_control offset) (write_channel_control (channel_of address) offset value c) (write_channel_pcm_reg (channel_of address) (offset - 16) value c))
      c)

  unfoldable pub peek_register : ℕ → ModelChip A → ℕ
  peek_register address c =
      cond (ltb address wavetables_size) (read_channel_wavetable (address / 256) (address % 256) c)
      (cond (ltb address registers_end) (read_channel_control (channel_of address) (offset_of address) c)
      0)

  -- a read gives what a peek gives, and leaves this
  unfoldable pub after_read_register : ℕ → ModelChip A → ModelChip A
  after_read_register address c =
      cond (ltb address wavetables_size) c
      (cond (ltb address registers_end) (after_read_channel (channel_of address) (offset_of address) c)
      c)

  -- ---- the RAM; past its end nothing is written
  unfoldable pub write_pcm_ram : ℕ → ℕ → ModelChip A → ModelChip A
  write_pcm_ram address value c =
      cond (ltb address (length c.ram)) (record { version = c.version; ram = set c.ram address value; voices = map (m.poked address) c.voices }) c

  -- ---- sound: `generate_sample` is one tick of one voice, `clock` some frames of all
  unfoldable pub generated : ℕ → ModelChip A → ModelTurns A
  generated ch c = cond (ltb ch num_channels) (turned m c.version c.ram ch 1 1 c.voices) (no_turn c.voices)

  abbrev pub after_generated : ℕ → ModelChip A → ModelChip A
  after_generated ch c = with_voices c (generated ch c).voices

  unfoldable pub clocked : ℕ → ModelChip A → ModelTurns A
  clocked n c = frames m c.version c.ram n c.voices

  abbrev pub after_clocked : ℕ → ModelChip A → ModelChip A
  after_clocked n c = with_voices c (clocked n c).voices
