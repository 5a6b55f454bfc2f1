-- What is compared after each call, a session's reading by a second chip, and the calls' arguments.
use Rattle.std.specs.Prelude.{List, [], ◌∷◌, ◌++◌, map, ℕ, suc, ◌<◌, length}
use Rattle.version.specs.declared.SguVersion.{SguVersion}
use Rattle.plain_chip.specs.Voices.{PlainVoice}
use Rattle.plain_chip.specs.Models.{Model}
use Rattle.pair_chip.specs.Pairs.{Pair, core_of}
use Rattle.call_lists.specs.Texts.{Texts}
use Rattle.call_lists.specs.Calls.{Call, reset, set_version, reset_channel, write_register, read_register, peek_register, write_channel_control, read_channel_control, write_channel_pcm_reg, read_channel_pcm_reg, write_channel_wavetable, read_channel_wavetable, wavetable_length, interpolates, write_pcm_ram, read_pcm_ram, generate_sample, clock, clock_mixed, clock_mixed_into, clock_mixed_into_i32, write_head, read_head, write_voice, read_voice, read_stored_voice}

-- the session text, head and voice lines, and the RAM
pub record Seen : Type 0 where
  pub head : List ℕ
  pub lines : List (List ℕ)
  pub ram : List ℕ

-- a line for each voice, from voice k up
abbrev pub lines_from : Texts → ℕ → List PlainVoice → List (List ℕ)
lines_from t k [] = []
lines_from t k (v ∷ l) = t.voice_text k v ∷ lines_from t (suc k) l

abbrev pub seen_of : Texts → SguVersion → List ℕ → List PlainVoice → Seen
seen_of t version ram voices = record { head = t.head_text version (length ram); lines = lines_from t 0 voices; ram = ram }

-- the session's fields of the voices: core 0's, then core 1's
abbrev pub voices : {A : Type 0} → Model A → Pair A → List PlainVoice
voices m c = map m.session (core_of c 0 ++ core_of c 1)

abbrev pub seen_over : {A : Type 0} → Model A → Texts → Pair A → Seen
seen_over m t c = seen_of t c.version c.ram (voices m c)

-- arguments that are bytes: a byte that is written, an offset in a wavetable
abbrev pub FitCall : Call → Type 0
FitCall reset = Unit {0}
FitCall (set_version version) = Unit {0}
FitCall (reset_channel core ch) = Unit {0}
FitCall (write_register core address value) = value < 256
FitCall (read_register core address) = Unit {0}
FitCall (peek_register core address) = Unit {0}
FitCall (write_channel_control core ch offset value) = value < 256
FitCall (read_channel_control core ch offset) = Unit {0}
FitCall (write_channel_pcm_reg core ch offset value) = value < 256
FitCall (read_channel_pcm_reg core ch offset) = Unit {0}
FitCall (write_channel_wavetable core ch at value) = (at < 256) × (value < 256)
FitCall (read_channel_wavetable core ch at) = at < 256
FitCall (wavetable_length core ch) = Unit {0}
FitCall (interpolates core ch) = Unit {0}
FitCall (write_pcm_ram address value) = value < 256
FitCall (read_pcm_ram address) = Unit {0}
FitCall (generate_sample core ch) = Unit {0}
FitCall (clock n stems) = Unit {0}
FitCall (clock_mixed left right) = Unit {0}
FitCall (clock_mixed_into left right) = Unit {0}
FitCall (clock_mixed_into_i32 left right) = Unit {0}
FitCall (write_head out) = Unit {0}
FitCall (read_head text) = Unit {0}
FitCall (write_voice v out) = Unit {0}
FitCall (read_voice text) = Unit {0}
FitCall (read_stored_voice text) = Unit {0}
