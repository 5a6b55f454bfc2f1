-- The calls of demand 3, and what each leaves and answers, over a model of voices: the chip over slots, the plain chip over plain voices.
-- Voice v, 0 to 15, is channel v % 8 of core v / 8.
use Rattle.std.specs.Prelude.{Bool, false, cond, List, [], ◌∷◌, ℕ, ◌*◌, ◌/◌, ◌%◌, eqb, leb, ℤ, length, get_or}
use Rattle.std.proofs.lemmas.List.Edits.{sets}
use Rattle.sizes.specs.Sizes.{num_channels}
use Rattle.cores.specs.Sizes.{chip_voices, chip_stems}
use Rattle.endings.specs.Sets.{off, set_of}
use Rattle.version.specs.declared.SguVersion.{SguVersion}
use Rattle.sides.specs.Sides.{saturating, wrapping}
use Rattle.plain_chip.specs.Models.{Model}
use Rattle.plain_chip.specs.Chips.{load_voice}
use Rattle.plain_chip.specs.Chips as chips
use Rattle.pair_chip.specs.Pairs.{Pair, on_core, of_core, on_all, fields_at, core_tick, ticked, framed, frames_stems, frames_values}
use Rattle.call_lists.specs.Runs.{Outcome}
use Rattle.call_lists.specs.Mixing.{served, mixed_side, cleared_to}
use Rattle.call_lists.specs.Texts.{Texts, VoiceRead, voice, queued, HeadRead, head, sized}

-- the core comes first; stems, sides and texts come with the call
pub data Call : Type 0 where
  reset : Call
  set_version : SguVersion → Call
  reset_channel : ℕ → ℕ → Call
  write_register : ℕ → ℕ → ℕ → Call
  read_register : ℕ → ℕ → Call
  peek_register : ℕ → ℕ → Call
  write_channel_control : ℕ → ℕ → ℕ → ℕ → Call
  read_channel_control : ℕ → ℕ → ℕ → Call
  write_channel_pcm_reg : ℕ → ℕ → ℕ → ℕ → Call
  read_channel_pcm_reg : ℕ → ℕ → ℕ → Call
  write_channel_wavetable : ℕ → ℕ → ℕ → ℕ → Call
  read_channel_wavetable : ℕ → ℕ → ℕ → Call
  wavetable_length : ℕ → ℕ → Call
  interpolates : ℕ → ℕ → Call
  write_pcm_ram : ℕ → ℕ → Call
  read_pcm_ram : ℕ → Call
  generate_sample : ℕ → ℕ → Call
  clock : ℕ → List ℤ → Call
  clock_mixed : List ℤ → List ℤ → Call
  clock_mixed_into : List ℤ → List ℤ → Call
  clock_mixed_into_i32 : List ℤ → List ℤ → Call
  write_head : List ℕ → Call
  read_head : List ℕ → Call
  write_voice : ℕ → List ℕ → Call
  read_voice : List ℕ → Call
  read_stored_voice : List ℕ → Call

-- a refusal has document 01's number, and then its values
pub data Reply : Type 0 where
  done : Reply
  byte : ℕ → Reply
  count : ℕ → Reply
  flag : Bool → Reply
  -- a tick's sample, and whether it turned its voice off
  sample : ℤ → Bool → Reply
  -- the voices that frames turned off
  ended : ℕ → Reply
  refused : List ℕ → Reply

-- the lent stems or sides and the lent text as the call left them, and the values ahead of the volume of its ticks
pub record CallAnswer : Type 0 where
  pub reply : Reply
  pub sides : List (List ℤ)
  pub text : List ℕ
  pub values : List ℤ

abbrev pub replies : Reply → CallAnswer
replies r = record { reply = r; sides = []; text = []; values = [] }

abbrev pub plays : Reply → List (List ℤ) → List ℤ → CallAnswer
plays r sides values = record { reply = r; sides = sides; text = []; values = values }

-- a line written to the start of a lent text, or refused
abbrev pub line_answer : List ℕ → List ℕ → CallAnswer
line_answer line out =
    cond (leb (length line) (length out)) (record { reply = count (length line); sides = []; text = sets out 0 line; values = [] })
    (record { reply = refused (15 ∷ []); sides = []; text = out; values = [] })

module _ {A : Type 0} (m : Model A) (t : Texts) where
  abbrev pub gives : Pair A → CallAnswer → Outcome (Pair A) CallAnswer
  gives c a = record { next = c; answer = a }

  -- whether a voice was active and is so no more; the voices of which that is true
  abbrev pub ended_at : Pair A → Pair A → ℕ → ℕ → Bool
  ended_at c d core ch = off (fields_at m c core ch).pcm.active (fields_at m d core ch).pcm.active

  abbrev pub ended_in : Pair A → Pair A → ℕ
  ended_in c d = set_of chip_voices (λ v. ended_at c d (v / num_channels) (v % num_channels))

  -- a head that tells the length of another RAM is turned away
  abbrev pub head_told : Pair A → HeadRead → Outcome (Pair A) CallAnswer
  head_told c (head version) = gives (on_all (chips.set_version m version) c) (replies done)
  head_told c (sized version size) = cond (eqb size (length c.ram)) (gives (on_all (chips.set_version m version) c) (replies done)) (gives c (replies (refused (22 ∷ []))))
  head_told c (HeadRead.faulty field) = gives c (replies (refused (16 ∷ field ∷ [])))

  abbrev pub voice_told : Pair A → VoiceRead → Outcome (Pair A) CallAnswer
  voice_told c (voice v fields) = gives (on_core (v / num_channels) (load_voice m (v % num_channels) fields) c) (replies done)
  voice_told c (VoiceRead.faulty field) = gives c (replies (refused (16 ∷ field ∷ [])))
  voice_told c queued = gives c (replies (refused (23 ∷ [])))

  abbrev pub clocks : ℕ → List ℤ → Pair A → Outcome (Pair A) CallAnswer
  clocks n stems c =
      cond (eqb (length stems) (chip_stems * n)) (gives (framed m n c) (plays (ended (ended_in c (framed m n c))) (frames_stems m n c ∷ []) (frames_values m n c)))
      (gives c (plays (refused (14 ∷ [])) (stems ∷ []) []))

  abbrev pub mixes : (ℤ → ℤ → ℤ) → Pair A → List ℤ → List ℤ → Reply → Outcome (Pair A) CallAnswer
  mixes plus c left right reply =
      let n = served left right in
      gives (framed m n c) (plays reply (mixed_side m plus n c 0 left ∷ mixed_side m plus n c 1 right ∷ []) (frames_values m n c))

  unfoldable pub run : Pair A → Call → Outcome (Pair A) CallAnswer
  run c reset = gives (on_all (chips.reset m) c) (replies done)
  run c (set_version version) = gives (on_all (chips.set_version m version) c) (replies done)
  run c (reset_channel core ch) = gives (on_core core (chips.reset_channel m ch) c) (replies done)
  run c (write_register core address value) = gives (on_core core (chips.write_register m address value) c) (replies done)
  run c (read_register core address) = gives (on_core core (chips.after_read_register m address) c) (replies (byte (of_core core 0 (chips.peek_register m address) c)))
  run c (peek_register core address) = gives c (replies (byte (of_core core 0 (chips.peek_register m address) c)))
  run c (write_channel_control core ch offset value) = gives (on_core core (chips.write_channel_control m ch offset value) c) (replies done)
  run c (read_channel_control core ch offset) = gives (on_core core (chips.after_read_channel m ch offset) c) (replies (byte (of_core core 0 (chips.read_channel_control m ch offset) c)))
  run c (write_channel_pcm_reg core ch offset value) = gives (on_core core (chips.write_channel_pcm_reg m ch offset value) c) (replies done)
  run c (read_channel_pcm_reg core ch offset) = gives c (replies (byte (of_core core 0 (chips.read_channel_pcm_reg m ch offset) c)))
  run c (write_channel_wavetable core ch at value) = gives (on_core core (chips.write_channel_wavetable m ch at value) c) (replies done)
  run c (read_channel_wavetable core ch at) = gives c (replies (byte (of_core core 0 (chips.read_channel_wavetable m ch at) c)))
  run c (wavetable_length core ch) = gives c (replies (count (of_core core 0 (chips.wavetable_length m ch) c)))
  run c (interpolates core ch) = gives c (replies (flag (of_core core false (chips.interpolates_at m ch) c)))
  run c (write_pcm_ram address value) = gives (on_all (chips.write_pcm_ram m address value) c) (replies done)
  run c (read_pcm_ram address) = gives c (replies (byte (get_or c.ram address 0)))
  run c (generate_sample core ch) =
      let d = ticked m ch core c in
      gives d (plays (sample (core_tick m ch core c).sample (ended_at c d core ch)) [] (core_tick m ch core c).values)
  run c (clock n stems) = clocks n stems c
  run c (clock_mixed left right) =
      let n = served left right in
      mixes saturating c (cleared_to n left) (cleared_to n right) done
  run c (clock_mixed_into left right) = mixes saturating c left right done
  run c (clock_mixed_into_i32 left right) = mixes wrapping c left right (ended (ended_in c (framed m (served left right) c)))
  run c (write_head out) = gives c (line_answer (t.head_text c.version (length c.ram)) out)
  run c (read_head text) = head_told c (t.read_head text)
  run c (write_voice v out) = gives c (line_answer (t.voice_text v (fields_at m c (v / num_channels) (v % num_channels))) out)
  run c (read_voice text) = voice_told c (t.read_voice c.version text)
  run c (read_stored_voice text) = voice_told c (t.read_stored c.version text)
