-- A list of calls, one after the other, each as the call that makes it alone. Registers are core 0's; the stems of the two cores stand in
-- two buffers, 16 a frame.
use Rattle.std.specs.Prelude.{Ok, ◌&&◌, List, ℕ, zero, suc, ◌+◌, ◌*◌, eqb, ℤ, length, get_or, set}
use Rattle.std.proofs.lemmas.List.Edits.{sets}
use Rattle.sizes.specs.Sizes.{stems_per_frame}
use Rattle.cores.specs.Sizes.{chip_queues, chip_stems}
use Rattle.tone.specs.Pcm.{is_ram_length}
use Rattle.num.specs.Lists.{part}
use Rattle.version.specs.Versions.{version_of}
use Rattle.version.specs.declared.SguVersion.{SguVersion}
use Rattle.frames.specs.declared.Asked.{Asked}
use Rattle.frames.specs.declared.Asked.TheVariants.{WriteRegister, WritePcmRam, Read, Peek, Clock, SetVersion, Nothing}
use Rattle.frames.specs.Listing.{asked_of, frames_asked, call_count}
use Rattle.s3w2.specs.declared.Returned.TheVariants.{Done}
use Rattle.s3w2.specs.declared.Called.{Called}
use Rattle.s3w2.specs.declared.Chip.{Chip}
use Rattle.s3w2.specs.Answers.{Checked, unless, answered, called, byte_answered}
use Rattle.s3w2.specs.Refusals.{accepts_chip, refusal, sound_refusal}
use Rattle.s3w2.specs.Fresh.{set_version_called}
use Rattle.s3w2.specs.Ram.{write_pcm_ram_called, write_pcm_ram_ram}
use Rattle.s3w2.specs.Registers.{write_register_called, write_register_buffer, read_register_called, peek_register_answer}
use Rattle.chip_sound.specs.Sound.{core_frames, clock_called}

-- a chip, what is lent to it, and the frames that it has clocked
pub record Playing : Type 0 where
  pub chip : Chip
  pub ram : List ℕ
  pub queues : List ℤ
  pub values : List ℕ
  pub stems : List ℤ
  pub others : List ℤ
  pub frames : ℕ

abbrev pub playing : Chip → List ℕ → List ℤ → List ℕ → List ℤ → List ℤ → Playing
playing chip ram queues values stems others = record { chip = chip; ram = ram; queues = queues; values = values; stems = stems; others = others; frames = 0 }

-- ---- one call
abbrev pub register_played : Playing → ℕ → ℕ → Playing
register_played s address value = record {
  chip = (write_register_called s.chip (length s.queues) 0 address value).chip;
  ram = s.ram;
  queues = write_register_buffer s.chip s.queues 0 address value;
  values = s.values;
  stems = s.stems;
  others = s.others;
  frames = s.frames;
}

abbrev pub byte_played : Playing → ℕ → ℕ → Playing
byte_played s address value = record {
  chip = (write_pcm_ram_called s.chip (length s.ram) address).chip;
  ram = write_pcm_ram_ram s.chip s.ram address value;
  queues = s.queues;
  values = s.values;
  stems = s.stems;
  others = s.others;
  frames = s.frames;
}

-- the byte that call i answers stands in the place of its value
abbrev pub shown_by : Playing → ℕ → Called → Playing
shown_by s i r = record {
  chip = r.chip;
  ram = s.ram;
  queues = s.queues;
  values = set s.values i (byte_answered r.answer);
  stems = s.stems;
  others = s.others;
  frames = s.frames;
}

-- core k's stem buffer: n frames' stems behind those of the clocks before it
abbrev pub stems_played : Playing → ℕ → ℕ → List ℤ → List ℤ
stems_played s n k stems =
    sets stems (stems_per_frame * s.frames)
    (unless (sound_refusal s.chip (length s.ram) (length s.queues)) (part stems (stems_per_frame * s.frames) (stems_per_frame * n))
    (core_frames s.chip s.ram s.queues n k).stems)

abbrev pub clock_played : Playing → ℕ → Playing
clock_played s n = record {
  chip = (clock_called s.chip s.ram s.queues n (chip_stems * n)).chip;
  ram = s.ram;
  queues = s.queues;
  values = s.values;
  stems = stems_played s n 0 s.stems;
  others = stems_played s n 1 s.others;
  frames = s.frames + n;
}

abbrev pub version_played : Playing → SguVersion → Playing
version_played s version = record {
  chip = (set_version_called s.chip version).chip;
  ram = s.ram;
  queues = s.queues;
  values = s.values;
  stems = s.stems;
  others = s.others;
  frames = s.frames;
}

-- ---- call after call
module _ (kinds addresses : List ℕ) where
  abbrev pub call_played : Asked → ℕ → Playing → Playing
  call_played WriteRegister i s = register_played s (get_or addresses i 0) (get_or s.values i 0)
  call_played WritePcmRam i s = byte_played s (get_or addresses i 0) (get_or s.values i 0)
  call_played Read i s = shown_by s i (read_register_called s.chip 0 (get_or addresses i 0))
  call_played Peek i s = shown_by s i (answered s.chip (peek_register_answer s.chip 0 (get_or addresses i 0)))
  call_played Clock i s = clock_played s (get_or addresses i 0)
  call_played SetVersion i s = version_played s (version_of (get_or addresses i 0))
  call_played Nothing i s = s

  -- the first n calls
  unfoldable pub calls_played : ℕ → Playing → Playing
  calls_played zero s = s
  calls_played (suc n) s = call_played (asked_of (get_or kinds n 0)) n (calls_played n s)

  -- ---- `play`: as many calls as there are kinds, addresses and values
  module _ (s : Playing) where
    abbrev pub play_refusal : Checked
    play_refusal =
        let frames = frames_asked kinds addresses 0 (call_count kinds addresses s.values) in
        refusal (is_ram_length (length s.ram)) (eqb (length s.queues) chip_queues) (accepts_chip s.chip (length s.ram))
        (eqb (length s.stems) (stems_per_frame * frames) && eqb (length s.others) (length s.stems))

    abbrev pub all_played : Playing
    all_played = calls_played (call_count kinds addresses s.values) s

    unfoldable pub play_called : Called
    play_called = called play_refusal s.chip (answered all_played.chip (Ok Done))

    -- what is lent, after the call
    unfoldable pub play_left : Playing
    play_left = unless play_refusal s all_played
