-- What a line does, and what it prints. Registers are core 0's.
use Rattle.std.specs.Prelude.{Result, Ok, Err, List, [], ℕ, min, ℤ, pos, length, replicate}
use Rattle.version.specs.Versions.{version_of}
use Rattle.log_lines.specs.declared.Line.{Line}
use Rattle.log_lines.specs.declared.Line.TheVariants.{Write, WriteRam, Read, Peek, Clock, Version}
use Rattle.log_lines.specs.declared.LineFault.{LineFault}
use Rattle.log_lines.specs.Texts.{frame_lines, read_back_line, peak_of}
use Rattle.s3w2.specs.declared.Chip.{Chip}
use Rattle.s3w2.specs.Answers.{byte_answered}
use Rattle.s3w2.specs.Fresh.{set_version_called}
use Rattle.s3w2.specs.Ram.{write_pcm_ram_called, write_pcm_ram_ram}
use Rattle.s3w2.specs.Registers.{write_register_called, write_register_buffer, read_register_called, peek_register_answer}
use Rattle.sides.specs.Sides.{wrapping}
use Rattle.chip_sound.specs.Mixing.{mixed_i32_called, mixed_left, mixed_right}
use Rattle.log_player.specs.declared.Player.{Player}
use Rattle.log_player.specs.Worlds.{World, world, with_chip}

-- ---- frames added to two sides, not clamped
module _ (chip : Chip) (ram : List ℕ) (queues left right : List ℤ) where
  abbrev pub left_side : List ℤ
  left_side = mixed_left wrapping chip ram queues left right

  abbrev pub right_side : List ℤ
  right_side = mixed_right wrapping chip ram queues left right

  -- what they print
  unfoldable pub clocked_text : List ℕ
  clocked_text = frame_lines left_side right_side (min (length left_side) (length right_side))

-- the player after them
unfoldable pub clocked_player : Player → List ℕ → List ℤ → List ℤ → List ℤ → Player
clocked_player p ram queues left right = record {
  chip = (mixed_i32_called p.chip ram queues left right).chip;
  left = peak_of p.left (left_side p.chip ram queues left right) (length (left_side p.chip ram queues left right));
  right = peak_of p.right (right_side p.chip ram queues left right) (length (right_side p.chip ram queues left right));
}

-- a side of zeros: a line has at most 1,000 frames
abbrev pub silent : ℕ → List ℤ
silent n = replicate (min n 1000) (pos 0)

-- ---- a line: the world after it, and what it prints
pub record Effect : Type 0 where
  pub after : World
  pub text : List ℕ

abbrev pub effect : Player → List ℕ → List ℤ → List ℕ → Effect
effect player ram queues text = record { after = world player ram queues; text = text }

-- `R` is 82, `P` is 80; a bad line does nothing
unfoldable pub effect_of : World → Result Line LineFault → Effect
effect_of w (Ok (Write a v)) =
    effect (with_chip w.player (write_register_called w.player.chip (length w.queues) 0 a v).chip) w.ram (write_register_buffer w.player.chip w.queues 0 a v) []
effect_of w (Ok (WriteRam a v)) =
    effect (with_chip w.player (write_pcm_ram_called w.player.chip (length w.ram) a).chip) (write_pcm_ram_ram w.player.chip w.ram a v) w.queues []
effect_of w (Ok (Read a)) =
    let called = read_register_called w.player.chip 0 a in
    effect (with_chip w.player called.chip) w.ram w.queues (read_back_line 82 a (byte_answered called.answer))
effect_of w (Ok (Peek a)) = effect w.player w.ram w.queues (read_back_line 80 a (byte_answered (peek_register_answer w.player.chip 0 a)))
effect_of w (Ok (Clock n)) =
    effect (clocked_player w.player w.ram w.queues (silent n) (silent n)) w.ram w.queues (clocked_text w.player.chip w.ram w.queues (silent n) (silent n))
effect_of w (Ok (Version v)) = effect (with_chip w.player (set_version_called w.player.chip (version_of v)).chip) w.ram w.queues []
effect_of w (Err why) = effect w.player w.ram w.queues []

abbrev pub after_line : World → Result Line LineFault → World
after_line w line = (effect_of w line).after

abbrev pub printed : World → Result Line LineFault → List ℕ
printed w line = (effect_of w line).text
