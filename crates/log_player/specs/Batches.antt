-- Lines as the calls of a list, many at a time.
use Rattle.std.specs.Prelude.{◌≡◌, Result, Ok, Err, Bool, false, List, [], ◌++◌, ℕ, zero, suc, ◌+◌, ◌*◌, ◌≤◌, ◌<◌, min, ℤ, pos, length, drop, get_or, replicate}
use Rattle.sizes.specs.Sizes.{stems_per_frame}
use Rattle.num.specs.Lists.{part}
use Rattle.output.specs.declared.Output.{Output}
use Rattle.output.specs.Output.{Puts}
use Rattle.frames.specs.declared.Asked.{Asked}
use Rattle.frames.specs.declared.Asked.TheVariants as asked
use Rattle.frames.specs.Listing.{write_register_kind, write_pcm_ram_kind, read_register_kind, peek_register_kind, clock_kind, set_version_kind, asked_of, clocked_by, frames_asked}
use Rattle.log_lines.specs.declared.Line.{Line}
use Rattle.log_lines.specs.declared.Line.TheVariants.{Write, WriteRam, Read, Peek, Clock, Version}
use Rattle.log_lines.specs.declared.LineFault.{LineFault}
use Rattle.log_lines.specs.declared.LineFault.TheVariants.{Malformed}
use Rattle.log_lines.specs.Texts.{frame_lines, read_back_line}
use Rattle.log_player.specs.declared.ListedCall.{ListedCall}
use Rattle.log_player.specs.declared.Player.{Player}
use Rattle.log_player.specs.declared.Ran.{Ran}
use Rattle.log_player.specs.Worlds.{World}
use Rattle.log_player.specs.Applied.{Effect, effect_of}
use Rattle.log_player.specs.Steps.{Next, next_of}
use Rattle.log_player.specs.Runs.{spot, is_line, stop_text, run_from, refused_by, ran_as}

-- ---- the call that a line makes: kind, address, value; a bad line makes none
abbrev pub call_made : ℕ → ℕ → ℕ → ListedCall
call_made kind address value = record { kind = kind; address = address; value = value }

abbrev pub line_call : Line → ListedCall
line_call (Write address value) = call_made write_register_kind address value
line_call (WriteRam address value) = call_made write_pcm_ram_kind address value
line_call (Read address) = call_made read_register_kind address 0
line_call (Peek address) = call_made peek_register_kind address 0
line_call (Clock frames) = call_made clock_kind frames 0
line_call (Version version) = call_made set_version_kind version 0

abbrev pub listed_call : Result Line LineFault → Result ListedCall LineFault
listed_call (Ok line) = Ok (line_call line)
listed_call (Err why) = Err why

-- the line that a call stands for
abbrev pub line_as : Asked → ℕ → ℕ → Result Line LineFault
line_as asked.WriteRegister address value = Ok (Write address value)
line_as asked.WritePcmRam address value = Ok (WriteRam address value)
line_as asked.Read address value = Ok (Read address)
line_as asked.Peek address value = Ok (Peek address)
line_as asked.Clock address value = Ok (Clock address)
line_as asked.SetVersion address value = Ok (Version address)
line_as asked.Nothing address value = Err Malformed

unfoldable pub line_of : ℕ → ℕ → ℕ → Result Line LineFault
line_of kind address value = line_as (asked_of kind) address value

-- the first n lines of a list: the world after them, and what they print
unfoldable pub lines_effect : List ℕ → List ℕ → List ℕ → ℕ → World → Effect
lines_effect kinds addresses values zero w = record { after = w; text = [] }
lines_effect kinds addresses values (suc n) w =
    let before = lines_effect kinds addresses values n w in
    let e = effect_of before.after (line_of (get_or kinds n 0) (get_or addresses n 0) (get_or values n 0)) in
    record { after = e.after; text = before.text ++ e.text }

-- they print at most so many bytes
unfoldable pub most_printed : List ℕ → List ℕ → ℕ → ℕ
most_printed kinds addresses n = 17 * n + 16 * frames_asked kinds addresses 0 n

-- ---- what a call that was made prints: by the byte that it answered, or its frames' two sides
abbrev pub shown_as : Asked → ℕ → ℕ → List ℤ → List ℤ → List ℕ
shown_as asked.WriteRegister address value left right = []
shown_as asked.WritePcmRam address value left right = []
shown_as asked.Read address value left right = read_back_line 82 address value
shown_as asked.Peek address value left right = read_back_line 80 address value
shown_as asked.Clock address value left right = frame_lines left right (min (length left) (length right))
shown_as asked.SetVersion address value left right = []
shown_as asked.Nothing address value left right = []

unfoldable pub shown_line : ℕ → ℕ → ℕ → List ℤ → List ℤ → List ℕ
shown_line kind address value left right = shown_as (asked_of kind) address value left right

-- the first n: each clock has its own part of the sides
unfoldable pub calls_shown : List ℕ → List ℕ → List ℕ → List ℤ → List ℤ → ℕ → List ℕ
calls_shown kinds addresses values left right zero = []
calls_shown kinds addresses values left right (suc n) =
    let frame = frames_asked kinds addresses 0 n in
    let frames = clocked_by kinds addresses n in
    calls_shown kinds addresses values left right n
    ++ shown_line (get_or kinds n 0) (get_or addresses n 0) (get_or values n 0) (part left frame frames) (part right frame frames)

-- each of the first n lines ends within these bytes
abbrev pub Short : List ℕ → List ℕ → List ℕ → List ℤ → List ℤ → ℕ → Type 0
Short kinds addresses values left right n = (j : ℕ) → j ≤ n → length (calls_shown kinds addresses values left right j) ≤ most_printed kinds addresses j

-- ---- an input holds n lines from one place to another, none of them bad: a run that has room for each plays them and goes on behind them. Each but the first
-- begins where at most `budget` bytes are printed.
pub record Gathers (input : List ℕ) (from behind n budget : ℕ) (kinds addresses values : List ℕ) : Type 0 where
  pub within : (j : ℕ) → j < n → most_printed kinds addresses j ≤ budget
  pub few : frames_asked kinds addresses 0 n ≤ 1000
  pub left : (room : ℕ) (w : World) (number : ℕ) (text : List ℕ) → number + n ≤ 18446744073709551615
      → ((j : ℕ) → j < n → length text + length (lines_effect kinds addresses values j w).text + 16384 ≤ room)
      → run_from room input (spot w number from text)
      ≡ run_from room input (spot (lines_effect kinds addresses values n w).after (number + n) behind (text ++ (lines_effect kinds addresses values n w).text))

-- no line is played from a place on
abbrev pub NoLine : List ℕ → ℕ → Type 0
NoLine input from = is_line (next_of (drop from input) from) ≡ false

-- ---- buffers for the frames that a list clocks
pub record Silent (kinds addresses values : List ℕ) (stems others left right : List ℤ) : Type 0 where
  pub many : (length addresses ≡ length kinds) × (length values ≡ length kinds)
  pub few : frames_asked kinds addresses 0 (length kinds) ≤ 1000
  pub stemmed : stems ≡ replicate (stems_per_frame * frames_asked kinds addresses 0 (length kinds)) (pos 0)
  pub second : others ≡ replicate (stems_per_frame * frames_asked kinds addresses 0 (length kinds)) (pos 0)
  pub lefts : left ≡ replicate (frames_asked kinds addresses 0 (length kinds)) (pos 0)
  pub rights : right ≡ replicate (frames_asked kinds addresses 0 (length kinds)) (pos 0)

-- a list's lines played: the world after them, the text put, calls still not refused
pub record PlaysLines (kinds addresses values : List ℕ) (w next : World) (out now : Output) : Type 0 where
  pub after : next ≡ (lines_effect kinds addresses values (length kinds) w).after
  pub put : Puts out now (lines_effect kinds addresses values (length kinds) w).text
  pub short : (j : ℕ) → j ≤ length kinds → length (lines_effect kinds addresses values j w).text ≤ most_printed kinds addresses j
  pub accepted : refused_by next ≡ 0

-- some lines played, behind some text: a run of such a text goes on behind them; where there are none, none is next
pub record Batches (input : List ℕ) (w : World) (number from : ℕ) (next : World) (line behind : ℕ) (out now : Output) : Type 0 where
  pub text : List ℕ
  pub put : Puts out now text
  pub short : out.at + length text ≤ length out.buffer.now
  pub left : (before : List ℕ) → length before ≡ out.at → run_from (length out.buffer.now) input (spot w number from before) ≡ run_from (length out.buffer.now) input (spot next line behind (before ++ text))
  pub on : number ≤ line
  pub stops : line ≡ number → NoLine input behind × (now.at + 16384 ≤ length out.buffer.now)
  pub accepted : refused_by next ≡ 0

-- a run ends where no line is played: what is there, and what is put of it
pub record Stops (next : Next) (p : Player) (from number : ℕ) (out now : Output) (r : Ran) : Type 0 where
  pub is : r ≡ ran_as p next from number now.at
  pub put : Puts out now (stop_text number next)
  pub short : length (stop_text number next) ≤ 29
