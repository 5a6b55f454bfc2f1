-- The lines of an input taken as calls, one after the other.
use Rattle.std.specs.Prelude.{Result, Ok, Err, Bool, false, cond, List, ℕ, zero, suc, ◌+◌, leb, length, drop, set}
use Rattle.log_lines.specs.Lines.{parsed_line}
use Rattle.log_lines.specs.declared.LineFault.{LineFault}
use Rattle.frames.specs.Listing.{asked_of, clocked_as}
use Rattle.log_player.specs.declared.ListedCall.{ListedCall}
use Rattle.log_player.specs.Batches.{call_made, listed_call}
use Rattle.log_player.specs.Steps.{first_line, next_of}
use Rattle.log_player.specs.Runs.{is_line}
use Rattle.log_sound.specs.declared.Gathered.{Gathered}

-- the frames that a call clocks
unfoldable pub frames_made : ListedCall → ℕ
frames_made call = clocked_as (asked_of call.kind) call.address

-- so many lines taken, which clock so many frames, the place behind them, and the lists of their calls
pub record Gathering : Type 0 where
  pub count : ℕ
  pub frames : ℕ
  pub from : ℕ
  pub kinds : List ℕ
  pub addresses : List ℕ
  pub values : List ℕ

abbrev pub gathering : ℕ → ℕ → ℕ → List ℕ → List ℕ → List ℕ → Gathering
gathering count frames from kinds addresses values = record { count = count; frames = frames; from = from; kinds = kinds; addresses = addresses; values = values }

-- a bad line makes none, which kind 6 stands for
abbrev pub call_or_none : Result ListedCall LineFault → ListedCall
call_or_none (Ok call) = call
call_or_none (Err why) = call_made 6 0 0

module _ (input : List ℕ) (room : ℕ) where
  abbrev pub line_there : Gathering → List ℕ
  line_there g = first_line (drop g.from input)

  abbrev pub call_there : Gathering → ListedCall
  call_there g = call_or_none (listed_call (parsed_line (line_there g)))

  -- whether the line there is taken: it is whole, it is not bad, and there is room for its frames
  unfoldable pub takes : Gathering → Bool
  takes g = cond (is_line (next_of (drop g.from input) g.from)) (leb (g.frames + frames_made (call_there g)) room) false

  -- with it
  unfoldable pub with_line : Gathering → Gathering
  with_line g =
      gathering (suc g.count) (g.frames + frames_made (call_there g)) (g.from + length (line_there g) + 1)
      (set g.kinds g.count (call_there g).kind) (set g.addresses g.count (call_there g).address) (set g.values g.count (call_there g).value)

  -- line after line, at most so many
  unfoldable pub gathered : ℕ → Gathering → Gathering
  gathered zero g = g
  gathered (suc n) g = cond (takes g) (gathered n (with_line g)) g

-- at most 256 from a place on
abbrev pub list_from : List ℕ → ℕ → ℕ → List ℕ → List ℕ → List ℕ → Gathering
list_from input room from kinds addresses values = gathered input room 256 (gathering 0 0 from kinds addresses values)

abbrev pub gathered_as : ℕ → ℕ → ℕ → Gathered
gathered_as count frames from = record { count = count; frames = frames; from = from }

-- what is told of it
abbrev pub gathered_told : Gathering → Gathered
gathered_told g = gathered_as g.count g.frames g.from
