-- A timed log played, turn by turn: what was written out is played, and where nothing is left of it, lines are written out.
use Rattle.std.specs.Prelude.{Ok, Some, None, Err, cond, List, [], ℕ, ◌-◌, min, eqb, ltb, length, drop, ℤ}
use Rattle.std.proofs.lemmas.List.Edits.{sets}
use Rattle.num.specs.Lists.{part}
use Rattle.log_player.specs.Steps.{Next}
use Rattle.log_player.specs.declared.Stop.TheVariants.{Bad, Refused}
use Rattle.log_player.specs.Worlds.{World, world, fresh_player, made_player}
use Rattle.log_player.specs.Runs.{spot, Run, log_run, stop_text}
use Rattle.timed_log.specs.declared.Clockwork.{Clockwork}
use Rattle.timed_log.specs.declared.Timed.{Timed}
use Rattle.timed_log.specs.declared.MadeTimed.{MadeTimed}
use Rattle.timed_log.specs.declared.TimedRan.{TimedRan}
use Rattle.timed_log.specs.Lines.{Ahead, next_due}
use Rattle.timed_log.specs.Unrolled.{no_frames}
use Rattle.timed_log.specs.Unrolls.{Reach, reach, unroll_from}

-- ---- where a timed log stands: of the text that was written out the part from `from` to before `end` is not played yet; of an input all before
-- `place` is written out, and line `number` is there
pub record Stand : Type 0 where
  pub world : World
  pub clock : Clockwork
  pub plain : List ℕ
  pub from : ℕ
  pub end : ℕ
  pub place : ℕ
  pub number : ℕ

abbrev pub stand : World → Clockwork → List ℕ → ℕ → ℕ → ℕ → ℕ → Stand
stand w clock plain from end place number = record { world = w; clock = clock; plain = plain; from = from; end = end; place = place; number = number }

-- ---- a turn: where the log stands then, what comes next, and the text
pub record Turn : Type 0 where
  pub stand : Stand
  pub next : Next
  pub text : List ℕ

abbrev pub turn : Stand → Next → List ℕ → Turn
turn s next text = record { stand = s; next = next; text = text }

-- ---- what was written out is played
-- what is left of it; behind a whole line there is nothing
abbrev pub left_of : ℕ → ℕ → Next → ℕ
left_of end from (Ok (Some place)) = from
left_of end from (Ok None) = end
left_of end from (Err (Bad why)) = from
left_of end from (Err (Refused why)) = from

-- another turn follows
abbrev pub goes_on : ℕ → Next → Next
goes_on place (Ok (Some line)) = Ok (Some place)
goes_on place (Ok None) = Ok (Some place)
goes_on place (Err (Bad why)) = Err (Bad why)
goes_on place (Err (Refused why)) = Err (Refused why)

abbrev pub played_as : Stand → Run → Turn
played_as s r =
    turn (stand r.world s.clock s.plain (left_of s.end r.from r.next) s.end s.place s.number) (goes_on s.place r.next) r.text

unfoldable pub played_on : ℕ → Stand → Turn
played_on room s = played_as s (log_run room (part s.plain 0 (s.end - 0)) (spot s.world 1 s.from []))

-- ---- lines are written out
abbrev pub next_at : ℕ → Ahead → Next
next_at place (Ok (Some line)) = Ok (Some place)
next_at place (Ok None) = (Ok None)
next_at place (Err why) = Err (Bad why)

-- where there is none, it is told why
abbrev pub told_as : Stand → Next → Turn
told_as s next = turn (stand s.world s.clock s.plain 0 0 s.place s.number) next (stop_text s.number next)

unfoldable pub told : List ℕ → Stand → Turn
told input s = told_as s (next_at s.place (next_due s.clock (drop s.place input) s.place))

abbrev pub stands_at : Stand → Reach → Stand
stands_at s u = stand s.world u.clock (sets s.plain 0 u.text) 0 (length u.text) u.from u.number

abbrev pub written_as : List ℕ → Stand → Reach → Turn
written_as input s u = cond (eqb (length u.text) 0) (told input s) (turn (stands_at s u) (Ok (Some u.from)) [])

unfoldable pub written_out : List ℕ → Stand → Turn
written_out input s = written_as input s (unroll_from (length s.plain) input (reach s.clock s.number s.place []))

-- ---- a turn over an input, whose text is put into a buffer of some length
unfoldable pub turn_over : ℕ → List ℕ → Stand → Turn
turn_over room input s = cond (ltb s.from s.end) (played_on room s) (written_out input s)

-- ---- what it answers
abbrev pub standing : Timed → List ℕ → List ℤ → List ℕ → ℕ → ℕ → Stand
standing t ram queues plain place number = stand (world t.player ram queues) t.clock plain t.from t.end place number

abbrev pub timed_at : Stand → Timed
timed_at s = record { player = s.world.player; clock = s.clock; from = s.from; end = s.end }

abbrev pub timed_to : ℕ → Turn → TimedRan
timed_to room t = record {
  timed = timed_at t.stand;
  next = t.next;
  from = t.stand.place;
  number = t.stand.number;
  end = min (length t.text) room;
}

-- a fresh player over a RAM of some length, and what making its chip answered
unfoldable pub made_timed : ℕ → MadeTimed
made_timed ram = record { timed = record { player = fresh_player ram; clock = no_frames; from = 0; end = 0 }; answer = (made_player ram).answer }
