-- The lines of an input, one more at a time. Assumes nothing.
use Rattle.std.specs.Prelude.{Ok, Some, Err, is_ok}
use mathlib.Core.Path.{◌≡◌, refl, sym, ap, ◌∙◌, subst}
use mathlib.Core.Bool.{true, false}
use mathlib.Core.List.{List, [], ◌++◌, append-nil}
use Prim.Native.Nat.{ℕ, ◌+◌, ◌≤◌, ◌<◌, ◌^◌}
use native.Mathlib.Omega.{arith}
use lib.IntN.{ℤ}
use lib.ListN.{length, drop, get_or, length-append}
use lib.Seq.{sets}
use Rattle.num.proofs.Choice.{never}
use Rattle.output.specs.declared.Output.{Output}
use Rattle.output.specs.Output.{Puts}
use Rattle.log_lines.specs.Texts.{bad_line}
use Rattle.output.proofs.Writing.{puts-append, puts-none, put-long}
use Rattle.s3w2.specs.declared.Refusal.{Refusal}
use Rattle.s3w2.specs.declared.Refusal.TheVariants.{RamLength, QueueBuffer, NotAccepted, StemBuffer}
use Rattle.s3w2.specs.Answers.{Checked, refusal_number, number_of}
use Rattle.s3w2.specs.Refusals.{sound_refusal}
use Rattle.log_player.specs.declared.Player.{Player}
use Rattle.log_player.specs.declared.Ran.{Ran}
use Rattle.log_lines.specs.declared.LineFault.{LineFault}
use Rattle.log_lines.specs.Lines as log
use Rattle.log_player.specs.Steps.{Next}
use Rattle.log_player.specs.declared.Stop.TheVariants.{Bad, Refused}
use Rattle.log_player.specs.Worlds.{World, world}
use Rattle.log_player.specs.Steps.{next_of}
use Rattle.log_player.specs.Runs.{has_room, Spot, spot, Run, stop_text, stops_at, run_from, refusal_in, refused_by, unless_refused, log_run, ran_to, ran_as}
use Rattle.log_player.specs.Batches.{NoLine, Batches, Stops}
use Rattle.log_player.proofs.Spots.{plays-none, plays-full, found-there, found-full, run-stops}
use Rattle.log_player.proofs.Rooms.{room-is}

-- a run that stands at a line: its text is put whole at the front of a buffer, and it ends where the run from the beginning ends
pub record Running (input : List ℕ) (run : Run) (w : World) (line place : ℕ) (out mid : Output) : Type 0 where
  pub text : List ℕ
  pub put : Puts out mid text
  pub whole : mid.at ≡ length text
  pub ahead : run_from (length out.buffer.now) input (spot w line place text) ≡ run

pub running_none : (input : List ℕ) (w : World) (number place : ℕ) (out : Output) → out.at ≡ 0 → Running input (run_from (length out.buffer.now) input (spot w number place [])) w number place out out
running_none input w number place out h = record { text = []; put = puts-none out (omega arith); whole = h; ahead = refl }

-- the buffer keeps its length
pub running-long : (input : List ℕ) (run : Run) (w : World) (line place : ℕ) (out mid : Output) → Running input run w line place out mid → length mid.buffer.now ≡ length out.buffer.now
running-long input run w line place out mid r = put-long _ _ _ _ r.text r.put.put

-- what `run` promises of its answer
abbrev pub Promised : Run → List ℕ → List ℤ → List ℕ → List ℕ → Ran → Type 0
Promised run ram queues out now r =
    (r ≡ ran_to run) × ((ram ≡ run.world.ram) × ((queues ≡ run.world.queues) × ((now ≡ sets out 0 run.text) × (length run.text ≤ length out))))

module _ (input : List ℕ) (run : Run) (a : World) (line place : ℕ) (out mid now : Output) where
  -- some lines more
  pub running-batch : (next : World) (number behind : ℕ) → Running input run a line place out mid → Batches input a line place next number behind mid now → Running input run next number behind out now
  running-batch next number behind r b = record {
    text = r.text ++ b.text;
    put = puts-append out mid now r.text b.text r.put b.put;
    whole = omega (arith, r.whole, b.put.put.0, b.short, length-append r.text b.text);
    ahead =
        sym (subst (λ (k : ℕ). run_from k input (spot a line place r.text) ≡ run_from k input (spot next number behind (r.text ++ b.text))) (running-long input run a line place out mid r) (b.left r.text (sym r.whole)))
        ∙ r.ahead;
  }

-- where no line is played, the run ends
module _ (input : List ℕ) (run : Run) (p : Player) (ram : List ℕ) (queues : List ℤ) (line place : ℕ) (out mid now : Output) (front : out.at ≡ 0) where
  pub running-stop :
      (answer : Ran) → mid.at + 16384 ≤ length mid.buffer.now → line + 1 < 2 ^ 64 → NoLine input place → Running input run (world p ram queues) line place out mid →
      Stops (next_of (drop place input) place) p place line mid now answer → Promised run ram queues out.buffer.now now.buffer.now answer
  running-stop answer room more none r s =
      subst (λ (v : Run). Promised v ram queues out.buffer.now now.buffer.now answer) (sym is)
      (s.is ∙ ap (ran_as p next place line) whole, (refl, (refl, ((puts-append out mid now r.text (stop_text line next) r.put s.put).put.1 ∙ ap (λ (i : ℕ). sets out.buffer.now i (r.text ++ stop_text line next)) front, omega (arith, whole, s.put.put.0, long)))))
    where
      next : Next
      next = next_of (drop place input) place

      here : Spot
      here = spot (world p ram queues) line place r.text

      long : length mid.buffer.now ≡ length out.buffer.now
      long = running-long input run (world p ram queues) line place out mid r

      whole : now.at ≡ length (r.text ++ stop_text line next)
      whole = omega (arith, r.whole, s.put.put.0, s.short, room, length-append r.text (stop_text line next))

      roomy : has_room (length out.buffer.now) (length r.text) line ≡ true
      roomy = room-is 16384 (length out.buffer.now) (length r.text) line (omega (arith, more)) (omega (arith, r.whole, room, long))

      is : run ≡ stops_at here next
      is =
          sym r.ahead
          ∙ run-stops (length out.buffer.now) input here (plays-none (length out.buffer.now) input here none)
          ∙ ap (stops_at here) (found-there (length out.buffer.now) input here roomy)

-- ---- what `stop` promises
module _ (p : Player) (from number : ℕ) (out : Output) (r : Ran) where
  pub stops-none : (next : Next) → stop_text number next ≡ [] → out.at ≤ length out.buffer.now → r ≡ ran_as p next from number out.at → Stops next p from number out out r
  stops-none next n h e = record {
    is = e;
    put = subst (Puts out out) (sym n) (puts-none out h);
    short = rw n (omega arith);
  }

  pub stops-bad : (now : Output) (why : LineFault) → r ≡ ran_as p (Err (Bad why)) from number now.at → Puts out now (bad_line number (log.number_of why)) → length (bad_line number (log.number_of why)) ≤ 29 → Stops (Err (Bad why)) p from number out now r
  stops-bad now why e t s = record { is = e; put = t; short = s }

  pub stops_as : (now : Output) (next other : Next) → next ≡ other → Stops other p from number out now r → Stops next p from number out now r
  stops_as now next other e s = subst (λ (x : Next). Stops x p from number out now r) (sym e) s

-- where there is no room, it ends too
pub running-full : (input : List ℕ) (run : Run) (p : Player) (ram : List ℕ) (queues : List ℤ) (line place : ℕ) (out mid : Output) → out.at ≡ 0 → has_room (length out.buffer.now) mid.at line ≡ false → Running input run (world p ram queues) line place out mid → Promised run ram queues out.buffer.now mid.buffer.now (ran_as p (Ok (Some place)) place line mid.at)
running-full input run p ram queues line place out mid front full r =
    subst (λ (v : Run). Promised v ram queues out.buffer.now mid.buffer.now (ran_as p (Ok (Some place)) place line mid.at)) (sym is)
    (ap (ran_as p (Ok (Some place)) place line) whole, (refl, (refl, (rw (append-nil r.text) (r.put.put.1 ∙ ap (λ (i : ℕ). sets out.buffer.now i r.text) front), omega (arith, whole, r.put.put.0)))))
  where
    here : Spot
    here = spot (world p ram queues) line place r.text

    whole : mid.at ≡ length (r.text ++ [])
    whole = rw (append-nil r.text) r.whole

    none : has_room (length out.buffer.now) (length r.text) line ≡ false
    none = ap (λ (k : ℕ). has_room (length out.buffer.now) k line) (sym r.whole) ∙ full

    is : run ≡ stops_at here (Ok (Some place))
    is = sym r.ahead ∙ run-stops (length out.buffer.now) input here (plays-full (length out.buffer.now) input here none) ∙ ap (stops_at here) (found-full (length out.buffer.now) input here none)

-- ---- `run`: refused, or not
-- `r` is the refusal as the code found it
module _ (out input : List ℕ) (p : Player) (ram : List ℕ) (queues : List ℤ) (number from : ℕ) (r : Checked) (e : r ≡ sound_refusal p.chip (length ram) (length queues)) where
  abbrev start : Spot
  start = spot (world p ram queues) number from []

  pub run-refused : (x : Refusal) → r ≡ Err x → (answer : Ran) → answer ≡ ran_as p (Err (Refused x)) from number 0 → Promised (log_run (length out) input start) ram queues out out answer
  unfolding log_run
  run-refused x h answer k =
      subst (λ (v : Run). Promised v ram queues out out answer) (sym is) (k, (refl, (refl, (refl, omega arith))))
    where
      is : log_run (length out) input start ≡ stops_at start (Err (Refused x))
      is = ap (λ (y : Checked). unless_refused y start (run_from (length out) input start)) (sym e ∙ h)

  pub allowed : is_ok r ≡ true → 0 ≡ refused_by (world p ram queues)
  unfolding refused_by
  allowed h = sym (none r h) ∙ ap (λ (x : Checked). get_or (number_of x) 0 0) e
    where
      none : (y : Checked) → is_ok y ≡ true → get_or (number_of y) 0 0 ≡ 0
      none (Ok x) k = refl
      none (Err x) k = never (sym k)

  pub run-accepted : is_ok r ≡ true → run_from (length out) input start ≡ log_run (length out) input start
  unfolding log_run
  run-accepted h = go r h ∙ ap (λ (y : Checked). unless_refused y start (run_from (length out) input start)) e
    where
      go : (y : Checked) → is_ok y ≡ true → run_from (length out) input start ≡ unless_refused y start (run_from (length out) input start)
      go (Ok x) k = refl
      go (Err x) k = never (sym k)

-- a refusal has a number
number-not : (why : Refusal) → refusal_number why ≡ 0 → ⊥
number-not RamLength e = omega (arith, e)
number-not QueueBuffer e = omega (arith, e)
number-not NotAccepted e = omega (arith, e)
number-not StemBuffer e = omega (arith, e)

pub goes : (room : ℕ) (input : List ℕ) (s : Spot) → refused_by s.world ≡ 0 → log_run room input s ≡ run_from room input s
unfolding log_run refused_by
goes room input s e = go (refusal_in s.world) e
  where
    go : (y : Checked) → get_or (number_of y) 0 0 ≡ 0 → unless_refused y s (run_from room input s) ≡ run_from room input s
    go (Ok x) k = refl
    go (Err x) k = absurd (number-not x k)
