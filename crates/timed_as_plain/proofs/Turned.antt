-- A turn prints its part of the log, and leaves the rest. Assumes nothing.
use Rattle.std.specs.Prelude.{Ok, Some, None, Err}
use mathlib.Core.Path.{◌≡◌, refl, sym, ap, ap₂, ◌∙◌, subst}
use mathlib.Core.List.{List, [], ◌∷◌, ◌++◌, append_assoc, append-nil}
use Prim.Native.Nat.{ℕ, suc, ◌+◌, ◌-◌, ◌≤◌, ◌<◌}
use native.Mathlib.Omega.{arith}
use lib.Dec.{eqb, leb, ltb}
use lib.ListN.{length, drop, take, length-append, length-take}
use lib.Seq.{sets, sets-eq, take-append_seam, drop-append_seam, length-sets}
use borrow.Author.Tests.{eqb-true, eqb-false, ltb-false, leb-false}
use Rattle.num.specs.Lists.{part}
use Rattle.num.proofs.Choice.{cond-by, never}
use Rattle.log_player.specs.Steps.{Next}
use Rattle.log_player.specs.declared.Stop.TheVariants.{Bad, Refused}
use Rattle.log_player.specs.Worlds.{World}
use Rattle.log_player.specs.Steps.{first_line}
use Rattle.s3w2.specs.Answers.{Checked}
use Rattle.log_player.specs.Runs.{Spot, spot, is_line, Run, run_from, refusal_in, unless_refused, log_run}
use Rattle.log_player.proofs.Stops.{first_short}
use Rattle.plain_chip.specs.Lists.{Every}
use Rattle.log_resume.specs.Cuts.{Playable, half, played}
use Rattle.log_lines.specs.declared.LineFault.{LineFault}
use Rattle.log_lines.specs.declared.LineFault.TheVariants.{Malformed}
use Rattle.log_lines.specs.Lines.{number_of}
use Rattle.timed_log.specs.declared.Clockwork.{Clockwork}
use Rattle.timed_log.specs.Lines.{TimedLine, Ahead, longest, due_of, judged, placed, next_due}
use Rattle.timed_log.specs.Unrolls.{Reach, reach, unroll_from}
use Rattle.timed_log.specs.Turns.{Stand, stand, Turn, turn, left_of, goes_on, played_as, played_on, next_at, told_as, told, stands_at, written_out, turn_over}
use Rattle.timed_log.proofs.Found.{first-split}
use Rattle.timed_log.proofs.Reaching.{unroll-within}
use Rattle.timed_as_plain.specs.Scores.{Score, stop, ends, line_scored, scored, unrolled_lines, sounded, closing, left_text}
use Rattle.timed_as_plain.proofs.Lines.{first-no-end}
use Rattle.timed_as_plain.proofs.Scored.{score-line, score-long, open-all}
use Rattle.timed_as_plain.proofs.Writes.{half-append, unrolls}
use Rattle.timed_as_plain.proofs.Plays.{played-append, sounded-append, Where, all, some, Stopped, stops}

-- ---- the lines that are written out and not played yet
pub record Waits (s : Stand) (lines : List (List ℕ)) : Type 0 where
  pub front : List ℕ
  pub is : part s.plain 0 (s.end - 0) ≡ front ++ half lines
  pub at : s.from ≡ length front
  pub within : s.end ≤ length s.plain
  pub playable : Every Playable lines

-- what is left to print
abbrev pub left_over : Stand → List (List ℕ) → List ℕ → List ℕ → List ℕ
left_over s lines input more = left_text s.world lines s.clock.frames (scored s.clock s.number [] (drop s.place input ++ more))

pub record Goes (s : Stand) (lines : List (List ℕ)) (input : List ℕ) (t : Turn) : Type 0 where
  pub waiting : List (List ℕ)
  pub waits : Waits t.stand waiting
  pub left : (more : List ℕ) → left_over s lines input more ≡ t.text ++ left_over t.stand waiting input more

pub record Rests (s : Stand) (lines : List (List ℕ)) (input : List ℕ) (t : Turn) : Type 0 where
  pub goes : Goes s lines input t
  pub none : goes.waiting ≡ []
  pub unended : length (first_line (drop t.stand.place input)) ≡ length (drop t.stand.place input)

abbrev pub After : Stand → List (List ℕ) → List ℕ → Turn → Next → Type 0
After s lines input t (Ok (Some place)) = Goes s lines input t
After s lines input t (Ok None) = Rests s lines input t
After s lines input t (Err (Bad why)) = (more : List ℕ) → left_over s lines input more ≡ t.text
After s lines input t (Err (Refused why)) = Unit {0}

-- ---- some lines played
left_split : (a b : List (List ℕ)) (w : World) (frames : ℕ) (s : Score) → left_text w (a ++ b) frames s ≡ sounded w a ++ left_text (played w a) b frames s
left_split a b w frames s =
    let p = unrolled_lines frames s.dues in
    let e : (a ++ b) ++ p ≡ a ++ (b ++ p) = append_assoc a b p in
    ap (λ (l : List (List ℕ)). sounded w l ++ closing (played w l) s.clock s.end) e
    ∙ ap₂ (λ (x : List ℕ) (v : World). x ++ closing v s.clock s.end) (sounded-append a (b ++ p) w) (played-append a (b ++ p) w)
    ∙ append_assoc (sounded w a) (sounded (played w a) (b ++ p)) (closing (played (played w a) (b ++ p)) s.clock s.end)

every-behind : (a b : List (List ℕ)) → Every Playable (a ++ b) → Every Playable b
every-behind [] b f = f
every-behind (line ∷ a) b f = every-behind a b f.1

never-rest : {A : Type 0} (why : LineFault) → ◌≡◌ {A = Next} (Err (Bad why)) (Ok None) → A
never-rest why e = absurd (let z : ◌≡◌ {A = ℕ} 0 1 = cc in omega arith)

part_length : (s : Stand) → s.end ≤ length s.plain → length (part s.plain 0 (s.end - 0)) ≡ s.end
part_length s h = length-take (s.end - 0) s.plain ∙ omega arith

-- a text that was put at the front of a buffer stands there
text-there : (plain text : List ℕ) → length text ≤ length plain → part (sets plain 0 text) 0 (length text - 0) ≡ text
text-there plain text h = ap (λ (i : ℕ). take i (sets plain 0 text)) (let e : length text - 0 ≡ length text = omega arith in e) ∙ ap (take (length text)) (sets-eq text plain 0 (omega arith)) ∙ take-append_seam text (drop (0 + length text) plain)

-- ---- where no line is written out
next-rest : (k : Clockwork) (rest : List ℕ) (at : ℕ) → next_due k rest at ≡ Ok None → length (first_line rest) ≡ length rest
unfolding next_due
next-rest k rest at = cond-by (λ (a : Ahead). a ≡ Ok None → length (first_line rest) ≡ length rest) (eqb (length (first_line rest)) (length rest)) _ _
    (λ t e. eqb-true (length (first_line rest)) (length rest) t) (λ t. line (judged k (due_of (first_line rest))))
  where
    line : (t : TimedLine) → placed at (length (first_line rest)) t ≡ Ok None → length (first_line rest) ≡ length rest
    line (Ok due) e = absurd (let z : ◌≡◌ {A = ℕ} 0 1 = cc in omega arith)
    line (Err why) e = absurd (let z : ◌≡◌ {A = ℕ} 0 1 = cc in omega arith)

next-bad : (k : Clockwork) (rest : List ℕ) (at : ℕ) (why : LineFault) → next_due k rest at ≡ Err why → (n : ℕ) (more : List ℕ) → scored k n [] (rest ++ more) ≡ ends k (stop n (number_of why))
unfolding next_due
next-bad k rest at why = cond-by Goal (eqb (length (first_line rest)) (length rest)) _ _
    (λ t. cond-by Goal (leb (length rest) longest) _ _ (λ u e. absurd (let z : ◌≡◌ {A = ℕ} 0 1 = cc in omega arith))
    (λ u e n more. score-long rest more k n (open-all rest (eqb-true (length (first_line rest)) (length rest) t)) (leb-false (length rest) longest u) ∙ ap (λ (y : LineFault). ends k (stop n (number_of y))) (why-is Malformed e)))
    (λ t. line (less (eqb-false (length (first_line rest)) (length rest) t) (first_short rest)) (judged k (due_of (first_line rest))) refl)
  where
    Goal : Ahead → Type 0
    Goal a = a ≡ Err why → (n : ℕ) (more : List ℕ) → scored k n [] (rest ++ more) ≡ ends k (stop n (number_of why))

    less : {a b : ℕ} → (a ≡ b → ⊥) → a ≤ b → a < b
    less n h = omega arith

    why-is : (x : LineFault) → ◌≡◌ {A = Ahead} (Err x) (Err why) → x ≡ why
    why-is x e = cc

    scored-as : length (first_line rest) < length rest → (n : ℕ) (more : List ℕ) (t : TimedLine) → judged k (due_of (first_line rest)) ≡ t
        → scored k n [] (rest ++ more) ≡ line_scored k n (first_line rest) (λ (a : Clockwork). scored a (suc n) [] (drop (suc (length (first_line rest))) rest ++ more)) t
    scored-as h n more t e =
        ap (scored k n []) (ap (λ (l : List ℕ). l ++ more) (first-split rest h) ∙ append_assoc (first_line rest) (10 ∷ drop (suc (length (first_line rest))) rest) more)
        ∙ score-line (first_line rest) (drop (suc (length (first_line rest))) rest ++ more) k n (first-no-end rest)
        ∙ ap (line_scored k n (first_line rest) (λ (a : Clockwork). scored a (suc n) [] (drop (suc (length (first_line rest))) rest ++ more))) e

    line : length (first_line rest) < length rest → (t : TimedLine) → judged k (due_of (first_line rest)) ≡ t → Goal (placed at (length (first_line rest)) t)
    line h (Ok due) j = λ e. absurd (let z : ◌≡◌ {A = ℕ} 0 1 = cc in omega arith)
    line h (Err fault) j = λ e n more. scored-as h n more (Err fault) j ∙ ap (λ (y : LineFault). ends k (stop n (number_of y))) (why-is fault e)

module _ (room : ℕ) (input : List ℕ) (s : Stand) (lines : List (List ℕ)) (h : Waits s lines) where
  abbrev text : List ℕ
  text = part s.plain 0 (s.end - 0)

  there : drop s.from text ≡ half lines
  there = ap₂ (λ (n : ℕ) (l : List ℕ). drop n l) h.at h.is ∙ drop-append_seam h.front (half lines)

  ran : (r : Run) → Stopped s.world s.from [] lines r → After s lines input (played_as s r) (played_as s r).next
  ran r t = go r.next refl t.next
    where
      split : (more : List ℕ) → left_over s lines input more ≡ r.text ++ left_text r.world t.left s.clock.frames (scored s.clock s.number [] (drop s.place input ++ more))
      split more =
          let sc = scored s.clock s.number [] (drop s.place input ++ more) in
          ap (λ (l : List (List ℕ)). left_text s.world l s.clock.frames sc) t.split
          ∙ left_split t.done t.left s.world s.clock.frames sc
          ∙ ap₂ (λ (x : List ℕ) (v : World). x ++ left_text v t.left s.clock.frames sc) (sym t.printed) (sym t.world)

      all_done : t.left ≡ [] → (next : Next) → left_of s.end r.from next ≡ s.end → Goes s lines input (turn (stand r.world s.clock s.plain (left_of s.end r.from next) s.end s.place s.number) (goes_on s.place next) r.text)
      all_done e next f = record {
        waiting = [];
        waits = record { front = text; is = sym (append-nil text); at = f ∙ sym (part_length s h.within); within = h.within; playable = tt };
        left = λ more. split more ∙ ap (λ (l : List (List ℕ)). r.text ++ left_text r.world l s.clock.frames (scored s.clock s.number [] (drop s.place input ++ more))) e;
      }

      not-all : (place : ℕ) → Goes s lines input (turn (stand r.world s.clock s.plain r.from s.end s.place s.number) (goes_on s.place (Ok (Some place))) r.text)
      not-all place = record {
        waiting = t.left;
        waits = record {
          front = h.front ++ half t.done;
          is = h.is ∙ ap (λ (l : List (List ℕ)). h.front ++ half l) t.split ∙ ap (λ (l : List ℕ). h.front ++ l) (half-append t.done t.left) ∙ sym (append_assoc h.front (half t.done) (half t.left));
          at = t.at ∙ ap (λ (n : ℕ). n + length (half t.done)) h.at ∙ sym (length-append h.front (half t.done));
          within = h.within;
          playable = every-behind t.done t.left (subst (Every Playable) t.split h.playable);
        };
        left = split;
      }

      go : (next : Next) → r.next ≡ next → Where t.left r.next → After s lines input (turn (stand r.world s.clock s.plain (left_of s.end r.from next) s.end s.place s.number) (goes_on s.place next) r.text) (goes_on s.place next)
      go (Ok (Some place)) e w = not-all place
      go (Ok None) e (all l q) = all_done l (Ok None) refl
      go (Ok None) e (some place q) = never (sym (ap is_line (sym e ∙ q)))
      go (Err (Bad why)) e (all l q) = never-rest why (sym e ∙ q)
      go (Err (Bad why)) e (some place q) = never (sym (ap is_line (sym e ∙ q)))
      go (Err (Refused why)) e w = tt

  played-after : After s lines input (played_on room s) (played_on room s).next
  unfolding played_on log_run
  played-after = go (refusal_in s.world)
    where
      here : Spot
      here = spot s.world 1 s.from []

      go : (c : Checked) → After s lines input (played_as s (unless_refused c here (run_from room text here))) (played_as s (unless_refused c here (run_from room text here))).next
      go (Ok x) = ran _ (stops room text lines s.world 1 s.from [] h.playable there)
      go (Err why) = tt

  -- ---- nothing is waiting
  module _ (k : s.end ≤ s.from) where
    none : (l : List (List ℕ)) → length (half l) ≡ 0 → l ≡ []
    none [] e = refl
    none (line ∷ l) e = absurd (omega (arith, e, length-append line (10 ∷ half l)))

    no_lines : lines ≡ []
    no_lines = none lines (omega (arith, k, h.at, length-append h.front (half lines), ap length h.is, part_length s h.within))

    nothing : (plain : List ℕ) → Waits (stand s.world s.clock plain 0 0 s.place s.number) []
    nothing plain = record { front = []; is = refl; at = refl; within = omega arith; playable = tt }

    empty : (more : List ℕ) → left_over s lines input more ≡ left_over s [] input more
    empty more = ap (λ (l : List (List ℕ)). left_over s l input more) no_lines

    -- it is told why
    told-after : After s lines input (told input s) (told input s).next
    unfolding told
    told-after = go (next_due s.clock (drop s.place input) s.place) refl
      where
        go : (a : Ahead) → next_due s.clock (drop s.place input) s.place ≡ a → After s lines input (told_as s (next_at s.place a)) (next_at s.place a)
        go (Ok (Some due)) e = record { waiting = []; waits = nothing s.plain; left = empty }
        go (Ok None) e = record { goes = record { waiting = []; waits = nothing s.plain; left = empty }; none = refl; unended = next-rest s.clock (drop s.place input) s.place e }
        go (Err why) e = λ more. empty more ∙ ap (left_text s.world [] s.clock.frames) (next-bad s.clock (drop s.place input) s.place why e s.number more)

    -- lines are written out
    abbrev at : Reach
    at = reach s.clock s.number s.place []

    abbrev u : Reach
    u = unroll_from (length s.plain) input at

    out-after : Goes s lines input (turn (stands_at s u) (Ok (Some u.from)) [])
    out-after =
        let w = unrolls input (length s.plain) at in
        let short = unroll-within (length s.plain) input at (omega arith) in
        record {
          waiting = w.lines;
          waits = record {
            front = [];
            is = text-there s.plain u.text short ∙ w.text;
            at = refl;
            within = rw (length-sets s.plain 0 u.text) short;
            playable = w.playable;
          };
          left = λ more. empty more ∙ w.left more s.world [];
        }

    written_after : After s lines input (written_out input s) (written_out input s).next
    unfolding written_out
    written_after = cond-by (λ (t : Turn). After s lines input t t.next) (eqb (length u.text) 0) _ _ (λ e. told-after) (λ e. out-after)

  -- THE TURN
  pub turn-after : After s lines input (turn_over room input s) (turn_over room input s).next
  unfolding turn_over
  turn-after = cond-by (λ (t : Turn). After s lines input t t.next) (ltb s.from s.end) _ _ (λ e. played-after) (λ e. written_after (ltb-false s.from s.end e))
