-- A timed log line by line: a line that is written out, and what is left, are what the log prints. Assumes nothing.
use Rattle.std.specs.Prelude.{Ok, Err, Some, None}
use mathlib.Core.Path.{◌≡◌, refl, sym, ap, ◌∙◌, subst}
use mathlib.Core.Bool.{Bool, true, false, cond}
use mathlib.Core.List.{List, [], ◌∷◌, ◌++◌, append_assoc, append-nil}
use Prim.Native.Nat.{ℕ, suc, ◌+◌, ◌-◌, ◌≤◌, ◌<◌}
use native.Mathlib.Omega.{arith}
use lib.Dec.{eqb, leb}
use lib.ListN.{length, get_or, drop, take, length-append, length-drop}
use lib.Seq.{take-length}
use borrow.Author.Tests.{ne_eqb, leb-true, lt-leb, le-ltb}
use Rattle.num.proofs.Choice.{cond-by, never}
use Rattle.decimal.specs.Written.{decimal}
use Rattle.decimal.specs.Read.{natural_at, Numeral}
use Rattle.decimal.proofs.Writing.{width-below}
use Rattle.decimal.proofs.RoundTrip.{natural-only-written}
use Rattle.log_lines.specs.declared.LineFault.TheVariants.{Malformed}
use Rattle.log_lines.specs.Lines.{number_of}
use Rattle.log_lines.proofs.Long.{long-line}
use Rattle.log_player.specs.Steps.{first_line}
use Rattle.log_player.specs.Worlds.{World}
use Rattle.log_player.proofs.Stops.{first-taken}
use Rattle.log_resume.specs.Cuts.{no_end, Playable, played}
use Rattle.timed_log.specs.declared.Clockwork.{Clockwork}
use Rattle.timed_log.specs.Lines.{as_due, TimedLine, frame_most, stamp_most, longest, stamped_line, due_behind, due_of, due_already, judged}
use Rattle.timed_log.specs.Unrolled.{clock_most, clock_line, clockwork, applied}
use Rattle.timed_log.proofs.Judging.{IsTaken}
use Rattle.timed_log.proofs.Found.{first-split, Found}
use Rattle.timed_as_plain.specs.Scores.{DueLine, due_line, over, stop, Score, ends, due_before, line_scored, scored, gap_lines, unrolled_lines, closing, sounded, left_text}
use Rattle.timed_as_plain.proofs.Lines.{no-end-drop, first-no-end, gap_more}

-- ---- bytes before the first byte 10
score-through : (f more : List ℕ) (k : Clockwork) (n : ℕ) (pre : List ℕ) → no_end f ≡ true → scored k n pre (f ++ more) ≡ scored k n (pre ++ f) more
unfolding scored
score-through [] more k n pre h = ap (λ (l : List ℕ). scored k n l more) (sym (append-nil pre))
score-through (c ∷ f) more k n pre h = go (eqb c 10) h (score-through f more k n (pre ++ (c ∷ [])))
  where
    at : Score
    at = line_scored k n pre (λ (a : Clockwork). scored a (suc n) [] (f ++ more)) (judged k (due_of pre))

    go : (t : Bool) → cond t false (no_end f) ≡ true → (no_end f ≡ true → scored k n (pre ++ (c ∷ [])) (f ++ more) ≡ scored k n ((pre ++ (c ∷ [])) ++ f) more)
        → cond t at (scored k n (pre ++ (c ∷ [])) (f ++ more)) ≡ scored k n (pre ++ (c ∷ f)) more
    go true e ih = never (sym e)
    go false e ih = ih e ∙ ap (λ (l : List ℕ). scored k n l more) (append_assoc pre (c ∷ []) f)

at-end : (line tail : List ℕ) (k : Clockwork) (n : ℕ) → scored k n line (10 ∷ tail) ≡ line_scored k n line (λ (a : Clockwork). scored a (suc n) [] tail) (judged k (due_of line))
unfolding scored
at-end line tail k n = refl

pub score-line : (line tail : List ℕ) (k : Clockwork) (n : ℕ) → no_end line ≡ true → scored k n [] (line ++ (10 ∷ tail)) ≡ line_scored k n line (λ (a : Clockwork). scored a (suc n) [] tail) (judged k (due_of line))
score-line line tail k n h = score-through line (10 ∷ tail) k n [] h ∙ at-end line tail k n

-- the end of a log
score-none : (line : List ℕ) (k : Clockwork) (n : ℕ) → scored k n line [] ≡ ends k (cond (eqb (length line) 0) over (stop n (number_of Malformed)))
unfolding scored
score-none line k n = refl

pub score-open : (line : List ℕ) (k : Clockwork) (n : ℕ) → no_end line ≡ true → scored k n [] line ≡ ends k (cond (eqb (length line) 0) over (stop n (number_of Malformed)))
score-open line k n h = ap (scored k n []) (sym (append-nil line)) ∙ score-through line [] k n [] h ∙ score-none line k n

-- ---- a line that is too long
stamp-width : (text : List ℕ) (n next : ℕ) → n ≤ stamp_most → natural_at text 0 ≡ Some (n, next) → length text ≤ 10 + (length text - next)
stamp-width text n next h e =
    let b : length (drop 0 text) ≡ length (decimal n) + length (drop next text) = ap length (natural-only-written n text 0 next e) ∙ length-append (decimal n) (drop next text) in
    omega (arith, length-drop next text, width-below 9 n (omega arith))

pub long-due : (text : List ℕ) → longest < length text → due_of text ≡ Err Malformed
unfolding due_of
long-due text h = go (natural_at text 0) refl
  where
    go : (t : Numeral ℕ) → natural_at text 0 ≡ t → due_behind text t ≡ Err Malformed
    go None e = refl
    go (Some (n, next)) e =
        cond-by (λ (x : TimedLine). x ≡ Err Malformed) (leb n stamp_most) _ _
        (λ a. cond-by (λ (x : TimedLine). x ≡ Err Malformed) (eqb (get_or text next 0) 44) _ _
        (λ b. ap (stamped_line n (next + 1)) (long-line (drop (next + 1) text) (omega (arith, length-drop (next + 1) text, stamp-width text n next (leb-true n stamp_most a) e)))) (λ b. refl))
        (λ a. refl)

judged-malformed : (k : Clockwork) → judged k (Err Malformed) ≡ Err Malformed
unfolding judged
judged-malformed k = refl

score-far : (l : List ℕ) (k : Clockwork) (n : ℕ) (pre : List ℕ) → longest < length pre → scored k n pre l ≡ ends k (stop n (number_of Malformed))
unfolding scored
score-far [] k n pre h = rw (ne_eqb (length pre) 0 (λ e. absurd (omega arith)))
score-far (c ∷ cs) k n pre h =
    cond-by (λ (s : Score). s ≡ ends k (stop n (number_of Malformed))) (eqb c 10) _ _
    (λ e. ap (line_scored k n pre (λ (a : Clockwork). scored a (suc n) [] cs)) (ap (judged k) (long-due pre h) ∙ judged-malformed k))
    (λ e. score-far cs k n (pre ++ (c ∷ [])) (rw (length-append pre (c ∷ [])) (omega arith)))

pub score-long : (rest more : List ℕ) (k : Clockwork) (n : ℕ) → no_end rest ≡ true → longest < length rest → scored k n [] (rest ++ more) ≡ ends k (stop n (number_of Malformed))
score-long rest more k n e h = score-through rest more k n [] e ∙ score-far more k n rest h

-- an input without byte 10 is its own first line
pub first-all : (l : List ℕ) → length (first_line l) ≡ length l → first_line l ≡ l
first-all l e = sym (first-taken l) ∙ ap (λ (n : ℕ). take n l) e ∙ take-length l

pub open-all : (l : List ℕ) → length (first_line l) ≡ length l → no_end l ≡ true
open-all l e = subst (λ (x : List ℕ). no_end x ≡ true) (first-all l e) (first-no-end l)

-- ---- a line that is written out
applied-frames : (k : Clockwork) (stamp : ℕ) → (applied k stamp).frames ≡ stamp
unfolding applied
applied-frames k stamp = refl

judged-fine : (k : Clockwork) (stamp from : ℕ) → k.frames ≤ stamp → due_already k stamp < frame_most → judged k (Ok (as_due stamp from)) ≡ Ok (as_due stamp from)
unfolding judged
judged-fine k stamp from h g = rw (le-ltb stamp k.frames h, lt-leb frame_most (due_already k stamp) g)

parted : {A : Type 0} (a b : List A) (x : A) (c : List A) → a ++ (b ++ (x ∷ c)) ≡ (a ++ (b ++ (x ∷ []))) ++ c
parted a b x c = sym (append_assoc a (b ++ (x ∷ [])) c ∙ ap (λ l. a ++ l) (append_assoc b (x ∷ []) c))

judged-taken : (k : Clockwork) (line : TimedLine) (stamp from : ℕ) → IsTaken k line stamp from → judged k line ≡ Ok (as_due stamp from)
judged-taken k line stamp from t = ap (judged k) t.due ∙ judged-fine k stamp from t.late t.few

module _ (k : Clockwork) (rest : List ℕ) (at stamp from to : ℕ) (f : Found k rest at stamp from to) (n : ℕ) (more : List ℕ) where
  abbrev pub line_due : List ℕ
  line_due = drop f.begin (first_line rest)

  abbrev pub behind : List ℕ
  behind = drop (suc (length (first_line rest))) rest ++ more

  scored-due : scored k n [] (rest ++ more) ≡ due_before (due_line stamp line_due) (scored (applied k stamp) (suc n) [] behind)
  scored-due =
      ap (scored k n []) (ap (λ (l : List ℕ). l ++ more) (first-split rest f.closed) ∙ append_assoc (first_line rest) (10 ∷ drop (suc (length (first_line rest))) rest) more)
      ∙ score-line (first_line rest) behind k n (first-no-end rest)
      ∙ ap (line_scored k n (first_line rest) (λ (a : Clockwork). scored a (suc n) [] behind)) (judged-taken k (due_of (first_line rest)) stamp f.begin f.taken)

  pub due-playable : Playable line_due
  due-playable = record { one = no-end-drop f.begin (first_line rest) (first-no-end rest); played = f.due.good }

  -- what is left to print
  pub left-line : (w : World) (waiting : List (List ℕ))
      → left_text w waiting k.frames (scored k n [] (rest ++ more)) ≡ left_text w (waiting ++ (gap_lines (stamp - k.frames) ++ (line_due ∷ []))) (applied k stamp).frames (scored (applied k stamp) (suc n) [] behind)
  left-line w waiting =
      ap (left_text w waiting k.frames) scored-due
      ∙ ap (λ (l : List (List ℕ)). sounded w l ++ closing (played w l) s.clock s.end) (parted waiting (gap_lines (stamp - k.frames)) line_due (unrolled_lines stamp s.dues))
      ∙ ap (λ (i : ℕ). left_text w (waiting ++ (gap_lines (stamp - k.frames) ++ (line_due ∷ []))) i s) (sym (applied-frames k stamp))
    where
      s : Score
      s = scored (applied k stamp) (suc n) [] behind

first : (k : Clockwork) (stamp : ℕ) → (stamp ≡ k.frames → ⊥) → applied k stamp ≡ clockwork stamp 1
unfolding applied
first k stamp n = rw (ne_eqb stamp k.frames n)

other : (frames stamp : ℕ) → applied (clockwork frames 0) stamp ≡ clockwork stamp 1
unfolding applied
other frames stamp = ap (λ (i : ℕ). clockwork stamp (suc i)) (zero-either (eqb stamp frames))
  where
    zero-either : (b : Bool) → ◌≡◌ {A = ℕ} (cond b 0 0) 0
    zero-either true = refl
    zero-either false = refl

-- a thousand of the frames before it: the same lines are due
module _ (k : Clockwork) (rest : List ℕ) (at stamp from to : ℕ) (f : Found k rest at stamp from to) (n : ℕ) (more : List ℕ) (far : clock_most < stamp - k.frames) where
  abbrev on : Clockwork
  on = clockwork (k.frames + clock_most) 0

  on-taken : IsTaken on (due_of (first_line rest)) stamp f.begin
  on-taken = record { due = f.taken.due; late = omega arith; few = none stamp }
    where
      none : (i : ℕ) → due_already on i < frame_most
      none i = cond-by (λ (x : ℕ). x < frame_most) (eqb i (k.frames + clock_most)) 0 0 (λ e. omega arith) (λ e. omega arith)

  abbrev on-found : Found on rest at stamp from to
  on-found = record { begin = f.begin; taken = on-taken; due = f.due; starts = f.starts; behind = f.behind; closed = f.closed }

  same_after : applied k stamp ≡ applied on stamp
  same_after = first k stamp (λ e. absurd (omega arith)) ∙ sym (other (k.frames + clock_most) stamp)

  pub left-clock : (w : World) (waiting : List (List ℕ))
      → left_text w waiting k.frames (scored k n [] (rest ++ more)) ≡ left_text w (waiting ++ (clock_line clock_most ∷ [])) on.frames (scored on n [] (rest ++ more))
  left-clock w waiting =
      ap (left_text w waiting k.frames) (scored-due k rest at stamp from to f n more)
      ∙ ap (λ (a : Clockwork). left_text w waiting k.frames (due_before d (scored a (suc n) [] rests))) same_after
      ∙ ap (λ (l : List (List ℕ)). sounded w l ++ closing (played w l) s.clock s.end) lines
      ∙ ap (left_text w (waiting ++ (clock_line clock_most ∷ [])) on.frames) (sym (scored-due on rest at stamp from to on-found n more))
    where
      rests : List ℕ
      rests = drop (suc (length (first_line rest))) rest ++ more

      d : DueLine
      d = due_line stamp (drop f.begin (first_line rest))

      s : Score
      s = scored (applied on stamp) (suc n) [] rests

      tail : List (List ℕ)
      tail = drop f.begin (first_line rest) ∷ unrolled_lines stamp s.dues

      gaps : gap_lines (stamp - k.frames) ≡ clock_line clock_most ∷ gap_lines (stamp - (k.frames + clock_most))
      gaps = gap_more (stamp - k.frames) far ∙ ap (λ (g : ℕ). clock_line clock_most ∷ gap_lines g) (let e : stamp - k.frames - clock_most ≡ stamp - (k.frames + clock_most) = omega arith in e)

      lines : waiting ++ (gap_lines (stamp - k.frames) ++ tail) ≡ (waiting ++ (clock_line clock_most ∷ [])) ++ (gap_lines (stamp - (k.frames + clock_most)) ++ tail)
      lines = ap (λ (g : List (List ℕ)). waiting ++ (g ++ tail)) gaps ∙ sym (append_assoc waiting (clock_line clock_most ∷ []) (gap_lines (stamp - (k.frames + clock_most)) ++ tail))
