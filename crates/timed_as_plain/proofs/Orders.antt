-- What is due in a timed log: stamps never fall, a frame has at most 64 lines, and the frames below the last stamp sound. Assumes nothing.
use Rattle.std.specs.Prelude.{Result, Ok, Err, Some, None}
use mathlib.Core.Path.{◌≡◌, refl, sym, ap, ap₂, ◌∙◌, subst}
use mathlib.Core.Bool.{Bool, true, false, cond}
use mathlib.Core.List.{List, [], ◌∷◌, ◌++◌}
use Prim.Native.Nat.{ℕ, zero, suc, ◌+◌, ◌-◌, ◌*◌, ◌/◌, ◌%◌, ◌≤◌, ◌<◌}
use native.Mathlib.Omega.{arith}
use lib.Dec.{eqb, leb}
use lib.ListN.{length, get_or, drop, replicate}
use borrow.Author.Tests.{eq-eqb, ne_eqb, eqb-true, eqb-false}
use Rattle.num.proofs.Choice.{cond-by}
use Rattle.decimal.specs.Read.{natural_at, Numeral}
use Rattle.log_lines.specs.declared.Line.{Line}
use Rattle.log_lines.specs.declared.Line.TheVariants as plain
use Rattle.log_lines.specs.Lines.{parsed_line}
use Rattle.log_lines.specs.declared.LineFault.{LineFault}
use Rattle.log_lines.specs.declared.LineFault.TheVariants.{Malformed}
use Rattle.timed_log.specs.declared.Due.{Due}
use Rattle.timed_log.specs.declared.Clockwork.{Clockwork}
use Rattle.timed_log.specs.Lines.{as_due, TimedLine, frame_most, stamp_most, stamped_line, due_behind, due_of, due_already, judged}
use Rattle.timed_log.specs.Unrolled.{clock_most, clock_line, clockwork, no_frames, applied}
use Rattle.timed_log.proofs.Judging.{taken_is}
use Rattle.timed_as_plain.specs.Scores.{DueLine, Score, line_scored, scored, score, gap_lines, unrolled_lines}
use Rattle.timed_as_plain.specs.Frames.{due_at, last_stamp, frames_by, frames_in}
use Rattle.timed_as_plain.proofs.Lines.{clock-line}

-- ---- a line that is due sounds nothing
no-clock : (text : List ℕ) (stamp from : ℕ) → due_of text ≡ Ok (as_due stamp from) → frames_by (parsed_line (drop from text)) ≡ 0
unfolding due_of
no-clock text stamp from = go (natural_at text 0)
  where
    If : TimedLine → Type 0
    If t = t ≡ Ok (as_due stamp from) → frames_by (parsed_line (drop from text)) ≡ 0

    none : ◌≡◌ {A = TimedLine} (Err Malformed) (Ok (as_due stamp from)) → frames_by (parsed_line (drop from text)) ≡ 0
    none q = absurd (let z : ◌≡◌ {A = ℕ} 0 1 = cc in omega arith)

    line : (n next : ℕ) (l : Result Line LineFault) → parsed_line (drop (next + 1) text) ≡ l → frames_by l ≡ 0 → ◌≡◌ {A = TimedLine} (Ok (as_due n (next + 1))) (Ok (as_due stamp from)) → frames_by (parsed_line (drop from text)) ≡ 0
    line n next l e b q =
        let same : as_due n (next + 1) ≡ as_due stamp from = cc in
        let f : next + 1 ≡ from = ap (λ (d : Due). d.from) same in
        ap (λ (i : ℕ). frames_by (parsed_line (drop i text))) (sym f) ∙ ap frames_by e ∙ b

    stamped : (n next : ℕ) (l : Result Line LineFault) → parsed_line (drop (next + 1) text) ≡ l → If (stamped_line n (next + 1) l)
    stamped n next (Ok (plain.Write a v)) e = line n next (Ok (plain.Write a v)) e refl
    stamped n next (Ok (plain.WriteRam a v)) e = line n next (Ok (plain.WriteRam a v)) e refl
    stamped n next (Ok (plain.Read a)) e = line n next (Ok (plain.Read a)) e refl
    stamped n next (Ok (plain.Peek a)) e = line n next (Ok (plain.Peek a)) e refl
    stamped n next (Ok (plain.Clock a)) e = none
    stamped n next (Ok (plain.Version v)) e = line n next (Ok (plain.Version v)) e refl
    stamped n next (Err why) e = λ q. absurd (let z : ◌≡◌ {A = ℕ} 0 1 = cc in omega arith)

    go : (t : Numeral ℕ) → If (due_behind text t)
    go None = none
    go (Some (n, next)) =
        cond-by If (leb n stamp_most) _ _ (λ a. cond-by If (eqb (get_or text next 0) 44) _ _ (λ b. stamped n next (parsed_line (drop (next + 1) text)) refl) (λ b. none)) (λ a. none)

-- ---- stamps never fall, and no frame gets a line too many
abbrev pub Ordered : Clockwork → List DueLine → Type 0
Ordered k [] = Unit {0}
Ordered k (d ∷ dues) = ((k.frames ≤ d.stamp) × (due_already k d.stamp < frame_most) × (frames_by (parsed_line d.line) ≡ 0)) × Ordered (applied k d.stamp) dues

pub scored-ordered : (input : List ℕ) (k : Clockwork) (n : ℕ) (line : List ℕ) → Ordered k (scored k n line input).dues
unfolding scored
scored-ordered [] k n line = tt
scored-ordered (c ∷ cs) k n line =
    cond-by (λ (s : Score). Ordered k s.dues) (eqb c 10) _ _ (λ e. at (judged k (due_of line)) refl (λ a. scored-ordered cs a (suc n) [])) (λ e. scored-ordered cs k n (line ++ (c ∷ [])))
  where
    at : (t : TimedLine) → judged k (due_of line) ≡ t → ((a : Clockwork) → Ordered a (scored a (suc n) [] cs).dues) → Ordered k (line_scored k n line (λ (a : Clockwork). scored a (suc n) [] cs) t).dues
    at (Ok due) e ih =
        let t = taken_is k due.stamp due.from (due_of line) e in
        ((t.late, t.few, no-clock line due.stamp due.from t.due), ih (applied k due.stamp))
    at (Err why) e ih = tt

pub applied-is : (k : Clockwork) (stamp : ℕ) → applied k stamp ≡ clockwork stamp (suc (due_already k stamp))
unfolding applied
applied-is k stamp = refl

-- ---- at most 64 lines a frame
pub none_below : (dues : List DueLine) (k : Clockwork) (f : ℕ) → f < k.frames → Ordered k dues → due_at f dues ≡ []
none_below [] k f h o = refl
none_below (d ∷ dues) k f h o =
    ap (λ (b : Bool). cond b (d.line ∷ due_at f dues) (due_at f dues)) (ne_eqb d.stamp f (λ e. absurd (omega (arith, o.0.0))))
    ∙ none_below dues (applied k d.stamp) f (below (applied k d.stamp) (ap (λ (a : Clockwork). a.frames) (applied-is k d.stamp))) o.1
  where
    below : (a : Clockwork) → a.frames ≡ d.stamp → f < a.frames
    below a e = omega (arith, o.0.0)

few : (dues : List DueLine) (k : Clockwork) (f : ℕ) → k.lines ≤ frame_most → Ordered k dues → due_already k f + length (due_at f dues) ≤ frame_most
few [] k f h o = cond-by (λ (n : ℕ). n + 0 ≤ frame_most) (eqb f k.frames) k.lines 0 (λ e. omega arith) (λ e. omega arith)
few (d ∷ dues) k f h o = go (eqb d.stamp f) refl (few dues a f (enough a (ap (λ (x : Clockwork). x.lines) (applied-is k d.stamp))) o.1)
  where
    a : Clockwork
    a = applied k d.stamp

    enough : (x : Clockwork) → x.lines ≡ suc (due_already k d.stamp) → x.lines ≤ frame_most
    enough x e = omega (arith, o.0.1)

    here : d.stamp ≡ f → due_already a f ≡ suc (due_already k f)
    here e =
        ap (λ (x : Clockwork). due_already x f) (applied-is k d.stamp)
        ∙ ap (λ (b : Bool). cond b (suc (due_already k d.stamp)) 0) (eq-eqb f d.stamp (sym e))
        ∙ ap (λ (i : ℕ). suc (due_already k i)) e

    past : (f ≡ k.frames → ⊥) → due_already k f ≡ 0
    past n = ap (λ (b : Bool). cond b k.lines 0) (ne_eqb f k.frames n)

    later : (d.stamp ≡ f → ⊥) → f ≡ k.frames → length (due_at f dues) ≡ 0
    later n e = ap length (none_below dues a f (more a (ap (λ (x : Clockwork). x.frames) (applied-is k d.stamp))) o.1)
      where
        differ : (x : Clockwork) → x.frames ≡ d.stamp → (d.stamp ≡ f → ⊥) → k.frames ≤ d.stamp → f < x.frames
        differ x q n l = omega arith

        more : (x : Clockwork) → x.frames ≡ d.stamp → f < x.frames
        more x q = differ x q n o.0.0

    other : (d.stamp ≡ f → ⊥) → due_already a f + length (due_at f dues) ≤ frame_most → (b : Bool) → eqb f k.frames ≡ b → due_already k f + length (due_at f dues) ≤ frame_most
    other n ih true t =
        let z = later n (eqb-true f k.frames t) in
        let most : due_already k f ≤ frame_most = cond-by (λ (i : ℕ). i ≤ frame_most) (eqb f k.frames) k.lines 0 (λ e. h) (λ e. omega arith) in
        omega arith
    other n ih false t =
        let z = past (eqb-false f k.frames t) in
        omega arith

    go : (b : Bool) → eqb d.stamp f ≡ b → due_already a f + length (due_at f dues) ≤ frame_most → due_already k f + length (cond b (d.line ∷ due_at f dues) (due_at f dues)) ≤ frame_most
    go true t ih = let z = here (eqb-true d.stamp f t) in omega arith
    go false t ih = other (eqb-false d.stamp f t) ih (eqb f k.frames) refl

-- THE BOUND: at most 64 lines are due at one frame
pub few-due : (input : List ℕ) (frame : ℕ) → length (due_at frame (score input).dues) ≤ frame_most
few-due input frame = omega (arith, few (score input).dues no_frames frame (omega arith) (scored-ordered input no_frames 1 []))

-- ---- the frames of a log's lines: those below its last stamp
frames-append : (a b : List (List ℕ)) → frames_in (a ++ b) ≡ frames_in a + frames_in b
frames-append [] b = omega arith
frames-append (line ∷ a) b = ap (λ (n : ℕ). frames_by (parsed_line line) + n) (frames-append a b) ∙ omega arith

clocks : (n : ℕ) → frames_in (replicate n (clock_line clock_most)) ≡ n * clock_most
clocks zero = refl
clocks (suc n) = ap₂ (λ (l : Result Line LineFault) (m : ℕ). frames_by l + m) (clock-line clock_most (omega arith) (omega arith)) (clocks n) ∙ omega arith

pub gap-frames : (gap : ℕ) → frames_in (gap_lines gap) ≡ gap
unfolding gap_lines
gap-frames gap =
    frames-append (replicate (gap / clock_most) (clock_line clock_most)) _
    ∙ ap₂ (λ (a b : ℕ). a + b) (clocks (gap / clock_most))
    (cond-by (λ (l : List (List ℕ)). frames_in l ≡ gap % clock_most) (eqb (gap % clock_most) 0) [] (clock_line (gap % clock_most) ∷ [])
    (λ e. sym (eqb-true (gap % clock_most) 0 e)) (λ e. some (eqb-false (gap % clock_most) 0 e)))
    ∙ omega arith
  where
    some : (gap % clock_most ≡ 0 → ⊥) → frames_by (parsed_line (clock_line (gap % clock_most))) + 0 ≡ gap % clock_most
    some n = ap (λ (l : Result Line LineFault). frames_by l + 0) (clock-line (gap % clock_most) (omega arith) (omega arith)) ∙ omega arith

last-frames : (dues : List DueLine) (k : Clockwork) → Ordered k dues → k.frames + frames_in (unrolled_lines k.frames dues) ≡ last_stamp k.frames dues
last-frames [] k o = omega arith
last-frames (d ∷ dues) k o =
    ap (λ (n : ℕ). k.frames + n) (frames-append (gap_lines (d.stamp - k.frames)) (d.line ∷ unrolled_lines d.stamp dues))
    ∙ sum (gap-frames (d.stamp - k.frames)) o.0.2 (subst (λ (i : ℕ). i + frames_in (unrolled_lines i dues) ≡ last_stamp i dues) (ap (λ (a : Clockwork). a.frames) (applied-is k d.stamp)) (last-frames dues (applied k d.stamp) o.1))
  where
    sum : frames_in (gap_lines (d.stamp - k.frames)) ≡ d.stamp - k.frames → frames_by (parsed_line d.line) ≡ 0 → d.stamp + frames_in (unrolled_lines d.stamp dues) ≡ last_stamp d.stamp dues
        → k.frames + (frames_in (gap_lines (d.stamp - k.frames)) + (frames_by (parsed_line d.line) + frames_in (unrolled_lines d.stamp dues))) ≡ last_stamp d.stamp dues
    sum a b c = omega (arith, o.0.0)

-- THE FRAMES: the lines before a log's end sound exactly the frames below the last of their stamps
pub frames-below : (input : List ℕ) → frames_in (unrolled_lines 0 (score input).dues) ≡ last_stamp 0 (score input).dues
frames-below input = omega (arith, last-frames (score input).dues no_frames (scored-ordered input no_frames 1 []))
