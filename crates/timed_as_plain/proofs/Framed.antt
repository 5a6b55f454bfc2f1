-- A timed log frame by frame. Assumes a chip that lines can reach.
use Rattle.std.specs.Prelude.{Result, Ok}
use mathlib.Core.Path.{◌≡◌, refl, sym, ap, ◌∙◌, subst}
use mathlib.Core.Bool.{Bool, true, false, cond}
use mathlib.Core.List.{List, [], ◌∷◌, ◌++◌, append_assoc, append-nil}
use Prim.Native.Nat.{ℕ, zero, suc, ◌+◌, ◌-◌, ◌≤◌, ◌<◌}
use native.Mathlib.Omega.{arith}
use native.Mathlib.Decide.{dec_le}
use lib.Dec.{eqb}
use borrow.Author.Tests.{eq-eqb, ne_eqb, eqb-true, eqb-false}
use Rattle.log_lines.specs.declared.Line.{Line}
use Rattle.log_lines.specs.declared.LineFault.{LineFault}
use Rattle.log_lines.specs.declared.Line.TheVariants.{Clock}
use Rattle.log_lines.specs.Lines.{parsed_line}
use Rattle.log_player.specs.Worlds.{World, fresh_world}
use Rattle.log_player.specs.Applied.{after_line, printed}
use Rattle.plain_chip.specs.Lists.{Every}
use Rattle.resume.proofs.Steps.{HeldMachine}
use Rattle.log_resume.specs.Cuts.{played, machine_of}
use Rattle.log_resume.proofs.Fresh.{fresh-held}
use Rattle.log_resume.proofs.Cuts.{held-line, held-played}
use Rattle.timed_log.specs.declared.Clockwork.{Clockwork}
use Rattle.timed_log.specs.Unrolled.{clock_most, clock_line, no_frames, applied}
use Rattle.timed_as_plain.specs.Scores.{DueLine, score, gap_lines, unrolled_lines, sounded}
use Rattle.timed_as_plain.specs.Frames.{due_at, last_stamp, frames_played, by_frames, ByFrames}
use Rattle.timed_as_plain.proofs.Lines.{clock-line, clock-playable, gap-playable, gap-none, gap-small, gap_more}
use Rattle.timed_as_plain.proofs.Plays.{played-append, sounded-append}
use Rattle.timed_as_plain.proofs.AsPlain.{PlayableDue, dues-playable}
use Rattle.timed_as_plain.proofs.Orders.{Ordered, scored-ordered, applied-is, none_below}
use Rattle.timed_as_plain.proofs.Splits.{clock-splits, held-clock}

abbrev Held : World → Type 0
Held w = HeldMachine (machine_of w)

-- ---- a world and a text
pub record Does : Type 0 where
  pub after : World
  pub text : List ℕ

abbrev does : World → List ℕ → Does
does w text = record { after = w; text = text }

abbrev and_then : Does → (World → Does) → Does
and_then a f = does (f a.after).after (a.text ++ (f a.after).text)

abbrev lines : World → List (List ℕ) → Does
lines w l = does (played w l) (sounded w l)

abbrev one : World → Does
one w = does (after_line w (Ok (Clock 1))) (printed w (Ok (Clock 1)))

abbrev frames : World → ℕ → ℕ → List DueLine → Does
frames w f n ds = does (frames_played w f n ds) (by_frames w f n ds)

then_same : (a : Does) (f g : World → Does) → f a.after ≡ g a.after → and_then a f ≡ and_then a g
then_same a f g e = ap (λ (x : Does). does x.after (a.text ++ x.text)) e

then_by : (a b : Does) (f : World → Does) → a ≡ b → and_then a f ≡ and_then b f
then_by a b f e = ap (λ (x : Does). and_then x f) e

then-assoc : (a : Does) (f g : World → Does) → and_then (and_then a f) g ≡ and_then a (λ (v : World). and_then (f v) g)
then-assoc a f g = ap (does _) (append_assoc a.text (f a.after).text (g (f a.after).after).text)

then-none : (a : Does) → and_then a (λ (v : World). does v []) ≡ a
then-none a = ap (does a.after) (append-nil a.text)

lines-append : (a b : List (List ℕ)) (w : World) → lines w (a ++ b) ≡ and_then (lines w a) (λ (v : World). lines v b)
lines-append a b w = λ i. does (played-append a b w i) (sounded-append a b w i)

-- ---- frames without lines
shift : (n : ℕ) (w : World) (f g : ℕ) → frames w f n [] ≡ frames w g n []
unfolding frames_played by_frames
shift zero w f g = refl
shift (suc n) w f g = then_same (one w) (λ (u : World). frames u (suc f) n []) (λ (u : World). frames u (suc g) n []) (shift n (after_line w (Ok (Clock 1))) (suc f) (suc g))

frames-add : (a : ℕ) (w : World) (f b : ℕ) (ds : List DueLine) → frames w f (a + b) ds ≡ and_then (frames w f a ds) (λ (v : World). frames v (f + a) b ds)
unfolding frames_played by_frames
frames-add zero w f b ds = ap (λ (i : ℕ). frames w f i ds) (let e : 0 + b ≡ b = omega arith in e) ∙ ap (λ (i : ℕ). frames w i b ds) (let e : f ≡ f + 0 = omega arith in e)
frames-add (suc a) w f b ds =
    let due = lines w (due_at f ds) in
    let v = due.after in
    let u = after_line v (Ok (Clock 1)) in
    ap (λ (i : ℕ). frames w f i ds) (let e : suc a + b ≡ suc (a + b) = omega arith in e)
    ∙ then_same due (λ (x : World). and_then (one x) (λ (y : World). frames y (suc f) (a + b) ds)) (λ (x : World). and_then (one x) (λ (y : World). and_then (frames y (suc f) a ds) (λ (z : World). frames z (f + suc a) b ds)))
    (then_same (one v) (λ (y : World). frames y (suc f) (a + b) ds) (λ (y : World). and_then (frames y (suc f) a ds) (λ (z : World). frames z (f + suc a) b ds))
    (frames-add a u (suc f) b ds ∙ ap (λ (i : ℕ). and_then (frames u (suc f) a ds) (λ (z : World). frames z i b ds)) (let e : suc f + a ≡ f + suc a = omega arith in e)))
    ∙ sym (then_same due (λ (x : World). and_then (and_then (one x) (λ (y : World). frames y (suc f) a ds)) (λ (z : World). frames z (f + suc a) b ds)) (λ (x : World). and_then (one x) (λ (y : World). and_then (frames y (suc f) a ds) (λ (z : World). frames z (f + suc a) b ds)))
    (then-assoc (one v) (λ (y : World). frames y (suc f) a ds) (λ (z : World). frames z (f + suc a) b ds)))
    ∙ sym (then-assoc due (λ (x : World). and_then (one x) (λ (y : World). frames y (suc f) a ds)) (λ (z : World). frames z (f + suc a) b ds))

-- a `C` line
clock-frames : (n : ℕ) (w : World) → Held w → suc n ≤ clock_most → does (after_line w (Ok (Clock (suc n)))) (printed w (Ok (Clock (suc n)))) ≡ frames w 0 (suc n) []
unfolding frames_played by_frames
clock-frames zero w h l = sym (then-none (one w))
clock-frames (suc n) w h l =
    let s = clock-splits (suc n) w 1 (omega arith) (omega arith) (omega arith) h in
    let u = after_line w (Ok (Clock 1)) in
    ap (λ (k : ℕ). does (after_line w (Ok (Clock k))) (printed w (Ok (Clock k)))) (let e : suc (suc n) ≡ 1 + suc n = omega arith in e) ∙ (λ i. does (s.after i) (s.text i))
    ∙ then_same (one w) (λ (v : World). does (after_line v (Ok (Clock (suc n)))) (printed v (Ok (Clock (suc n))))) (λ (v : World). frames v 1 (suc n) [])
    (clock-frames n u (held-clock w 1 (omega arith) (omega arith) h) (omega arith) ∙ shift (suc n) u 0 1)

clock-lines : (n : ℕ) (w : World) → Held w → 1 ≤ n → n ≤ clock_most → lines w (clock_line n ∷ []) ≡ frames w 0 n []
clock-lines zero w h a b = absurd (omega arith)
clock-lines (suc n) w h a b =
    then-none (does (after_line w (parsed_line (clock_line (suc n)))) (printed w (parsed_line (clock_line (suc n)))))
    ∙ ap (λ (l : Result Line LineFault). does (after_line w l) (printed w l)) (clock-line (suc n) a b) ∙ clock-frames n w h b

frames-none : (w : World) (f : ℕ) (ds : List DueLine) → does w [] ≡ frames w f 0 ds
unfolding frames_played by_frames
frames-none w f ds = refl

none-gap : (gap : ℕ) (w : World) → gap ≡ 0 → lines w (gap_lines gap) ≡ frames w 0 gap []
none-gap gap w e = ap (λ (g : ℕ). lines w (gap_lines g)) e ∙ ap (lines w) gap-none ∙ frames-none w 0 [] ∙ ap (λ (g : ℕ). frames w 0 g []) (sym e)

module _ (gap : ℕ) (w : World) (h : Held w) where
  abbrev rest : ℕ
  rest = gap - clock_most

  thousand : lines w (clock_line clock_most ∷ []) ≡ frames w 0 clock_most []
  thousand = clock-lines clock_most w h (omega arith) (omega arith)

  after-thousand : clock_most < gap → ((u : World) → Held u → lines u (gap_lines rest) ≡ frames u 0 rest []) → lines w (gap_lines gap) ≡ frames w 0 gap []
  after-thousand l ih =
      let u = frames_played w 0 clock_most [] in
      let held : Held u = subst Held (ap (λ (x : Does). x.after) thousand) (held-played (clock_line clock_most ∷ []) w h (clock-playable clock_most (omega arith) (omega arith), tt)) in
      ap (lines w) (gap_more gap l) ∙ lines-append (clock_line clock_most ∷ []) (gap_lines rest) w
      ∙ then_by _ _ (λ (v : World). lines v (gap_lines rest)) thousand
      ∙ then_same (frames w 0 clock_most []) (λ (v : World). lines v (gap_lines rest)) (λ (v : World). frames v (0 + clock_most) rest []) (ih u held ∙ shift rest u 0 (0 + clock_most))
      ∙ sym (frames-add clock_most w 0 rest [])
      ∙ ap (λ (i : ℕ). frames w 0 i []) (let e : clock_most + rest ≡ gap = omega arith in e)

  gap_step : (clock_most < gap → (u : World) → Held u → lines u (gap_lines rest) ≡ frames u 0 rest []) → lines w (gap_lines gap) ≡ frames w 0 gap []
  gap_step ih =
      elim (dec_le gap clock_most) [
        | yes e ↦ small (eqb gap 0) refl e
        | no e ↦ after-thousand (omega arith) (ih (omega arith))
      ]
    where
      small : (b : Bool) → eqb gap 0 ≡ b → gap ≤ clock_most → lines w (gap_lines gap) ≡ frames w 0 gap []
      small true t l = none-gap gap w (eqb-true gap 0 t)
      small false t l = let n = eqb-false gap 0 t in ap (lines w) (gap-small gap n l) ∙ clock-lines gap w h (some gap n) l
        where
          some : (g : ℕ) → (g ≡ 0 → ⊥) → 1 ≤ g
          some g n = omega arith

gap_is : (turns gap : ℕ) (w : World) → Held w → gap ≤ turns → lines w (gap_lines gap) ≡ frames w 0 gap []
gap_is zero gap w h k = none-gap gap w (omega arith)
gap_is (suc turns) gap w h k = gap_step gap w h (λ l u held. gap_is turns (gap - clock_most) u held (omega arith))

-- ---- a line that is due
late_due : (d : DueLine) (ds : List DueLine) (f : ℕ) → (d.stamp ≡ f → ⊥) → due_at f (d ∷ ds) ≡ due_at f ds
late_due d ds f n = ap (λ (b : Bool). cond b (d.line ∷ due_at f ds) (due_at f ds)) (ne_eqb d.stamp f n)

here-due : (d : DueLine) (ds : List DueLine) → due_at d.stamp (d ∷ ds) ≡ d.line ∷ due_at d.stamp ds
here-due d ds = ap (λ (b : Bool). cond b (d.line ∷ due_at d.stamp ds) (due_at d.stamp ds)) (eq-eqb d.stamp d.stamp refl)

frames-step : (w : World) (f n : ℕ) (ds : List DueLine) → frames w f (suc n) ds ≡ and_then (lines w (due_at f ds)) (λ (v : World). and_then (one v) (λ (u : World). frames u (suc f) n ds))
unfolding frames_played by_frames
frames-step w f n ds = refl

-- frames behind it do not know it
skip : (n : ℕ) (d : DueLine) (ds : List DueLine) (w : World) (f : ℕ) → d.stamp < f → frames w f n (d ∷ ds) ≡ frames w f n ds
skip zero d ds w f h = sym (frames-none w f (d ∷ ds)) ∙ frames-none w f ds
skip (suc n) d ds w f h =
    let e = late_due d ds f (λ q. absurd (omega arith)) in
    frames-step w f n (d ∷ ds)
    ∙ ap (λ (l : List (List ℕ)). and_then (lines w l) (λ (v : World). and_then (one v) (λ (u : World). frames u (suc f) n (d ∷ ds)))) e
    ∙ then_same (lines w (due_at f ds)) (λ (v : World). and_then (one v) (λ (u : World). frames u (suc f) n (d ∷ ds))) (λ (v : World). and_then (one v) (λ (u : World). frames u (suc f) n ds))
    (then_same (one (played w (due_at f ds))) (λ (u : World). frames u (suc f) n (d ∷ ds)) (λ (u : World). frames u (suc f) n ds) (skip n d ds (after_line (played w (due_at f ds)) (Ok (Clock 1))) (suc f) (omega arith)))
    ∙ sym (frames-step w f n ds)

-- frames before it have no line
silent-due : (n : ℕ) (d : DueLine) (ds : List DueLine) (k : Clockwork) (w : World) (f : ℕ) → f + n ≡ d.stamp → k.frames ≡ d.stamp → Ordered k ds → frames w f n (d ∷ ds) ≡ frames w f n []
silent-due zero d ds k w f e q o = sym (frames-none w f (d ∷ ds)) ∙ frames-none w f []
silent-due (suc n) d ds k w f e q o =
    frames-step w f n (d ∷ ds)
    ∙ ap (λ (l : List (List ℕ)). and_then (lines w l) (λ (v : World). and_then (one v) (λ (u : World). frames u (suc f) n (d ∷ ds)))) (late_due d ds f (λ z. absurd (omega arith)) ∙ none_below ds k f (omega arith) o)
    ∙ then_same (one w) (λ (u : World). frames u (suc f) n (d ∷ ds)) (λ (u : World). frames u (suc f) n []) (silent-due n d ds k (after_line w (Ok (Clock 1))) (suc f) (omega arith) q o)
    ∙ sym (frames-step w f n [])

-- at its own frame it is the first
abbrev line : World → DueLine → Does
line w d = does (after_line w (parsed_line d.line)) (printed w (parsed_line d.line))

first : (m : ℕ) (d : DueLine) (ds : List DueLine) (w : World)
    → and_then (line w d) (λ (u : World). and_then (frames u d.stamp m ds) (λ (x : World). lines x (due_at (d.stamp + m) ds)))
    ≡ and_then (frames w d.stamp m (d ∷ ds)) (λ (x : World). lines x (due_at (d.stamp + m) (d ∷ ds)))
first zero d ds w =
    let s = d.stamp in
    let z : s + 0 ≡ s = omega arith in
    let u = after_line w (parsed_line d.line) in
    ap (λ (i : ℕ). and_then (line w d) (λ (u : World). and_then (frames u s 0 ds) (λ (x : World). lines x (due_at i ds)))) z
    ∙ then_same (line w d) (λ (u : World). and_then (frames u s 0 ds) (λ (x : World). lines x (due_at s ds))) (λ (u : World). lines u (due_at s ds)) (then_by _ _ (λ (x : World). lines x (due_at s ds)) (sym (frames-none u s ds)))
    ∙ ap (lines w) (sym (here-due d ds))
    ∙ then_by _ _ (λ (x : World). lines x (due_at s (d ∷ ds))) (frames-none w s (d ∷ ds))
    ∙ ap (λ (i : ℕ). and_then (frames w s 0 (d ∷ ds)) (λ (x : World). lines x (due_at i (d ∷ ds)))) (sym z)
first (suc m) d ds w =
    let s = d.stamp in
    let u = after_line w (parsed_line d.line) in
    let last : World → Does = λ (x : World). lines x (due_at (s + suc m) ds) in
    let rest : World → Does = λ (v : World). and_then (one v) (λ (y : World). frames y (suc s) m ds) in
    let v = played u (due_at s ds) in
    then_same (line w d) (λ (x : World). and_then (frames x s (suc m) ds) last) (λ (x : World). and_then (lines x (due_at s ds)) (λ (y : World). and_then (rest y) last))
    (then_by _ _ last (frames-step u s m ds) ∙ then-assoc (lines u (due_at s ds)) rest last)
    ∙ sym (then-assoc (line w d) (λ (x : World). lines x (due_at s ds)) (λ (y : World). and_then (rest y) last))
    ∙ sym (then-assoc (lines w (d.line ∷ due_at s ds)) rest last)
    ∙ then_by _ _ last
    (then_same (lines w (d.line ∷ due_at s ds)) rest (λ (x : World). and_then (one x) (λ (y : World). frames y (suc s) m (d ∷ ds)))
    (then_same (one v) (λ (y : World). frames y (suc s) m ds) (λ (y : World). frames y (suc s) m (d ∷ ds)) (sym (skip m d ds (after_line v (Ok (Clock 1))) (suc s) (omega arith))))
    ∙ ap (λ (l : List (List ℕ)). and_then (lines w l) (λ (x : World). and_then (one x) (λ (y : World). frames y (suc s) m (d ∷ ds)))) (sym (here-due d ds)) ∙ sym (frames-step w s m (d ∷ ds)))
    ∙ ap (λ (l : List (List ℕ)). and_then (frames w s (suc m) (d ∷ ds)) (λ (x : World). lines x l)) (sym (late_due d ds (s + suc m) (λ q. absurd (omega arith))))

-- ---- the whole
last_up : (ds : List DueLine) (k : Clockwork) → Ordered k ds → k.frames ≤ last_stamp k.frames ds
last_up [] k o = omega arith
last_up (d ∷ ds) k o =
    let e = ap (λ (a : Clockwork). a.frames) (applied-is k d.stamp) in
    omega (arith, o.0.0, subst (λ (i : ℕ). i ≤ last_stamp i ds) e (last_up ds (applied k d.stamp) o.1))

framed : (ds : List DueLine) (k : Clockwork) (w : World) → Held w → Ordered k ds → Every PlayableDue ds
    → lines w (unrolled_lines k.frames ds) ≡ and_then (frames w k.frames (last_stamp k.frames ds - k.frames) ds) (λ (x : World). lines x (due_at (last_stamp k.frames ds) ds))
framed [] k w h o p =
    frames-none w k.frames [] ∙ sym (then-none (frames w k.frames 0 []))
    ∙ ap (λ (i : ℕ). and_then (frames w k.frames i []) (λ (x : World). lines x [])) (let e : 0 ≡ k.frames - k.frames = omega arith in e)
framed (d ∷ ds) k w h o p =
    let s = d.stamp in
    let f = k.frames in
    let gap = s - f in
    let fr = ap (λ (a : Clockwork). a.frames) (applied-is k s) in
    let l = last_stamp s ds in
    let m = l - s in
    let up : s ≤ l = subst (λ (i : ℕ). i ≤ last_stamp i ds) fr (last_up ds (applied k s) o.1) in
    let v = frames_played w f gap [] in
    let gaps : lines w (gap_lines gap) ≡ frames w f gap [] = gap_is gap gap w h (omega arith) ∙ shift gap w 0 f in
    let held : Held v = subst Held (ap (λ (x : Does). x.after) gaps) (held-played (gap_lines gap) w h (gap-playable gap)) in
    let u = after_line v (parsed_line d.line) in
    let next : lines u (unrolled_lines s ds) ≡ and_then (frames u s m ds) (λ (x : World). lines x (due_at l ds)) =
    subst (λ (i : ℕ). lines u (unrolled_lines i ds) ≡ and_then (frames u i (last_stamp i ds - i) ds) (λ (x : World). lines x (due_at (last_stamp i ds) ds))) fr
    (framed ds (applied k s) u (held-line d.line v held p.0.played) o.1 p.1) in
    let whole : s + m ≡ l = omega arith in
    let own : lines v (d.line ∷ unrolled_lines s ds) ≡ and_then (frames v s m (d ∷ ds)) (λ (x : World). lines x (due_at l (d ∷ ds))) =
    then_same (line v d) (λ (x : World). lines x (unrolled_lines s ds)) (λ (x : World). and_then (frames x s m ds) (λ (y : World). lines y (due_at (s + m) ds)))
    (next ∙ ap (λ (i : ℕ). and_then (frames u s m ds) (λ (x : World). lines x (due_at i ds))) (sym whole))
    ∙ first m d ds v ∙ ap (λ (i : ℕ). and_then (frames v s m (d ∷ ds)) (λ (x : World). lines x (due_at i (d ∷ ds)))) whole in
    let at : f + gap ≡ s = omega (arith, o.0.0) in
    let all : gap + m ≡ l - f = omega (arith, o.0.0) in
    lines-append (gap_lines gap) (d.line ∷ unrolled_lines s ds) w
    ∙ then_by _ _ (λ (x : World). lines x (d.line ∷ unrolled_lines s ds)) gaps
    ∙ then_same (frames w f gap []) (λ (x : World). lines x (d.line ∷ unrolled_lines s ds)) (λ (x : World). and_then (frames x s m (d ∷ ds)) (λ (y : World). lines y (due_at l (d ∷ ds)))) own
    ∙ sym (then-assoc (frames w f gap []) (λ (x : World). frames x s m (d ∷ ds)) (λ (y : World). lines y (due_at l (d ∷ ds))))
    ∙ then_by _ _ (λ (y : World). lines y (due_at l (d ∷ ds)))
    (then_by _ _ (λ (x : World). frames x s m (d ∷ ds)) (sym (quiet gap at))
    ∙ ap (λ (i : ℕ). and_then (frames w f gap (d ∷ ds)) (λ (x : World). frames x i m (d ∷ ds))) (sym at) ∙ sym (frames-add gap w f m (d ∷ ds)) ∙ ap (λ (i : ℕ). frames w f i (d ∷ ds)) all)
  where
    quiet : (g : ℕ) → k.frames + g ≡ d.stamp → frames w k.frames g (d ∷ ds) ≡ frames w k.frames g []
    quiet g e = silent-due g d ds (applied k d.stamp) w k.frames e (ap (λ (a : Clockwork). a.frames) (applied-is k d.stamp)) o.1

-- THE REQUEST'S WORDS: the frames below the last stamp, each behind the lines that are due at it, and then the lines of the last stamp
pub by-frames : (input : List ℕ) → ByFrames fresh_world 0 (score input).dues
by-frames input =
    let e = framed (score input).dues no_frames fresh_world fresh-held (scored-ordered input no_frames 1 []) (dues-playable input no_frames 1 [] refl) in
    record { world = ap (λ (x : Does). x.after) e; text = ap (λ (x : Does). x.text) e }
