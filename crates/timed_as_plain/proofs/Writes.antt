-- What a run writes out, and what is left of the log behind it, print what the log prints. Assumes nothing.
use Rattle.std.specs.Prelude.{Ok, Some, None, Err}
use mathlib.Core.Path.{◌≡◌, refl, sym, ap, ap₂, ◌∙◌}
use mathlib.Core.Bool.{Bool, true, false}
use mathlib.Core.List.{List, [], ◌∷◌, ◌++◌, append_assoc, append-nil}
use Prim.Native.Nat.{ℕ, zero, suc, ◌+◌, ◌-◌, ◌≤◌}
use native.Mathlib.Omega.{arith}
use lib.Dec.{eqb, ltb}
use lib.ListN.{length, drop}
use lib.Seq.{drop-drop}
use borrow.Author.Tests.{ltb-true, ltb-false, eqb-true, eqb-false}
use Rattle.num.specs.Lists.{part}
use Rattle.num.proofs.Choice.{cond-by}
use Rattle.log_player.specs.Steps.{first_line}
use Rattle.log_player.specs.Worlds.{World}
use Rattle.plain_chip.specs.Lists.{Every}
use Rattle.log_resume.specs.Cuts.{Playable, half}
use Rattle.timed_log.specs.Lines.{line_ahead, Ahead}
use Rattle.timed_log.specs.Unrolled.{clock_most, clock_line, applied}
use Rattle.timed_log.specs.Unrolls.{has_place, Reach, reach, gap_text, reach_behind, ahead_of, on_line, unroll_on, unroll_from}
use Rattle.timed_log.proofs.Puts as puts
use Rattle.timed_log.proofs.Found.{Found, found-is, part-due}
use Rattle.timed_as_plain.specs.Scores.{scored, gap_lines, left_text}
use Rattle.timed_as_plain.proofs.Lines.{clock-playable, every_append, gap-playable, gap-none, gap-small}
use Rattle.timed_as_plain.proofs.Scored.{due-playable, left-line, left-clock}

pub half-append : (a b : List (List ℕ)) → half (a ++ b) ≡ half a ++ half b
half-append [] b = refl
half-append (line ∷ a) b = ap (λ (l : List ℕ). line ++ (10 ∷ l)) (half-append a b) ∙ sym (append_assoc line (10 ∷ half a) (half b))

gap-half : (gap : ℕ) → gap ≤ clock_most → gap_text gap ≡ half (gap_lines gap)
gap-half gap h = go (eqb gap 0) refl
  where
    go : (t : Bool) → eqb gap 0 ≡ t → gap_text gap ≡ half (gap_lines gap)
    go true e = let z : gap ≡ 0 = eqb-true gap 0 e in puts.gap-none gap z ∙ sym (ap (λ (g : ℕ). half (gap_lines g)) z ∙ ap half gap-none)
    go false e = let z = eqb-false gap 0 e in puts.gap-some gap z ∙ sym (ap half (gap-small gap z h))

module _ (input : List ℕ) where
  -- what is left to print where a log is written out up to a place
  abbrev pub left_at : Reach → List ℕ → World → List (List ℕ) → List ℕ
  left_at s more w waiting = left_text w waiting s.clock.frames (scored s.clock s.number [] (drop s.from input ++ more))

  pub record Written (s r : Reach) : Type 0 where
    pub lines : List (List ℕ)
    pub text : r.text ≡ s.text ++ half lines
    pub playable : Every Playable lines
    pub left : (more : List ℕ) (w : World) (waiting : List (List ℕ)) → left_at s more w waiting ≡ left_at r more w (waiting ++ lines)

  written_none : (s : Reach) → Written s s
  written_none s = record { lines = []; text = sym (append-nil s.text); playable = tt; left = λ more w waiting. ap (left_at s more w) (sym (append-nil waiting)) }

  written_both : (s t r : Reach) → Written s t → Written t r → Written s r
  written_both s t r a b = record {
    lines = a.lines ++ b.lines;
    text = b.text ∙ ap (λ (l : List ℕ). l ++ half b.lines) a.text ∙ append_assoc s.text (half a.lines) (half b.lines) ∙ ap (λ (l : List ℕ). s.text ++ l) (sym (half-append a.lines b.lines));
    playable = every_append Playable a.lines b.lines a.playable b.playable;
    left = λ more w waiting. a.left more w waiting ∙ b.left more w (waiting ++ a.lines) ∙ ap (left_at r more w) (append_assoc waiting a.lines b.lines);
  }

  written_step : (s : Reach) (stamp from to : ℕ) → ahead_of input s ≡ Ok (Some (line_ahead stamp from to)) → Written s (reach_behind input s stamp from to)
  unfolding reach_behind
  written_step s stamp from to e =
      cond-by (Written s) (ltb clock_most (stamp - s.clock.frames)) _ _
      (λ a. record {
        lines = clock_line clock_most ∷ [];
        text = refl;
        playable = (clock-playable clock_most (omega arith) (omega arith), tt);
        left = λ more w waiting. left-clock s.clock rest s.from stamp from to f s.number more (ltb-true clock_most (stamp - s.clock.frames) a) w waiting;
      })
      (λ a. line (ltb-false clock_most (stamp - s.clock.frames) a))
    where
      rest : List ℕ
      rest = drop s.from input

      f : Found s.clock rest s.from stamp from to
      f = found-is s.clock rest s.from stamp from to e

      gap : ℕ
      gap = stamp - s.clock.frames

      own : List ℕ
      own = drop f.begin (first_line rest)

      there : drop (suc (length (first_line rest))) rest ≡ drop to input
      there =
          let k : s.from + suc (length (first_line rest)) ≡ to = omega (arith, f.behind) in
          drop-drop (suc (length (first_line rest))) s.from input ∙ ap (λ (i : ℕ). drop i input) k

      line : gap ≤ clock_most → Written s (reach (applied s.clock stamp) (suc s.number) to (s.text ++ (gap_text gap ++ part input from (to - from))))
      line h = record {
        lines = gap_lines gap ++ (own ∷ []);
        text = ap (λ (l : List ℕ). s.text ++ l) (ap₂ (λ (a b : List ℕ). a ++ b) (gap-half gap h) (part-due s.clock input s.from stamp from to f) ∙ sym (half-append (gap_lines gap) (own ∷ [])));
        playable = every_append Playable (gap_lines gap) (own ∷ []) (gap-playable gap) (due-playable s.clock rest s.from stamp from to f s.number [], tt);
        left = λ more w waiting. left-line s.clock rest s.from stamp from to f s.number more w waiting
            ∙ ap (λ (l : List ℕ). left_text w (waiting ++ (gap_lines gap ++ (own ∷ []))) (applied s.clock stamp).frames (scored (applied s.clock stamp) (suc s.number) [] (l ++ more))) there;
      }

  -- ---- a run
  written_on : (room n : ℕ) (s : Reach) → Written s (unroll_on room input n s)
  unfolding unroll_on
  written_on room zero s = written_none s
  written_on room (suc n) s = cond-by (Written s) (has_place room (length s.text) s.number) _ _ (λ a. go (ahead_of input s) refl (λ t. written_on room n t)) (λ a. written_none s)
    where
      go : (x : Ahead) → ahead_of input s ≡ x → ((t : Reach) → Written t (unroll_on room input n t)) → Written s (on_line input s (unroll_on room input n) x)
      go (Ok (Some due)) e ih =
          written_both s (reach_behind input s due.stamp due.from due.to) _ (written_step s due.stamp due.from due.to e) (ih (reach_behind input s due.stamp due.from due.to))
      go (Ok None) e ih = written_none s
      go (Err why) e ih = written_none s

  pub unrolls : (room : ℕ) (s : Reach) → Written s (unroll_from room input s)
  unfolding unroll_from
  unrolls room s = written_on room room s
