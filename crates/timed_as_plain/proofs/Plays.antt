-- A run over lines that are written out plays some of them. Assumes nothing.
use Rattle.std.specs.Prelude.{Result, Err, Ok, Some, None}
use mathlib.Core.Path.{◌≡◌, refl, sym, ap, ◌∙◌, subst}
use mathlib.Core.Bool.{Bool, true, false, cond}
use mathlib.Core.List.{List, [], ◌∷◌, ◌++◌, append_assoc}
use Prim.Native.Nat.{ℕ, suc, ◌+◌}
use native.Mathlib.Omega.{arith}
use lib.Dec.{eqb}
use lib.ListN.{length, drop, length-append}
use lib.Seq.{drop-drop, drop-append-add}
use borrow.Author.Tests.{ne_eqb}
use Rattle.num.proofs.Choice.{never}
use Rattle.log_lines.specs.declared.Line.{Line}
use Rattle.log_lines.specs.declared.LineFault.{LineFault}
use Rattle.log_lines.specs.Lines.{parsed_line, is_bad}
use Rattle.log_player.specs.Steps.{Next, line_found}
use Rattle.log_player.specs.Worlds.{World}
use Rattle.log_player.specs.Applied.{after_line, printed}
use Rattle.log_player.specs.Steps.{first_line, next_of}
use Rattle.log_player.specs.Runs.{has_room, Spot, spot, is_line, Run, stops_at, run_from}
use Rattle.log_player.proofs.Spots.{plays-line, plays-none, plays-full, found-there, found-full, run-next, run-stops}
use Rattle.plain_chip.specs.Lists.{Every}
use Rattle.log_resume.specs.Cuts.{no_end, Playable, half, played}
use Rattle.timed_as_plain.specs.Scores.{sounded}

-- ---- lines, some behind others
pub played-append : (a b : List (List ℕ)) (w : World) → played w (a ++ b) ≡ played (played w a) b
played-append [] b w = refl
played-append (line ∷ a) b w = played-append a b (after_line w (parsed_line line))

pub sounded-append : (a b : List (List ℕ)) (w : World) → sounded w (a ++ b) ≡ sounded w a ++ sounded (played w a) b
sounded-append [] b w = refl
sounded-append (line ∷ a) b w =
    ap (λ (l : List ℕ). printed w (parsed_line line) ++ l) (sounded-append a b (after_line w (parsed_line line)))
    ∙ sym (append_assoc (printed w (parsed_line line)) (sounded (after_line w (parsed_line line)) a) (sounded (played (after_line w (parsed_line line)) a) b))

-- ---- a line with its byte 10
first-is : (line rest : List ℕ) → no_end line ≡ true → first_line (line ++ (10 ∷ rest)) ≡ line
unfolding first_line
first-is [] rest h = refl
first-is (c ∷ line) rest h = go (eqb c 10) h (first-is line rest)
  where
    go : (t : Bool) → cond t false (no_end line) ≡ true → (no_end line ≡ true → first_line (line ++ (10 ∷ rest)) ≡ line) → cond t [] (c ∷ first_line (line ++ (10 ∷ rest))) ≡ c ∷ line
    go true e ih = never (sym e)
    go false e ih = ap (λ (l : List ℕ). c ∷ l) (ih e)

found-good : (place : ℕ) (line : Result Line LineFault) → is_bad line ≡ false → line_found place line ≡ Ok (Some place)
found-good place (Ok line) e = refl
found-good place (Err why) e = never e

next-is : (line rest : List ℕ) (at : ℕ) → Playable line → next_of (line ++ (10 ∷ rest)) at ≡ Ok (Some (at + length line + 1))
unfolding next_of
next-is line rest at p =
    rw (first-is line rest p.one, ne_eqb (length line) (length (line ++ (10 ∷ rest))) (λ e. absurd (longer e))) (found-good (at + length line + 1) (parsed_line line) p.played)
  where
    longer : length line ≡ length (line ++ (10 ∷ rest)) → ⊥
    longer e = omega (arith, e, length-append line (10 ∷ rest))

next-none : (at : ℕ) → next_of [] at ≡ Ok None
unfolding next_of first_line
next-none at = refl

-- ---- where a run stops among lines
pub data Where (left : List (List ℕ)) (next : Next) : Type 0 where
  all : left ≡ [] → next ≡ Ok None → Where left next
  some : (place : ℕ) → next ≡ Ok (Some place) → Where left next

pub record Stopped (w : World) (from : ℕ) (text : List ℕ) (lines : List (List ℕ)) (r : Run) : Type 0 where
  pub done : List (List ℕ)
  pub left : List (List ℕ)
  pub split : lines ≡ done ++ left
  pub world : r.world ≡ played w done
  pub at : r.from ≡ from + length (half done)
  pub printed : r.text ≡ text ++ sounded w done
  pub next : Where left r.next

module _ (room : ℕ) (input : List ℕ) where
  abbrev at : World → ℕ → ℕ → List ℕ → Run
  at w number from text = run_from room input (spot w number from text)

  full : (w : World) (number from : ℕ) (text : List ℕ) (lines : List (List ℕ)) → has_room room (length text) number ≡ false → Stopped w from text lines (at w number from text)
  full w number from text lines e =
      let s = spot w number from text in
      subst (Stopped w from text lines) (sym (run-stops room input s (plays-full room input s e) ∙ ap (stops_at s) (found-full room input s e)))
      (record { done = []; left = lines; split = refl; world = refl; at = omega arith; printed = refl; next = some from refl })

  pub stops : (lines : List (List ℕ)) (w : World) (number from : ℕ) (text : List ℕ) → Every Playable lines → drop from input ≡ half lines → Stopped w from text lines (at w number from text)
  stops [] w number from text p e = go (has_room room (length text) number) refl
    where
      s : Spot
      s = spot w number from text

      none : next_of (drop from input) from ≡ Ok None
      none = ap (λ (l : List ℕ). next_of l from) e ∙ next-none from

      go : (b : Bool) → has_room room (length text) number ≡ b → Stopped w from text [] (at w number from text)
      go false h = full w number from text [] h
      go true h =
          subst (Stopped w from text []) (sym (run-stops room input s (plays-none room input s (ap is_line none)) ∙ ap (stops_at s) (found-there room input s h ∙ none)))
          (record { done = []; left = []; split = refl; world = refl; at = omega arith; printed = refl; next = all refl refl })
  stops (line ∷ lines) w number from text p e = go (has_room room (length text) number) refl (λ v n f t d. stops lines v n f t p.1 d)
    where
      s : Spot
      s = spot w number from text

      here : next_of (drop from input) from ≡ Ok (Some (from + length line + 1))
      here = ap (λ (l : List ℕ). next_of l from) e ∙ next-is line (half lines) from p.0

      own : first_line (drop from input) ≡ line
      own = ap first_line e ∙ first-is line (half lines) p.0.one

      behind : drop (from + length line + 1) input ≡ half lines
      behind =
          let k : from + length line + 1 ≡ from + (length line + 1) = omega arith in
          ap (λ (i : ℕ). drop i input) k ∙ sym (drop-drop (length line + 1) from input) ∙ ap (drop (length line + 1)) e ∙ drop-append-add line (10 ∷ half lines) 1

      Next' : Type 0
      Next' = (v : World) (n f : ℕ) (t : List ℕ) → drop f input ≡ half lines → Stopped v f t lines (at v n f t)

      go : (b : Bool) → has_room room (length text) number ≡ b → Next' → Stopped w from text (line ∷ lines) (at w number from text)
      go false h ih = full w number from text (line ∷ lines) h
      go true h ih =
          let after = after_line w (parsed_line line) in
          let out = text ++ printed w (parsed_line line) in
          let r = ih after (suc number) (from + length line + 1) out behind in
          let is : at w number from text ≡ at after (suc number) (from + length line + 1) out =
          run-next room input s (plays-line room input s h (ap is_line here)) ∙ ap (λ (l : List ℕ). at (after_line w (parsed_line l)) (suc number) (from + length l + 1) (text ++ printed w (parsed_line l))) own in
          subst (Stopped w from text (line ∷ lines)) (sym is)
          (record {
            done = line ∷ r.done;
            left = r.left;
            split = ap (λ (l : List (List ℕ)). line ∷ l) r.split;
            world = r.world;
            at = r.at ∙ long line r.done;
            printed = r.printed ∙ append_assoc text (printed w (parsed_line line)) (sounded after r.done);
            next = r.next;
          })
        where
          long : (a : List ℕ) (b : List (List ℕ)) → from + length a + 1 + length (half b) ≡ from + length (a ++ (10 ∷ half b))
          long a b = omega (arith, length-append a (10 ∷ half b))
