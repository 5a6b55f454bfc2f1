-- A line that was found in an input, and what of it is written out. Assumes nothing.
use Rattle.std.specs.Prelude.{Ok, Some, None, Err}
use mathlib.Core.Path.{◌≡◌, refl, sym, ap, ◌∙◌, subst}
use mathlib.Core.Bool.{Bool, true, false}
use mathlib.Core.List.{List, [], ◌∷◌, ◌++◌}
use Prim.Native.Nat.{ℕ, suc, ◌+◌, ◌-◌, ◌≤◌, ◌<◌}
use native.Mathlib.Omega.{arith}
use native.Mathlib.Decide.{dec_le}
use lib.Dec.{eqb, leb}
use lib.ListN.{length, drop, take, length-drop, length-append}
use lib.Seq.{drop-drop, drop-append-le, take-append-add}
use borrow.Author.Tests.{eqb-true, eqb-false}
use Rattle.num.specs.Lists.{part}
use Rattle.num.proofs.Choice.{cond-by, never}
use Rattle.log_lines.specs.declared.LineFault.{LineFault}
use Rattle.log_lines.specs.Lines.{is_bad}
use Rattle.log_lines.proofs.Long.{long-line}
use Rattle.log_player.specs.Steps.{first_line}
use Rattle.log_player.proofs.Stops.{first_short}
use Rattle.timed_log.specs.declared.LineAhead.{LineAhead}
use Rattle.timed_log.specs.declared.Clockwork.{Clockwork}
use Rattle.timed_log.specs.Lines.{line_ahead, TimedLine, Ahead, longest, due_of, judged, placed, next_due}
use Rattle.timed_log.proofs.Judging.{IsDue, due-is, IsTaken, taken_is}

-- a line with its byte 10 stands before what follows it
pub first-split : (l : List ℕ) → length (first_line l) < length l → l ≡ first_line l ++ (10 ∷ drop (suc (length (first_line l))) l)
unfolding first_line
first-split [] h = absurd (omega arith)
first-split (c ∷ cs) h = go (eqb c 10) refl (first-split cs)
  where
    go : (b : Bool) → eqb c 10 ≡ b → (length (first_line cs) < length cs → cs ≡ first_line cs ++ (10 ∷ drop (suc (length (first_line cs))) cs))
        → c ∷ cs ≡ first_line (c ∷ cs) ++ (10 ∷ drop (suc (length (first_line (c ∷ cs)))) (c ∷ cs))
    go true e ih = rw e (ap (λ (x : ℕ). x ∷ cs) (eqb-true c 10 e))
    go false e ih =
        let k : length (first_line cs) < length cs = (let z : suc (length (first_line cs)) < suc (length cs) = rw e at h in omega arith) in
        rw e (ap (λ (x : List ℕ). c ∷ x) (ih k))

-- ---- what a line that was found is
pub record Found (k : Clockwork) (rest : List ℕ) (at stamp from to : ℕ) : Type 0 where
  pub begin : ℕ
  pub taken : IsTaken k (due_of (first_line rest)) stamp begin
  pub due : IsDue (first_line rest) stamp begin
  pub starts : from ≡ at + begin
  pub behind : to ≡ at + length (first_line rest) + 1
  pub closed : length (first_line rest) < length rest

module _ (k : Clockwork) (rest : List ℕ) (at stamp from to : ℕ) where
  abbrev If : Ahead → Type 0
  If a = a ≡ Ok (Some (line_ahead stamp from to)) → Found k rest at stamp from to

  abbrev tell : Ahead → Bool
  tell (Ok (Some line)) = true
  tell (Ok None) = false
  tell (Err why) = false

  rested : ◌≡◌ {A = Ahead} (Ok None) (Ok (Some (line_ahead stamp from to))) → Found k rest at stamp from to
  rested e = never (sym (ap tell e))

  refused : (why : LineFault) → ◌≡◌ {A = Ahead} (Err why) (Ok (Some (line_ahead stamp from to))) → Found k rest at stamp from to
  refused why e = never (sym (ap tell e))

  pub found-is : next_due k rest at ≡ Ok (Some (line_ahead stamp from to)) → Found k rest at stamp from to
  unfolding next_due
  found-is =
      cond-by If (eqb (length (first_line rest)) (length rest)) _ _
      (λ a. cond-by If (leb (length rest) longest) _ _ (λ b. rested) (λ b. refused _))
      (λ a. line (less (eqb-false (length (first_line rest)) (length rest) a) (first_short rest)) (judged k (due_of (first_line rest))) refl)
    where
      less : {a b : ℕ} → (a ≡ b → ⊥) → a ≤ b → a < b
      less n h = omega arith

      line : length (first_line rest) < length rest → (t : TimedLine) → judged k (due_of (first_line rest)) ≡ t → If (placed at (length (first_line rest)) t)
      line h (Err why) e = refused _
      line h (Ok due) e = λ q.
          let f : ℕ = due.from in
          let same : line_ahead due.stamp (at + due.from) (at + length (first_line rest) + 1) ≡ line_ahead stamp from to = cc in
          let a : due.stamp ≡ stamp = ap (λ (x : LineAhead). x.stamp) same in
          let b : at + f ≡ from = ap (λ (x : LineAhead). x.from) same in
          let d : at + length (first_line rest) + 1 ≡ to = ap (λ (x : LineAhead). x.to) same in
          let t : IsTaken k (due_of (first_line rest)) stamp f = subst (λ (n : ℕ). IsTaken k (due_of (first_line rest)) n f) a (taken_is k due.stamp f (due_of (first_line rest)) e) in
          record { begin = f; taken = t; due = due-is (first_line rest) stamp f t.due; starts = sym b; behind = sym d; closed = h }

-- ---- what is written out of it
module _ (k : Clockwork) (input : List ℕ) (at stamp from to : ℕ) (f : Found k (drop at input) at stamp from to) where
  abbrev pub due_text : List ℕ
  due_text = drop f.begin (first_line (drop at input))

  pub due-short : length due_text ≤ 16
  due-short =
      elim (dec_le (length due_text) 16) [
        | yes h ↦ h
        | no h ↦ never (sym (ap is_bad (long-line due_text (omega arith))) ∙ f.due.good)
      ]

  pub part-due : part input from (to - from) ≡ due_text ++ (10 ∷ [])
  part-due =
      let rest : List ℕ = drop at input in
      let n : ℕ = length (first_line rest) in
      let more : List ℕ = drop (suc n) rest in
      let size : to - from ≡ length due_text + 1 = rw (length-drop f.begin (first_line rest)) (omega (arith, f.starts, f.behind, f.due.within)) in
      let there : drop from input ≡ due_text ++ (10 ∷ more) =
      ap (λ (i : ℕ). drop i input) f.starts ∙ sym (drop-drop f.begin at input) ∙ ap (drop f.begin) (first-split rest f.closed)
      ∙ drop-append-le f.begin (first_line rest) (10 ∷ more) f.due.within in
      ap (λ (i : ℕ). take i (drop from input)) size ∙ ap (take (length due_text + 1)) there ∙ take-append-add due_text (10 ∷ more) 1

  pub part_length : length (part input from (to - from)) ≡ length due_text + 1
  part_length = ap length part-due ∙ length-append due_text (10 ∷ [])
