-- A line of a timed log, and what stands in an input. Assumes nothing.
use Rattle.std.specs.Prelude.{Some, Result, Ok, Err, None}
use mathlib.Core.Path.{◌≡◌, refl, sym, ap, ◌∙◌, subst}
use mathlib.Core.Bool.{false}
use mathlib.Core.List.{List}
use Prim.Native.Nat.{ℕ, ◌+◌, ◌-◌, ◌≤◌, ◌<◌}
use native.Mathlib.Omega.{arith}
use lib.Dec.{eqb, leb, ltb}
use lib.ListN.{length, get_or, drop, length-drop, drop_of_length-le}
use borrow.Author.Tests.{eq-eqb, ne_eqb, eqb-true, le-leb, lt-leb, leb-true, leb-false, le-ltb, lt-ltb, ltb-false}
use Rattle.num.proofs.Choice.{cond-by}
use Rattle.decimal.specs.Read.{natural_at, Numeral}
use Rattle.log_lines.specs.declared.Line.{Line}
use Rattle.log_lines.specs.declared.Line.TheVariants as plain
use Rattle.log_lines.specs.declared.LineFault.{LineFault}
use Rattle.log_lines.specs.declared.LineFault.TheVariants.{Malformed, Late, Crowded}
use Rattle.log_lines.specs.Lines.{parsed_line, is_bad}
use Rattle.log_lines.proofs.Commas.{comma-inside}
use Rattle.log_player.specs.Steps.{first_line}
use Rattle.timed_log.specs.declared.Due.{Due}
use Rattle.timed_log.specs.declared.Clockwork.{Clockwork}
use Rattle.timed_log.specs.Lines.{as_due, TimedLine, frame_most, stamp_most, longest, stamped_line, due_behind, due_of, due_already, judged, placed, next_due}

-- ---- a line behind others
module _ (k : Clockwork) where
  module _ (stamp from : ℕ) where
    pub judged-late : stamp < k.frames → judged k (Ok (as_due stamp from)) ≡ Err Late
    unfolding judged
    judged-late h = rw (lt-ltb stamp k.frames h)

    pub judged-crowded : k.frames ≤ stamp → stamp ≡ k.frames → frame_most ≤ k.lines → judged k (Ok (as_due stamp from)) ≡ Err Crowded
    unfolding judged
    judged-crowded h e m = rw (le-ltb stamp k.frames h, eq-eqb stamp k.frames e, le-leb frame_most k.lines m)

    pub judged-among : k.frames ≤ stamp → stamp ≡ k.frames → k.lines < frame_most → judged k (Ok (as_due stamp from)) ≡ Ok (as_due stamp from)
    unfolding judged
    judged-among h e m = rw (le-ltb stamp k.frames h, eq-eqb stamp k.frames e, lt-leb frame_most k.lines m)

    pub judged-first : k.frames ≤ stamp → (stamp ≡ k.frames → ⊥) → judged k (Ok (as_due stamp from)) ≡ Ok (as_due stamp from)
    unfolding judged
    judged-first h e = rw (le-ltb stamp k.frames h, ne_eqb stamp k.frames e)

-- ---- what stands in an input
module _ (k : Clockwork) (l : List ℕ) (from : ℕ) where
  pub due-past : length l ≤ from → Ok None ≡ next_due k (drop from l) from
  unfolding next_due first_line
  due-past h = rw (drop_of_length-le l h)

  module _ (e : length (first_line (drop from l)) ≡ length (drop from l)) where
    pub due-rest : length l - from ≤ longest → Ok None ≡ next_due k (drop from l) from
    unfolding next_due
    due-rest m = rw (eq-eqb (length (first_line (drop from l))) (length (drop from l)) e, le-leb (length (drop from l)) longest (omega (arith, length-drop from l)))

    pub due-long : longest < length l - from → Err Malformed ≡ next_due k (drop from l) from
    unfolding next_due
    due-long m = rw (eq-eqb (length (first_line (drop from l))) (length (drop from l)) e, lt-leb (length (drop from l)) longest (omega (arith, length-drop from l)))

  pub due-line : (stop : ℕ) → stop ≡ from + length (first_line (drop from l)) → stop < length l → placed from (length (first_line (drop from l))) (judged k (due_of (first_line (drop from l)))) ≡ next_due k (drop from l) from
  unfolding next_due
  due-line stop s n = rw (ne_eqb (length (first_line (drop from l))) (length (drop from l)) (λ e. absurd (omega (arith, length-drop from l))))

-- ---- a line that is due
pub record IsDue (text : List ℕ) (stamp from : ℕ) : Type 0 where
  pub low : stamp ≤ stamp_most
  pub within : from ≤ length text
  pub good : is_bad (parsed_line (drop from text)) ≡ false
  pub begins : 0 < from

module _ (text : List ℕ) (stamp from : ℕ) where
  abbrev If : TimedLine → Type 0
  If t = t ≡ Ok (as_due stamp from) → IsDue text stamp from

  none : {A : Type 0} → ◌≡◌ {A = TimedLine} (Err Malformed) (Ok (as_due stamp from)) → A
  none q = absurd (let z : ◌≡◌ {A = ℕ} 0 1 = cc in omega arith)

  pub due-is : due_of text ≡ Ok (as_due stamp from) → IsDue text stamp from
  unfolding due_of
  due-is = go (natural_at text 0)
    where
      line : (n next : ℕ) → n ≤ stamp_most → get_or text next 0 ≡ 44 → (l : Result Line LineFault) → parsed_line (drop (next + 1) text) ≡ l → is_bad l ≡ false → ◌≡◌ {A = TimedLine} (Ok (as_due n (next + 1))) (Ok (as_due stamp from)) → IsDue text stamp from
      line n next h c l e b q =
          let d : as_due n (next + 1) ≡ as_due stamp from = cc in
          let a : n ≡ stamp = ap (λ (x : Due). x.stamp) d in
          let f : next + 1 ≡ from = ap (λ (x : Due). x.from) d in
          record {
            low = omega arith;
            within = omega (arith, comma-inside text next c);
            good = ap (λ (i : ℕ). is_bad (parsed_line (drop i text))) (sym f) ∙ ap is_bad e ∙ b;
            begins = omega arith;
          }

      stamped : (n next : ℕ) → n ≤ stamp_most → get_or text next 0 ≡ 44 → (l : Result Line LineFault) → parsed_line (drop (next + 1) text) ≡ l → If (stamped_line n (next + 1) l)
      stamped n next h c (Ok (plain.Write a v)) e q = line n next h c (Ok (plain.Write a v)) e refl q
      stamped n next h c (Ok (plain.WriteRam a v)) e q = line n next h c (Ok (plain.WriteRam a v)) e refl q
      stamped n next h c (Ok (plain.Read a)) e q = line n next h c (Ok (plain.Read a)) e refl q
      stamped n next h c (Ok (plain.Peek a)) e q = line n next h c (Ok (plain.Peek a)) e refl q
      stamped n next h c (Ok (plain.Clock a)) e q = none q
      stamped n next h c (Ok (plain.Version v)) e q = line n next h c (Ok (plain.Version v)) e refl q
      stamped n next h c (Err why) e q = absurd (let z : ◌≡◌ {A = ℕ} 0 1 = cc in omega arith)

      go : (t : Numeral ℕ) → If (due_behind text t)
      go None = none
      go (Some (n, next)) =
          cond-by If (leb n stamp_most) _ _
          (λ a. cond-by If (eqb (get_or text next 0) 44) _ _ (λ b. stamped n next (leb-true n stamp_most a) (eqb-true (get_or text next 0) 44 b) (parsed_line (drop (next + 1) text)) refl) (λ b q. none q))
          (λ a q. none q)

-- and that is taken behind others
pub record IsTaken (k : Clockwork) (line : TimedLine) (stamp from : ℕ) : Type 0 where
  pub due : line ≡ Ok (as_due stamp from)
  pub late : k.frames ≤ stamp
  pub few : due_already k stamp < frame_most

module _ (k : Clockwork) (stamp from : ℕ) where
  pub taken_is : (line : TimedLine) → judged k line ≡ Ok (as_due stamp from) → IsTaken k line stamp from
  unfolding judged
  taken_is (Err why) = λ e. absurd (let z : ◌≡◌ {A = ℕ} 0 1 = cc in omega arith)
  taken_is (Ok d) =
      cond-by Goal (ltb d.stamp k.frames) _ _ (λ a e. absurd (let z : ◌≡◌ {A = ℕ} 0 1 = cc in omega arith))
      (λ a. cond-by Goal (leb frame_most (due_already k d.stamp)) _ _ (λ b e. absurd (let z : ◌≡◌ {A = ℕ} 0 1 = cc in omega arith)) (λ b e. fine a b e))
    where
      Goal : TimedLine → Type 0
      Goal t = t ≡ Ok (as_due stamp from) → IsTaken k (Ok d) stamp from

      fine : ltb d.stamp k.frames ≡ false → leb frame_most (due_already k d.stamp) ≡ false → ◌≡◌ {A = TimedLine} (Ok d) (Ok (as_due stamp from)) → IsTaken k (Ok d) stamp from
      fine a b e =
          let same : d ≡ as_due stamp from = cc in
          let q : d.stamp ≡ stamp = ap (λ (x : Due). x.stamp) same in
          record {
            due = e;
            late = omega (arith, ltb-false d.stamp k.frames a);
            few = subst (λ (n : ℕ). due_already k n < frame_most) q (leb-false frame_most (due_already k d.stamp) b);
          }
