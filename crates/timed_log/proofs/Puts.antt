-- Lines written out, put into a buffer; the clockwork behind a line. Assumes nothing.
use mathlib.Core.Path.{◌≡◌}
use mathlib.Core.List.{List, [], ◌++◌}
use Prim.Native.Nat.{ℕ, ◌+◌, ◌<◌}
use native.Mathlib.Numerals.{add-one}
use borrow.Author.Tests.{eq-eqb, ne_eqb}
use Rattle.output.specs.declared.Output.{Output}
use Rattle.output.specs.Output.{Puts}
use Rattle.output.proofs.Writing.{puts-append}
use Rattle.timed_log.specs.declared.Clockwork.{Clockwork}
use Rattle.timed_log.specs.Lines.{frame_most, due_already}
use Rattle.timed_log.specs.Unrolled.{clock_text, clockwork, applied}
use Rattle.timed_log.specs.Unrolls.{gap_text}

-- ---- the frames before a line
pub gap-none : (gap : ℕ) → gap ≡ 0 → gap_text gap ≡ []
unfolding gap_text
gap-none gap e = rw (eq-eqb gap 0 e)

pub gap-some : (gap : ℕ) → (gap ≡ 0 → ⊥) → gap_text gap ≡ clock_text gap
unfolding gap_text
gap-some gap e = rw (ne_eqb gap 0 e)

pub line-put : (s t : Output) (gap : ℕ) (line : List ℕ) → gap ≡ 0 → Puts s t line → Puts s t (gap_text gap ++ line)
line-put s t gap line e p = rw (gap-none gap e) p

pub gap-put : (s t u : Output) (gap : ℕ) (line : List ℕ) → (gap ≡ 0 → ⊥) → Puts s t (clock_text gap) → Puts t u line → Puts s u (gap_text gap ++ line)
gap-put s t u gap line n p q = rw (gap-some gap n) (puts-append s t u (clock_text gap) line p q)

-- ---- the clockwork
module _ (k : Clockwork) (stamp : ℕ) where
  pub few-there : stamp ≡ k.frames → due_already k stamp < frame_most → k.lines < frame_most
  few-there e h = rw (eq-eqb stamp k.frames e) at h

  pub applied-there : stamp ≡ k.frames → clockwork stamp (k.lines + 1) ≡ applied k stamp
  unfolding applied
  applied-there e = rw (eq-eqb stamp k.frames e, add-one k.lines)

  pub applied-on : (stamp ≡ k.frames → ⊥) → clockwork stamp 1 ≡ applied k stamp
  unfolding applied
  applied-on e = rw (ne_eqb stamp k.frames e)
