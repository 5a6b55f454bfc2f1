use mathlib.Core.Path.{ap}
use Rattle.std.specs.Prelude.{is_ok}
use Rattle.s3w2.proofs.Refused.{not-clocked-so, clocked-without, clocked}
use Rattle.chip_lists.proofs.refusal_of_list.Goals as goal

pub returns-in_err-refusal_of_sound : goal.returns-in_err-refusal_of_sound
returns-in_err-refusal_of_sound c = not-clocked-so _ _ _ _ _ c.refusal_of_sound.ensures _ _ c.in_err-refusal_of_sound.was c.from_residual.ensures.1

pub returns-then-not-enough : goal.returns-then-not-enough
returns-then-not-enough c = clocked-without _ _ _ _ _ c.refusal_of_sound.ensures (ap is_ok c.in_ok-refusal_of_sound.was) (c.if-not-enough.true)

pub returns : goal.returns
returns c = clocked _ _ _ _ _ c.refusal_of_sound.ensures (ap is_ok c.in_ok-refusal_of_sound.was) (c.if-not-enough.false)
