use mathlib.Core.Path.{ap, refl, sym, ◌∙◌}
use Rattle.std.specs.Prelude.{is_ok}
use Rattle.s3w2.proofs.Refused.{not-clocked, clocked-without}
use Rattle.chip_lists.proofs.refusal_without_stems.Goals as goal

pub returns-in-Ok : goal.returns-in-Ok
returns-in-Ok c = clocked-without _ _ _ _ _ c.refusal_of_sound.ensures (ap is_ok c.in-Ok.is) refl

pub returns-in-Err : goal.returns-in-Err
returns-in-Err c = sym c.in-Err.is ∙ not-clocked _ _ _ _ _ c.refusal_of_sound.ensures (ap is_ok c.in-Err.is)
