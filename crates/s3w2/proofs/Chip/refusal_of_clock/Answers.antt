use Rattle.std.specs.Prelude.{is_ok}
use mathlib.Core.Path.{ap, sym, ◌∙◌}
use Rattle.s3w2.proofs.Refused.{not-clocked-so, clocked-without, clocked}
use Rattle.s3w2.proofs.Chip.refusal_of_clock.Goals as goal

pub returns-in_err-refusal_of_sound : goal.returns-in_err-refusal_of_sound
returns-in_err-refusal_of_sound c = not-clocked-so _ _ _ _ _ c.refusal_of_sound.ensures _ _ c.in_err-refusal_of_sound.was c.from_residual.ensures.1

pub returns-then-not-is_stem_buffer : goal.returns-then-not-is_stem_buffer
returns-then-not-is_stem_buffer c = clocked-without _ _ _ _ _ c.refusal_of_sound.ensures (ap is_ok c.in_ok-refusal_of_sound.was) (sym c.is_stem_buffer.ensures ∙ c.if-not-is_stem_buffer.true)

pub returns : goal.returns
returns c = clocked _ _ _ _ _ c.refusal_of_sound.ensures (ap is_ok c.in_ok-refusal_of_sound.was) (sym c.is_stem_buffer.ensures ∙ c.if-not-is_stem_buffer.false)
