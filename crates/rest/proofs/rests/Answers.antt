use mathlib.Core.Path.{sym, ◌∙◌}
use Rattle.voice.proofs.Tests.{fails, passes}
use Rattle.rest.specs.Rest.{rests}
use Rattle.rest.proofs.rests.Goals as goal

pub returns-then-not-are_fresh : goal.returns-then-not-are_fresh
unfolding rests
returns-then-not-are_fresh c = fails _ _ (sym c.are_fresh.ensures ∙ c.if-not-are_fresh.true)

pub returns-then-not-are_centred : goal.returns-then-not-are_centred
unfolding rests
returns-then-not-are_centred c = passes _ _ (sym c.are_fresh.ensures ∙ c.if-not-are_fresh.false) (fails _ _ (sym c.are_centred.ensures ∙ c.if-not-are_centred.true))

pub returns : goal.returns
unfolding rests
returns c = passes _ _ (sym c.are_fresh.ensures ∙ c.if-not-are_fresh.false) (passes _ _ (sym c.are_centred.ensures ∙ c.if-not-are_centred.false) c.are_zeros.ensures)
