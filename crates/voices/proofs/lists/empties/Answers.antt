use mathlib.Core.Path.{◌∙◌}
use Rattle.voices.proofs.Listed.{low, last, pcm, empties-control, empties-pcm}
use Rattle.voices.proofs.lists.empties.Goals as goal

pub returns-then-offset-lt16 : goal.returns-then-offset-lt16
returns-then-offset-lt16 c = c.control_write_invalidates.ensures ∙ empties-control c.args.offset (low c.args.offset c.if-offset-lt16.true)

pub returns-then-offset-eq26 : goal.returns-then-offset-eq26
returns-then-offset-eq26 c =
    let a = c.args in
    c.control_write_invalidates-then-offset-eq26.ensures ∙ empties-control a.offset (last a.offset c.if-offset-lt16.false c.if-offset-eq26.true)

pub returns : goal.returns
returns c =
    let a = c.args in
    c.pcm_write_invalidates.ensures ∙ empties-pcm a.offset (pcm a.offset c.if-offset-lt16.false c.if-offset-eq26.false)
