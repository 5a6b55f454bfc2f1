use mathlib.Core.Path.{◌∙◌}
use Rattle.voices.proofs.Listed.{low, last, pcm, channel-control, channel-pcm, entries-control, entries-pcm}
use Rattle.voices.proofs.lists.write_at.Goals as goal

pub returns-then-offset-lt16 : goal.returns-then-offset-lt16
returns-then-offset-lt16 c =
    let a = c.args in
    let e = low a.offset c.if-offset-lt16.true in
    (c.write_control.ensures.0 ∙ channel-control a.offset a.version a.c a.value e, c.write_control.ensures.1 ∙ entries-control a.offset a.version a.c a.value a.queue.now e)

pub returns-then-offset-eq26 : goal.returns-then-offset-eq26
returns-then-offset-eq26 c =
    let a = c.args in
    let e = last a.offset c.if-offset-lt16.false c.if-offset-eq26.true in
    (c.write_control-then-offset-eq26.ensures.0 ∙ channel-control a.offset a.version a.c a.value e, c.write_control-then-offset-eq26.ensures.1 ∙ entries-control a.offset a.version a.c a.value a.queue.now e)

pub returns : goal.returns
returns c =
    let a = c.args in
    let e = pcm a.offset c.if-offset-lt16.false c.if-offset-eq26.false in
    (c.write_pcm_reg.ensures ∙ channel-pcm a.offset a.version a.c a.value e, entries-pcm a.offset a.version a.c a.value a.queue.now e)
