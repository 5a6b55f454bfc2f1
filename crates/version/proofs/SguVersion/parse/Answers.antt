use mathlib.Core.Path.{◌∙◌}
use Rattle.version.proofs.Texts.{parse-is}
use Rattle.version.proofs.SguVersion.parse.Goals as goal

pub returns : goal.returns
returns c =
    c.named.ensures
    ∙ parse-is c.args.text.now _ _ _ c.text_start-start.result c.text_end-end.result c.v_count-v.result c.tail-t.ensures c.text_start-start.ensures c.part-u.ensures c.text_end-end.ensures c.tail.ensures c.v_count-v.ensures
