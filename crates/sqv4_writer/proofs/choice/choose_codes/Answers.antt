use borrow.Author.Rules.{rules}
use mathlib.Core.Path.{◌≡◌, ◌∙◌}
use lib.IntN.{pos}
use lib.ListN.{get_or, length-set}
use mir.Syntax.{w16}
use mir.Val.{SFits}
use Rattle.num.proofs.Integers.{back}
use Rattle.adpcm.specs.Codes.{decode_code}
use Rattle.adpcm.proofs.Ima.{read_is}
use Rattle.sqv4_writer.specs.Choice.{code_for}
use Rattle.sqv4_writer.proofs.Stored.{code-stored, codes-done}
use Rattle.sqv4_writer.proofs.choice.choose_codes.Goals as goal

pub loop-i-preserved : goal.loop-i-preserved
loop-i-preserved c =
    let l = c.loop-i in
    let a = c.args in
    let t = c.step_sizes-steps.ensures in
    let near : SFits w16 (get_or a.samples.now l.i (pos 0)) = search rules in
    let code = c.nearest_code-code.result in
    let ec : code ≡ code_for a.terms.variant a.terms.volume l.state (get_or a.samples.now l.i (pos 0)) = rw (back w16 _ near) at c.nearest_code-code.ensures in
    let ed : c.decode_at-state.result ≡ decode_code 3 a.terms.variant l.state code =
    rw (c.min-at.ensures, t) at c.decode_at-state.ensures ∙ read_is 3 a.terms.variant l.state code in
    (length-set l.codes l.i code ∙ l.invariant.0, code-stored a.terms.variant a.terms.volume a.samples.now l.codes l.state l.i code _ c.loop-i-test.true ec ed ∙ l.invariant.1)

pub returns : goal.returns
returns c = codes-done _ _ _ _ _ _ c.loop-i-test.false ∙ c.loop-i.invariant.1
