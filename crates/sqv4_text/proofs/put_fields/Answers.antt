use Rattle.std.proofs.Common.{refl}
use Rattle.sqv4_text.proofs.Texts.{fields-none, fields-next}
use Rattle.sqv4_text.proofs.put_fields.Goals as goal

pub loop-value-init : goal.loop-value-init
loop-value-init c = record { same = refl; put = fields-none _ c.args.values.now _ _ c.min-out.ensures }

pub loop-value-preserved : goal.loop-value-preserved
loop-value-preserved c =
    let l = c.loop-value in
    fields-next _ _ _ _ c.args.values.now l.value-index c.loop-value-test.true l.invariant c.put_byte.ensures c.put_natural.ensures
