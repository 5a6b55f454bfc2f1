use Rattle.std.proofs.Common.{min, sym, ◌∙◌, to_z-of_z}
use borrow.Author.Rules.{sfits_of}
use Rattle.adpcm.proofs.Ima.{decode_is}
use Rattle.adpcm.proofs.decode_at.Goals as goal

pub returns : goal.returns
returns c =
    let a = c.args in
    rw (to_z-of_z (sfits_of c.delta_at.type_inv), to_z-of_z (sfits_of c.adjust.type_inv), c.delta_at.ensures.0, c.adjust.ensures.0, c.min-step.ensures) at c.update.ensures
    ∙ sym (decode_is a.version a.variant a.state (min a.size 32767) a.code)
