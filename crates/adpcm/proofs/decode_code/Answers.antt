use Rattle.std.proofs.Common.{sym, ◌∙◌, to_z-of_z}
use borrow.Author.Rules.{sfits_of}
use Rattle.adpcm.specs.Ima.{step_size}
use Rattle.adpcm.specs.Codes.{delta_of, decode_code}
use Rattle.adpcm.proofs.Ima.{decode_is}
use Rattle.adpcm.proofs.decode_code.Goals as goal

pub returns : goal.returns
unfolding decode_code delta_of
returns c =
    let a = c.args in
    rw (to_z-of_z (sfits_of c.delta.type_inv), to_z-of_z (sfits_of c.adjust.type_inv), c.delta.ensures.0, c.adjust.ensures.0) at c.update.ensures
    ∙ sym (decode_is a.version a.variant a.state (step_size a.state.index) a.code)
