use Rattle.std.proofs.Common.{sym, refl}
use Rattle.adpcm.specs.Codes.{overlaid}
use Rattle.adpcm.proofs.Packed.{byte_more}
use Rattle.adpcm.proofs.overlay.Goals as goal

pub loop-i-init : goal.loop-i-init
unfolding overlaid
loop-i-init c = refl

pub loop-i-preserved : goal.loop-i-preserved
loop-i-preserved c =
    let a = c.args in
    let l = c.loop-i in
    rw (l.invariant, c.bits_in-code.ensures) (sym (byte_more a.input.now a.at a.within l.i))
