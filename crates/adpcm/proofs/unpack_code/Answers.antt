use Rattle.std.proofs.Common.{◌*◌, ◌%◌, ◌^◌}
use Rattle.adpcm.proofs.Packed.{code_is}
use Rattle.adpcm.proofs.unpack_code.Goals as goal

pub returns : goal.returns
returns c =
    let a = c.args in
    rw (c.overlay-code.ensures, c.bits_in.ensures, c.min.ensures) (code_is a.input.now (λ i. (c.shared_slice_known-1.given i).fits) (a.sample * a.bits % 2 ^ 64) a.bits)
