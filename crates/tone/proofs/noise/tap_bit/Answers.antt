use Rattle.std.proofs.Common.{refl, arith}
use lib.Bits.{bit_and, and_mask}
use lib.Count.{ones}
use Rattle.num.proofs.Bits.{ones-selected}
use Rattle.tone.proofs.noise.tap_bit.Goals as goal

pub returns : goal.returns
returns c = let a = c.args in
    rw (and_mask (ones (bit_and a.lfsr a.taps)) 1, ones-selected 23 a.lfsr a.taps c.requires) (refl, omega arith)
