use Rattle.std.proofs.Common.{◌*◌, ◌/◌, ◌^◌, arith}
use native.Mathlib.Nat as N
use Rattle.num.proofs.Bits.{or-bit}
use Rattle.tone.proofs.noise.shifted.Goals as goal

pub returns : goal.returns
returns c = rw (N.mod-eq_of_lt {n = c.args.bit * 2 ^ 22} {m = 2 ^ 32} (omega arith)) (or-bit 22 c.args.bit (c.args.lfsr / 2) c.requires)
