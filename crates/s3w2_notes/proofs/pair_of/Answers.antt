use native.Mathlib.Omega.{arith}
use Prim.Native.Nat.{◌<◌, ◌-◌, ◌^◌}
use lib.IntN.{pos}
use mir.Syntax.{w8, w32}
use mir.Facts.{to_z_pos}
use Rattle.num.proofs.Integers.{back}
use Rattle.num.proofs.Fit.{widen}
use Rattle.s3w2_notes.proofs.Pairs.{sum_is, below-fits, below-sum}
use Rattle.s3w2_notes.proofs.pair_of.Goals as goal

small : (c : goal.Then-k-lt128) → c.args.k < 2 ^ 31
small c = omega arith

pub returns-then-k-lt128 : goal.returns-then-k-lt128
returns-then-k-lt128 c =
    rw (to_z_pos w32 (small c), back w32 _ (widen w8 w32 (omega arith) (below-fits _ c.if-k-lt128.true)), back w8 _ (below-fits _ c.if-k-lt128.true))
    (below-sum _ c.if-k-lt128.true)

pub returns-then-k-lt384 : goal.returns-then-k-lt384
returns-then-k-lt384 c = sum_is (c.args.k - 128) (pos 0) c.args.k (omega arith)

pub returns : goal.returns
returns c =
    let k = c.args.k in
    rw (to_z_pos w8 {n = k - 383} (omega (arith, c.requires))) (sum_is 255 (pos (k - 383)) k (omega arith))
