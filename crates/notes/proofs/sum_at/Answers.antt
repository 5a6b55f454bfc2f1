use native.Mathlib.Omega.{arith}
use mathlib.Core.Path.{◌≡◌}
use Prim.Native.Nat.{◌+◌, ◌<◌, ◌^◌}
use lib.IntN.{pos, ◌+ℤ◌}
use mir.Syntax.{w8, w32}
use mir.Val.{SFits, to_z, of_z}
use mir.Facts.{to_z_pos}
use Rattle.num.proofs.Integers.{back}
use Rattle.num.proofs.Fit.{widen}
use Rattle.notes.specs.Pitches.{below_zero, lifted_sum, sum_at}
use Rattle.notes.proofs.Sums.{lifted-fits}
use Rattle.notes.proofs.sum_at.Goals as goal

module _ (c : goal.Start) where
  small : c.args.note < 2 ^ 31
  small = omega (arith, c.ranges.note.fits)

  lifted : SFits w32 (pos (c.args.note + below_zero))
  lifted = record { sfits = omega (arith, c.ranges.note.fits) }

  wide : SFits w32 c.args.semitones
  wide = widen w8 w32 (omega arith) c.ranges.semitones

  sum_fits : SFits w32 (lifted_sum c.args.note c.args.semitones)
  sum_fits = lifted-fits c.args.note c.args.semitones c.ranges.note.fits c.ranges.semitones

  -- what the sum holds
  is : to_z w32 (of_z w32 (to_z w32 (of_z w32 (to_z w32 c.args.note +ℤ pos 128)) +ℤ to_z w32 (of_z w32 (to_z w8 (of_z w8 c.args.semitones))))) ≡ lifted_sum c.args.note c.args.semitones
  is = rw (to_z_pos w32 small, back w32 _ lifted, back w8 _ c.ranges.semitones, back w32 _ wide) (back w32 _ sum_fits)

pub returns : goal.returns
unfolding sum_at
returns c = rw (is c)
