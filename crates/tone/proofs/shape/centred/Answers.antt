use Rattle.std.proofs.Common.{◌≡◌, ℕ, ◌*◌, ◌/◌, ◌<◌, ◌∙◌, arith, w16, w32}
use lib.Bits.{bit_and, and_high}
use mir.Facts.{to_z_pos}
use Rattle.num.proofs.Integers.{back}
use Rattle.num.proofs.Fit.{widen16-32}
use Rattle.tone.specs.Shape.{centred}
use Rattle.tone.proofs.Ranges.{about}
use Rattle.tone.proofs.shape.centred.Goals as goal

-- without the eight low bits
whole : (v : ℕ) → v < 65536 → bit_and v 65280 ≡ v / 256 * 256
whole v h = and_high v 8 8 ∙ omega arith

pub returns-then-interpolate : goal.returns-then-interpolate
unfolding centred
returns-then-interpolate c = let v = c.args.q8 in
    rw (to_z_pos w32 {n = v} (omega arith), back w32 _ (widen16-32 (about v (omega arith))), back w16 _ (about v (omega arith)), c.if-interpolate.true)

pub returns : goal.returns
unfolding centred
returns c = let v = c.args.q8 / 256 * 256 in
    rw (whole c.args.q8 (omega arith), to_z_pos w32 {n = v} (omega arith), back w32 _ (widen16-32 (about v (omega arith))), back w16 _ (about v (omega arith)), c.if-interpolate.false)
