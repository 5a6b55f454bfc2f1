use Rattle.std.proofs.Common.{◌≡◌, pos, ◌*ℤ◌, sym, arith, w16, w32, SFits}
use mir.Facts.{to_z_pos}
use Rattle.num.proofs.Integers.{fit, back}
use lib.Signed.{quot_z}
use Rattle.num.proofs.Fit.{widen16-32, scaled_fits}
use Rattle.tone.proofs.Sides.{gain-small}
use Rattle.tone.proofs.Scaled.{gain-once}
use Rattle.tone.proofs.Streams.{value-abs, volume-fits}
use Rattle.tone.specs.Mix.{stream_value, stream_volume_of, master_gain}
use Rattle.tone.proofs.mix.stream_gained.Goals as goal

value : (c : goal.After-stream_value) → c.stream_value.result ≡ stream_value c.args.q8
value c = rw (back w32 _ c.ranges.q8) at c.stream_value.ensures

ok : (c : goal.After-stream_value) → SFits w32 c.stream_value.result
ok c = record { sfits = c.stream_value.type_inv }

product : (c : goal.After-stream_value) → SFits w32 (c.stream_value.result *ℤ pos c.args.volume)
product c = rw (value c) (scaled_fits (stream_value c.args.q8) (value-abs c.args.q8) c.args.volume (omega arith))

once : (c : goal.After-stream_value) → master_gain (stream_volume_of c.args.q8 c.args.volume) ≡ quot_z (stream_value c.args.q8 *ℤ pos c.args.volume) (pos 522240)
unfolding stream_volume_of
once c = gain-once (stream_value c.args.q8 *ℤ pos c.args.volume) 65280

quotient : (c : goal.After-stream_value) → SFits w16 (quot_z (c.stream_value.result *ℤ pos c.args.volume) (pos 522240))
unfolding stream_volume_of
quotient c =
    rw (value c, sym (once c)) (let g = gain-small _ (volume-fits c.args.q8 c.args.volume (omega arith)) in fit w16 _ (omega arith) (omega arith))

pub returns : goal.returns
returns c = rw (back w32 _ (ok c), to_z_pos w32 {n = c.args.volume} (omega arith), back w32 _ (product c), back w32 _ (widen16-32 (quotient c)), back w16 _ (quotient c), value c) (sym (once c))
