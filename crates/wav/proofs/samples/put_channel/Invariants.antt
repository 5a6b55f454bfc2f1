use mathlib.Core.Path.{◌≡◌}
use Prim.Native.Nat.{◌≤◌, ◌*◌}
use lib.ListN.{length, drop}
use Rattle.wav.specs.Samples.{frames_bytes, left_stem, right_stem}
use Rattle.output.specs.Output.{Puts}
use Rattle.wav.proofs.samples.put_channel.Given as goal

abbrev pub invariant-loop-frame : goal.invariant-loop-frame
invariant-loop-frame l =
    let i = length l.yielded in
    (16 * i ≤ length l.stems) × (l.frame-iterator.size ≡ 16) × (l.frame-iterator.rest.now ≡ drop (16 * i) l.stems) × Puts l.fn.out l.out (frames_bytes (left_stem l.channel l.stems) (right_stem l.channel l.stems) i)
