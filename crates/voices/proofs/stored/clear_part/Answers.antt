use mathlib.Core.Path.{sym}
use Prim.Native.Nat.{◌*◌}
use native.Mathlib.Omega.{arith}
use lib.IntN.{pos}
use lib.ListN.{replicate}
use Rattle.voices.specs.Core.{no_fragments}
use Rattle.voices.proofs.Parts.{sets-past}
use Rattle.voices.proofs.Storing.{cleared}
use Rattle.voices.proofs.stored.clear_part.Goals as goal

pub returns-then-ch-lt-NUM_CHANNELS : goal.returns-then-ch-lt-NUM_CHANNELS
returns-then-ch-lt-NUM_CHANNELS c =
    let a = c.args in
    cleared a.samples.now c.clear.new.samples a.ch c.if-ch-lt-NUM_CHANNELS.true c.requires c.clear.ensures

pub returns-else-ch-lt-NUM_CHANNELS : goal.returns-else-ch-lt-NUM_CHANNELS
unfolding no_fragments
returns-else-ch-lt-NUM_CHANNELS c = let a = c.args in sym (sets-past a.samples.now (a.ch * 128) (replicate 128 (pos 0)) (omega (arith, c.if-ch-lt-NUM_CHANNELS.false, c.requires)))
