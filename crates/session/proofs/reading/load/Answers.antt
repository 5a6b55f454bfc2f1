use mathlib.Core.Path.{ap}
use Prim.Native.Nat.{◌/◌, ◌%◌}
use native.Mathlib.Omega.{arith}
use Rattle.sizes.specs.Sizes.{num_channels}
use Rattle.s3w2.specs.Chips.{with_core_at}
use Rattle.s3w2.proofs.Ranges.{chip-fits}
use Rattle.session.specs.Voices.{core_of}
use Rattle.session.proofs.Loaded.{core-loaded, queues-loaded}
use Rattle.session.proofs.reading.load.Goals as goal

pub returns-clause-result : goal.returns-clause-result
returns-clause-result c =
    let v = c.read_voice-d in
    let k = c.args.voice / num_channels in
    let core = core_of c.args.chip c.args.voice in
    let n = ((chip-fits c.args.chip c.well_formed.0.1.1).each k (omega (arith, c.requires.0))).sized.wavetables in (ap (with_core_at c.args.chip k) (core-loaded _ (c.args.voice % num_channels) (omega arith) core _ v.new.wavetable n v.ensures.result v.ensures.wavetable))

pub returns-clause-queues : goal.returns-clause-queues
returns-clause-queues c =
    let v = c.read_voice-d in
    let k = c.args.voice / num_channels in
    let n = ((chip-fits c.args.chip c.well_formed.0.1.1).each k (omega (arith, c.requires.0))).sized.wavetables in (queues-loaded _ c.args.voice c.requires.0 c.args.queues.now v.new.queue c.requires.1 v.ensures.queue)
