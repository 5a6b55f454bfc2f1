use Rattle.stream.specs.Cache.{load}
use Rattle.stream.proofs.StreamCache.load.Goals as goal

pub returns-clause-result : goal.returns-clause-result
unfolding load
returns-clause-result c = (c.stored.ensures)

pub returns-clause-samples : goal.returns-clause-samples
unfolding load
returns-clause-samples c = (c.decode_into.ensures.samples)
