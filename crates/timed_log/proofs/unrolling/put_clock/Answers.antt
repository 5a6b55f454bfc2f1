use Rattle.timed_log.specs.Unrolled.{clock_line}
use Rattle.timed_log.proofs.unrolling.put_clock.Goals as goal

pub returns : goal.returns
unfolding clock_line
returns c = c.put_line.ensures
