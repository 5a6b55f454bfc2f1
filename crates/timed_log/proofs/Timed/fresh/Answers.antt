use Rattle.timed_log.proofs.Turning.{makes}
use Rattle.timed_log.proofs.Timed.fresh.Goals as goal

pub returns-clause-result : goal.returns-clause-result
returns-clause-result c = makes _ _ _ c.fresh-made.ensures.result (λ i. record { frames = c.default.ensures.0 i; lines = c.default.ensures.1 i })
