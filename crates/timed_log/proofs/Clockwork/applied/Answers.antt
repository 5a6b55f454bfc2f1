use Rattle.timed_log.proofs.Puts.{applied-there, applied-on}
use Rattle.timed_log.proofs.Clockwork.applied.Goals as goal

pub returns-then-stamp-self : goal.returns-then-stamp-self
returns-then-stamp-self c = applied-there c.args.self _ c.if-stamp-self.true

pub returns : goal.returns
returns c = applied-on c.args.self _ c.if-stamp-self.false
