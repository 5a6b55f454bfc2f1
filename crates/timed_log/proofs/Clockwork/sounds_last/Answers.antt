use Rattle.timed_log.proofs.Turning.{last-there, last_none}
use Rattle.timed_log.proofs.Clockwork.sounds_last.Goals as goal

pub returns-then-rest-eq0 : goal.returns-then-rest-eq0
returns-then-rest-eq0 c = last-there c.args.self _ c.if-rest-eq0.true

pub returns : goal.returns
returns c = last_none c.args.self _ c.if-rest-eq0.false
