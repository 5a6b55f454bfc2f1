use Rattle.voices.proofs.Storing.{stored-emptied, stored-kept}
use Rattle.voices.proofs.Core.stored.Goals as goal

pub returns-then-invalidated : goal.returns-then-invalidated
returns-then-invalidated c =
    let a = c.args in
    stored-emptied a.self a.ch a.c a.invalidated c.clear_fragments.new.samples c.if-invalidated.true c.clear_fragments.ensures

pub returns-else-invalidated : goal.returns-else-invalidated
returns-else-invalidated c = let a = c.args in stored-kept a.self a.ch a.c a.invalidated c.if-invalidated.false
