use Rattle.std.proofs.Common.{ℕ, ltb, ap}
use Rattle.stream.specs.Window.{serves_at}
use Rattle.stream.proofs.Window.serves.Goals as goal

pub returns : goal.returns
unfolding serves_at
returns c = ap (λ (n : ℕ). ltb n c.args.self.reach) c.offset.ensures
