use mathlib.Core.Path.{◌≡◌}
use lib.ListN.{length}
use Rattle.log_player.proofs.Batching.{Gathering}
use Rattle.log_player.proofs.batches.gather.Given as goal

abbrev pub invariant-loop-count : goal.invariant-loop-count
invariant-loop-count l =
    (length l.kinds ≡ length l.initial.kinds) × (length l.addresses ≡ length l.initial.addresses) × (length l.values ≡ length l.initial.values) × Gathering l.input l.from l.most l.budget l.kinds l.addresses l.values l.count l.frames l.place
