use Rattle.std.proofs.Common.{◌≡◌, length}
use Rattle.log_program.proofs.loading.load_state.Given as goal

abbrev pub invariant-loop-k : goal.invariant-loop-k
invariant-loop-k l =
    (length l.input ≡ length l.initial.input) × (length l.text ≡ length l.initial.text) × (l.lent.ram.ghost_name ≡ l.initial.lent.ram.ghost_name) × (length l.lent.ram.now ≡ length l.initial.lent.ram.now) × (l.lent.queues.ghost_name ≡ l.initial.lent.queues.ghost_name) × (length l.lent.queues.now ≡ length l.initial.lent.queues.now)
