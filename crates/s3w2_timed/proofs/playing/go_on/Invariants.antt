use Rattle.std.proofs.Common.{◌≡◌, length}
use Rattle.s3w2_timed.proofs.playing.go_on.Given as goal

abbrev pub invariant-loop : goal.invariant-loop
invariant-loop l =
    (length l.input ≡ length l.initial.input) × (length l.plain ≡ length l.initial.plain) × (length l.text ≡ length l.initial.text) × (l.lent.ram.ghost_name ≡ l.initial.lent.ram.ghost_name) × (length l.lent.ram.now ≡ length l.initial.lent.ram.now) × (l.lent.queues.ghost_name ≡ l.initial.lent.queues.ghost_name) × (length l.lent.queues.now ≡ length l.initial.lent.queues.now)
