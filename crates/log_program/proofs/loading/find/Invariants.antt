use Rattle.std.proofs.Common.{◌≡◌, length}
use Rattle.log_program.proofs.loading.find.Given as goal

abbrev pub invariant-loop : goal.invariant-loop
invariant-loop l =
    length l.input ≡ length l.initial.input
