use Rattle.std.proofs.Common.{◌≡◌, length}
use Rattle.log_program.proofs.loading.fill.Given as goal

abbrev pub invariant-loop : goal.invariant-loop
invariant-loop l =
    length l.ram ≡ length l.initial.ram
