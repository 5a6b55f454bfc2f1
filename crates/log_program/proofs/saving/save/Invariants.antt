use Rattle.std.proofs.Common.{◌≡◌, length}
use Rattle.log_program.proofs.saving.save.Given as goal

abbrev pub invariant-loop-k : goal.invariant-loop-k
invariant-loop-k l = length l.text ≡ length l.initial.text
