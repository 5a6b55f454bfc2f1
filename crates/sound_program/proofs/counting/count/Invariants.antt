use Rattle.std.proofs.Common.{◌≡◌, length}
use Rattle.sound_program.proofs.counting.count.Given as goal

abbrev pub invariant-loop : goal.invariant-loop
invariant-loop l =
    length l.input ≡ length l.initial.input
