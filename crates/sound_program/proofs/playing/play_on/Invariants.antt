use Rattle.std.proofs.Common.{◌≡◌, length}
use Rattle.sound_program.proofs.playing.play_on.Given as goal

abbrev pub invariant-loop : goal.invariant-loop
invariant-loop l =
    (length l.input ≡ length l.initial.input) × (length l.ram ≡ length l.initial.ram) × (length l.queues ≡ length l.initial.queues) × (length l.stems ≡ length l.initial.stems) × (length l.others ≡ length l.initial.others) × (length l.out ≡ length l.initial.out)
