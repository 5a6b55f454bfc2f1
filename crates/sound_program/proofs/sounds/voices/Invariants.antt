use Rattle.std.proofs.Common.{◌≡◌, ◌≤◌, length}
use Rattle.sound_program.proofs.sounds.voices.Given as goal

abbrev pub invariant-loop-channel : goal.invariant-loop-channel
invariant-loop-channel l = (l.channel ≤ 8) × (length l.out ≡ length l.initial.out)
