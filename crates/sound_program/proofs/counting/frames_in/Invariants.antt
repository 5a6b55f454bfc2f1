use Rattle.std.proofs.Common.{◌-◌, length}
use Rattle.sound_program.proofs.counting.frames_in.Given as goal

abbrev pub decreases-loop-from : goal.decreases-loop-from
decreases-loop-from l = length l.log - l.from
