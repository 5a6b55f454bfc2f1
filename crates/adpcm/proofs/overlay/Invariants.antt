use Rattle.std.proofs.Common.{◌≡◌, ◌+◌, ◌*◌}
use Rattle.adpcm.specs.Codes.{overlaid}
use Rattle.adpcm.proofs.overlay.Given as goal

abbrev pub invariant-loop-i : goal.invariant-loop-i
invariant-loop-i l = l.code ≡ overlaid l.input (8 * l.at + l.within) l.i
