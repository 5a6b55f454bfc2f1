use Rattle.levels.specs.Levels.{stem_peak}
use Rattle.std.proofs.Common.{◌≡◌, ◌≤◌, ◌*◌, length, drop}
use Rattle.levels.proofs.voice_peak.Given as goal

abbrev pub invariant-loop-frame : goal.invariant-loop-frame
invariant-loop-frame l =
    let i = length l.yielded in
    (16 * i ≤ length l.stems) × (l.frame-iterator.size ≡ 16) × (l.frame-iterator.rest.now ≡ drop (16 * i) l.stems) × (l.largest ≡ stem_peak l.before l.stems l.channel i)
