use Rattle.std.proofs.Common.{◌≡◌, length}
use Rattle.chip_sound.proofs.Pairs.{Pairing}
use Rattle.chip_sound.proofs.both.pair.Given as goal

abbrev pub invariant-loop-n : goal.invariant-loop-n
invariant-loop-n l =
    let n = length l.yielded in
    (l.n-iterator.count ≡ n) × (l.n-iterator.iter.a.size ≡ 16) × (l.n-iterator.iter.b.size ≡ 16) × Pairing l.first l.second n l.n-iterator.iter.a.rest.now l.n-iterator.iter.b.rest.now l.stems
