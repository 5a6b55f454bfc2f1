use Rattle.std.proofs.Common.{◌≡◌, length, drop}
use Rattle.sqv4_make.specs.Making.{fed, samples_fed}
use Rattle.sqv4_make.proofs.making.feed.Given as goal

abbrev pub invariant-loop-byte : goal.invariant-loop-byte
invariant-loop-byte l =
    (length l.samples ≡ length l.initial.samples) × (fed l.making (drop l.byte-index l.bytes) ≡ fed l.initial.making l.bytes) × (samples_fed l.making (drop l.byte-index l.bytes) l.samples ≡ samples_fed l.initial.making l.bytes l.initial.samples)
