use mathlib.Core.Path.{◌≡◌, refl}
use lib.ListN.{length}
use Rattle.sizes.specs.Sizes.{wavetables_size}
use Rattle.voices.specs.Writes.{write_wavetable}
use Rattle.voices.proofs.Chosen.{wavetable-out}
use Rattle.voices.proofs.Core.write_wavetable.Goals as goal

pub returns-then-at-lt-WAVETABLES_SIZE : goal.returns-then-at-lt-WAVETABLES_SIZE
unfolding write_wavetable
returns-then-at-lt-WAVETABLES_SIZE c = refl

pub returns-else-at-lt-WAVETABLES_SIZE : goal.returns-else-at-lt-WAVETABLES_SIZE
returns-else-at-lt-WAVETABLES_SIZE c =
    let a = c.args in
    let n : length a.self.wavetables ≡ wavetables_size = c.well_formed.0.1.1.1.1.0.1.0.1 in
    wavetable-out a.self a.at n c.if-at-lt-WAVETABLES_SIZE.false a.value
