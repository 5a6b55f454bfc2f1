use mathlib.Core.Path.{refl}
use Rattle.notes.specs.Pitches.{pitch_power, border_power, all_nearest}
use Rattle.notes.proofs.table.frequencies.Goals as goal

-- the whole table, computed
pub returns : goal.returns
unfolding pitch_power border_power all_nearest
returns c = refl
