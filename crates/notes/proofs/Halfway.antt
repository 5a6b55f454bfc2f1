-- The tie: at the sum 21 the pitch is 27.5, and the rule leaves 28. Assumes nothing.
use mathlib.Core.Path.{◌≡◌, refl}
use Prim.Native.Nat.{ℕ}
use Rattle.notes.specs.Pitches.{pitch_power, border_power, NearestPitch}
use Rattle.notes.proofs.Entries.{rule}
use Rattle.notes.proofs.Only.{only}

-- 149 is 21 + 128, and 55 is twice 27.5
pub tie : pitch_power 149 ≡ border_power 55
unfolding pitch_power border_power
tie = refl

upper : NearestPitch 149 28
unfolding pitch_power border_power
upper = rule 149 28 refl

pub tie-goes-up : (n : ℕ) → NearestPitch 149 n → n ≡ 28
tie-goes-up n h = only 149 n 28 h upper
