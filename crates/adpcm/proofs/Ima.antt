-- A code of every variant moves predictor and index in one way, the IMA's among them. Assumes nothing.
use Rattle.std.proofs.Common.{◌≡◌, ℕ, ◌/◌, ◌%◌, min, Bool, true, false, cond, eqb, get_or, ℤ, pos, ◌+ℤ◌, ◌-ℤ◌, refl}
use Rattle.num.specs.Integers.{signed}
use Rattle.adpcm.specs.declared.Variant.{Variant}
use Rattle.adpcm.specs.declared.Variant.TheVariants.{H, L, LPlus}
use Rattle.adpcm.specs.declared.State.{State}
use Rattle.adpcm.specs.Ima.{step_sizes, difference, ima_at, ima_code}
use Rattle.adpcm.specs.Codes.{delta_at, adjust_of, update_of, decode_at, decode_code}
use Rattle.adpcm.proofs.Tables.{step_cut}

-- a difference taken away or added is a signed one added
by_sign : (b : Bool) (p : ℤ) (d : ℕ) → cond b (p -ℤ pos d) (p +ℤ pos d) ≡ p +ℤ signed b d
by_sign true p d = refl
by_sign false p d = refl

pub decode_is : (version : ℕ) (k : Variant) (s : State) (step code : ℕ) → decode_at version k s step code ≡ update_of s (delta_at version k step code) (adjust_of k code)
unfolding decode_at ima_at delta_at adjust_of
decode_is version H s step code = rw (by_sign (eqb (code / 8 % 2) 1) s.predictor (difference step code))
decode_is version L s step code = refl
decode_is version LPlus s step code = refl

-- a code of variant H is the IMA's
pub ima-is : (version : ℕ) (s : State) (code : ℕ) → decode_code version H s code ≡ ima_code s code
unfolding decode_code ima_code
ima-is version s code = refl

-- a code at the step size that is read from the table at a state's index
pub read_is : (version : ℕ) (k : Variant) (s : State) (code : ℕ) → decode_at version k s (min (get_or step_sizes (min s.index 88) 0) 32767) code ≡ decode_code version k s code
unfolding decode_code
read_is version k s code = rw (step_cut s.index)
