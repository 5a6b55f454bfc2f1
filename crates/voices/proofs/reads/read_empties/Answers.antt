use Rattle.voices.specs.Reads.{read_empties}
use mathlib.Core.Path.{ap, ◌∙◌}
use mathlib.Core.Bool.{false}
use Prim.Native.Nat.{ℕ}
use lib.Dec.{eqb}
use Rattle.voices.specs.Addresses.{offset_of}
use Rattle.voices.proofs.Chosen.{in-wavetables, in_blocks, above}
use Rattle.voices.proofs.reads.read_empties.Goals as goal

pub returns-then-address-lt2048 : goal.returns-then-address-lt2048
unfolding read_empties
returns-then-address-lt2048 c = let a = c.args in in-wavetables a.address false (eqb (offset_of a.address) 10) false c.if-address-lt2048.true

pub returns-then-address-lt2304 : goal.returns-then-address-lt2304
unfolding read_empties
returns-then-address-lt2304 c =
    let a = c.args in
    ap (λ (x : ℕ). eqb x 10) c.offset_of.ensures ∙ in_blocks a.address false (eqb (offset_of a.address) 10) false c.if-address-lt2048.false c.if-address-lt2304.true

pub returns : goal.returns
unfolding read_empties
returns c = let a = c.args in above a.address false (eqb (offset_of a.address) 10) false c.if-address-lt2048.false c.if-address-lt2304.false
