-- The ranges that the types of a chip's parts give.
use mathlib.Core.Path.{◌≡◌}
use mathlib.Core.List.{List, [], ◌∷◌}
use Prim.Native.Nat.{ℕ, zero, suc, ◌<◌}
use native.Mathlib.Omega.{arith}
use lib.ListN.{length, get_or}
use denote.Shadow.{shadow}
use denote.RattleType.{owns}
use denote.Array.{each}
use denote.Struct.Declared.{shape}
use mir.Val.{Val}
use Rattle.voice.specs.declared.Channel.{Channel}
use Rattle.voice.specs.contracts.Channel as channel
use Rattle.cores.specs.Sizes.{num_cores}
use Rattle.voices.specs.Core.{no_channel}
use Rattle.voices.specs.declared.Core.{Core}
use Rattle.voices.specs.contracts.Core as core
use Rattle.frames.specs.Kept.{FitSounding}
use Rattle.frames.proofs.Fits.{fit-channel, sized, bytes}
use Rattle.s3w2.specs.declared.Chip.{Chip}
use Rattle.s3w2.specs.Chips.{no_core}
use Rattle.s3w2.specs.contracts.Chip as chips
use Rattle.s3w2.proofs.Fits.{FitCore, FitChip}

channels-fit : (l : List Channel) (us : List Val) → shadow (each (channel.the_row).Denot (channel.the_row).own_val l us) → (j : ℕ) → j < length l → FitSounding (get_or l j no_channel)
channels-fit [] us g j h = absurd (omega arith)
channels-fit (x ∷ l) [] g j h = absurd g
channels-fit (x ∷ l) (u ∷ us) g zero h = fit-channel x g.0.1.1
channels-fit (x ∷ l) (u ∷ us) g (suc j) h = channels-fit l us g.1 j (omega arith)

core-fits : (k : Core) {bs : _} → shadow (owns (shape core.the_type).fields ((core.the_type).to k) bs) → FitCore k
core-fits k g =
    let z = sized k g in
    record {
      sized = z;
      bytes = bytes k g;
      fits = λ j h. channels-fit k.channels _ g.0.1.1 j (omega (arith, z.channels));
    }

cores-fit : (l : List Core) (us : List Val) → shadow (each (core.the_row).Denot (core.the_row).own_val l us) → (k : ℕ) → k < length l → FitCore (get_or l k no_core)
cores-fit [] us g k h = absurd (omega arith)
cores-fit (x ∷ l) [] g k h = absurd g
cores-fit (x ∷ l) (u ∷ us) g zero h = core-fits x g.0.1.1
cores-fit (x ∷ l) (u ∷ us) g (suc k) h = cores-fit l us g.1 k (omega arith)

pub chip-fits : (chip : Chip) {bs : _} → shadow (owns (shape chips.the_type).fields ((chips.the_type).to chip) bs) → FitChip chip
chip-fits chip g =
    let z : length chip.cores ≡ num_cores = g.1.0.1.0.1 in
    record { sized = z; each = λ k h. cores-fit chip.cores _ g.1.0.1.1 k (omega (arith, z)) }
