-- The ranges that the types of a chip's parts give, and an accepted chip core by core. Assumes nothing.
use mathlib.Core.Path.{◌≡◌}
use mathlib.Core.Bool.{true}
use mathlib.Core.List.{List, [], ◌∷◌}
use Prim.Native.Nat.{ℕ, zero, suc, ◌<◌}
use native.Mathlib.Omega.{arith}
use lib.ListN.{length, get_or, set}
use Rattle.sizes.specs.Sizes.{num_channels}
use Rattle.cores.specs.Sizes.{num_cores}
use Rattle.num.proofs.Choice.{both, together}
use Rattle.voices.specs.Accepted.{accepts_core, SizedCore, AcceptedCore}
use Rattle.voices.specs.Core.{channel_at}
use Rattle.voices.specs.declared.Core.{Core}
use Rattle.voices.proofs.Accepting.{accepted-core, core-accepted}
use Rattle.frames.specs.Kept.{EachByte, FitSounding}
use Rattle.s3w2.specs.declared.Chip.{Chip}
use Rattle.s3w2.specs.Chips.{no_core, core_at, with_core_at, with_cores}
use Rattle.s3w2.specs.Refusals.{accepts_chip}

pub record FitCore (core : Core) : Type 0 where
  pub sized : SizedCore core
  pub bytes : EachByte core.wavetables
  pub fits : (j : ℕ) → j < num_channels → FitSounding (channel_at core j)

pub record FitChip (chip : Chip) : Type 0 where
  pub sized : length chip.cores ≡ num_cores
  pub each : (k : ℕ) → k < num_cores → FitCore (core_at chip k)

abbrev pub SizedCores : Chip → Type 0
SizedCores chip = (k : ℕ) → k < num_cores → SizedCore (core_at chip k)

pub sized-cores : (chip : Chip) → FitChip chip → SizedCores chip
sized-cores chip f k h = (f.each k h).sized

-- a store keeps what holds of an element, and of the new one
pub set_keeps : {A : Type 0} (P : A → Type 0) (d x : A) → P x → (l : List A) (k i : ℕ) → P (get_or l i d) → P (get_or (set l k x) i d)
set_keeps P d x h [] k i p = p
set_keeps P d x h (y ∷ l) zero zero p = h
set_keeps P d x h (y ∷ l) zero (suc i) p = p
set_keeps P d x h (y ∷ l) (suc k) zero p = p
set_keeps P d x h (y ∷ l) (suc k) (suc i) p = set_keeps P d x h l k i p

-- ---- the test of a chip, and what it says of a core
pub chip-accepts : (chip : Chip) (n : ℕ) → ((k : ℕ) → k < num_cores → accepts_core (core_at chip k) chip.version n ≡ true) → accepts_chip chip n ≡ true
chip-accepts chip n a = together (accepts_core (core_at chip 0) chip.version n) (accepts_core (core_at chip 1) chip.version n) (a 0 (omega arith)) (a 1 (omega arith))

module _ (chip : Chip) (n : ℕ) where
  pub core-accepts : accepts_chip chip n ≡ true → (k : ℕ) → k < num_cores → accepts_core (core_at chip k) chip.version n ≡ true
  core-accepts e zero h = (both (accepts_core (core_at chip 0) chip.version n) (accepts_core (core_at chip 1) chip.version n) e).0
  core-accepts e (suc zero) h = (both (accepts_core (core_at chip 0) chip.version n) (accepts_core (core_at chip 1) chip.version n) e).1
  core-accepts e (suc (suc k)) h = absurd (omega arith)

  pub accepted-at : SizedCores chip → accepts_chip chip n ≡ true → (k : ℕ) → k < num_cores → AcceptedCore (core_at chip k) chip.version n
  accepted-at z e k h = accepted-core (core_at chip k) chip.version n (z k h) (core-accepts e k h)

  -- with another core k
  pub with-accepts : accepts_chip chip n ≡ true → (k : ℕ) (core : Core) → AcceptedCore core chip.version n → accepts_chip (with_core_at chip k core) n ≡ true
  with-accepts e k core a =
      chip-accepts (with_core_at chip k core) n
      (λ j h. set_keeps (λ (x : Core). accepts_core x chip.version n ≡ true) no_core core (core-accepted core chip.version n a) chip.cores k j (core-accepts e j h))

  -- with other cores
  pub both-accept : (a b : Core) → AcceptedCore a chip.version n → AcceptedCore b chip.version n → accepts_chip (with_cores chip a b) n ≡ true
  both-accept a b x y = together (accepts_core a chip.version n) (accepts_core b chip.version n) (core-accepted a chip.version n x) (core-accepted b chip.version n y)
