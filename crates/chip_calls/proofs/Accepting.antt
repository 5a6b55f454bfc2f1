-- A good world is accepted: no call on it is turned away for its RAM, its queue buffer or its state. Assumes nothing.
use Rattle.std.specs.Prelude.{Ok, Err}
use mathlib.Core.Path.{◌≡◌, refl, sym, subst}
use mathlib.Core.Bool.{Bool, true, cond}
use mathlib.Core.List.{List}
use Prim.Native.Nat.{ℕ, ◌*◌, ◌≤◌, ◌<◌}
use native.Mathlib.Omega.{arith}
use lib.Dec.{eqb}
use lib.IntN.{ℤ}
use lib.ListN.{length}
use borrow.Author.Tests.{eq-eqb}
use Rattle.sizes.specs.Sizes.{num_channels, ram_most}
use Rattle.cores.specs.Sizes.{num_cores, chip_queues, chip_stems}
use Rattle.tone.specs.Pcm.{is_ram_length}
use Rattle.voices.specs.Accepted.{AcceptedCore}
use Rattle.s3w2.specs.declared.Chip.{Chip}
use Rattle.s3w2.specs.declared.Refusal.TheVariants.{StemBuffer}
use Rattle.s3w2.specs.Chips.{core_at, core_queues}
use Rattle.s3w2.specs.Refusals.{accepts_chip, refusal, own_refusal, ram_refusal, queues_refusal, sound_refusal, clock_refusal}
use Rattle.s3w2.proofs.Fits.{accepted-at}
use Rattle.s3w2.proofs.Longer.{ram-small, longer}
use Rattle.s3w2.proofs.Refused.{nothing-amiss}
use Rattle.plain_chip.specs.Lists.{Every}
use Rattle.slots.specs.Good.{SlotOk}
use Rattle.chip_as_slots.specs.Whole.{slot_at}
use Rattle.chip_as_slots.proofs.Frames.{ok_at}
use Rattle.chip_as_slots.proofs.Pairs.{core-slots, ok-own}
use Rattle.chip_calls.specs.Ties.{SizedChip, GoodMachine}

pub accepts-largest : (chip : Chip) (ram : List ℕ) → is_ram_length (length ram) ≡ true → SizedChip chip → accepts_chip chip (length ram) ≡ true → accepts_chip chip ram_most ≡ true
accepts-largest chip ram allowed sized e = longer chip (length ram) ram_most (ram-small (length ram) allowed) (accepted-at chip (length ram) sized.each e)

pub state-none : (chip : Chip) → accepts_chip chip ram_most ≡ true → own_refusal chip ≡ Ok tt
state-none chip e = sym (nothing-amiss true true (accepts_chip chip ram_most) true refl refl e refl)

-- ---- refusals that are none
module _ (chip : Chip) (ram : List ℕ) (queues : List ℤ) (held : GoodMachine chip ram queues) where
  -- the voices of core k are good
  pub core-good : (k : ℕ) → k < num_cores → (j : ℕ) → j < num_channels → SlotOk chip.version ram (slot_at (core_at chip k) (core_queues k queues) j)
  core-good k h j l = ok_at chip.version ram (core_at chip k) (core_queues k queues) (subst (Every (SlotOk chip.version ram)) (core-slots chip.version chip.cores ram queues k h) (ok-own chip.version chip.cores ram queues held.sized.two held.long held.good k h (held.sized.each k h)).voices) j l

  -- over the RAM that is lent
  pub accepted-held : (k : ℕ) → k < num_cores → AcceptedCore (core_at chip k) chip.version (length ram)
  accepted-held k h = record { sized = held.sized.each k h; each = λ j l. (core-good k h j l).accepted }

  pub accepts : (m : ℕ) → length ram ≤ m → accepts_chip chip m ≡ true
  accepts m h = longer chip (length ram) m h accepted-held

  full : eqb (length queues) chip_queues ≡ true
  full = eq-eqb (length queues) chip_queues held.long

  pub state-accepted : accepts_chip chip ram_most ≡ true
  state-accepted = accepts ram_most (ram-small (length ram) held.allowed)

  pub own-none : own_refusal chip ≡ Ok tt
  own-none = state-none chip state-accepted

  pub ram-none : ram_refusal chip (length ram) ≡ Ok tt
  ram-none = sym (nothing-amiss (is_ram_length (length ram)) true (accepts_chip chip (length ram)) true held.allowed refl (accepts (length ram) (omega arith)) refl)

  pub queues-none : queues_refusal chip (length queues) ≡ Ok tt
  queues-none = sym (nothing-amiss true (eqb (length queues) chip_queues) (accepts_chip chip ram_most) true refl full state-accepted refl)

  pub sound_none : sound_refusal chip (length ram) (length queues) ≡ Ok tt
  sound_none = sym (nothing-amiss (is_ram_length (length ram)) (eqb (length queues) chip_queues) (accepts_chip chip (length ram)) true held.allowed full (accepts (length ram) (omega arith)) refl)

  -- with stems it is their length alone
  stems-only : (r q s t : Bool) → r ≡ true → q ≡ true → s ≡ true → refusal r q s t ≡ cond t (Ok tt) (Err StemBuffer)
  unfolding refusal
  stems-only r q s t e f g = rw (e, f, g)

  pub clock-only : (n stems : ℕ) → clock_refusal chip (length ram) (length queues) n stems ≡ cond (eqb stems (chip_stems * n)) (Ok tt) (Err StemBuffer)
  clock-only n stems = stems-only (is_ram_length (length ram)) (eqb (length queues) chip_queues) (accepts_chip chip (length ram)) (eqb stems (chip_stems * n)) held.allowed full (accepts (length ram) (omega arith))
