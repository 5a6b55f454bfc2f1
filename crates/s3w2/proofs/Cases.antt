-- What the calls' definitions say where a test decides. Assumes nothing.
use Rattle.std.specs.Prelude.{Ok, is_ok}
use mathlib.Core.Path.{◌≡◌, refl, sym, ap, ap₂, ◌∙◌}
use mathlib.Core.Bool.{Bool, true, false, cond}
use Prim.Native.Nat.{ℕ, min, ◌*◌, ◌/◌, ◌%◌, ◌≤◌, ◌<◌}
use native.Mathlib.Omega.{arith}
use lib.Dec.{eqb, ltb}
use borrow.Author.Tests.{eqb-true, eqb-false, eq-eqb, ne_eqb, lt-ltb, le-ltb}
use Rattle.sizes.specs.Sizes.{ram_most}
use Rattle.cores.specs.Sizes.{chip_stems, chip_queues, num_cores}
use Rattle.num.proofs.Choice.{never}
use Rattle.voices.specs.declared.Core.{Core}
use Rattle.s3w2.specs.declared.Chip.{Chip}
use Rattle.s3w2.specs.declared.Called.{Called}
use Rattle.s3w2.specs.declared.Returned.TheVariants.{Byte}
use Rattle.s3w2.specs.Answers.{Answer, Checked, answered, called, told}
use Rattle.s3w2.specs.Refusals.{refusal, accepts_chip, queues_refusal}
use Rattle.s3w2.specs.Chips.{core_at, with_core_at, with_cores}
use Rattle.s3w2.proofs.Refused.{goes-called, goes-told}

-- ---- a call that goes on has all that it takes
pub record AllThere (ram queues state stems : Bool) : Type 0 where
  pub allowed : ram ≡ true
  pub lent : queues ≡ true
  pub accepted : state ≡ true
  pub enough : stems ≡ true

there : (ram queues state stems : Bool) → is_ok (refusal ram queues state stems) ≡ true → AllThere ram queues state stems
unfolding refusal
there true true true true h = record { allowed = refl; lent = refl; accepted = refl; enough = refl }
there true true true false h = never (sym h)
there true true false stems h = never (sym h)
there true false state stems h = never (sym h)
there false queues state stems h = never (sym h)

pub all_there : (ram queues state stems : Bool) (r : Checked) → r ≡ refusal ram queues state stems → is_ok r ≡ true → AllThere ram queues state stems
all_there ram queues state stems r e h = there ram queues state stems (ap is_ok (sym e) ∙ h)

-- so the queue buffer has the chip's length
pub queues-lent : (chip : Chip) (queues : ℕ) (r : Checked) → r ≡ queues_refusal chip queues → is_ok r ≡ true → queues ≡ chip_queues
queues-lent chip queues r e h = eqb-true queues chip_queues (all_there true (eqb queues chip_queues) (accepts_chip chip ram_most) true r e h).lent

-- ---- stems
same_test : (a b c d : ℕ) → (a ≡ b → c ≡ d) → (c ≡ d → a ≡ b) → eqb a b ≡ eqb c d
same_test a b c d f g = go (eqb a b) refl
  where
    go : (t : Bool) → eqb a b ≡ t → eqb a b ≡ eqb c d
    go true e = e ∙ sym (eq-eqb c d (f (eqb-true a b e)))
    go false e = e ∙ sym (ne_eqb c d (λ q. eqb-false a b e (g q)))

module _ (n frames : ℕ) where
  pub stems-uneven : (n % 32 ≡ 0 → ⊥) → false ≡ eqb n (chip_stems * frames)
  stems-uneven h = sym (ne_eqb n (chip_stems * frames) (λ e. h (omega arith)))

  pub stems-even : n % 32 ≡ 0 → eqb (n / 32) frames ≡ eqb n (chip_stems * frames)
  stems-even h = same_test (n / 32) frames n (chip_stems * frames) (λ e. omega arith) (λ e. omega arith)

-- ---- one of the first b, or none
module _ {A : Type 0} (a b : ℕ) (x none : A) where
  pub none_of : b ≤ a → none ≡ cond (ltb a b) x none
  none_of h = sym (ap (λ (t : Bool). cond t x none) (le-ltb a b h))

  pub one_of : a < b → x ≡ cond (ltb a b) x none
  one_of h = sym (ap (λ (t : Bool). cond t x none) (lt-ltb a b h))

-- ---- one of the two cores, or none
pub one-core : {A : Type 0} (k : ℕ) (x none u : A) → k ≤ 1 → u ≡ x → u ≡ cond (ltb k num_cores) x none
one-core k x none u h e = e ∙ one_of k num_cores x none (omega arith)

-- the core that the code takes out
pub at-core : (chip : Chip) (k : ℕ) (v : Core) → k ≤ 1 → v ≡ core_at chip (min k 1) → v ≡ core_at chip k
at-core chip k v h e = let m : min k 1 ≡ k = omega arith in e ∙ ap (core_at chip) m

-- a call that goes on; `r` is the refusal as the code found it
module _ (r wanted : Checked) (e : r ≡ wanted) (done : is_ok r ≡ true) (k : ℕ) where
  module _ (chip : Chip) (y : Core) (u : Called) where
    pub changes-none : (answer : Answer) → 1 < k → u ≡ answered chip answer → u ≡ called wanted chip (answered (cond (ltb k num_cores) (with_core_at chip k y) chip) answer)
    changes-none answer h q = goes-called r wanted e chip _ u done (q ∙ ap (λ (x : Chip). answered x answer) (none_of k num_cores (with_core_at chip k y) chip h))

    pub changes : (answer : Answer) (core : Core) → k ≤ 1 → u ≡ answered (with_core_at chip k core) answer → core ≡ y → u ≡ called wanted chip (answered (cond (ltb k num_cores) (with_core_at chip k y) chip) answer)
    changes answer core h q f = goes-called r wanted e chip _ u done (q ∙ ap (λ (x : Chip). answered x answer) (one-core k (with_core_at chip k y) chip _ h (ap (with_core_at chip k) f)))

    -- a byte read, and the core after it
    pub reads_none : (x : ℕ) → 1 < k → u ≡ answered chip (Ok (Byte 0)) → u ≡ called wanted chip (answered (cond (ltb k num_cores) (with_core_at chip k y) chip) (Ok (Byte (cond (ltb k num_cores) x 0))))
    reads_none x h q = changes-none (Ok (Byte (cond (ltb k num_cores) x 0))) h (q ∙ ap (λ (b : ℕ). answered chip (Ok (Byte b))) (none_of k num_cores x 0 h))

    pub reads : (x : ℕ) (core : Core) (b : ℕ) → k ≤ 1 → u ≡ answered (with_core_at chip k core) (Ok (Byte b)) → core ≡ y → b ≡ x → u ≡ called wanted chip (answered (cond (ltb k num_cores) (with_core_at chip k y) chip) (Ok (Byte (cond (ltb k num_cores) x 0))))
    reads x core b h q f g = changes (Ok (Byte (cond (ltb k num_cores) x 0))) core h (q ∙ ap (λ (b : ℕ). answered (with_core_at chip k core) (Ok (Byte b))) (one-core k x 0 b h g)) f

  -- a call that only tells
  module _ {A : Type 0} (say : A → Answer) (x none : A) where
    pub tells_none : 1 < k → say none ≡ told wanted (say (cond (ltb k num_cores) x none))
    tells_none h = goes-told r wanted e _ _ done (ap say (none_of k num_cores x none h))

    pub tells : (u : A) → k ≤ 1 → u ≡ x → say u ≡ told wanted (say (cond (ltb k num_cores) x none))
    tells u h f = goes-told r wanted e _ _ done (ap say (one-core k x none u h f))

-- ---- both cores
pub cores-are : (chip : Chip) (a b x y : Core) → a ≡ x → b ≡ y → with_cores chip a b ≡ with_cores chip x y
cores-are chip a b x y e f = ap₂ (with_cores chip) e f
