-- A call leaves an accepted state accepted; those that make sound are in KeptSound. Assumes nothing beyond the ranges that the types give.
use Rattle.std.specs.Prelude.{Ok, is_ok}
use mathlib.Core.Path.{◌≡◌, refl, sym, ap, ◌∙◌, subst}
use mathlib.Core.Bool.{true, cond}
use mathlib.Core.List.{List, [], ◌∷◌}
use Prim.Native.Nat.{ℕ, zero, suc, ◌+◌, ◌*◌, ◌<◌}
use native.Mathlib.Omega.{arith}
use lib.Dec.{ltb}
use lib.IntN.{ℤ, pos}
use lib.ListN.{get_or, take, drop}
use lib.Seq.{get_or-drop}
use mir.Syntax.{w16}
use mir.Val.{SFits}
use borrow.Author.Tests.{ltb-true}
use Rattle.sizes.specs.Sizes.{num_channels, ram_most}
use Rattle.cores.specs.Sizes.{num_cores}
use Rattle.num.specs.Lists.{part}
use Rattle.num.proofs.Choice.{cond-by, never}
use Rattle.num.proofs.Integers.{fit}
use Rattle.version.specs.declared.SguVersion.{SguVersion}
use Rattle.registers.specs.PlainQueue.{FitEntries}
use Rattle.voices.specs.Accepted.{AcceptedCore}
use Rattle.voices.specs.Core.{fresh_core, reset_channel_at, set_core_version}
use Rattle.voices.specs.Writes.{write_channel_control, write_channel_pcm_reg, write_wavetable, write_register, after_ram_write}
use Rattle.voices.specs.Reads.{read_channel_control, after_read_channel, peek_register, after_read_register}
use Rattle.voices.specs.declared.Core.{Core}
use Rattle.voices.proofs.Accepting.{fresh-accepted}
use Rattle.voices.proofs.Accepting as cores
use Rattle.s3w2.specs.declared.Returned.TheVariants.{Done, Byte}
use Rattle.s3w2.specs.declared.Called.{Called}
use Rattle.s3w2.specs.declared.Chip.{Chip}
use Rattle.s3w2.specs.Answers.{Answer, Checked, done_unless, answered, called}
use Rattle.s3w2.specs.Refusals.{accepts_chip, own_refusal, ram_refusal, queues_refusal}
use Rattle.s3w2.specs.Chips.{fresh_chip, core_at, with_core_at, on_core, of_core, on_both}
use Rattle.s3w2.specs.Fresh.{under_version, made_called, set_version_called, reset_called, reset_channel_called}
use Rattle.s3w2.specs.Ram.{write_pcm_ram_called}
use Rattle.s3w2.specs.Channels.{write_channel_wavetable_called, write_channel_control_called, read_channel_control_called, write_channel_pcm_reg_called}
use Rattle.s3w2.specs.Registers.{write_register_called, read_register_called}
use Rattle.s3w2.proofs.Refused.{nothing-amiss}
use Rattle.s3w2.proofs.Fits.{SizedCores, accepted-at, with-accepts, both-accept}
pub use Rattle.s3w2.proofs.Fits.{FitChip}

-- ---- a chip that is made
pub made_kept : (ram : ℕ) (version : SguVersion) (n : ℕ) → accepts_chip (made_called ram version).chip n ≡ true
unfolding made_called
made_kept ram version n = both-accept (fresh_chip version) n fresh_core fresh_core (fresh-accepted version n) (fresh-accepted version n)

-- under another version, over a RAM of any length
version-accepts : (chip : Chip) (n : ℕ) → ((k : ℕ) → k < num_cores → AcceptedCore (core_at chip k) chip.version n) → (version : SguVersion) (m : ℕ) → accepts_chip (under_version chip version) m ≡ true
version-accepts chip n a version m =
    let after : (k : ℕ) → k < num_cores → AcceptedCore (set_core_version (core_at chip k) version) version m = λ k h. cores.version-kept (core_at chip k) chip.version n (a k h) version m in
    both-accept (under_version chip version) m (set_core_version (core_at chip 0) version) (set_core_version (core_at chip 1) version) (after 0 (omega arith)) (after 1 (omega arith))

-- ---- a call on an accepted chip; n is the length of the RAM where one is lent
module _ (chip : Chip) (n : ℕ) (ok : accepts_chip chip n ≡ true) where
  abbrev fine : Chip → Type 0
  fine x = accepts_chip x n ≡ true

  -- one that is turned away leaves the chip as it is
  pub called-kept : (refusal : Checked) (done : Called) → accepts_chip done.chip n ≡ true → accepts_chip (called refusal chip done).chip n ≡ true
  called-kept refusal done h = cond-by (λ (u : Called). accepts_chip u.chip n ≡ true) (is_ok refusal) done (answered chip (done_unless refusal)) (λ e. h) (λ e. ok)

  -- another core k, where k is a core
  core-kept : (k : ℕ) (core : Core) → (k < num_cores → AcceptedCore core chip.version n) → accepts_chip (cond (ltb k num_cores) (with_core_at chip k core) chip) n ≡ true
  core-kept k core a = cond-by fine (ltb k num_cores) (with_core_at chip k core) chip (λ e. with-accepts chip n ok k core (a (ltb-true k num_cores e))) (λ e. ok)

  on-kept : (refusal : Checked) (answer : Answer) (k : ℕ) (core : Core) → (k < num_cores → AcceptedCore core chip.version n) → accepts_chip (called refusal chip (answered (cond (ltb k num_cores) (with_core_at chip k core) chip) answer)).chip n ≡ true
  on-kept refusal answer k core a = called-kept refusal (answered (cond (ltb k num_cores) (with_core_at chip k core) chip) answer) (core-kept k core a)

  pub reset-kept : accepts_chip (reset_called chip n).chip n ≡ true
  unfolding reset_called
  reset-kept = called-kept (ram_refusal chip n) (answered (fresh_chip chip.version) (Ok Done)) (both-accept chip n fresh_core fresh_core (fresh-accepted chip.version n) (fresh-accepted chip.version n))

  module _ (sized : SizedCores chip) where
    abbrev accepted : (k : ℕ) → k < num_cores → AcceptedCore (core_at chip k) chip.version n
    accepted = accepted-at chip n sized ok

    pub set-version-kept : (version : SguVersion) → accepts_chip (set_version_called chip version).chip n ≡ true
    unfolding set_version_called
    set-version-kept version = called-kept (own_refusal chip) (answered (under_version chip version) (Ok Done)) (version-accepts chip n accepted version n)

    pub reset-channel-kept : (k ch : ℕ) → accepts_chip (reset_channel_called chip k ch).chip n ≡ true
    unfolding reset_channel_called
    reset-channel-kept k ch = on-kept (own_refusal chip) (Ok Done) k (reset_channel_at (core_at chip k) ch) (λ h. cores.reset-kept (core_at chip k) chip.version n (accepted k h) ch)

    pub write-pcm-ram-kept : (address : ℕ) → accepts_chip (write_pcm_ram_called chip n address).chip n ≡ true
    unfolding write_pcm_ram_called
    write-pcm-ram-kept address =
        let after : (k : ℕ) → k < num_cores → AcceptedCore (after_ram_write (core_at chip k) address) chip.version n = λ k h. cores.ram-kept (core_at chip k) chip.version n (accepted k h) address in
        let next = on_both (λ core. after_ram_write core address) chip in
        called-kept (ram_refusal chip n) (answered (cond (ltb address n) next chip) (Ok Done))
        (cond-by fine (ltb address n) next chip (λ e. both-accept chip n (after_ram_write (core_at chip 0) address) (after_ram_write (core_at chip 1) address) (after 0 (omega arith)) (after 1 (omega arith))) (λ e. ok))

    pub write-channel-wavetable-kept : (k ch offset value : ℕ) → accepts_chip (write_channel_wavetable_called chip k ch offset value).chip n ≡ true
    unfolding write_channel_wavetable_called
    write-channel-wavetable-kept k ch offset value =
        let at = ch * 256 + offset in
        let next = on_core k (λ core. write_wavetable core at value) chip in
        called-kept (own_refusal chip) (answered (cond (ltb ch num_channels) next chip) (Ok Done))
        (cond-by fine (ltb ch num_channels) next chip (λ e. core-kept k (write_wavetable (core_at chip k) at value) (λ h. cores.wavetable-kept (core_at chip k) chip.version n (accepted k h) at value)) (λ e. ok))

    pub write-channel-control-kept : (queues k ch offset value : ℕ) → accepts_chip (write_channel_control_called chip queues k ch offset value).chip n ≡ true
    unfolding write_channel_control_called
    write-channel-control-kept queues k ch offset value =
        on-kept (queues_refusal chip queues) (Ok Done) k (write_channel_control chip.version (core_at chip k) ch offset value) (λ h. cores.control-kept (core_at chip k) chip.version n (accepted k h) ch offset value)

    pub read-channel-control-kept : (k ch offset : ℕ) → accepts_chip (read_channel_control_called chip k ch offset).chip n ≡ true
    unfolding read_channel_control_called
    read-channel-control-kept k ch offset =
        on-kept (own_refusal chip) (Ok (Byte (of_core k 0 (λ core. read_channel_control chip.version core ch offset) chip))) k (after_read_channel (core_at chip k) ch offset)
        (λ h. cores.read-channel-kept (core_at chip k) chip.version n (accepted k h) ch offset)

    pub write-channel-pcm-reg-kept : (k ch offset value : ℕ) → value < 256 → accepts_chip (write_channel_pcm_reg_called chip k ch offset value).chip n ≡ true
    unfolding write_channel_pcm_reg_called
    write-channel-pcm-reg-kept k ch offset value byte =
        on-kept (own_refusal chip) (Ok Done) k (write_channel_pcm_reg (core_at chip k) ch offset value) (λ h. cores.pcm-kept (core_at chip k) chip.version n (accepted k h) ch offset value byte)

    pub write-register-kept : (queues k address value : ℕ) → value < 256 → accepts_chip (write_register_called chip queues k address value).chip n ≡ true
    unfolding write_register_called
    write-register-kept queues k address value byte =
        on-kept (queues_refusal chip queues) (Ok Done) k (write_register chip.version (core_at chip k) address value) (λ h. cores.register-kept (core_at chip k) chip.version n (accepted k h) address value byte)

    pub read-register-kept : (k address : ℕ) → accepts_chip (read_register_called chip k address).chip n ≡ true
    unfolding read_register_called
    read-register-kept k address =
        on-kept (own_refusal chip) (Ok (Byte (of_core k 0 (λ core. peek_register chip.version core address) chip))) k (after_read_register (core_at chip k) address)
        (λ h. cores.read-register-kept (core_at chip k) chip.version n (accepted k h) address)

-- under another version a chip is accepted over a RAM of every length
pub set-version-every : (chip : Chip) → accepts_chip chip ram_most ≡ true → SizedCores chip → (version : SguVersion) (n : ℕ) → accepts_chip (set_version_called chip version).chip n ≡ true
unfolding set_version_called
set-version-every chip ok sized version n =
    let goes : is_ok (own_refusal chip) ≡ true = ap is_ok (sym (nothing-amiss true true (accepts_chip chip ram_most) true refl refl ok refl)) in
    cond-by (λ (u : Called). accepts_chip u.chip n ≡ true) (is_ok (own_refusal chip)) (answered (under_version chip version) (Ok Done)) (answered chip (done_unless (own_refusal chip)))
    (λ e. version-accepts chip ram_most (accepted-at chip ram_most sized ok) version n) (λ e. never (sym goes ∙ e))

-- a part of the queue buffer
each-taken : {A : Type 0} (P : A → Type 0) (d : A) → P d → (l : List A) → ((i : ℕ) → P (get_or l i d)) → (n i : ℕ) → P (get_or (take n l) i d)
each-taken P d h l e zero i = h
each-taken P d h [] e (suc n) i = h
each-taken P d h (x ∷ l) e (suc n) zero = e zero
each-taken P d h (x ∷ l) e (suc n) (suc i) = each-taken P d h l (λ j. e (suc j)) n i

pub part-fits : (q : List ℤ) → FitEntries q → (from n : ℕ) → FitEntries (part q from n)
part-fits q f from n = record {
  each = each-taken (SFits w16) (pos 0) (fit w16 (pos 0) (omega arith) (omega arith)) (drop from q) (λ i. subst (SFits w16) (sym (get_or-drop from q i (pos 0))) (f.each (from + i))) n;
}
