-- Each call of the chip on a good world is the list's call. Assumes nothing.
use Rattle.std.specs.Prelude.{Ok}
use mathlib.Core.Path.{◌≡◌, refl, sym, ap, ap₂, ◌∙◌, subst}
use mathlib.Core.Bool.{Bool, true, false, cond}
use mathlib.Core.List.{List, [], ◌∷◌, map}
use Prim.Native.Nat.{ℕ, zero, suc, ◌+◌, ◌*◌, ◌/◌, ◌%◌, ◌≤◌, ◌<◌}
use native.Mathlib.Omega.{arith}
use lib.Dec.{ltb}
use lib.IntN.{ℤ}
use lib.ListN.{length, get_or, set, length-set, length-replicate}
use lib.Seq.{sets, length-sets, set-get_or, set_out}
use borrow.Author.Tests.{ltb-true, ltb-false}
use Rattle.sizes.specs.Sizes.{num_channels, queue_buffer}
use Rattle.cores.specs.Sizes.{num_cores, chip_queues}
use Rattle.tone.specs.Pcm.{is_ram_length}
use Rattle.version.specs.declared.SguVersion.{SguVersion}
use Rattle.voices.specs.Core.{fresh_core, reset_channel_at, set_core_version}
use Rattle.voices.specs.Writes.{write_channel_control, write_channel_control_queues, write_channel_pcm_reg, write_register, write_register_queues, write_wavetable, after_ram_write}
use Rattle.voices.specs.Reads.{read_channel_control, read_channel_pcm_reg, after_read_channel, read_wavetable, peek_register, after_read_register, wavetable_length, interpolates_at}
use Rattle.voices.specs.Accepted.{SizedCore, AcceptedCore}
use Rattle.voices.specs.declared.Core.{Core}
use Rattle.voices.proofs.Voices.{length-queues, length-register-queues, fresh-sized}
use Rattle.voices.proofs.Accepting as cores
use Rattle.s3w2.specs.declared.Chip.{Chip}
use Rattle.s3w2.specs.declared.Called.{Called}
use Rattle.s3w2.specs.declared.Returned.TheVariants.{Done, Byte}
use Rattle.s3w2.specs.Answers.{Answer, Checked, unless, answered, called}
use Rattle.s3w2.specs.Answers as answers
use Rattle.s3w2.specs.Chips.{no_core, core_at, with_core_at, core_queues, zeroed}
use Rattle.s3w2.specs.Chips as code
use Rattle.s3w2.specs.Refusals.{own_refusal, ram_refusal, queues_refusal}
use Rattle.s3w2.specs.Fresh.{set_version_called, reset_called, reset_ram, reset_channel_called}
use Rattle.s3w2.specs.Registers.{write_register_called, write_register_buffer, read_register_called, peek_register_answer}
use Rattle.s3w2.specs.Channels.{write_channel_wavetable_called, read_channel_wavetable_answer, write_channel_control_called, write_channel_control_buffer, read_channel_control_called, write_channel_pcm_reg_called, read_channel_pcm_reg_answer, wavetable_length_answer, interpolates_answer}
use Rattle.s3w2.specs.Ram.{write_pcm_ram_called, write_pcm_ram_ram, read_pcm_ram_answer}
use Rattle.s3w2.proofs.Fits.{set_keeps}
use Rattle.slots.specs.Models.{slots, SlotChip, SlotPair}
use Rattle.plain_chip.specs.Chips as chips
use Rattle.pair_chip.specs.Pairs.{on_core, of_core, on_all}
use Rattle.pair_chip.proofs.Pairs.{Alike, alike-reset, alike-set-version, alike-write-ram}
use Rattle.chip_as_slots.specs.Whole.{slot_chip_of}
use Rattle.chip_as_slots.proofs.Puts.{none-changed}
use Rattle.chip_as_slots.proofs.Stores.{world-control, world-pcm, world-after-read, world-reset-channel, world-wave, world-version, world-reset, world-ram, world-register, world-after-register}
use Rattle.chip_as_slots.proofs.Answers.{told-control, told-pcm, told-wave, told-length, told-interpolates, told-peek}
use Rattle.chip_as_slots.proofs.Pairs.{core-told, core-put, core-set, core-none, cores-put}
use Rattle.frames.proofs.Parts.{part_length}
use Rattle.call_lists.specs.Runs.{Outcome}
use Rattle.call_lists.specs.Texts.{Texts}
use Rattle.call_lists.specs.Calls as list
use Rattle.call_lists.specs.Calls.{Call, run}
use Rattle.chip_calls.specs.Ties.{slot_pair, SizedChip, GoodMachine, Machine, reply_of, by, only_tells}
use Rattle.chip_calls.proofs.Accepting.{accepted-held, own-none, ram-none, queues-none}

-- ---- the list's call leaves and answers the same, and lists of the lengths that calls ask for
pub record Agrees (y : Outcome Machine list.CallAnswer) (x : Outcome SlotPair list.CallAnswer) : Type 0 where
  pub next : slot_pair y.next.chip y.next.ram y.next.queues ≡ x.next
  pub answer : y.answer ≡ x.answer
  pub allowed : is_ram_length (length y.next.ram) ≡ true
  pub sized : SizedChip y.next.chip
  pub long : length y.next.queues ≡ chip_queues

-- a call that is not turned away
pub through : (f : Checked → Outcome Machine list.CallAnswer) (r : Checked) (x : Outcome SlotPair list.CallAnswer) → r ≡ Ok tt → Agrees (f (Ok tt)) x → Agrees (f r) x
through f r x e t = subst (λ (a : Checked). Agrees (f a) x) (sym e) t

-- ---- cores put in their places
pub sized-put : (chip : Chip) → SizedChip chip → (k : ℕ) (core : Core) → SizedCore core → SizedChip (with_core_at chip k core)
sized-put chip z k core s = record { two = length-set chip.cores k core ∙ z.two; each = λ j h. set_keeps SizedCore no_core core s chip.cores k j (z.each j h) }

pub sized-two : (version : SguVersion) (a b : Core) → SizedCore a → SizedCore b → SizedChip (record { version = version; cores = a ∷ b ∷ [] })
sized-two version a b p q = record { two = refl; each = at }
  where
    at : (k : ℕ) → k < num_cores → SizedCore (get_or (a ∷ b ∷ []) k no_core)
    at zero h = p
    at (suc zero) h = q
    at (suc (suc k)) h = absurd (omega arith)

module _ (t : Texts) (chip : Chip) (ram : List ℕ) (queues : List ℤ) (held : GoodMachine chip ram queues) where
  abbrev w : SlotPair
  w = slot_pair chip ram queues

  abbrev version : SguVersion
  version = chip.version

  abbrev n : ℕ
  n = length ram

  abbrev ran : Call → Outcome SlotPair list.CallAnswer
  ran c = run slots t w c

  -- core k, its entries of the queue buffer, and both with the version and the RAM
  abbrev core : ℕ → Core
  core k = core_at chip k

  abbrev own : ℕ → List ℤ
  own k = core_queues k queues

  abbrev own_chip : ℕ → SlotChip
  own_chip k = slot_chip_of version (core k) ram (own k)

  abbrev Here : ℕ → Type 0
  Here k = k < num_cores

  abbrev accepted : (k : ℕ) → Here k → AcceptedCore (core k) version n
  accepted k h = accepted-held chip ram queues held k h

  abbrev sized_core : (k : ℕ) → Here k → SizedCore (core k)
  sized_core k h = held.sized.each k h

  pub long-own : (k : ℕ) → Here k → length (own k) ≡ queue_buffer
  long-own k h = let l = held.long in part_length queues (k * queue_buffer) queue_buffer (omega (arith, h, l))

  -- the world and the chip stay
  pub stays : (y : list.CallAnswer) (x : Outcome SlotPair list.CallAnswer) → w ≡ x.next → y ≡ x.answer → Agrees (record { next = record { chip = chip; ram = ram; queues = queues }; answer = y }) x
  stays y x e f = record { next = e; answer = f; allowed = held.allowed; sized = held.sized; long = held.long }

  -- ---- a call on core k
  module _ (k : ℕ) (f : Core → Core) (g : SlotChip → SlotChip) (s : Here k → SizedCore (f (core k))) where
    pub on-core : (answer : Answer) (a : list.CallAnswer) → list.replies (reply_of answer) ≡ a → (Here k → slot_chip_of version (f (core k)) ram (own k) ≡ g (own_chip k))
        → Agrees (by (answered (code.on_core k f chip) answer) ram queues []) (record { next = on_core k g w; answer = a })
    on-core answer a e h = go (ltb k num_cores) refl
      where
        go : (b : Bool) → ltb k num_cores ≡ b → Agrees (by (answered (cond b (with_core_at chip k (f (core k))) chip) answer) ram queues []) (record { next = on_core k g w; answer = a })
        go true l =
            let i : k < num_cores = ltb-true k num_cores l in
            record {
              next = core-set version chip.cores ram queues held.sized.two k i (f (core k)) g (h i);
              answer = e;
              allowed = held.allowed;
              sized = sized-put chip held.sized k (f (core k)) (s i);
              long = held.long;
            }
        go false l = stays _ _ (sym (core-none version chip.cores ram queues k g (ltb-false k num_cores l))) e

    -- with its entries of the queue buffer
    on-queues : (q : List ℤ → List ℤ) → (Here k → length (q (own k)) ≡ queue_buffer) → (Here k → slot_chip_of version (f (core k)) ram (q (own k)) ≡ g (own_chip k))
        → Agrees (by (answered (code.on_core k f chip) (Ok Done)) ram (code.on_queues k q queues) []) (record { next = on_core k g w; answer = list.replies list.done })
    on-queues q m h = go (ltb k num_cores) refl
      where
        go : (b : Bool) → ltb k num_cores ≡ b
            → Agrees (by (answered (cond b (with_core_at chip k (f (core k))) chip) (Ok Done)) ram (cond b (sets queues (k * queue_buffer) (q (own k))) queues) []) (record { next = on_core k g w; answer = list.replies list.done })
        go true l =
            let i : k < num_cores = ltb-true k num_cores l in
            record {
              next = core-put version chip.cores ram queues held.sized.two k i held.long (f (core k)) (q (own k)) g (m i) (h i);
              answer = refl;
              allowed = held.allowed;
              sized = sized-put chip held.sized k (f (core k)) (s i);
              long = length-sets queues (k * queue_buffer) (q (own k)) ∙ held.long;
            }
        go false l = stays _ _ (sym (core-none version chip.cores ram queues k g (ltb-false k num_cores l))) refl

  -- one that leaves the core as it is
  leaves : (k : ℕ) (g : SlotChip → SlotChip) → (Here k → own_chip k ≡ g (own_chip k)) → w ≡ on_core k g w
  leaves k g h = go (ltb k num_cores) refl
    where
      go : (b : Bool) → ltb k num_cores ≡ b → w ≡ on_core k g w
      go true l =
          let i : k < num_cores = ltb-true k num_cores l in
          ap (λ (c : List Core). slot_pair (record { version = version; cores = c }) ram queues) (sym (set-get_or chip.cores k no_core))
          ∙ core-set version chip.cores ram queues held.sized.two k i (core k) g (h i)
      go false l = sym (core-none version chip.cores ram queues k g (ltb-false k num_cores l))

  -- what core k tells
  of-core : {B : Type 0} (k : ℕ) (none : B) (f : Core → B) (g : SlotChip → B) → f (core k) ≡ g (own_chip k) → code.of_core k none f chip ≡ of_core k none g w
  of-core {B} k none f g h = ap (λ (x : B). cond (ltb k num_cores) x none) h ∙ sym (core-told version chip.cores ram queues k none g)

  -- ---- a call on both cores
  on-both : (f : Core → Core) (g : SlotChip → SlotChip) → Alike g → (next : SguVersion) (after : List ℕ) → ((k : ℕ) → Here k → slot_chip_of next (f (core k)) after (own k) ≡ g (own_chip k)) → ((k : ℕ) → Here k → SizedCore (f (core k)))
      → is_ram_length (length after) ≡ true → Agrees (by (answered (record { version = next; cores = f (core 0) ∷ f (core 1) ∷ [] }) (Ok Done)) after queues []) (record { next = on_all g w; answer = list.replies list.done })
  on-both f g u next after h s a = record {
    next = cores-put version chip.cores ram queues g u next (f (core 0) ∷ f (core 1) ∷ []) after at;
    answer = refl;
    allowed = a;
    sized = sized-two next (f (core 0)) (f (core 1)) (s 0 (omega arith)) (s 1 (omega arith));
    long = held.long;
  }
    where
      at : (k : ℕ) → k < num_cores → slot_chip_of next (get_or (f (core 0) ∷ f (core 1) ∷ []) k no_core) after (own k) ≡ g (own_chip k)
      at zero l = h 0 l
      at (suc zero) l = h 1 l
      at (suc (suc k)) l = absurd (omega arith)

  -- ---- calls that are lent neither RAM nor queue buffer, and change nothing but the chip
  lent_none : (x : Called) (y : Outcome SlotPair list.CallAnswer) → Agrees (by x ram queues []) y → Agrees (by (called (own_refusal chip) chip x) ram queues []) y
  lent_none x y e = through (λ r. by (called r chip x) ram queues []) (own_refusal chip) y (own-none chip ram queues held) e

  pub tied-version : (other : SguVersion) → Agrees (by (set_version_called chip other) ram queues []) (ran (list.set_version other))
  unfolding set_version_called run
  tied-version other =
      lent_none _ _ (on-both (λ c. set_core_version c other) (chips.set_version slots other) (alike-set-version slots other) other ram (λ k h. world-version (core k) (own k) (sized_core k h) version other ram)
      (λ k h. (cores.version-kept (core k) version n (accepted k h) other n).sized) held.allowed)

  pub tied-reset-channel : (k ch : ℕ) → Agrees (by (reset_channel_called chip k ch) ram queues []) (ran (list.reset_channel k ch))
  unfolding reset_channel_called run
  tied-reset-channel k ch =
      lent_none _ _ (on-core k (λ c. reset_channel_at c ch) (chips.reset_channel slots ch) (λ h. (cores.reset-kept (core k) version n (accepted k h) ch).sized) (Ok Done) _ refl
      (λ h. world-reset-channel (core k) (own k) (sized_core k h) (long-own k h) ch version ram))

  pub tied-read-register : (k address : ℕ) → Agrees (by (read_register_called chip k address) ram queues []) (ran (list.read_register k address))
  unfolding read_register_called run
  tied-read-register k address =
      lent_none _ _ (on-core k (λ c. after_read_register c address) (chips.after_read_register slots address) (λ h. (cores.read-register-kept (core k) version n (accepted k h) address).sized) (Ok (Byte (code.of_core k 0 (λ c. peek_register version c address) chip))) _
      (ap (λ (x : ℕ). list.replies (list.byte x)) (of-core k 0 (λ c. peek_register version c address) (chips.peek_register slots address) (told-peek version (core k) ram (own k) address)))
      (λ h. world-after-register (core k) (own k) (sized_core k h) (long-own k h) version ram address))

  pub tied-read-control : (k ch offset : ℕ) → Agrees (by (read_channel_control_called chip k ch offset) ram queues []) (ran (list.read_channel_control k ch offset))
  unfolding read_channel_control_called run
  tied-read-control k ch offset =
      lent_none _ _ (on-core k (λ c. after_read_channel c ch offset) (chips.after_read_channel slots ch offset) (λ h. (cores.read-channel-kept (core k) version n (accepted k h) ch offset).sized) (Ok (Byte (code.of_core k 0 (λ c. read_channel_control version c ch offset) chip))) _
      (ap (λ (x : ℕ). list.replies (list.byte x)) (of-core k 0 (λ c. read_channel_control version c ch offset) (chips.read_channel_control slots ch offset) (told-control version (core k) ram (own k) ch offset)))
      (λ h. world-after-read (core k) (own k) (sized_core k h) (long-own k h) ch version ram offset))

  pub tied-pcm : (k ch offset value : ℕ) → value < 256 → Agrees (by (write_channel_pcm_reg_called chip k ch offset value) ram queues []) (ran (list.write_channel_pcm_reg k ch offset value))
  unfolding write_channel_pcm_reg_called run
  tied-pcm k ch offset value b =
      lent_none _ _ (on-core k (λ c. write_channel_pcm_reg c ch offset value) (chips.write_channel_pcm_reg slots ch offset value) (λ h. (cores.pcm-kept (core k) version n (accepted k h) ch offset value b).sized) (Ok Done) _ refl
      (λ h. world-pcm (core k) (own k) (sized_core k h) (long-own k h) ch version ram offset value))

  -- a wavetable byte, by its place among all of its core
  wave-at : (k : ℕ) → Here k → (ch at value : ℕ) → at < 256 → ch < num_channels → slot_chip_of version (write_wavetable (core k) (ch * 256 + at) value) ram (own k) ≡ chips.write_channel_wavetable slots ch at value (own_chip k)
  wave-at k h ch at value l m =
      let a : (ch * 256 + at) / 256 ≡ ch = omega arith in
      let b : (ch * 256 + at) % 256 ≡ at = omega arith in
      world-wave (core k) (own k) (sized_core k h) (ch * 256 + at) value (omega arith) version ram ∙ ap₂ (λ (i j : ℕ). chips.write_channel_wavetable slots i j value (own_chip k)) a b

  wave-none : (k ch at value : ℕ) → 8 ≤ ch → own_chip k ≡ chips.write_channel_wavetable slots ch at value (own_chip k)
  unfolding chips.write_channel_wavetable
  wave-none k ch at value h = λ i. record { version = version; ram = ram; voices = none-changed (core k) (own k) ch (slots.write_wave at value) h i }

  pub tied-wave : (k ch at value : ℕ) → at < 256 → Agrees (by (write_channel_wavetable_called chip k ch at value) ram queues []) (ran (list.write_channel_wavetable k ch at value))
  unfolding write_channel_wavetable_called run
  tied-wave k ch at value l = lent_none _ _ (go (ltb ch num_channels) refl)
    where
      go : (b : Bool) → ltb ch num_channels ≡ b
          → Agrees (by (answered (cond b (code.on_core k (λ c. write_wavetable c (ch * 256 + at) value) chip) chip) (Ok Done)) ram queues []) (record { next = on_core k (chips.write_channel_wavetable slots ch at value) w; answer = list.replies list.done })
      go true e =
          on-core k (λ c. write_wavetable c (ch * 256 + at) value) (chips.write_channel_wavetable slots ch at value) (λ h. (cores.wavetable-kept (core k) version n (accepted k h) (ch * 256 + at) value).sized) (Ok Done) _ refl
          (λ h. wave-at k h ch at value l (ltb-true ch 8 e))
      go false e = stays _ _ (leaves k (chips.write_channel_wavetable slots ch at value) (λ h. wave-none k ch at value (ltb-false ch 8 e))) refl

  -- ---- calls that only tell: the world stays
  tells : (r : Checked) (a : Answer) (y : list.CallAnswer) → r ≡ Ok tt → list.replies (reply_of a) ≡ y → Agrees (only_tells chip ram queues (answers.told r a)) (record { next = w; answer = y })
  tells r a y e f = through (λ z. only_tells chip ram queues (answers.told z a)) r _ e (stays _ _ refl f)

  pub tied-peek : (k address : ℕ) → Agrees (only_tells chip ram queues (peek_register_answer chip k address)) (ran (list.peek_register k address))
  unfolding peek_register_answer run
  tied-peek k address =
      tells (own_refusal chip) _ _ (own-none chip ram queues held)
      (ap (λ (x : ℕ). list.replies (list.byte x)) (of-core k 0 (λ c. peek_register version c address) (chips.peek_register slots address) (told-peek version (core k) ram (own k) address)))

  pub tied-read-pcm : (k ch offset : ℕ) → Agrees (only_tells chip ram queues (read_channel_pcm_reg_answer chip k ch offset)) (ran (list.read_channel_pcm_reg k ch offset))
  unfolding read_channel_pcm_reg_answer run
  tied-read-pcm k ch offset =
      tells (own_refusal chip) _ _ (own-none chip ram queues held)
      (ap (λ (x : ℕ). list.replies (list.byte x)) (of-core k 0 (λ c. read_channel_pcm_reg c ch offset) (chips.read_channel_pcm_reg slots ch offset) (told-pcm version (core k) ram (own k) ch offset)))

  pub tied-length : (k ch : ℕ) → Agrees (only_tells chip ram queues (wavetable_length_answer chip k ch)) (ran (list.wavetable_length k ch))
  unfolding wavetable_length_answer run
  tied-length k ch =
      tells (own_refusal chip) _ _ (own-none chip ram queues held)
      (ap (λ (x : ℕ). list.replies (list.count x)) (of-core k 0 (λ c. wavetable_length version c ch) (chips.wavetable_length slots ch) (told-length version (core k) ram (own k) ch)))

  pub tied-interpolates : (k ch : ℕ) → Agrees (only_tells chip ram queues (interpolates_answer chip k ch)) (ran (list.interpolates k ch))
  unfolding interpolates_answer run
  tied-interpolates k ch =
      tells (own_refusal chip) _ _ (own-none chip ram queues held)
      (ap (λ (x : Bool). list.replies (list.flag x)) (of-core k false (λ c. interpolates_at version c ch) (chips.interpolates_at slots ch) (told-interpolates version (core k) ram (own k) ch)))

  pub tied-read-ram : (address : ℕ) → Agrees (only_tells chip ram queues (read_pcm_ram_answer chip ram address)) (ran (list.read_pcm_ram address))
  unfolding read_pcm_ram_answer run
  tied-read-ram address = tells (ram_refusal chip n) _ _ (ram-none chip ram queues held) refl

  -- a channel above 7 reads 0, whatever the core
  wave-told : (k ch at : ℕ) → at < 256 → (b : Bool) → ltb ch num_channels ≡ b → cond b (read_wavetable (core k) (ch * 256 + at)) 0 ≡ chips.read_channel_wavetable slots ch at (own_chip k)
  unfolding chips.read_channel_wavetable
  wave-told k ch at l true e =
      let a : (ch * 256 + at) / 256 ≡ ch = omega arith in
      let b : (ch * 256 + at) % 256 ≡ at = omega arith in
      let h : ch < num_channels = ltb-true ch 8 e in
      told-wave version (core k) ram (own k) (ch * 256 + at) (omega arith) ∙ ap₂ (λ (i j : ℕ). chips.read_channel_wavetable slots i j (own_chip k)) a b
  wave-told k ch at l false e = sym (ap (λ (s : Bool). cond s (get_or (chips.fields_at slots (own_chip k) ch).wavetable at 0) 0) e)

  within : (b c : Bool) (x : ℕ) → cond b (cond c x 0) 0 ≡ cond c (cond b x 0) 0
  within true c x = refl
  within false true x = refl
  within false false x = refl

  pub tied-read-wave : (k ch at : ℕ) → at < 256 → Agrees (only_tells chip ram queues (read_channel_wavetable_answer chip k ch at)) (ran (list.read_channel_wavetable k ch at))
  unfolding read_channel_wavetable_answer run
  tied-read-wave k ch at l =
      let told : Core → ℕ = λ c. cond (ltb ch num_channels) (read_wavetable c (ch * 256 + at)) 0 in
      tells (own_refusal chip) _ _ (own-none chip ram queues held)
      (ap (λ (x : ℕ). list.replies (list.byte x)) (within (ltb ch num_channels) (ltb k num_cores) (read_wavetable (core k) (ch * 256 + at)) ∙ of-core k 0 told (chips.read_channel_wavetable slots ch at) (wave-told k ch at l (ltb ch num_channels) refl)))

  -- ---- calls that are lent the queue buffer
  module _ (x : Called) (y : Outcome SlotPair list.CallAnswer) (after : List ℤ) where
    queued : Agrees (by x ram after []) y → Agrees (by (called (queues_refusal chip (length queues)) chip x) ram (unless (queues_refusal chip (length queues)) queues after) []) y
    queued e = through (λ r. by (called r chip x) ram (unless r queues after) []) (queues_refusal chip (length queues)) y (queues-none chip ram queues held) e

  pub tied-write-register : (k address value : ℕ) → value < 256
      → Agrees (by (write_register_called chip (length queues) k address value) ram (write_register_buffer chip queues k address value) []) (ran (list.write_register k address value))
  unfolding write_register_called write_register_buffer run
  tied-write-register k address value b =
      queued _ _ _ (on-queues k (λ c. write_register version c address value) (chips.write_register slots address value) (λ h. (cores.register-kept (core k) version n (accepted k h) address value b).sized)
      (λ q. write_register_queues version (core k) q address value) (λ h. length-register-queues version (core k) (own k) address value ∙ long-own k h)
      (λ h. world-register (core k) (own k) (sized_core k h) (long-own k h) version ram address value))

  pub tied-control : (k ch offset value : ℕ)
      → Agrees (by (write_channel_control_called chip (length queues) k ch offset value) ram (write_channel_control_buffer chip queues k ch offset value) []) (ran (list.write_channel_control k ch offset value))
  unfolding write_channel_control_called write_channel_control_buffer run
  tied-control k ch offset value =
      queued _ _ _ (on-queues k (λ c. write_channel_control version c ch offset value) (chips.write_channel_control slots ch offset value) (λ h. (cores.control-kept (core k) version n (accepted k h) ch offset value).sized)
      (λ q. write_channel_control_queues version (core k) q ch offset value) (λ h. length-queues version (core k) (own k) ch offset value ∙ long-own k h)
      (λ h. world-control (core k) (own k) (sized_core k h) (long-own k h) ch version ram offset value))

  -- ---- calls that are lent the RAM
  module _ (x : Called) (y : Outcome SlotPair list.CallAnswer) (after : List ℕ) where
    poked : Agrees (by x after queues []) y → Agrees (by (called (ram_refusal chip n) chip x) (unless (ram_refusal chip n) ram after) queues []) y
    poked e = through (λ r. by (called r chip x) (unless r ram after) queues []) (ram_refusal chip n) y (ram-none chip ram queues held) e

  pub tied-reset : Agrees (by (reset_called chip (length ram)) (reset_ram chip ram) queues []) (ran list.reset)
  unfolding reset_called reset_ram run
  tied-reset =
      poked _ _ (zeroed ram) (on-both (λ c. fresh_core) (chips.reset slots) (alike-reset slots) version (zeroed ram) (λ k h. world-reset (core k) (own k) (sized_core k h) version ram) (λ k h. fresh-sized)
      (ap is_ram_length (length-replicate {A = ℕ} n 0) ∙ held.allowed))

  -- an address past the end is none
  ram-past : (address value : ℕ) → ltb address n ≡ false → (k : ℕ) → slot_chip_of version (core k) (set ram address value) (own k) ≡ chips.write_pcm_ram slots address value (own_chip k)
  unfolding chips.write_pcm_ram
  ram-past address value e k =
      ap (λ (l : List ℕ). slot_chip_of version (core k) l (own k)) (set_out ram address value (ltb-false address n e))
      ∙ sym (ap (λ (b : Bool). cond b (record { version = version; ram = set ram address value; voices = map (slots.poked address) (own_chip k).voices }) (own_chip k)) e)

  pub tied-write-ram : (address value : ℕ) → Agrees (by (write_pcm_ram_called chip (length ram) address) (write_pcm_ram_ram chip ram address value) queues []) (ran (list.write_pcm_ram address value))
  unfolding write_pcm_ram_called write_pcm_ram_ram run
  tied-write-ram address value = poked _ _ (set ram address value) (go (ltb address n) refl)
    where
      allowed : is_ram_length (length (set ram address value)) ≡ true
      allowed = ap is_ram_length (length-set ram address value) ∙ held.allowed

      go : (b : Bool) → ltb address n ≡ b
          → Agrees (by (answered (cond b (code.on_both (λ c. after_ram_write c address) chip) chip) (Ok Done)) (set ram address value) queues []) (record { next = on_all (chips.write_pcm_ram slots address value) w; answer = list.replies list.done })
      go true e =
          on-both (λ c. after_ram_write c address) (chips.write_pcm_ram slots address value) (alike-write-ram slots address value) version (set ram address value) (λ k h. world-ram (core k) (own k) (sized_core k h) version ram address value e)
          (λ k h. (cores.ram-kept (core k) version n (accepted k h) address).sized) allowed
      go false e = record {
        next = cores-put version chip.cores ram queues (chips.write_pcm_ram slots address value) (alike-write-ram slots address value) version chip.cores (set ram address value) (λ k h. ram-past address value e k);
        answer = refl;
        allowed = allowed;
        sized = held.sized;
        long = held.long;
      }
