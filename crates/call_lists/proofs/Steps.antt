-- One call, on a chip over one model of voices and on the chip that it is over another: the same after it, the same answer; a good chip
-- stays good. Assumes nothing.
use mathlib.Core.Path.{◌≡◌, refl, ap, ap₂, ◌∙◌}
use mathlib.Core.Bool.{Bool, true, false, cond}
use mathlib.Core.List.{List, [], ◌∷◌}
use Prim.Native.Nat.{ℕ, ◌*◌, ◌/◌, ◌%◌}
use lib.Dec.{eqb}
use lib.IntN.{ℤ}
use lib.ListN.{length}
use Rattle.sizes.specs.Sizes.{num_channels}
use Rattle.cores.specs.Sizes.{chip_voices, chip_stems}
use Rattle.endings.specs.Sets.{off}
use Rattle.endings.proofs.Sets.{set_same}
use Rattle.version.specs.declared.SguVersion.{SguVersion}
use Rattle.sides.specs.Sides.{saturating, wrapping, added_to}
use Rattle.plain_chip.specs.Voices.{PlainVoice}
use Rattle.plain_chip.specs.Models.{Model}
use Rattle.plain_chip.specs.Frames.{ModelTurns}
use Rattle.plain_chip.specs.Chips as chips
use Rattle.plain_chip.specs.Chips.{ModelChip, load_voice}
use Rattle.plain_chip.specs.Good.{ChipOk}
use Rattle.plain_chip.proofs.Sims.{Sim}
use Rattle.plain_chip.proofs.Calls as calls
use Rattle.plain_chip.proofs.Calls.{chip_seen}
use Rattle.pair_chip.specs.Pairs.{Pair, PairOk, core_chip, on_core, of_core, on_all, fields_at, ticked, framed}
use Rattle.pair_chip.proofs.Pairs.{pair_seen, Alike, alike-reset, alike-set-version, alike-write-ram, within-write-register, within-after-register, Ok, SameCall, same_of, same-fields, same-on, ok-on, ok-within, same-all, ok-all, same-tick, same-ticked, ok-ticked, same-core, same-framed, same-stems, same-values, ok-framed}
use Rattle.call_lists.specs.Runs.{Outcome}
use Rattle.call_lists.specs.Mixing.{served, mixed_side, cleared_to}
use Rattle.call_lists.specs.Texts.{Texts, TextsOk, Told, VoiceRead, voice, queued, HeadRead, head, sized}
use Rattle.call_lists.specs.Calls.{Call, reset, set_version, reset_channel, write_register, read_register, peek_register, write_channel_control, read_channel_control, write_channel_pcm_reg, read_channel_pcm_reg, write_channel_wavetable, read_channel_wavetable, wavetable_length, interpolates, write_pcm_ram, read_pcm_ram, generate_sample, clock, clock_mixed, clock_mixed_into, clock_mixed_into_i32, write_head, read_head, write_voice, read_voice, read_stored_voice, Reply, done, byte, count, flag, sample, ended, CallAnswer, replies, plays, line_answer, gives, ended_at, ended_in, mixes, head_told, voice_told, run}
use Rattle.call_lists.specs.Seen.{FitCall}

module _ {A B : Type 0} {g : A → B} {P : SguVersion → List ℕ → A → Type 0} {a : Model A} {b : Model B} (sim : Sim g P a b) (t : Texts) (texts : TextsOk t) where
  pub record Same (x : Outcome (Pair A) CallAnswer) (y : Outcome (Pair B) CallAnswer) : Type 0 where
    pub next : pair_seen g x.next ≡ y.next
    pub answer : x.answer ≡ y.answer
    pub ok : PairOk P x.next

  -- a choice between two
  either : (s : Bool) (x x' : Outcome (Pair A) CallAnswer) (y y' : Outcome (Pair B) CallAnswer) → Same x y → Same x' y' → Same (cond s x x') (cond s y y')
  either true x x' y y' e f = e
  either false x x' y y' e f = f

  module _ (c : Pair A) (ok : PairOk P c) where
    abbrev d : Pair B
    d = pair_seen g c

    -- a call that changes nothing
    still : (x y : CallAnswer) → x ≡ y → Same (gives a t c x) (gives b t d y)
    still x y e = record { next = refl; answer = e; ok = ok }

    -- what a core tells, as an answer
    tells : {C : Type 0} (r : C → Reply) (core : ℕ) (none : C) (f : (X : Type 0) → Model X → ModelChip X → C) → ((x : ModelChip A) → f A a x ≡ f B b (chip_seen g x)) → replies (r (of_core core none (f A a) c)) ≡ replies (r (of_core core none (f B b) d))
    tells {C} r core none f h = ap (λ (x : C). replies (r x)) (same_of sim c core none (f A a) (f B b) h)

    -- a call on one core
    one : (core : ℕ) (f : (X : Type 0) → Model X → ModelChip X → ModelChip X) (x y : CallAnswer) → x ≡ y → SameCall sim c ok (f A a) (f B b) → ((l : List A) → Ok sim c ok l → Ok sim c ok (f A a (core_chip c l)).voices)
        → Same (gives a t (on_core core (f A a) c) x) (gives b t (on_core core (f B b) d) y)
    one core f x y e h k = record { next = same-on sim c ok core (f A a) (f B b) h; answer = e; ok = ok-on sim c ok core (f A a) k }

    -- a call on both
    both : (f : (X : Type 0) → Model X → ModelChip X → ModelChip X) → ((X : Type 0) (m : Model X) → Alike (f X m)) → SameCall sim c ok (f A a) (f B b) → ((l : List A) → Ok sim c ok l → ChipOk P (f A a (core_chip c l)))
        → Same (gives a t (on_all (f A a) c) (replies done)) (gives b t (on_all (f B b) d) (replies done))
    both f u h k = record { next = same-all sim c ok (f A a) (f B b) (u A a) (u B b) h; answer = refl; ok = ok-all sim c ok (f A a) (u A a) k }

    -- voices turned off: the chip after the call is seen as one chip over the other model
    ended-at : (e : Pair A) (f : Pair B) → pair_seen g e ≡ f → (core ch : ℕ) → ended_at a t c e core ch ≡ ended_at b t d f core ch
    ended-at e f n core ch =
        ap₂ (λ (x y : PlainVoice). off x.pcm.active y.pcm.active) (same-fields sim c core ch) (same-fields sim e core ch ∙ ap (λ (z : Pair B). fields_at b z core ch) n)

    ended-in : (e : Pair A) (f : Pair B) → pair_seen g e ≡ f → ended_in a t c e ≡ ended_in b t d f
    ended-in e f n = set_same chip_voices (λ v. ended_at a t c e (v / num_channels) (v % num_channels)) (λ v. ended_at b t d f (v / num_channels) (v % num_channels)) (λ v h. ended-at e f n (v / num_channels) (v % num_channels))

    -- frames, with what is answered of them
    frames : (n : ℕ) (x y : CallAnswer) → x ≡ y → Same (gives a t (framed a n c) x) (gives b t (framed b n d) y)
    frames n x y e = record { next = same-framed sim c ok n; answer = e; ok = ok-framed sim c ok n }

    mix : (plus : ℤ → ℤ → ℤ) (left right : List ℤ) (r s : Reply) → r ≡ s → Same (mixes a t plus c left right r) (mixes b t plus d left right s)
    mix plus left right r s e =
        let n : ℕ = served left right in
        let side : (hand : ℕ) (l : List ℤ) → mixed_side a plus n c hand l ≡ mixed_side b plus n d hand l = λ hand l. ap₂ (λ (x y : ModelTurns B). added_to plus n x.stems y.stems hand 0 l) (same-core sim c ok n 0) (same-core sim c ok n 1) in
        frames n _ _ (λ i. plays (e i) (side 0 left i ∷ side 1 right i ∷ []) (same-values sim c ok n i))

    versions : (version : SguVersion) → Same (head_told a t c (head version)) (head_told b t d (head version))
    versions version =
        both (λ X m. chips.set_version m version) (λ X m. alike-set-version m version) (λ l k. calls.same-set-version sim (core_chip c l) k version) (λ l k. calls.ok-set-version sim (core_chip c l) k version)

    heads : (r : HeadRead) → Same (head_told a t c r) (head_told b t d r)
    heads (head version) = versions version
    heads (sized version size) = either (eqb size (length c.ram)) _ _ _ _ (versions version) (still _ _ refl)
    heads (HeadRead.faulty field) = still _ _ refl

    voices : (r : VoiceRead) → Told c.version r → Same (voice_told a t c r) (voice_told b t d r)
    voices (voice v fields) f =
        one _ (λ X m. load_voice m (v % num_channels) fields) _ _ refl
        (λ l k. calls.same_load sim (core_chip c l) k (v % num_channels) fields f.1) (λ l k. calls.ok_load sim (core_chip c l) k (v % num_channels) fields f.1)
    voices (VoiceRead.faulty field) f = still _ _ refl
    voices queued f = still _ _ refl

    -- one lemma a call
    pub step : (x : Call) → FitCall x → Same (run a t c x) (run b t d x)
    unfolding run chips.reset_channel chips.write_channel_control chips.write_channel_pcm_reg chips.write_channel_wavetable chips.after_read_channel
    step reset f = both (λ X m. chips.reset m) (λ X m. alike-reset m) (λ l k. calls.same-reset sim (core_chip c l) k) (λ l k. calls.ok-reset sim (core_chip c l) k)
    step (set_version version) f = versions version
    step (reset_channel core ch) f = one core (λ X m. chips.reset_channel m ch) _ _ refl (λ l k. calls.same-reset-channel sim (core_chip c l) k ch) (λ l k. calls.ok-reset-channel sim (core_chip c l) k ch)
    step (write_register core address value) f =
        one core (λ X m. chips.write_register m address value) _ _ refl (λ l k. calls.same-write-register sim (core_chip c l) k address value)
        (ok-within sim c ok (chips.write_register a address value) (within-write-register a address value) (λ l k. calls.ok-write-register sim (core_chip c l) k address value f))
    step (read_register core address) f =
        one core (λ X m. chips.after_read_register m address) _ _ (tells byte core 0 (λ X m. chips.peek_register m address) (λ e. calls.same-peek sim e address)) (λ l k. calls.same-after-register sim (core_chip c l) k address)
        (ok-within sim c ok (chips.after_read_register a address) (within-after-register a address) (λ l k. calls.ok-after-register sim (core_chip c l) k address))
    step (peek_register core address) f = still _ _ (tells byte core 0 (λ X m. chips.peek_register m address) (λ e. calls.same-peek sim e address))
    step (write_channel_control core ch offset value) f =
        one core (λ X m. chips.write_channel_control m ch offset value) _ _ refl (λ l k. calls.same-write-control sim (core_chip c l) k ch offset value) (λ l k. calls.ok-write-control sim (core_chip c l) k ch offset value f)
    step (read_channel_control core ch offset) f =
        one core (λ X m. chips.after_read_channel m ch offset) _ _ (tells byte core 0 (λ X m. chips.read_channel_control m ch offset) (λ e. calls.same-read-control sim e ch offset)) (λ l k. calls.same-after-read sim (core_chip c l) k ch offset) (λ l k. calls.ok-after-read sim (core_chip c l) k ch offset)
    step (write_channel_pcm_reg core ch offset value) f =
        one core (λ X m. chips.write_channel_pcm_reg m ch offset value) _ _ refl (λ l k. calls.same-write-pcm sim (core_chip c l) k ch offset value) (λ l k. calls.ok-write-pcm sim (core_chip c l) k ch offset value f)
    step (read_channel_pcm_reg core ch offset) f = still _ _ (tells byte core 0 (λ X m. chips.read_channel_pcm_reg m ch offset) (λ e. calls.same-read-pcm sim e ch offset))
    step (write_channel_wavetable core ch at value) f =
        one core (λ X m. chips.write_channel_wavetable m ch at value) _ _ refl (λ l k. calls.same-write-wave sim (core_chip c l) k ch at value) (λ l k. calls.ok-write-wave sim (core_chip c l) k ch at value f.1)
    step (read_channel_wavetable core ch at) f = still _ _ (tells byte core 0 (λ X m. chips.read_channel_wavetable m ch at) (λ e. calls.same-read-wave sim e ch at))
    step (wavetable_length core ch) f = still _ _ (tells count core 0 (λ X m. chips.wavetable_length m ch) (λ e. calls.same-wavetable-length sim e ch))
    step (interpolates core ch) f = still _ _ (tells flag core false (λ X m. chips.interpolates_at m ch) (λ e. calls.same-interpolates sim e ch))
    step (write_pcm_ram address value) f =
        both (λ X m. chips.write_pcm_ram m address value) (λ X m. alike-write-ram m address value)
        (λ l k. calls.same-write-ram sim (core_chip c l) k address value) (λ l k. calls.ok-write-ram sim (core_chip c l) k address value f)
    step (read_pcm_ram address) f = still _ _ refl
    step (generate_sample core ch) f =
        let after = same-ticked sim c ok ch core in
        record {
          next = after;
          answer = ap₂ (λ (r : ModelTurns B) (s : Bool). plays (sample r.sample s) [] r.values) (same-tick sim c ok ch core) (ended-at (ticked a ch core c) (ticked b ch core d) after core ch);
          ok = ok-ticked sim c ok ch core;
        }
    step (clock n stems) f =
        let e = ended-in (framed a n c) (framed b n d) (same-framed sim c ok n) in
        either (eqb (length stems) (chip_stems * n)) _ _ _ _ (frames n _ _ (λ i. plays (ended (e i)) (same-stems sim c ok n i ∷ []) (same-values sim c ok n i))) (still _ _ refl)
    step (clock_mixed left right) f = mix saturating (cleared_to (served left right) left) (cleared_to (served left right) right) done done refl
    step (clock_mixed_into left right) f = mix saturating left right done done refl
    step (clock_mixed_into_i32 left right) f =
        let n : ℕ = served left right in
        mix wrapping left right _ _ (ap ended (ended-in (framed a n c) (framed b n d) (same-framed sim c ok n)))
    step (write_head out) f = still _ _ refl
    step (read_head text) f = heads (t.read_head text)
    step (write_voice v out) f = still _ _ (ap (λ (x : PlainVoice). line_answer (t.voice_text v x) out) (same-fields sim c (v / num_channels) (v % num_channels)))
    step (read_voice text) f = voices (t.read_voice c.version text) (texts.told c.version text)
    step (read_stored_voice text) f = voices (t.read_stored c.version text) (texts.stored-told c.version text)
