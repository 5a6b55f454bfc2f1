-- A call of a list on both cores is the single call, which is not turned away. Assumes nothing.
use Rattle.std.specs.Prelude.{Ok, is_ok}
use mathlib.Core.Path.{◌≡◌, refl, sym, ap, ◌∙◌}
use mathlib.Core.Bool.{Bool, true, false, cond}
use mathlib.Core.List.{List, [], ◌∷◌, ◌++◌, append-nil}
use Prim.Native.Nat.{ℕ, ◌+◌, ◌*◌}
use native.Mathlib.Omega.{arith}
use lib.Dec.{eqb, ltb}
use lib.IntN.{ℤ}
use lib.ListN.{length, length-append, take, drop, get_or, set}
use lib.Seq.{sets, sets-eq, take_at, drop_at, take_all}
use borrow.Author.Tests.{eq-eqb}
use Rattle.sizes.specs.Sizes.{queue_buffer, ram_most, stems_per_frame}
use Rattle.cores.specs.Sizes.{chip_queues, chip_stems}
use Rattle.num.specs.Lists.{part}
use Rattle.num.proofs.Lists.{sets-append}
use Rattle.tone.specs.Pcm.{is_ram_length}
use Rattle.version.specs.Versions.{version_of, core_count}
use Rattle.version.specs.declared.SguVersion.{SguVersion}
use Rattle.voices.specs.Core.{set_core_version}
use Rattle.voices.specs.Reads.{peek_register, after_read_register}
use Rattle.voices.specs.Writes.{write_register_queues, after_ram_write}
use Rattle.voices.specs.declared.Core.{Core}
use Rattle.voices.proofs.Voices.{length-register-queues}
use Rattle.frames.specs.declared.Asked.{Asked}
use Rattle.frames.specs.declared.Asked.TheVariants as variants
use Rattle.frames.specs.Listing.{Listed, clock_turns, written, byte_stored, looked, under_version, call_as, clocked_as}
use Rattle.frames.specs.Turning.{Turns, turned, frames}
use Rattle.frames.proofs.Counts.{zero-add}
use Rattle.frames.proofs.Framing.{frames-turns}
use Rattle.s3w2.specs.declared.Returned.TheVariants.{Done, Byte, Ended}
use Rattle.s3w2.specs.declared.Called.{Called}
use Rattle.s3w2.specs.declared.Chip.{Chip}
use Rattle.s3w2.specs.Answers.{Answer, Checked, done_unless, unless, answered, called}
use Rattle.s3w2.specs.Refusals.{refusal, accepts_chip, own_refusal, ram_refusal, queues_refusal, sound_refusal, clock_refusal}
use Rattle.s3w2.specs.Chips.{core_queues, with_cores}
use Rattle.s3w2.specs.Fresh.{set_version_called}
use Rattle.s3w2.specs.Ram.{write_pcm_ram_called, write_pcm_ram_ram}
use Rattle.s3w2.specs.Registers.{write_register_called, write_register_buffer, read_register_called, peek_register_answer}
use Rattle.chip_sound.specs.Sound.{silent_turns, core_frames, framed, framed_ended, clock_called}
use Rattle.chip_lists.specs.Plays.{Playing, register_played, byte_played, shown_by, stems_played, clock_played, version_played, call_played}
use Rattle.chip_lists.specs.Second.{second_called}
use Rattle.s3w2.proofs.Longer.{ram-small, accepts-longer}
use Rattle.s3w2.proofs.Refused.{nothing-amiss}
use Rattle.chip_sound.proofs.Seconds as seconds

-- a call that is not turned away
done-called : (r : Checked) (chip : Chip) (done : Called) → is_ok r ≡ true → called r chip done ≡ done
done-called r chip done h = ap (λ (b : Bool). cond b done (answered chip (done_unless r))) h

done-kept : {A : Type 0} (r : Checked) (kept done : A) → is_ok r ≡ true → unless r kept done ≡ done
done-kept r kept done h = ap (λ (b : Bool). cond b done kept) h

amiss : (ram queues state stems : Bool) → ram ≡ true → queues ≡ true → state ≡ true → stems ≡ true → is_ok (refusal ram queues state stems) ≡ true
amiss ram queues state stems a b e g = ap is_ok (sym (nothing-amiss ram queues state stems a b e g))

-- stems behind those that were given
stems-behind : (l g ys : List ℤ) (f : ℕ) → length g ≡ stems_per_frame * f → sets (sets l 0 g) (stems_per_frame * f) ys ≡ sets l 0 (g ++ ys)
stems-behind l g ys f e =
    ap (λ (k : ℕ). sets (sets l 0 g) k ys) (sym e ∙ zero-add (length g)) ∙ sym (sets-append g ys l 0)

-- ---- the state of a list as the chip's: core 0 with its half of the queue buffer as `frames` plays them, core 1 beside it
abbrev pub chip_of : Listed → Core → Chip
chip_of x b = record { version = x.version; cores = x.core ∷ b ∷ [] }

module _ (stems₀ others₀ upper : List ℤ) where
  abbrev pub as_playing : Listed → Core → List ℤ → ℕ → Playing
  as_playing x b o f = record {
    chip = chip_of x b;
    ram = x.ram;
    queues = x.queues ++ upper;
    values = x.values;
    stems = sets stems₀ 0 x.stems;
    others = sets others₀ 0 o;
    frames = f;
  }

  -- ---- one call on an accepted state
  module _ (x : Listed) (b : Core) (o : List ℤ) (f : ℕ) (allowed : is_ram_length (length x.ram) ≡ true) (low : length x.queues ≡ queue_buffer) (high : length upper ≡ queue_buffer)
      (fine : accepts_chip (chip_of x b) (length x.ram) ≡ true) (long : length x.stems ≡ stems_per_frame * f) (other : length o ≡ stems_per_frame * f) where
    abbrev c : Chip
    c = chip_of x b

    abbrev q : List ℤ
    q = x.queues ++ upper

    abbrev s : Playing
    s = as_playing x b o f

    most : accepts_chip c ram_most ≡ true
    most = accepts-longer c (length x.ram) ram_most (ram-small (length x.ram) allowed) fine

    full : eqb (length q) chip_queues ≡ true
    full = eq-eqb (length q) chip_queues (length-append x.queues upper ∙ omega (arith, low, high))

    own : is_ok (own_refusal c) ≡ true
    own = amiss true true (accepts_chip c ram_most) true refl refl most refl

    with-queues : is_ok (queues_refusal c (length q)) ≡ true
    with-queues = amiss true (eqb (length q) chip_queues) (accepts_chip c ram_most) true refl full most refl

    with-ram : is_ok (ram_refusal c (length x.ram)) ≡ true
    with-ram = amiss (is_ram_length (length x.ram)) true (accepts_chip c (length x.ram)) true allowed refl fine refl

    with-both : is_ok (sound_refusal c (length x.ram) (length q)) ≡ true
    with-both = amiss (is_ram_length (length x.ram)) (eqb (length q) chip_queues) (accepts_chip c (length x.ram)) true allowed full fine refl

    -- each core's half of the queue buffer
    lower-half : core_queues 0 q ≡ x.queues
    lower-half = take_at x.queues upper queue_buffer low

    upper-half : core_queues 1 q ≡ upper
    upper-half = ap (take queue_buffer) (drop_at x.queues upper queue_buffer low) ∙ take_all queue_buffer upper (omega (arith, high))

    lower-set : (ys : List ℤ) → length ys ≡ length x.queues → sets q 0 ys ≡ ys ++ upper
    lower-set ys e =
        let l = length-append x.queues upper in
        sets-eq ys q 0 (omega (arith, e, l)) ∙ ap (λ (r : List ℤ). ys ++ r) (ap (λ (k : ℕ). drop k q) (sym (zero-add (length ys)) ∙ e) ∙ drop_at x.queues upper (length x.queues) refl)

    register-played : (a v : ℕ) → register_played s a v ≡ as_playing (written x a v) b o f
    unfolding write_register_called write_register_buffer
    register-played a v =
        let r = queues_refusal c (length q) in
        let w : List ℤ = write_register_queues x.version x.core x.queues a v in
        let p = done-called r c (answered (chip_of (written x a v) b) (Ok Done)) with-queues in
        let k =
        done-kept r q (sets q 0 (write_register_queues x.version x.core (core_queues 0 q) a v)) with-queues
        ∙ ap (λ (l : List ℤ). sets q 0 (write_register_queues x.version x.core l a v)) lower-half ∙ lower-set w (length-register-queues x.version x.core x.queues a v)
        in
        λ j. record { chip = (p j).chip; ram = x.ram; queues = k j; values = x.values; stems = s.stems; others = s.others; frames = f }

    byte-chip : (t : Bool) (a : ℕ) → cond t (with_cores c (after_ram_write x.core a) (after_ram_write b a)) c ≡ with_cores c (cond t (after_ram_write x.core a) x.core) (cond t (after_ram_write b a) b)
    byte-chip true a = refl
    byte-chip false a = refl

    byte-played : (a v : ℕ) → byte_played s a v ≡ as_playing (byte_stored x a v) (cond (ltb a (length x.ram)) (after_ram_write b a) b) o f
    unfolding write_pcm_ram_called write_pcm_ram_ram
    byte-played a v =
        let r = ram_refusal c (length x.ram) in
        let t = ltb a (length x.ram) in
        let p = ap (λ (u : Called). u.chip) (done-called r c (answered (cond t (with_cores c (after_ram_write x.core a) (after_ram_write b a)) c) (Ok Done)) with-ram) ∙ byte-chip t a in
        let k = done-kept r x.ram (set x.ram a v) with-ram in
        λ j. record { chip = p j; ram = k j; queues = q; values = x.values; stems = s.stems; others = s.others; frames = f }

    read-played : (i a : ℕ) → shown_by s i (read_register_called c 0 a) ≡ as_playing (looked x i a true) b o f
    unfolding read_register_called
    read-played i a =
        ap (shown_by s i) (done-called (own_refusal c) c (answered (with_cores c (after_read_register x.core a) b) (Ok (Byte (peek_register x.version x.core a)))) own)

    peek-played : (i a : ℕ) → shown_by s i (answered c (peek_register_answer c 0 a)) ≡ as_playing (looked x i a false) b o f
    unfolding peek_register_answer
    peek-played i a =
        ap (λ (u : Answer). shown_by s i (answered c u)) (done-kept (own_refusal c) (done_unless (own_refusal c)) (Ok (Byte (peek_register x.version x.core a))) own)

    version-played : (v : SguVersion) → version_played s v ≡ as_playing (under_version x v) (set_core_version b v) o f
    unfolding set_version_called
    version-played v =
        let p = done-called (own_refusal c) c (answered (chip_of (under_version x v) (set_core_version b v)) (Ok Done)) own in
        λ j. record { chip = (p j).chip; ram = x.ram; queues = q; values = x.values; stems = s.stems; others = s.others; frames = f }

    module _ (n : ℕ) where
      abbrev S : Turns
      S = second_called x.version x.ram upper variants.Clock n b

      first-frames : core_frames c x.ram q n 0 ≡ turned x.version x.ram x.queues 0 4 (8 * n) x.core
      first-frames =
          seconds.first-frames c x.ram q n
          ∙ ap (λ (l : List ℤ). frames x.version x.ram l n x.core) lower-half ∙ sym (frames-turns x.version x.ram x.queues x.core n)

      second-frames : core_frames c x.ram q n 1 ≡ S
      second-frames = ap (λ (l : List ℤ). cond (ltb 1 (core_count x.version)) (frames x.version x.ram l n b) (silent_turns n b)) upper-half

      with-stems : is_ok (clock_refusal c (length x.ram) (length q) n (chip_stems * n)) ≡ true
      with-stems =
          amiss (is_ram_length (length x.ram)) (eqb (length q) chip_queues) (accepts_chip c (length x.ram)) (eqb (chip_stems * n) (chip_stems * n)) allowed full fine
          (eq-eqb (chip_stems * n) (chip_stems * n) refl)

      stems-played : (k : ℕ) (l g : List ℤ) (t : Turns) → length g ≡ stems_per_frame * f → core_frames c x.ram q n k ≡ t → stems_played s n k (sets l 0 g) ≡ sets l 0 (g ++ t.stems)
      stems-played k l g t e h =
          ap (sets (sets l 0 g) (stems_per_frame * f)) (done-kept (sound_refusal c (length x.ram) (length q)) (part (sets l 0 g) (stems_per_frame * f) (stems_per_frame * n)) (core_frames c x.ram q n k).stems with-both ∙ ap (λ (u : Turns). u.stems) h)
          ∙ stems-behind l g t.stems f e

      clock-played : clock_played s n ≡ as_playing (clock_turns 0 4 (8 * n) x) S.core (o ++ S.stems) (f + n)
      unfolding clock_called
      clock-played =
          let r = clock_refusal c (length x.ram) (length q) n (chip_stems * n) in
          let p = done-called r c (answered (framed c x.ram q n) (Ok (Ended (framed_ended c x.ram q n)))) with-stems in
          let chip-is = ap (λ (u : Called). u.chip) p ∙ (λ j. with_cores c (first-frames j).core (second-frames j).core) in
          let a = stems-played 0 stems₀ x.stems (turned x.version x.ram x.queues 0 4 (8 * n) x.core) long first-frames in
          let d = stems-played 1 others₀ o S other second-frames in
          λ j. record { chip = chip-is j; ram = x.ram; queues = q; values = x.values; stems = a j; others = d j; frames = f + n }

    no_more : f ≡ f + 0
    no_more = omega arith

    still : (y : Listed) (d : Core) → as_playing y d o f ≡ as_playing y d (o ++ []) (f + 0)
    still y d = λ j. as_playing y d (sym (append-nil o) j) (no_more j)

    -- whatever it asks for
    pub call-played : (kinds addresses : List ℕ) (t : Asked) (i : ℕ)
        → call_played kinds addresses t i (as_playing x b o f) ≡ as_playing (call_as kinds addresses 0 4 t i x) (second_called x.version x.ram upper t (get_or addresses i 0) b).core
        (o ++ (second_called x.version x.ram upper t (get_or addresses i 0) b).stems) (f + clocked_as t (get_or addresses i 0))
    call-played kinds addresses variants.WriteRegister i = register-played (get_or addresses i 0) (get_or x.values i 0) ∙ still (written x (get_or addresses i 0) (get_or x.values i 0)) b
    call-played kinds addresses variants.WritePcmRam i = byte-played (get_or addresses i 0) (get_or x.values i 0) ∙ still (byte_stored x (get_or addresses i 0) (get_or x.values i 0)) _
    call-played kinds addresses variants.Read i = read-played i (get_or addresses i 0) ∙ still (looked x i (get_or addresses i 0) true) b
    call-played kinds addresses variants.Peek i = peek-played i (get_or addresses i 0) ∙ still (looked x i (get_or addresses i 0) false) b
    call-played kinds addresses variants.Clock i = clock-played (get_or addresses i 0)
    call-played kinds addresses variants.SetVersion i = version-played (version_of (get_or addresses i 0)) ∙ still (under_version x (version_of (get_or addresses i 0))) _
    call-played kinds addresses variants.Nothing i = still x b
