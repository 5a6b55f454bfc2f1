-- A list, as `play` leaves it, is its single calls one after the other. Assumes nothing.
use Rattle.std.specs.Prelude.{Ok}
use mathlib.Core.Path.{◌≡◌, refl, sym, ap, ap₂, ◌∙◌}
use mathlib.Core.Bool.{Bool, true, false, cond}
use mathlib.Core.List.{List, [], ◌∷◌, ◌++◌, append-nil}
use Prim.Native.Nat.{ℕ, zero, suc, ◌+◌, ◌*◌, ◌≤◌}
use native.Mathlib.Omega.{arith}
use lib.Dec.{eqb, ltb}
use lib.IntN.{ℤ, pos}
use lib.ListN.{length, get_or, length-replicate}
use lib.Seq.{sets}
use borrow.Author.Tests.{eq-eqb}
use Rattle.sizes.specs.Sizes.{stems_per_frame}
use Rattle.cores.specs.Sizes.{chip_queues, chip_stems}
use Rattle.cores.specs.Stems.{paired}
use Rattle.num.specs.Lists.{part}
use Rattle.tone.specs.Pcm.{is_ram_length}
use Rattle.version.specs.Versions.{version_of, core_count}
use Rattle.voices.proofs.Widths.{part-sets-in}
use Rattle.frames.specs.declared.Asked.{Asked}
use Rattle.frames.specs.declared.Asked.TheVariants as variants
use Rattle.frames.specs.Listing.{asked_of}
use Rattle.frames.specs.Turning.{Turns, frames}
use Rattle.frames.proofs.Framing.{frames-long}
use Rattle.s3w2.specs.Answers.{Checked, unless}
use Rattle.s3w2.specs.Chips.{core_at, core_queues}
use Rattle.s3w2.specs.Refusals.{accepts_chip, refusal, sound_refusal, clock_refusal}
use Rattle.chip_lists.specs.Plays.{Playing, stems_played, clock_played, call_played, calls_played}
use Rattle.chip_sound.specs.Sound.{silent_turns, core_frames, clock_called, clock_stems}
use Rattle.call_lists.specs.Runs.{after}
use Rattle.call_lists.specs.Calls.{Call, set_version, write_register, read_register, peek_register, write_pcm_ram, clock}
use Rattle.chip_calls.specs.Ties.{Machine, machine}
use Rattle.chip_calls.specs.Code.{code}
use Rattle.chip_calls.specs.Lists.{clear_stems, single_call, single_calls}

-- one call more at the end
after_one : (m : Machine) (cs : List Call) (c : Call) → after code m (cs ++ (c ∷ [])) ≡ (code (after code m cs) c).next
after_one m [] c = refl
after_one m (x ∷ cs) c = after_one (code m x).next cs c

-- ---- a list of calls
abbrev pub of_playing : Playing → Machine
of_playing s = machine s.chip s.ram s.queues

module _ (kinds addresses : List ℕ) (m : Machine) (cs : List Call) (n : ℕ) (b : Playing) (ih : after code m cs ≡ of_playing b) where
  abbrev a : ℕ
  a = get_or addresses n 0

  one_more : (c : Call) → after code m (cs ++ (c ∷ [])) ≡ (code (of_playing b) c).next
  one_more c = after_one m cs c ∙ ap (λ (x : Machine). (code x c).next) ih

  call-more : (t : Asked) → after code m (cs ++ single_call kinds addresses t n b) ≡ of_playing (call_played kinds addresses t n b)
  unfolding code
  call-more variants.WriteRegister = one_more (write_register 0 a (get_or b.values n 0))
  call-more variants.WritePcmRam = one_more (write_pcm_ram a (get_or b.values n 0))
  call-more variants.Read = one_more (read_register 0 a)
  call-more variants.Peek = one_more (peek_register 0 a)
  call-more variants.Clock = one_more (clock a (clear_stems a)) ∙ ap (λ (m : ℕ). machine (clock_called b.chip b.ram b.queues a m).chip b.ram b.queues) (length-replicate (chip_stems * a) (pos 0))
  call-more variants.SetVersion = one_more (set_version (version_of a))
  call-more variants.Nothing = ap (after code m) (append-nil cs) ∙ ih

pub calls-listed : (kinds addresses : List ℕ) (s : Playing) (n : ℕ) → after code (of_playing s) (single_calls kinds addresses n s) ≡ of_playing (calls_played kinds addresses n s)
unfolding single_calls calls_played
calls-listed kinds addresses s zero = refl
calls-listed kinds addresses s (suc n) =
    call-more kinds addresses (of_playing s) (single_calls kinds addresses n s) n (calls_played kinds addresses n s) (calls-listed kinds addresses s n) (asked_of (get_or kinds n 0))

-- ---- a clock among them: what it gives alone is what the two stem buffers hold after it, frame by frame core 0's and core 1's
module _ (s : Playing) (n : ℕ) (goes : sound_refusal s.chip (length s.ram) (length s.queues) ≡ Ok tt) where
  -- its part of a stem buffer
  abbrev own_stems : List ℤ → List ℤ
  own_stems l = part l (stems_per_frame * s.frames) (stems_per_frame * n)

  abbrev turns : ℕ → Turns
  turns k = core_frames s.chip s.ram s.queues n k

  long : (k : ℕ) → length (turns k).stems ≡ stems_per_frame * n
  long k = go (ltb k (core_count s.chip.version))
    where
      go : (b : Bool) → length (cond b (frames s.chip.version s.ram (core_queues k s.queues) n (core_at s.chip k)) (silent_turns n (core_at s.chip k))).stems ≡ stems_per_frame * n
      go true = frames-long s.chip.version s.ram (core_queues k s.queues) (core_at s.chip k) n
      go false = length-replicate (stems_per_frame * n) (pos 0)

  put : (k : ℕ) (l : List ℤ) → stems_per_frame * (s.frames + n) ≤ length l → own_stems (stems_played s n k l) ≡ (turns k).stems
  put k l h =
      ap (λ (r : Checked). own_stems (sets l (stems_per_frame * s.frames) (unless r (own_stems l) (turns k).stems))) goes
      ∙ part-sets-in (turns k).stems l (stems_per_frame * s.frames) (stems_per_frame * n) (long k) (omega arith)

  clocks : clock_refusal s.chip (length s.ram) (length s.queues) n (length (clear_stems n)) ≡ Ok tt
  clocks = ap (refusal (is_ram_length (length s.ram)) (eqb (length s.queues) chip_queues) (accepts_chip s.chip (length s.ram))) (eq-eqb (length (clear_stems n)) (chip_stems * n) (length-replicate (chip_stems * n) (pos 0))) ∙ goes

  pub clock-listed : stems_per_frame * (s.frames + n) ≤ length s.stems → stems_per_frame * (s.frames + n) ≤ length s.others
      → (code (of_playing s) (clock n (clear_stems n))).answer.sides ≡ paired n (own_stems (clock_played s n).stems) (own_stems (clock_played s n).others) ∷ []
  unfolding code clock_stems
  clock-listed h k =
      ap (λ (r : Checked). unless r (clear_stems n) (paired n (turns 0).stems (turns 1).stems) ∷ []) clocks
      ∙ sym (ap₂ (λ (x y : List ℤ). paired n x y ∷ []) (put 0 s.stems h) (put 1 s.others k))
