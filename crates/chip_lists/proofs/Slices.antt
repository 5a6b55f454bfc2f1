-- A call of a list is a list of one call over its own parts of the list and of the stem buffers. Assumes nothing.
use Rattle.std.specs.Prelude.{is_ok}
use mathlib.Core.Path.{◌≡◌, refl, sym, ap, ◌∙◌}
use mathlib.Core.List.{List, []}
use Prim.Native.Nat.{ℕ, ◌+◌, ◌*◌, ◌≤◌, ◌<◌}
use native.Mathlib.Omega.{arith}
use lib.Dec.{ltb}
use lib.IntN.{ℤ, pos}
use lib.ListN.{length, length-replicate, get_or, drop, set}
use lib.Seq.{sets, take-take}
use Rattle.sizes.specs.Sizes.{stems_per_frame}
use Rattle.num.specs.Lists.{part}
use Rattle.num.proofs.Choice.{cond-by}
use Rattle.version.specs.Versions.{version_of, core_count}
use Rattle.frames.specs.declared.Asked.{Asked}
use Rattle.frames.specs.declared.Asked.TheVariants as variants
use Rattle.frames.specs.Listing.{asked_of, clocked_as, clocked_by}
use Rattle.frames.specs.Turning.{Turns, frames}
use Rattle.frames.proofs.Framing.{frames-long}
use Rattle.frames.proofs.Parts.{part_length, part-back}
use Rattle.s3w2.specs.declared.Called.{Called}
use Rattle.s3w2.specs.Answers.{byte_answered, unless, answered}
use Rattle.s3w2.specs.Refusals.{sound_refusal}
use Rattle.s3w2.specs.Chips.{core_at, core_queues}
use Rattle.s3w2.specs.Registers.{read_register_called, peek_register_answer}
use Rattle.chip_sound.specs.Sound.{silent_turns, core_frames}
use Rattle.chip_lists.specs.Plays.{Playing, playing, register_played, byte_played, shown_by, stems_played, clock_played, version_played, call_played, calls_played}
use Rattle.chip_lists.proofs.Parts.{part-one, one_at}
use Rattle.chip_sound.proofs.Runs.{sets-all}

-- ---- a call by what it asks for, its address and its value
abbrev asked-for : Asked → ℕ → ℕ → ℕ → Playing → Playing
asked-for variants.WriteRegister address value i s = register_played s address value
asked-for variants.WritePcmRam address value i s = byte_played s address value
asked-for variants.Read address value i s = shown_by s i (read_register_called s.chip 0 address)
asked-for variants.Peek address value i s = shown_by s i (answered s.chip (peek_register_answer s.chip 0 address))
asked-for variants.Clock address value i s = clock_played s address
asked-for variants.SetVersion address value i s = version_played s (version_of address)
asked-for variants.Nothing address value i s = s

played-for : (kinds addresses : List ℕ) (t : Asked) (i : ℕ) (s : Playing) → call_played kinds addresses t i s ≡ asked-for t (get_or addresses i 0) (get_or s.values i 0) i s
played-for kinds addresses variants.WriteRegister i s = refl
played-for kinds addresses variants.WritePcmRam i s = refl
played-for kinds addresses variants.Read i s = refl
played-for kinds addresses variants.Peek i s = refl
played-for kinds addresses variants.Clock i s = refl
played-for kinds addresses variants.SetVersion i s = refl
played-for kinds addresses variants.Nothing i s = refl

-- ---- the same call over parts
abbrev pub parts : Playing → ℕ → ℕ → Playing
parts s i n = playing s.chip s.ram s.queues (part s.values i 1) (part s.stems (stems_per_frame * s.frames) (stems_per_frame * n)) (part s.others (stems_per_frame * s.frames) (stems_per_frame * n))

-- the state with what they leave put back
abbrev pub back_into : Playing → ℕ → ℕ → Playing → Playing
back_into s i n d = record {
  chip = d.chip;
  ram = d.ram;
  queues = d.queues;
  values = sets s.values i d.values;
  stems = sets s.stems (stems_per_frame * s.frames) d.stems;
  others = sets s.others (stems_per_frame * s.frames) d.others;
  frames = s.frames + n;
}

module _ (s : Playing) (i : ℕ) (inside : i < length s.values) where
  abbrev f : ℕ
  f = s.frames

  values-back : sets s.values i (part s.values i 1) ≡ s.values
  values-back = part-back s.values i 1 (omega (arith, inside))

  frames-back : f + 0 ≡ f
  frames-back = omega arith

  -- a call that clocks nothing
  quiet : (d : Playing) → back_into s i 0 (record { chip = d.chip; ram = d.ram; queues = d.queues; values = part s.values i 1; stems = []; others = []; frames = 0 })
      ≡ record { chip = d.chip; ram = d.ram; queues = d.queues; values = s.values; stems = s.stems; others = s.others; frames = s.frames }
  quiet d = λ j. record { chip = d.chip; ram = d.ram; queues = d.queues; values = values-back j; stems = s.stems; others = s.others; frames = frames-back j }

  module _ (n : ℕ) where
    frames-there : (k : ℕ) → length (core_frames s.chip s.ram s.queues n k).stems ≡ stems_per_frame * n
    frames-there k =
        cond-by (λ (t : Turns). length t.stems ≡ stems_per_frame * n) (ltb k (core_count s.chip.version)) (frames s.chip.version s.ram (core_queues k s.queues) n (core_at s.chip k)) (silent_turns n (core_at s.chip k))
        (λ e. frames-long s.chip.version s.ram (core_queues k s.queues) (core_at s.chip k) n) (λ e. length-replicate (stems_per_frame * n) (pos 0))

    stems-back : (k : ℕ) (l : List ℤ) → stems_per_frame * f + stems_per_frame * n ≤ length l
        → sets l (stems_per_frame * f) (stems_played (parts s i n) n k (part l (stems_per_frame * f) (stems_per_frame * n))) ≡ stems_played s n k l
    stems-back k l room =
        let own = part l (stems_per_frame * f) (stems_per_frame * n) in
        let r = sound_refusal s.chip (length s.ram) (length s.queues) in
        let new = (core_frames s.chip s.ram s.queues n k).stems in
        let long = part_length l (stems_per_frame * f) (stems_per_frame * n) room in
        let whole : part own (stems_per_frame * 0) (stems_per_frame * n) ≡ own = take-take (stems_per_frame * n) (stems_per_frame * n) (drop (stems_per_frame * f) l) (omega arith) in
        let filled : length (unless r own new) ≡ stems_per_frame * n = cond-by (λ (g : List ℤ). length g ≡ stems_per_frame * n) (is_ok r) new own (λ e. frames-there k) (λ e. long) in
        ap (λ (g : List ℤ). sets l (stems_per_frame * f) (sets own 0 (unless r g new))) whole
        ∙ ap (sets l (stems_per_frame * f)) (sets-all own (unless r own new) (long ∙ sym filled))

  look-back : (y : ℕ) → sets s.values i (set (part s.values i 1) 0 y) ≡ set s.values i y
  look-back y = ap (λ (l : List ℕ). sets s.values i (set l 0 y)) (part-one s.values i inside)

  shown-back : (u : Called) → back_into s i 0 (shown_by (parts s i 0) 0 u) ≡ shown_by s i u
  shown-back u = λ j. record { chip = u.chip; ram = s.ram; queues = s.queues; values = look-back (byte_answered u.answer) j; stems = s.stems; others = s.others; frames = frames-back j }

  call_back : (t : Asked) (address value : ℕ) → stems_per_frame * f + stems_per_frame * clocked_as t address ≤ length s.stems → stems_per_frame * f + stems_per_frame * clocked_as t address ≤ length s.others
      → back_into s i (clocked_as t address) (asked-for t address value 0 (parts s i (clocked_as t address))) ≡ asked-for t address value i s
  call_back variants.WriteRegister address value h k = quiet (register_played s address value)
  call_back variants.WritePcmRam address value h k = quiet (byte_played s address value)
  call_back variants.Read address value h k = shown-back (read_register_called s.chip 0 address)
  call_back variants.Peek address value h k = shown-back (answered s.chip (peek_register_answer s.chip 0 address))
  call_back variants.Clock address value h k =
      let d = clock_played s address in
      let a = stems-back address 0 s.stems h in
      let b = stems-back address 1 s.others k in
      λ j. record { chip = d.chip; ram = d.ram; queues = d.queues; values = values-back j; stems = a j; others = b j; frames = f + address }
  call_back variants.SetVersion address value h k = quiet (version_played s (version_of address))
  call_back variants.Nothing address value h k = quiet s

  pub slice-played : (kinds addresses : List ℕ) → stems_per_frame * s.frames + stems_per_frame * clocked_by kinds addresses i ≤ length s.stems → stems_per_frame * s.frames + stems_per_frame * clocked_by kinds addresses i ≤ length s.others
      → back_into s i (clocked_by kinds addresses i) (calls_played (part kinds i 1) (part addresses i 1) 1 (parts s i (clocked_by kinds addresses i))) ≡ call_played kinds addresses (asked_of (get_or kinds i 0)) i s
  unfolding calls_played
  slice-played kinds addresses h k =
      let t = asked_of (get_or kinds i 0) in
      let n = clocked_by kinds addresses i in
      let own = parts s i n in
      ap (back_into s i n)
      (ap (λ (u : ℕ). call_played (part kinds i 1) (part addresses i 1) (asked_of u) 0 own) (one_at kinds i)
      ∙ played-for (part kinds i 1) (part addresses i 1) t 0 own ∙ (λ j. asked-for t (one_at addresses i j) (one_at s.values i j) 0 own))
      ∙ call_back t (get_or addresses i 0) (get_or s.values i 0) h k ∙ sym (played-for kinds addresses t i s)
