-- What the players that a log reaches print and keep: an `F` line has what `clock_mixed` gives, and no peak passes 262,144. Assumes nothing.
use Rattle.std.specs.Prelude.{Result, Ok, Err}
use mathlib.Core.Path.{◌≡◌, sym, ap, ◌∙◌, subst}
use mathlib.Core.List.{List, [], ◌∷◌}
use Prim.Native.Nat.{ℕ, ◌+◌, ◌*◌, ◌/◌, ◌%◌, ◌≤◌, ◌<◌, min}
use native.Mathlib.Nat as N
use native.Mathlib.Omega.{arith}
use native.Mathlib.Decide.{dec_le}
use lib.IntN.{pos}
use lib.ListN.{length, get_or, drop, get_or-eq_default}
use lib.Seq.{get_or-take, get_or-drop}
use mir.Syntax.{w16}
use mir.Val.{SFits}
use Rattle.sizes.specs.Sizes.{num_channels, wavetable_size, fifo_capacity, queue_buffer}
use Rattle.cores.specs.Sizes.{num_cores}
use Rattle.num.specs.Lists.{part}
use Rattle.num.proofs.Integers.{fit}
use Rattle.registers.specs.PlainQueue.{FitEntries}
use Rattle.frames.proofs.Parts.{part_length}
use Rattle.chip_sound.specs.Mixing.{clock_mixed_left, clock_mixed_right}
use Rattle.s3w2.specs.Chips.{core_at, core_queues}
use Rattle.s3w2.proofs.Fits.{FitCore, FitChip}
use Rattle.log_lines.specs.declared.Line.{Line}
use Rattle.log_lines.specs.declared.Line.TheVariants.{Write, WriteRam, Read, Peek, Clock, Version}
use Rattle.log_lines.specs.declared.LineFault.{LineFault}
use Rattle.log_lines.specs.Lines.{parsed_line}
use Rattle.plain_chip.specs.Lists.{Every}
use Rattle.slots.specs.Good.{SlotOk}
use Rattle.chip_as_slots.specs.Whole.{slot_at}
use Rattle.log_player.specs.declared.Player.{Player}
use Rattle.log_player.specs.Worlds.{World, fresh_world}
use Rattle.log_player.specs.Applied.{silent, effect_of, after_line, printed}
use Rattle.log_player.proofs.Overs.{plain_lines, frames-stay, left-peak, right-peak}
use Rattle.chip_calls.specs.Ties.{Machine}
use Rattle.chip_calls.proofs.Accepting.{core-good}
use Rattle.resume.proofs.Steps.{HeldMachine}
use Rattle.log_resume.specs.Cuts.{Playable, played, machine_of}
use Rattle.log_resume.proofs.Fresh.{fresh-held}
use Rattle.log_resume.proofs.Cuts.{held-line, held-played}

-- ---- what holds of each part of a list holds of the list
module _
    {A : Type 0} (P : A → Type 0) (d : A) (none : P d) (l : List A) (size count : ℕ) (some : 0 < size) (long : length l ≡ count * size) where
  each_part : ((j : ℕ) → j < count → (i : ℕ) → P (get_or (part l (j * size) size) i d)) → (i : ℕ) → P (get_or l i d)
  each_part h i =
      elim (dec_le (length l) i) [
        | yes e ↦ subst P (sym (get_or-eq_default l d e)) none
        | no e ↦ subst P (there ∙ ap (λ (k : ℕ). get_or l k d) (N.div-add-mod' i size)) (h (i / size) (few (omega arith)) (i % size))
      ]
    where
      few : i < length l → i / size < count
      few g = (N.div-lt_iff_lt-mul some).1 (subst (λ (k : ℕ). i < k) long g)

      there : get_or (part l (i / size * size) size) (i % size) d ≡ get_or l (i / size * size + i % size) d
      there = get_or-take size (drop (i / size * size) l) (i % size) d (N.mod-lt i some) ∙ get_or-drop (i / size * size) l (i % size) d

-- ---- the ranges of a chip that calls can reach
module _ (m : Machine) (h : HeldMachine m) where
  voice-ok : (k : ℕ) → k < num_cores → (j : ℕ) → j < num_channels → SlotOk m.chip.version m.ram (slot_at (core_at m.chip k) (core_queues k m.queues) j)
  voice-ok = core-good m.chip m.ram m.queues h

  core-held : (k : ℕ) → k < num_cores → FitCore (core_at m.chip k)
  core-held k c = record {
    sized = h.sized.each k c;
    bytes =
        each_part (λ (b : ℕ). b < 256) 0 (omega arith) (core_at m.chip k).wavetables wavetable_size num_channels (omega arith) (h.sized.each k c).wavetables
        (λ j l. (voice-ok k c j l).bytes.each);
    fits = λ j l.
        let f = (voice-ok k c j l).fits in
        record {
          oscillator = f.oscillator;
          fifo = f.fifo;
          volume = omega (arith, f.registers.volume);
          panpot = omega (arith, f.registers.panpot);
          frequency = f.registers.frequency;
        };
  }

  pub fits-held : FitChip m.chip
  fits-held = record { sized = h.sized.two; each = core-held }

  -- core by core, voice by voice
  pub entries-held : FitEntries m.queues
  entries-held =
      let none = fit w16 (pos 0) (omega arith) (omega arith) in
      let long = h.long in
      record {
        each = each_part (SFits w16) (pos 0) none m.queues queue_buffer num_cores (omega arith) long (λ k c.
            each_part (SFits w16) (pos 0) none (core_queues k m.queues) fifo_capacity num_channels (omega arith)
            (part_length m.queues (k * queue_buffer) queue_buffer (omega arith)) (λ j l. (voice-ok k c j l).entries.each));
      }

-- ---- one line
pub record Peaks (p : Player) : Type 0 where
  pub left : p.left ≤ 262144
  pub right : p.right ≤ 262144

line-peaks : (w : World) → HeldMachine (machine_of w) → (l : Result Line LineFault) → Peaks w.player → Peaks (after_line w l).player
unfolding effect_of
line-peaks w h (Ok (Write a v)) p = record { left = p.left; right = p.right }
line-peaks w h (Ok (WriteRam a v)) p = record { left = p.left; right = p.right }
line-peaks w h (Ok (Read a)) p = record { left = p.left; right = p.right }
line-peaks w h (Ok (Peek a)) p = p
line-peaks w h (Ok (Clock n)) p =
    let f = fits-held (machine_of w) h in
    let q = entries-held (machine_of w) h in
    let b = h.good.cores.0.bytes.each in
    record {
      left = left-peak w.player w.ram w.queues f b q n p.left;
      right = right-peak w.player w.ram w.queues f b q n p.right;
    }
line-peaks w h (Ok (Version v)) p = record { left = p.left; right = p.right }
line-peaks w h (Err why) p = p

-- ---- THE PEAKS of a log: after lines that are not bad, one after the other
lines-peaks : (lines : List (List ℕ)) (w : World) → HeldMachine (machine_of w) → Every Playable lines → Peaks w.player
    → Peaks (played w lines).player
lines-peaks [] w h f p = p
lines-peaks (line ∷ lines) w h f p =
    let l = parsed_line line in
    lines-peaks lines (after_line w l) (held-line line w h f.0.played) f.1 (line-peaks w h l p)

pub peaks-within : (lines : List (List ℕ)) → Every Playable lines → Peaks (played fresh_world lines).player
peaks-within lines f = lines-peaks lines fresh_world fresh-held f (record { left = omega arith; right = omega arith })

-- THE LINES of its frames: the values of `clock_mixed`, as they stand
pub frames-same : (lines : List (List ℕ)) → Every Playable lines → (n : ℕ)
    → (let w = played fresh_world lines in
    let left = clock_mixed_left w.player.chip w.ram w.queues (silent n) (silent n) in
    let right = clock_mixed_right w.player.chip w.ram w.queues (silent n) (silent n) in
    printed w (Ok (Clock n)) ≡ plain_lines left right (min (length left) (length right)))
unfolding effect_of
frames-same lines f n =
    let w = played fresh_world lines in
    let h : HeldMachine (machine_of w) = held-played lines fresh_world fresh-held f in
    frames-stay w.player w.ram w.queues (fits-held (machine_of w) h) h.good.cores.0.bytes.each (entries-held (machine_of w) h) n
