-- Where the sum of a frame's stems lies on a side, of one core and of both. Assumes nothing beyond the ranges that the types give.
use mathlib.Core.Path.{◌≡◌, subst}
use mathlib.Core.Bool.{true}
use mathlib.Core.List.{List, [], ◌∷◌, ◌++◌}
use Prim.Native.Nat.{ℕ, zero, suc, ◌+◌, ◌*◌, ◌%◌, ◌≤◌, ◌<◌}
use native.Mathlib.Omega.{arith}
use lib.Dec.{ltb}
use lib.IntN.{ℤ, pos, ◌+ℤ◌}
use lib.ListN.{length, get_or, replicate}
use Rattle.sizes.specs.Sizes.{fifo_capacity, num_channels, stems_per_frame}
use Rattle.cores.specs.Sizes.{num_cores}
use Rattle.num.specs.Integers.{up, down}
use Rattle.num.proofs.Choice.{cond-by}
use Rattle.num.proofs.Integers.{z-add, one-zero}
use Rattle.tone.specs.Sides.{Ticks}
use Rattle.tone.proofs.Sides.{ticks-none, ticks-wider}
use Rattle.version.specs.declared.SguVersion.{SguVersion}
use Rattle.version.specs.Versions.{core_count}
use Rattle.registers.specs.PlainQueue.{FitEntries}
use Rattle.ticks.specs.Mix.{silence}
use Rattle.ticks.specs.declared.Sides.{Sides}
use Rattle.ticks.proofs.Sums as sums
use Rattle.voices.specs.declared.Core.{Core}
use Rattle.frames.specs.Kept.{EachByte}
use Rattle.frames.specs.Ticking.{voiced, voice_ticks}
use Rattle.frames.specs.Turning.{Turns, turned, frame, frames}
use Rattle.frames.proofs.Framing.{frames-turns}
use Rattle.frames.proofs.Wells.{Well, turned-room}
use Rattle.sides.specs.Sides.{side_sum, side_of}
use Rattle.sides.proofs.Frames.{side-by}
use Rattle.s3w2.specs.declared.Chip.{Chip}
use Rattle.s3w2.specs.Refusals.{accepts_chip}
use Rattle.s3w2.specs.Chips.{core_at, core_queues}
use Rattle.chip_sound.specs.Sound.{silent_turns, core_frames}
use Rattle.s3w2.proofs.Fits.{FitChip}
use Rattle.s3w2.proofs.Kept.{part-fits}
use Rattle.chip_sound.proofs.KeptSound.{own-entries, chip-well}

-- -131,072 to 131,040
pub record Frame (z : ℤ) : Type 0 where
  pub high : up z ≤ 131040
  pub low : down z ≤ 131072

abbrev Each : List ℤ → Type 0
Each l = (i : ℕ) → Ticks 4 (get_or l i (pos 0))

none : Ticks 4 (pos 0)
none = ticks-wider 0 4 (pos 0) (omega arith) ticks-none

two : (left right : ℤ) → Ticks 4 left → Ticks 4 right → Each (left ∷ right ∷ [])
two left right l r zero = l
two left right l r (suc zero) = r
two left right l r (suc (suc i)) = none

after : (l r : List ℤ) → Each l → Each r → Each (l ++ r)
after [] r e f i = f i
after (x ∷ l) r e f zero = e zero
after (x ∷ l) r e f (suc i) = after l r (λ j. e (suc j)) f i

-- stems of four ticks each
pub side-frame : (stems : List ℤ) → ((i : ℕ) → Ticks 4 (get_or stems i (pos 0))) → (from : ℕ) → Frame (side_sum num_channels stems from)
unfolding side_sum
side-frame stems e from =
    let r = sums.frame (λ k. get_or stems (from + 2 * k) (pos 0)) (λ k. e (from + 2 * k)) in
    record { high = r.0; low = r.1 }

module _ (version : SguVersion) (ram : List ℕ) (queues : List ℤ) (bytes : EachByte ram) (entries : FitEntries queues) where
  module _ (n : ℕ) (low : 1 ≤ n) (high : n ≤ 4) (first : ℕ) (core : Core) (w : Well version (length ram) core) where
    pub turned-ticks : (k i : ℕ) → Ticks 4 (get_or (turned version ram queues first n k core).stems i (pos 0))
    unfolding turned
    turned-ticks zero = λ i. none
    turned-ticks (suc k) =
        let s : Sides = (voice_ticks version ram queues ((first + k) % num_channels) n (voiced (turned version ram queues first n k core).core silence)).sides in
        let r = turned-room version ram queues n low high bytes (λ ch. part-fits queues entries (ch * fifo_capacity) fifo_capacity) first core w k in
        after (turned version ram queues first n k core).stems (s.left ∷ s.right ∷ []) (turned-ticks k) (two s.left s.right r.lefts r.rights)

  -- a frame's side before clamping: hand 0 is the left one, 1 the right one
  pub frame-side : (core : Core) → Well version (length ram) core → (hand : ℕ) → Frame (side_sum num_channels (frame version ram queues core).stems hand)
  frame-side core w hand = side-frame (frame version ram queues core).stems (turned-ticks 4 (omega arith) (omega arith) 0 core w 8) hand

  -- the same of each of m frames
  pub frames-side : (core : Core) → Well version (length ram) core → (m from : ℕ) → Frame (side_sum num_channels (frames version ram queues m core).stems from)
  frames-side core w m from =
      subst (λ (t : Turns). Frame (side_sum num_channels t.stems from)) (frames-turns version ram queues core m)
      (side-frame (turned version ram queues 0 4 (8 * m) core).stems (turned-ticks 4 (omega arith) (omega arith) 0 core w (8 * m)) from)

-- ---- both cores
-- -262,144 to 262,080
pub record PairFrame (z : ℤ) : Type 0 where
  pub high : up z ≤ 262080
  pub low : down z ≤ 262144

alone-frame : (x : ℤ) → Frame x → PairFrame x
alone-frame x f = record { high = omega (arith, f.high); low = omega (arith, f.low) }

both-frame : (x y : ℤ) → Frame x → Frame y → PairFrame (x +ℤ y)
both-frame x y f g = record { high = omega (arith, z-add x y, one-zero (x +ℤ y), f.high, g.high); low = omega (arith, z-add x y, one-zero (x +ℤ y), f.low, g.low) }

zeros : (k i : ℕ) → Ticks 4 (get_or (replicate k (pos 0)) i (pos 0))
zeros zero i = none
zeros (suc k) zero = none
zeros (suc k) (suc i) = zeros k i

module _ (chip : Chip) (ram : List ℕ) (queues : List ℤ) (ok : accepts_chip chip (length ram) ≡ true) (fits : FitChip chip) (bytes : EachByte ram) (entries : FitEntries queues) where
  -- core k's part of each of n frames
  pub core-side : (n k : ℕ) → k < num_cores → (from : ℕ) → Frame (side_sum num_channels (core_frames chip ram queues n k).stems from)
  core-side n k h from =
      cond-by (λ (t : Turns). Frame (side_sum num_channels t.stems from)) (ltb k (core_count chip.version)) (frames chip.version ram (core_queues k queues) n (core_at chip k)) (silent_turns n (core_at chip k))
      (λ _. frames-side chip.version ram (core_queues k queues) bytes (own-entries chip ram queues ok fits bytes entries k) (core_at chip k) (chip-well chip ram queues ok fits bytes entries k h) n from)
      (λ _. side-frame (replicate (stems_per_frame * n) (pos 0)) (zeros (stems_per_frame * n)) from)

  -- frame i of n, before clamping
  pub pair-side : (n i hand : ℕ) → PairFrame (side_of i hand (core_frames chip ram queues n 0).stems (core_frames chip ram queues n 1).stems)
  pair-side n i hand =
      let one = core-side n 0 (omega arith) (stems_per_frame * i + hand) in
      let two = core-side n 1 (omega arith) (stems_per_frame * i + hand) in
      side-by PairFrame (core_frames chip ram queues n 0).stems (core_frames chip ram queues n 1).stems hand i (λ _. both-frame _ _ one two) (λ _. alone-frame _ one)
