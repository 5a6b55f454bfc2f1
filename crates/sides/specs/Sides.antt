-- Frames of two cores' stems added to a side: of a core a frame has 16, channel 0 left, channel 0 right, channel 1 left and so on.
use Rattle.std.specs.Prelude.{cond, List, ℕ, zero, suc, ◌+◌, ◌-◌, ◌*◌, ◌/◌, ◌≤◌, min, leb, ℤ, pos, ◌+ℤ◌, length, get_or, set}
use Rattle.sizes.specs.Sizes.{num_channels, stems_per_frame}
use Rattle.num.specs.Integers.{clamp16}
use Rattle.tone.specs.Mix.{saturating_add, wrapping_add}

-- the sum of n stems, every second from a place on
unfoldable pub side_sum : ℕ → List ℤ → ℕ → ℤ
side_sum zero stems from = pos 0
side_sum (suc n) stems from = side_sum n stems from +ℤ get_or stems (from + 2 * n) (pos 0)

-- frame n of the first core's stems and of the second core's, where these have the whole frame: its left side (hand 0) or its right one (hand 1)
unfoldable pub side_of : ℕ → ℕ → List ℤ → List ℤ → ℤ
side_of n hand stems others =
    let at = stems_per_frame * n + hand in
    cond (leb (stems_per_frame * (n + 1)) (length others)) (side_sum num_channels stems at +ℤ side_sum num_channels others at) (side_sum num_channels stems at)

-- the frames that there are stems and room for, given the lengths of stems and sides
unfoldable pub frames_in : ℕ → ℕ → ℕ → ℕ → ℕ
frames_in stems left right first = min (stems / 16) (min left right - first)

-- ---- how a frame is added to what a side holds: `clock_mixed_into` clamps it first, `clock_mixed_into_i32` wraps
abbrev pub saturating : ℤ → ℤ → ℤ
saturating held sum = saturating_add held (clamp16 sum)

abbrev pub wrapping : ℤ → ℤ → ℤ
wrapping held sum = wrapping_add held sum

-- n frames added from place `first` on to a side of any numbers, of which one is silent
module _ {A : Type 0} (silent : A) (plus : A → ℤ → A) where
  unfoldable pub added : ℕ → List ℤ → List ℤ → ℕ → ℕ → List A → List A
  added zero stems others hand first side = side
  added (suc n) stems others hand first side =
      let l = added n stems others hand first side in
      set l (first + n) (plus (get_or l (first + n) silent) (side_of n hand stems others))

-- the same of 16 or 32 bits
abbrev pub added_to : (ℤ → ℤ → ℤ) → ℕ → List ℤ → List ℤ → ℕ → ℕ → List ℤ → List ℤ
added_to = added (pos 0)

-- stems and room for n frames
pub record StemRoom (n hand first stems side : ℕ) : Type 0 where
  pub one : hand ≤ 1
  pub enough : stems_per_frame * n ≤ stems
  pub there : n ≤ side - first
