-- Frames added to a side, one more. Assumes nothing.
use mathlib.Core.Path.{◌≡◌, refl}
use mathlib.Core.List.{List}
use Prim.Native.Nat.{ℕ, zero, suc, ◌+◌}
use native.Mathlib.Numerals.{add-one}
use native.Mathlib.Omega.{arith}
use lib.IntN.{ℤ, pos}
use lib.ListN.{length, get_or, set, length-set}
use Rattle.sides.specs.Sides.{side_of, frames_in, added, added_to, StemRoom}

-- of any numbers
module _ {A : Type 0} (silent : A) (plus : A → ℤ → A) (stems others : List ℤ) (hand first : ℕ) (side : List A) where
  pub added-long : (n : ℕ) → length (added silent plus n stems others hand first side) ≡ length side
  unfolding added
  added-long zero = refl
  added-long (suc n) = simp length-set (added-long n)

  -- from what the two calls of a turn say
  pub added_next : (n : ℕ) (l : List A) (sum : ℤ) (y : A) → l ≡ added silent plus n stems others hand first side → sum ≡ side_of n hand stems others → y ≡ plus (get_or l (first + n) silent) sum
      → set l (first + n) y ≡ added silent plus (n + 1) stems others hand first side
  unfolding added
  added_next n l sum y el es ey = rw (ey, es, el, add-one n) refl

pub added-length : (plus : ℤ → ℤ → ℤ) (stems others : List ℤ) (hand first : ℕ) (side : List ℤ) (n : ℕ) → length (added_to plus n stems others hand first side) ≡ length side
added-length = added-long (pos 0)

-- the frames that are added have stems and room on both sides
module _ (stems left right first count : ℕ) (e : count ≡ frames_in stems left right first) where
  pub room-left : StemRoom count 0 first stems left
  unfolding frames_in
  room-left = record { one = omega arith; enough = omega arith; there = omega arith }

  pub room-right : StemRoom count 1 first stems right
  unfolding frames_in
  room-right = record { one = omega arith; enough = omega arith; there = omega arith }
