-- Parts of buffers, lent and put back. Assumes nothing.
use mathlib.Core.Path.{◌≡◌, ap, ◌∙◌}
use mathlib.Core.List.{List, [], ◌∷◌, ◌++◌, append-nil}
use Prim.Native.Nat.{ℕ, ◌-◌, ◌<◌}
use native.Mathlib.Omega.{arith}
use lib.IntN.{ℤ}
use lib.ListN.{length, length-append, length-take, length-drop, drop_of_length-le, get_or, take, drop}
use lib.Seq.{take_at, drop_at, take_all, drop-cons, get_or-take, get_or-drop}
use borrow.Rule.Slice.PartMut.{put_mid}
use Rattle.sizes.specs.Sizes.{queue_buffer}
use Rattle.cores.specs.Sizes.{chip_queues}
use Rattle.num.specs.Lists.{part}

-- one element
pub part-one : (l : List ℕ) (i : ℕ) → i < length l → part l i 1 ≡ get_or l i 0 ∷ []
part-one l i h = ap (take 1) (drop-cons l i 0 h)

pub one_at : (l : List ℕ) (i : ℕ) → get_or (part l i 1) 0 0 ≡ get_or l i 0
one_at l i = get_or-take 1 (drop i l) 0 0 (omega arith) ∙ get_or-drop i l 0 0 ∙ ap (λ (k : ℕ). get_or l k 0) (omega arith)

-- ---- the queue buffer as core 0's entries and core 1's
module _ (queues : List ℤ) (lent : length queues ≡ chip_queues) where
  pub lower_long : length (take queue_buffer queues) ≡ queue_buffer
  lower_long = length-take queue_buffer queues ∙ omega (arith, lent)

  pub upper_long : length (drop queue_buffer queues) ≡ queue_buffer
  upper_long = length-drop queue_buffer queues ∙ omega (arith, lent)

module _ (lower upper : List ℤ) (low : length lower ≡ queue_buffer) (high : length upper ≡ queue_buffer) where
  abbrev rest : ℕ
  rest = length (lower ++ upper) - queue_buffer

  rest-long : rest ≡ queue_buffer
  rest-long = let e = length-append lower upper in omega (arith, e, low, high)

  pub upper-slice : take (length (lower ++ upper) - queue_buffer) (drop queue_buffer (lower ++ upper)) ≡ upper
  upper-slice = ap (take rest) (drop_at lower upper queue_buffer low) ∙ take_all rest upper (omega (arith, rest-long, high))

  pub upper-put : (ys : List ℤ) → put_mid queue_buffer (length (lower ++ upper) - queue_buffer) (lower ++ upper) ys ≡ lower ++ ys
  upper-put ys =
      let e : drop rest (drop queue_buffer (lower ++ upper)) ≡ [] = ap (drop rest) (drop_at lower upper queue_buffer low) ∙ drop_of_length-le upper {i = rest} (omega (arith, rest-long, high)) in
      (λ j. take_at lower upper queue_buffer low j ++ (ys ++ e j)) ∙ ap (λ (l : List ℤ). lower ++ l) (append-nil ys)
