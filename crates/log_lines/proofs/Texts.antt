-- The printed lines put together, and the largest values. Assumes nothing.
use mathlib.Core.Path.{◌≡◌, refl}
use mathlib.Core.List.{List}
use Prim.Native.Nat.{ℕ, ◌+◌, ◌<◌, ◌^◌, min, max}
use native.Mathlib.Numerals.{add-one}
use native.Mathlib.Omega.{arith}
use lib.IntN.{ℤ, pos, nat_abs}
use lib.ListN.{length, get_or}
use mir.Syntax.{w64}
use mir.Val.{to_z}
use mir.Facts.{to_z_pos}
use Rattle.output.specs.declared.Output.{Output}
use Rattle.output.specs.Output.{Put, Puts}
use Rattle.output.proofs.Writing.{put-none, puts-append}
use Rattle.log_lines.specs.Texts.{frame_line, frame_lines, peak_of}

-- an unsigned number of 32 bits read as a signed one of 64
pub wide : (n : ℕ) → n < 2 ^ 32 → to_z w64 n ≡ pos n
wide n h = to_z_pos w64 {n = n} (omega arith)

pub frames-none : (out : List ℕ) (at e : ℕ) (left right : List ℤ) → e ≡ min at (length out) → Put out out at (frame_lines left right 0) e
unfolding frame_lines
frames-none out at e left right h = put-none out at e h

pub frames-next : (s t u : Output) (left right : List ℤ) (i : ℕ) → Puts s t (frame_lines left right i) → Puts t u (frame_line (get_or left i (pos 0)) (get_or right i (pos 0))) → Puts s u (frame_lines left right (i + 1))
unfolding frame_lines
frames-next s t u left right i p q = rw (add-one i) (puts-append s t u (frame_lines left right i) (frame_line (get_or left i (pos 0)) (get_or right i (pos 0))) p q)

-- ---- the largest value
pub peak-none : (before : ℕ) (side : List ℤ) → before ≡ peak_of before side 0
unfolding peak_of
peak-none before side = refl

pub peak-next : (before now size r i : ℕ) (side : List ℤ) → size ≡ nat_abs (get_or side i (pos 0)) → now ≡ peak_of before side i → r ≡ max now size → r ≡ peak_of before side (i + 1)
unfolding peak_of
peak-next before now size r i side s e h = rw (add-one i, ← e, ← s) h
