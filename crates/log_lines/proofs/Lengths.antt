-- How long the printed lines are. Assumes nothing.
use mathlib.Core.List.{List, [], ◌∷◌, ◌++◌}
use Prim.Native.Nat.{ℕ, suc, ◌+◌, ◌*◌, ◌≤◌, ◌<◌, ◌^◌}
use native.Mathlib.Numerals.{add-one}
use native.Mathlib.Omega.{arith}
use lib.IntN.{ℤ, pos}
use lib.ListN.{length, get_or, length-append}
use Rattle.num.proofs.Fit.{clamp16-fits}
use Rattle.num.specs.Integers.{clamp16}
use Rattle.decimal.specs.Written.{decimal, render}
use Rattle.decimal.proofs.Writing.{width-below, width-most, sample-width}
use Rattle.log_lines.specs.Texts.{comma_field, pair_line, frame_line, frame_lines, read_back_line, bad_line}

natural-length : (k n : ℕ) → n < 10 ^ suc k → length (render (pos n)) ≤ suc k
unfolding render
natural-length k n h = width-below k n h

pair-length : (word : List ℕ) (a b : ℤ) (m n : ℕ) → length (render a) ≤ m → length (render b) ≤ n → length (pair_line word a b) ≤ length word + m + n + 3
unfolding pair_line comma_field
pair-length word a b m n f g =
    omega (arith, f, g, length-append word ((44 ∷ render a) ++ ((44 ∷ render b) ++ (10 ∷ []))), length-append (44 ∷ render a) ((44 ∷ render b) ++ (10 ∷ [])), length-append (44 ∷ render b) (10 ∷ []))

pub read_length : (kind address byte : ℕ) → address < 2 ^ 32 → byte < 256 → length (read_back_line kind address byte) ≤ 17
read_length kind address byte a b = omega (arith, pair-length (kind ∷ []) (pos address) (pos byte) 10 3 (natural-length 9 address (omega arith)) (natural-length 2 byte (omega arith)))

pub bad-length : (line why : ℕ) → line < 2 ^ 64 → why < 256 → length (bad_line line why) ≤ 29
unfolding bad_line
bad-length line why h k =
    omega (arith, width-most line h, width-below 2 why (omega arith), length-append (decimal line) (44 ∷ (decimal why ++ (10 ∷ []))), length-append (decimal why) (10 ∷ []))

frame-length : (a b : ℤ) → length (frame_line a b) ≤ 16
frame-length a b =
    omega (arith, pair-length (70 ∷ []) (clamp16 a) (clamp16 b) 6 6 (sample-width (clamp16 a) (clamp16-fits a)) (sample-width (clamp16 b) (clamp16-fits b)))

pub frames-length-none : (left right : List ℤ) → length (frame_lines left right 0) ≤ 16 * 0
unfolding frame_lines
frames-length-none left right = omega arith

pub frames-length-next : (left right : List ℤ) (i : ℕ) → length (frame_lines left right i) ≤ 16 * i → length (frame_lines left right (i + 1)) ≤ 16 * (i + 1)
unfolding frame_lines
frames-length-next left right i h =
    rw (add-one i) (omega (arith, h, frame-length (get_or left i (pos 0)) (get_or right i (pos 0)), length-append (frame_lines left right i) (frame_line (get_or left i (pos 0)) (get_or right i (pos 0)))))
