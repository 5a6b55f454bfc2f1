-- A piece of pieces of one size, behind a head. Assumes nothing.
use mathlib.Core.Path.{◌≡◌, sym, ap, ◌∙◌}
use mathlib.Core.List.{List, ◌++◌}
use Prim.Native.Nat.{ℕ, zero, suc, ◌+◌, ◌*◌, ◌<◌}
use native.Mathlib.Omega.{arith}
use native.Mathlib.Decide.{dec_le}
use native.Mathlib.Nat as N
use lib.ListN.{length, take, drop, length-append, length-drop}
use lib.Seq.{take_all, take-append-le, drop-append-le, drop_at, drop-append-add}
use Rattle.num.specs.Lists.{part}
use Rattle.sqv4_writer.specs.Streams.{pieces_of}

module _ {A : Type 0} (f : ℕ → List A) (size : ℕ) (lens : (p : ℕ) → length (f p) ≡ size) where
  pub length-pieces : (m : ℕ) → length (pieces_of f m) ≡ m * size
  unfolding pieces_of
  length-pieces zero = sym (N.zero-mul size)
  length-pieces (suc m) = length-append (pieces_of f m) (f m) ∙ omega (arith, length-pieces m, lens m, N.suc-mul m size)

  pub piece-at : (m p : ℕ) → p < m → part (pieces_of f m) (p * size) size ≡ f p
  unfolding pieces_of
  piece-at zero p h = absurd (omega arith)
  piece-at (suc m) p h =
      elim (dec_le m p) [
        | yes e ↦ last (omega arith)
        | no e ↦ before (omega arith) (piece-at m p (omega arith))
      ]
    where
      before : p < m → part (pieces_of f m) (p * size) size ≡ f p → part (pieces_of f m ++ f m) (p * size) size ≡ f p
      before g ih =
          let more = N.mul-le-mul_right size g in
          ap (take size) (drop-append-le (p * size) (pieces_of f m) (f m) (omega (arith, length-pieces m, N.suc-mul p size)))
          ∙ take-append-le size (drop (p * size) (pieces_of f m)) (f m) (simp length-drop (omega (arith, length-pieces m, N.suc-mul p size)))
          ∙ ih

      last : p ≡ m → part (pieces_of f m ++ f m) (p * size) size ≡ f p
      last e =
          let q : p * size ≡ m * size = ap (λ (x : ℕ). x * size) e in
          ap (take size) (drop_at (pieces_of f m) (f m) (p * size) (omega (arith, length-pieces m)))
          ∙ take_all size (f m) (omega (arith, lens m))
          ∙ ap f (sym e)

  -- behind a head
  pub piece-behind : (head : List A) (k m p : ℕ) → length head ≡ k → p < m → part (head ++ pieces_of f m) (k + p * size) size ≡ f p
  piece-behind head k m p e h =
      ap (λ (j : ℕ). part (head ++ pieces_of f m) (j + p * size) size) (sym e)
      ∙ ap (take size) (drop-append-add head (pieces_of f m) (p * size)) ∙ piece-at m p h
