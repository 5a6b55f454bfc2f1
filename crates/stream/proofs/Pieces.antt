-- A sample of the whole is a sample of its piece. Assumes nothing.
use Rattle.std.proofs.Common.{◌≡◌, ℕ, zero, suc, ◌+◌, ◌-◌, ◌*◌, ◌/◌, ◌%◌, ◌<◌, min, List, ◌++◌, length, get_or, ℤ, pos, sym, ap, ◌∙◌, mul-le-mul_right, mod-lt, div-add-mod', arith, length-append, get_or-append-add}
use native.Mathlib.Decide.{dec_le}
use lib.ListN.{get_or-append}
use Rattle.adpcm.specs.declared.State.{State}
use Rattle.sqv4.specs.Whole.{state_after, piece, pieces}

module _ (from : State → ℕ → List ℤ) (next : State → ℕ → State) (n per : ℕ) (lens : (s : State) (f : ℕ) → length (from s f) ≡ min (n - f * per) per) where
  length-pieces : (m : ℕ) → length (pieces from next m) ≡ min n (m * per)
  length-pieces zero = omega arith
  length-pieces (suc m) =
      length-append (pieces from next m) (piece from next m) ∙ omega (arith, length-pieces m, lens (state_after from next m) m)

  piece-in : (m f r : ℕ) → f < m → f * per + r < n → r < per → get_or (pieces from next m) (f * per + r) (pos 0) ≡ get_or (piece from next f) r (pos 0)
  piece-in zero f r h k l = absurd (omega arith)
  piece-in (suc m) f r h k l = elim (dec_le m f) [ yes e ↦ last (omega arith) | no e ↦ before (omega arith) (piece-in m f r (omega arith) k l) ]
    where
      before : f < m → get_or (pieces from next m) (f * per + r) (pos 0) ≡ get_or (piece from next f) r (pos 0) → get_or (pieces from next m ++ piece from next m) (f * per + r) (pos 0) ≡ get_or (piece from next f) r (pos 0)
      before g ih =
          get_or-append (pieces from next m) (piece from next m) (pos 0) (f * per + r) (omega (arith, length-pieces m, mul-le-mul_right per g))
          ∙ ih

      last : f ≡ m → get_or (pieces from next m ++ piece from next m) (f * per + r) (pos 0) ≡ get_or (piece from next f) r (pos 0)
      last e =
          let q : m * per ≡ length (pieces from next m) = omega (arith, length-pieces m, ap (λ (x : ℕ). x * per) e) in
          rw (e, q) (get_or-append-add (pieces from next m) (piece from next m) r (pos 0))

  -- sample i of the whole of m pieces
  pub whole-at : (m i : ℕ) → 0 < per → i / per < m → i < n → get_or (pieces from next m) i (pos 0) ≡ get_or (piece from next (i / per)) (i % per) (pos 0)
  whole-at m i p h k =
      ap (λ (x : ℕ). get_or (pieces from next m) x (pos 0)) (sym (div-add-mod' i per))
      ∙ piece-in m (i / per) (i % per) h (omega (arith, div-add-mod' i per)) (mod-lt i p)
