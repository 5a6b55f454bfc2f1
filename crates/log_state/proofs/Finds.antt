-- What stands at a place of an input. Assumes nothing.
use mathlib.Core.Path.{◌≡◌, refl, sym, ap, ◌∙◌}
use mathlib.Core.Bool.{Bool, true, false}
use mathlib.Core.List.{List}
use Prim.Native.Nat.{ℕ, ◌+◌, ◌≤◌, ◌<◌, max}
use native.Mathlib.Omega.{arith}
use native.Mathlib.Decide.{dec_le}
use lib.Dec.{eqb}
use lib.ListN.{length, drop, get_or, length-drop, get_or-eq_default}
use lib.Seq.{get_or-drop}
use borrow.Author.Tests.{le-leb, lt-leb}
use Rattle.log_player.specs.Steps.{first_line}
use Rattle.log_player.proofs.Stops.{first_short}
use Rattle.log_state.specs.declared.Found.TheVariants.{Line, Sound, Open}
use Rattle.log_state.specs.Finding.{sound_line, found_at}

-- a line without bytes is none of a player's
not_sound : (k : ℕ) → sound_line 0 k ≡ false
unfolding sound_line
not_sound k = go (eqb k 0) refl
  where
    go : (b : Bool) → eqb k 0 ≡ b → sound_line 0 k ≡ false
    go true e = rw e
    go false e = rw e

module _ (l : List ℕ) (from k byte : ℕ) (b : byte ≡ get_or l from 0) where
  -- the byte at the place begins the rest
  first : sound_line byte k ≡ sound_line (get_or (drop from l) 0 0) k
  first = ap (λ (c : ℕ). sound_line c k) (b ∙ at_zero)
    where
      at_zero : get_or l from 0 ≡ get_or (drop from l) 0 0
      at_zero = sym (get_or-drop from l 0 0 ∙ ap (λ (n : ℕ). get_or l n 0) (omega arith))

  module _ (sound : Bool) (e : sound ≡ sound_line byte k) where
    told : sound_line (get_or (drop from l) 0 0) k ≡ sound
    told = sym first ∙ sym e

    module _ (o : length (first_line (drop from l)) ≡ length (drop from l)) where
      pub open-sound : sound ≡ true → Open (from + 1) ≡ found_at (drop from l) from k
      unfolding found_at
      open-sound t = rw (le-leb (length (drop from l)) (length (first_line (drop from l))) (omega (arith, o)), told ∙ t)

      pub open-line : (stop : ℕ) → stop ≡ max from (length l) → sound ≡ false → Open stop ≡ found_at (drop from l) from k
      unfolding found_at
      open-line stop m t =
          rw (le-leb (length (drop from l)) (length (first_line (drop from l))) (omega (arith, o)), told ∙ t)
          (ap Open (omega (arith, m, length-drop from l)))

    module _ (stop : ℕ) (s : stop ≡ from + length (first_line (drop from l))) (h : stop < length l) where
      pub whole-sound : sound ≡ true → Sound (stop + 1) ≡ found_at (drop from l) from k
      unfolding found_at
      whole-sound t = rw (lt-leb (length (drop from l)) (length (first_line (drop from l))) (omega (arith, length-drop from l)), told ∙ t, ← s)

      pub whole-line : sound ≡ false → Line (stop + 1) ≡ found_at (drop from l) from k
      unfolding found_at
      whole-line t = rw (lt-leb (length (drop from l)) (length (first_line (drop from l))) (omega (arith, length-drop from l)), told ∙ t, ← s)

    -- a line that a player printed has a byte
    pub sound-within : sound ≡ true → from < length l
    sound-within t = elim (dec_le (length l) from) [ yes h ↦ absurd (past h) | no h ↦ omega arith ]
      where
        past : length l ≤ from → ⊥
        past h =
            let z : false ≡ true = sym (not_sound k) ∙ ap (λ (c : ℕ). sound_line c k) (sym (get_or-eq_default l 0 h) ∙ sym b) ∙ sym e ∙ t in
            let y : ◌≡◌ {A = ℕ} 0 1 = cc in
            omega arith
