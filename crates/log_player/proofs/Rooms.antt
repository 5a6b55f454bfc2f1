-- Room for a line's text. Assumes nothing.
use mathlib.Core.Path.{◌≡◌, refl, sym, ap, ◌∙◌}
use mathlib.Core.Bool.{Bool, true, false, cond}
use Prim.Native.Nat.{ℕ, ◌+◌, ◌-◌, ◌≤◌, ◌<◌}
use native.Mathlib.Omega.{arith}
use lib.Dec.{eqb, leb}
use borrow.Author.Tests.{eq-eqb, ne_eqb, le-leb, lt-leb, leb-true, leb-false}
use Rattle.num.proofs.Choice.{never}
use Rattle.log_player.specs.Runs.{has_room_of}

pub room-is : (k l e n : ℕ) → n < 18446744073709551615 → e + k ≤ l → has_room_of k l e n ≡ true
unfolding has_room_of
room-is k l e n h r = rw (ne_eqb n 18446744073709551615 (λ q. absurd (omega arith)), le-leb (e + k) l r)

pub room-none : (k l e n : ℕ) → n ≡ 18446744073709551615 → has_room_of k l e n ≡ false
unfolding has_room_of
room-none k l e n h = rw (eq-eqb n 18446744073709551615 h)

pub room-past : (k l e n : ℕ) → (n ≡ 18446744073709551615 → ⊥) → l < e → has_room_of k l e n ≡ false
unfolding has_room_of
room-past k l e n h r = rw (ne_eqb n 18446744073709551615 h, lt-leb (e + k) l (omega arith))

pub room-left : (k l e n : ℕ) → (n ≡ 18446744073709551615 → ⊥) → e ≤ l → has_room_of k l e n ≡ leb k (l - e)
unfolding has_room_of
room-left k l e n h r = rw (ne_eqb n 18446744073709551615 h) (go (leb k (l - e)) refl)
  where
    go : (b : Bool) → leb k (l - e) ≡ b → leb (e + k) l ≡ leb k (l - e)
    go true t = le-leb (e + k) l (omega (arith, leb-true k (l - e) t)) ∙ sym t
    go false t = lt-leb (e + k) l (omega (arith, leb-false k (l - e) t)) ∙ sym t

pub room-there : (b : Bool) (k l e n : ℕ) → b ≡ has_room_of k l e n → b ≡ true → e + k ≤ l
unfolding has_room_of
room-there b k l e n g r = go (eqb n 18446744073709551615) refl (sym g ∙ r)
  where
    go : (t : Bool) → eqb n 18446744073709551615 ≡ t → cond (eqb n 18446744073709551615) false (leb (e + k) l) ≡ true → e + k ≤ l
    go true t h = never (sym h ∙ ap (λ (b : Bool). cond b false (leb (e + k) l)) t)
    go false t h = leb-true (e + k) l (sym (ap (λ (b : Bool). cond b false (leb (e + k) l)) t) ∙ h)

pub room-over : (b : Bool) (k l m e n : ℕ) → b ≡ has_room_of k l e n → b ≡ false → l ≡ m → has_room_of k m e n ≡ false
room-over b k l m e n g r h = ap (λ (x : ℕ). has_room_of k x e n) (sym h) ∙ sym g ∙ r
