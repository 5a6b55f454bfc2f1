-- The stems of both cores paired frame by frame. Assumes nothing.
use mathlib.Core.Path.{◌≡◌, refl, sym, ap, ◌∙◌}
use mathlib.Core.Logic.{inl, inr, ◌⊎◌}
use mathlib.Core.List.{List, [], ◌++◌, append_assoc, append-nil}
use Prim.Native.Nat.{ℕ, ◌+◌, ◌-◌, ◌*◌, ◌/◌, ◌%◌, ◌≤◌, ◌<◌}
use native.Mathlib.Omega.{arith}
use lib.IntN.{ℤ}
use lib.ListN.{length, take, drop, length-append, length-drop}
use lib.Seq.{length-take-le, take_at, drop_at, drop-drop}
use borrow.Rule.Slice.PartMut.{put_mid}
use Rattle.sizes.specs.Sizes.{stems_per_frame}
use Rattle.cores.specs.Stems.{paired}
use Rattle.chip_sound.proofs.Chunks.{no_more, paired-append, paired-length}

-- a part behind p is replaced
put : (p r ys : List ℤ) (k m : ℕ) → length p ≡ k → m ≡ 16 → put_mid k m (p ++ r) ys ≡ p ++ (ys ++ drop 16 r)
put p r ys k m e f = rw (f, take_at p r k e, drop_at p r k e) refl

-- how long a part is, and a list a part of which is replaced
pub part-long : (l : List ℤ) (k m : ℕ) → k + m ≤ length l → length (take m (drop k l)) ≡ m
part-long l k m h = length-take-le m (drop k l) (omega (arith, h, length-drop k l))

pub put-long : (l ys : List ℤ) (k m : ℕ) → k + m ≤ length l → length ys ≡ m → length (put_mid k m l ys) ≡ length l
put-long l ys k m h e = length-append (take k l) (ys ++ drop m (drop k l)) ∙ omega (arith, length-append ys (drop m (drop k l)), length-take-le k l (omega (arith, h)), length-drop m (drop k l), length-drop k l, e, h)

paired-one : (x y : List ℤ) → length x ≡ 16 → length y ≡ 16 → paired 1 x y ≡ x ++ y
unfolding paired
paired-one x y ex ey =
    let a : x ++ [] ≡ x = append-nil x in
    let b : y ++ [] ≡ y = append-nil y in
    let ta : take 16 x ≡ x = ap (take 16) (sym a) ∙ take_at x [] 16 ex in
    let tb : take 16 y ≡ y = ap (take 16) (sym b) ∙ take_at y [] 16 ey in
    rw (ta, tb, b) refl

-- what the loop keeps: the frames taken, x and y, stand paired, and `rest` is behind them
module _ (a b : List ℤ) where
  pub record Pairing (n : ℕ) (a_left b_left l : List ℤ) : Type 0 where
    pub x : List ℤ
    pub y : List ℤ
    pub rest : List ℤ
    pub x_of : a ≡ x ++ a_left
    pub y_of : b ≡ y ++ b_left
    pub x_long : length x ≡ 16 * n
    pub y_long : length y ≡ 16 * n
    pub is : l ≡ paired n x y ++ rest
    pub long : length l ≡ 2 * length a

  pub pairing-begin : (a_left b_left l : List ℤ) → a_left ≡ a → b_left ≡ b → length l ≡ 2 * length a → Pairing 0 a_left b_left l
  unfolding paired
  pairing-begin a_left b_left l ea eb e = record { x = []; y = []; rest = l; x_of = sym ea; y_of = sym eb; x_long = refl; y_long = refl; is = refl; long = e }

  module _ (n : ℕ) (a_left b_left l : List ℤ) (p : Pairing n a_left b_left l) where
    front : length (paired n p.x p.y) ≡ 32 * n
    front = paired-length n p.x p.y p.x_long p.y_long

    pub room : 16 ≤ length a_left → 32 * n + 32 ≤ length l
    room h = omega (arith, h, p.long, ap length p.x_of, length-append p.x a_left, p.x_long)

    pub pairing-turn : (one other a_next b_next : List ℤ) (m k : ℕ) → a_left ≡ one ++ a_next → b_left ≡ other ++ b_next → length one ≡ 16 → length other ≡ 16 → m ≡ 16 → k ≡ 16
        → Pairing (n + 1) a_next b_next (put_mid (32 * n + 16) k (put_mid (32 * n) m l one) other)
    pairing-turn one other a_next b_next m k ea eb lo lt em ek =
        let q = paired n p.x p.y in
        let r = drop 16 (drop 16 p.rest) in
        let long-a : length a_left ≡ 16 + length a_next = ap length ea ∙ length-append one a_next ∙ omega (arith, lo) in
        let d = room (omega (arith, long-a)) in
        let first : put_mid (32 * n) m l one ≡ (q ++ one) ++ drop 16 p.rest = ap (λ (s : List ℤ). put_mid (32 * n) m s one) p.is ∙ put q p.rest one (32 * n) m front em ∙ sym (append_assoc q one (drop 16 p.rest)) in
        let lf : length (q ++ one) ≡ 32 * n + 16 = length-append q one ∙ omega (arith, front, lo) in
        let second : put_mid (32 * n + 16) k (put_mid (32 * n) m l one) other ≡ (q ++ one) ++ (other ++ r) = ap (λ (s : List ℤ). put_mid (32 * n + 16) k s other) first ∙ put (q ++ one) (drop 16 p.rest) other (32 * n + 16) k lf ek in
        let more : paired (n + 1) (p.x ++ one) (p.y ++ other) ≡ q ++ (one ++ other) = paired-append one other 1 n p.x p.y p.x_long p.y_long ∙ ap (λ (s : List ℤ). q ++ s) (paired-one one other lo lt) in
        let le : length p.rest + 32 * n ≡ length l = sym (ap length p.is ∙ length-append q p.rest ∙ omega (arith, front)) in
        record {
          x = p.x ++ one;
          y = p.y ++ other;
          rest = r;
          x_of = p.x_of ∙ ap (λ (s : List ℤ). p.x ++ s) ea ∙ sym (append_assoc p.x one a_next);
          y_of = p.y_of ∙ ap (λ (s : List ℤ). p.y ++ s) eb ∙ sym (append_assoc p.y other b_next);
          x_long = length-append p.x one ∙ omega (arith, p.x_long, lo);
          y_long = length-append p.y other ∙ omega (arith, p.y_long, lt);
          is = second ∙ append_assoc q one (other ++ r) ∙ sym (ap (λ (s : List ℤ). q ++ s) (append_assoc one other r)) ∙ sym (append_assoc q (one ++ other) r) ∙ ap (λ (s : List ℤ). s ++ r) (sym more);
          long = ap length second ∙ length-append (q ++ one) (other ++ r) ∙ omega (arith, lf, length-append other r, lt, length-drop 16 (drop 16 p.rest), length-drop 16 p.rest, le, d) ∙ p.long;
        }

    pub pairing-over : length a % 16 ≡ 0 → length b ≡ length a → (length a_left < 16) ⊎ (length b_left < 16) → l ≡ paired (length a / stems_per_frame) a b
    pairing-over w s h =
        let la : length a ≡ 16 * n + length a_left = ap length p.x_of ∙ length-append p.x a_left ∙ omega (arith, p.x_long) in
        let lb : length b ≡ 16 * n + length b_left = ap length p.y_of ∙ length-append p.y b_left ∙ omega (arith, p.y_long) in
        let za : length a_left ≡ 0 = elim h [ inl e ↦ omega (arith, e, la, w) | inr e ↦ omega (arith, e, la, lb, s, w) ] in
        let zb : length b_left ≡ 0 = omega (arith, za, la, lb, s) in
        let le : length p.rest + 32 * n ≡ length l = sym (ap length p.is ∙ length-append (paired n p.x p.y) p.rest ∙ omega (arith, front)) in
        let zr : length p.rest ≡ 0 = omega (arith, le, p.long, la, za) in
        let ea : p.x ≡ a = sym (p.x_of ∙ ap (λ (t : List ℤ). p.x ++ t) (no_more a_left za) ∙ append-nil p.x) in
        let eb : p.y ≡ b = sym (p.y_of ∙ ap (λ (t : List ℤ). p.y ++ t) (no_more b_left zb) ∙ append-nil p.y) in
        let en : n ≡ length a / 16 = omega (arith, la, za) in
        p.is ∙ ap (λ (t : List ℤ). paired n p.x p.y ++ t) (no_more p.rest zr) ∙ append-nil (paired n p.x p.y) ∙ λ j. paired (en j) (ea j) (eb j)
