-- Frames ahead of the clamp. Clamped, what `clock_mixed_into_i32` adds over zeros is what `clock_mixed` gives, so the `F` lines are its
-- values as they stand; and no value passes 262,144, so no peak does. Assumes nothing beyond the ranges that the types give.
use Rattle.std.specs.Prelude.{is_ok}
use mathlib.Core.Path.{◌≡◌, refl, sym, ap, ap₂, ◌∙◌, subst}
use mathlib.Core.Bool.{Bool, true, false, cond}
use mathlib.Core.List.{List, [], ◌∷◌, ◌++◌}
use Prim.Native.Nat.{ℕ, zero, suc, ◌≤◌, ◌<◌, min}
use native.Mathlib.Decide.{dec_lt}
use native.Mathlib.Omega.{arith}
use lib.IntN.{ℤ, pos, negsuc, nat_abs, ◌+ℤ◌}
use lib.ListN.{length, get_or, replicate, length-replicate, get_or-eq_default}
use lib.Seq.{sets}
use mir.Syntax.{w32}
use Rattle.num.specs.Integers.{up, down, clamp16}
use Rattle.num.proofs.Choice.{never}
use Rattle.num.proofs.Integers.{z-eq, z-add, one-zero, le-lt_z, abs_is}
use Rattle.num.proofs.Fit.{fit-abs, clamp-width}
use Rattle.tone.specs.Mix.{wrapped, wrapping_add, saturating_add}
use Rattle.tone.proofs.Wrapping.{wrapped-is}
use Rattle.registers.specs.PlainQueue.{FitEntries}
use Rattle.frames.specs.Kept.{EachByte}
use Rattle.sides.specs.Sides.{side_of, added_to, saturating, wrapping}
use Rattle.sides.proofs.Added.{added-length}
use Rattle.s3w2.specs.declared.Chip.{Chip}
use Rattle.s3w2.specs.Refusals.{refusal, sound_refusal}
use Rattle.chip_sound.specs.Sound.{core_frames}
use Rattle.chip_sound.specs.Mixing.{cleared_to, served, mixed_side, mixed_left, mixed_right, clock_mixed_left, clock_mixed_right}
use Rattle.s3w2.proofs.Fits.{FitChip}
use Rattle.chip_sound.proofs.Runs.{sets-all}
use Rattle.chip_sound.proofs.Bounds.{PairFrame, pair-side}
use Rattle.log_lines.specs.Texts.{pair_line, frame_lines, peak_of}
use Rattle.log_player.specs.declared.Player.{Player}
use Rattle.log_player.specs.Applied.{left_side, right_side, clocked_text, clocked_player, silent}
use Rattle.log_player.proofs.Places.{added-zeros, zeros}

size : (z : ℤ) → PairFrame z → nat_abs z ≤ 262144
size z f = omega (arith, abs_is z, one-zero z, f.high, f.low)

-- ---- a frame added to nothing
plain : (z : ℤ) → pos 0 +ℤ z ≡ z
plain z = z-eq (pos 0 +ℤ z) z (omega (arith, z-add (pos 0) z))

pub wraps-not : (z : ℤ) → nat_abs z ≤ 262144 → wrapping_add (pos 0) z ≡ z
unfolding wrapping_add
wraps-not z h = ap wrapped (plain z) ∙ wrapped-is z z (fit-abs w32 z 262144 h (omega arith)) refl

within : (z : ℤ) → up z ≤ 32767 → down z ≤ 32768 → clamp16 z ≡ z
within z h k = rw (le-lt_z z (negsuc 32767) (omega arith), le-lt_z (pos 32767) z (omega arith))

clamped-sum : (z : ℤ) → nat_abs z ≤ 262144 → clamp16 (wrapping_add (pos 0) z) ≡ saturating_add (pos 0) (clamp16 z)
clamped-sum z h =
    let w = clamp-width z 32767 in
    ap clamp16 (wraps-not z h) ∙ sym (ap clamp16 (plain (clamp16 z)) ∙ within (clamp16 z) w.0 w.1)

-- ---- the sides of a C line: `wide` by `clock_mixed_into_i32`, `given` by `clock_mixed`
pub record Overs (wide given : List ℤ) : Type 0 where
  pub long : length wide ≡ length given
  pub clamped : (i : ℕ) → clamp16 (get_or wide i (pos 0)) ≡ get_or given i (pos 0)
  pub frames : (i : ℕ) → nat_abs (get_or wide i (pos 0)) ≤ 262144

-- n frames added both ways, to a side of as many zeros
module _ (stems others : List ℤ) (hand n m : ℕ) (all : n ≡ m) (small : (i : ℕ) → nat_abs (side_of i hand stems others) ≤ 262144) where
  abbrev by : (ℤ → ℤ → ℤ) → List ℤ
  by plus = added_to plus n stems others hand 0 (replicate m (pos 0))

  many : (plus : ℤ → ℤ → ℤ) → length (by plus) ≡ m
  many plus = added-length plus stems others hand 0 (replicate m (pos 0)) n ∙ length-replicate m (pos 0)

  at : (plus : ℤ → ℤ → ℤ) (i : ℕ) → i < n → get_or (by plus) i (pos 0) ≡ plus (pos 0) (side_of i hand stems others)
  at plus i h = added-zeros plus stems others hand n m i h (omega arith)

  past : (plus : ℤ → ℤ → ℤ) (i : ℕ) → (i < n → ⊥) → get_or (by plus) i (pos 0) ≡ pos 0
  past plus i h = get_or-eq_default (by plus) (pos 0) (omega (arith, many plus))

  over : Overs (by wrapping) (by saturating)
  over = record {
    long = many wrapping ∙ sym (many saturating);
    clamped = λ i. elim (dec_lt i n) [
      | yes y ↦ ap clamp16 (at wrapping i y) ∙ clamped-sum (side_of i hand stems others) (small i) ∙ sym (at saturating i y)
      | no y ↦ ap clamp16 (past wrapping i y) ∙ sym (past saturating i y)
    ];
    frames = λ i. elim (dec_lt i n) [
      | yes y ↦ subst (λ (z : ℤ). nat_abs z ≤ 262144) (sym (at wrapping i y ∙ wraps-not (side_of i hand stems others) (small i))) (small i)
      | no y ↦ subst (λ (z : ℤ). nat_abs z ≤ 262144) (sym (past wrapping i y)) (omega arith)
    ];
  }

module _ (chip : Chip) (ram : List ℕ) (queues : List ℤ) (fits : FitChip chip) (bytes : EachByte ram) (entries : FitEntries queues) (n : ℕ) where
  abbrev z : List ℤ
  z = silent n

  all-served : served z z ≡ min n 1000
  all-served = omega (arith, length-replicate (min n 1000) (pos 0))

  -- zeros over zeros
  cleared : cleared_to (served z z) z ≡ z
  cleared =
      let k : min (served z z) (length z) ≡ min n 1000 = omega (arith, length-replicate (min n 1000) (pos 0)) in
      ap (λ (k : ℕ). sets z 0 (replicate k (pos 0))) k ∙ sets-all z z refl

  -- a call that is not turned away has an accepted chip
  accepted : (a b c : Bool) → is_ok (refusal a b c true) ≡ true → c ≡ true
  unfolding refusal
  accepted true true true e = refl
  accepted true true false e = never (sym e)
  accepted true false c e = never (sym e)
  accepted false b c e = never (sym e)

  abbrev lent : Bool
  lent = is_ok (sound_refusal chip (length ram) (length queues))

  abbrev after : ℕ → (ℤ → ℤ → ℤ) → List ℤ
  after hand plus = mixed_side plus chip ram queues z z hand z

  pair : (hand : ℕ) → lent ≡ true → Overs (after hand wrapping) (after hand saturating)
  pair hand e =
      let k = served z z in
      over (core_frames chip ram queues k 0).stems (core_frames chip ram queues k 1).stems hand k (min n 1000) all-served (λ i. size _ (pair-side chip ram queues (accepted _ _ _ e) fits bytes entries k i hand))

  -- turned away, both sides stay
  either : (b : Bool) (wide given : List ℤ) → (b ≡ true → Overs wide given) → Overs (cond b wide z) (cond b (cond b given z) z)
  either true wide given h = h refl
  either false wide given h =
      let e : (i : ℕ) → get_or z i (pos 0) ≡ pos 0 = zeros (min n 1000) in
      record {
        long = refl;
        clamped = λ i. ap clamp16 (e i) ∙ sym (e i);
        frames = λ i. subst (λ (x : ℤ). nat_abs x ≤ 262144) (sym (e i)) (omega arith);
      }

  pub left-over : Overs (left_side chip ram queues z z) (clock_mixed_left chip ram queues z z)
  unfolding mixed_left clock_mixed_left
  left-over =
      subst (λ (l : List ℤ). Overs (left_side chip ram queues z z) (cond lent (mixed_left saturating chip ram queues l l) z))
      (sym cleared)
      (either lent (after 0 wrapping) (after 0 saturating) (pair 0))

  pub right-over : Overs (right_side chip ram queues z z) (clock_mixed_right chip ram queues z z)
  unfolding mixed_right clock_mixed_right
  right-over =
      subst (λ (l : List ℤ). Overs (right_side chip ram queues z z) (cond lent (mixed_right saturating chip ram queues l l) z))
      (sym cleared)
      (either lent (after 1 wrapping) (after 1 saturating) (pair 1))

-- ---- THE LINES: `F` lines print what `clock_mixed` gives, as it stands
unfoldable pub plain_lines : List ℤ → List ℤ → ℕ → List ℕ
plain_lines left right zero = []
plain_lines left right (suc n) = plain_lines left right n ++ pair_line (70 ∷ []) (get_or left n (pos 0)) (get_or right n (pos 0))

lines_stay : (l r left right : List ℤ) → Overs l left → Overs r right → (n : ℕ) → frame_lines l r n ≡ plain_lines left right n
unfolding frame_lines plain_lines
lines_stay l r left right a b zero = refl
lines_stay l r left right a b (suc n) =
    ap₂ (λ (x y : List ℕ). x ++ y) (lines_stay l r left right a b n)
    (ap₂ (λ (x y : ℤ). pair_line (70 ∷ []) x y) (a.clamped n) (b.clamped n))

-- ---- THE PEAKS: at most 262,144
peak-within : (before b : ℕ) (side : List ℤ) → before ≤ b → ((i : ℕ) → nat_abs (get_or side i (pos 0)) ≤ b) → (n : ℕ)
    → peak_of before side n ≤ b
unfolding peak_of
peak-within before b side h f zero = h
peak-within before b side h f (suc n) = omega (arith, peak-within before b side h f n, f n)

module _ (p : Player) (ram : List ℕ) (queues : List ℤ) (fits : FitChip p.chip) (bytes : EachByte ram) (entries : FitEntries queues) (n : ℕ) where
  abbrev zeros' : List ℤ
  zeros' = silent n

  pub frames-stay : clocked_text p.chip ram queues zeros' zeros'
      ≡ plain_lines (clock_mixed_left p.chip ram queues zeros' zeros') (clock_mixed_right p.chip ram queues zeros' zeros')
      (min (length (clock_mixed_left p.chip ram queues zeros' zeros')) (length (clock_mixed_right p.chip ram queues zeros' zeros')))
  unfolding clocked_text
  frames-stay =
      let l = left-over p.chip ram queues fits bytes entries n in
      let r = right-over p.chip ram queues fits bytes entries n in
      let left = clock_mixed_left p.chip ram queues zeros' zeros' in
      let right = clock_mixed_right p.chip ram queues zeros' zeros' in
      lines_stay _ _ left right l r _ ∙ ap₂ (λ (a b : ℕ). plain_lines left right (min a b)) l.long r.long

  pub left-peak : p.left ≤ 262144 → (clocked_player p ram queues zeros' zeros').left ≤ 262144
  unfolding clocked_player
  left-peak h = peak-within p.left 262144 _ h (left-over p.chip ram queues fits bytes entries n).frames _

  pub right-peak : p.right ≤ 262144 → (clocked_player p ram queues zeros' zeros').right ≤ 262144
  unfolding clocked_player
  right-peak h = peak-within p.right 262144 _ h (right-over p.chip ram queues fits bytes entries n).frames _
