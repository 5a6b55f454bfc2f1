-- What a player prints is lines that are skipped before a state. Assumes nothing.
use Rattle.std.specs.Prelude.{Result, Ok, Err}
use mathlib.Core.Path.{◌≡◌, refl, sym, ap, ap₂, ◌∙◌}
use mathlib.Core.Bool.{Bool, true, false, cond}
use mathlib.Core.List.{List, [], ◌∷◌, ◌++◌, append_assoc}
use Prim.Native.Nat.{ℕ, zero, suc, ◌+◌, ◌-◌, ◌≤◌, ◌<◌}
use native.Mathlib.Omega.{arith}
use lib.IntN.{ℤ, pos}
use lib.ListN.{length, get_or, length-append}
use Rattle.num.specs.Integers.{clamp16}
use Rattle.decimal.specs.Written.{render}
use Rattle.s3w2.specs.declared.Chip.{Chip}
use Rattle.log_lines.specs.declared.Line.{Line}
use Rattle.log_lines.specs.declared.Line.TheVariants.{Write, WriteRam, Read, Peek, Clock, Version}
use Rattle.log_lines.specs.declared.LineFault.{LineFault}
use Rattle.log_lines.specs.Texts.{comma_field, pair_line, frame_line, frame_lines}
use Rattle.log_player.specs.Worlds.{World}
use Rattle.log_player.specs.Applied.{clocked_text, effect_of, printed}
use Rattle.log_state.specs.Finding.{sound_line}
use Rattle.log_state.specs.Loads.{behind_line, skip_lines, skipped}
use Rattle.log_state.proofs.Stated.{Goes, both, one, render-goes, Ended, size, behind-is}

-- a text of lines, each of which is skipped
pub record Skipped (text : List ℕ) : Type 0 where
  pub count : ℕ
  pub few : count ≤ length text
  pub skips : (n : ℕ) (rest : List ℕ) → skip_lines (count + n) (text ++ rest) ≡ skip_lines n rest

pub skip-none : Skipped []
skip-none = record { count = 0; few = omega arith; skips = λ n rest. ap (λ (k : ℕ). skip_lines k rest) (omega arith) }

pub skip_both : (xs ys : List ℕ) → Skipped xs → Skipped ys → Skipped (xs ++ ys)
skip_both xs ys s t = record {
  count = s.count + t.count;
  few = omega (arith, length-append xs ys, s.few, t.few);
  skips = λ n rest.
      ap₂ (λ (k : ℕ) (l : List ℕ). skip_lines k l) (order s.count t.count n) (append_assoc xs ys rest)
      ∙ s.skips (t.count + n) (ys ++ rest)
      ∙ t.skips n rest;
}
  where
    order : (a b n : ℕ) → (a + b) + n ≡ a + (b + n)
    order a b n = omega arith

pub skip-choice : (b : Bool) (xs ys : List ℕ) → Skipped xs → Skipped ys → Skipped (cond b xs ys)
skip-choice true xs ys s t = s
skip-choice false xs ys s t = t

-- ---- one line
skip-line : (line : List ℕ) → Ended line → ((rest : List ℕ) → sound_line (get_or (line ++ rest) 0 0) 0 ≡ true) → Skipped line
unfolding skip_lines
skip-line line e s = record {
  count = 1;
  few = omega (arith, size line [] e);
  skips = λ n rest.
      ap (λ (k : ℕ). skip_lines k (line ++ rest)) (next n)
      ∙ ap (λ (b : Bool). cond b (skip_lines n (behind_line (line ++ rest))) (line ++ rest)) (s rest)
      ∙ ap (skip_lines n) (behind-is line rest e);
}
  where
    next : (n : ℕ) → 1 + n ≡ suc n
    next n = omega arith

field-goes : (z : ℤ) → Goes (comma_field z)
unfolding comma_field
field-goes z = both (44 ∷ []) (render z) (one 44 (omega arith)) (render-goes z)

pair_ended : (c : ℕ) (a b : ℤ) → 10 < c → Ended (pair_line (c ∷ []) a b)
unfolding pair_line
pair_ended c a b h = record {
  text = (c ∷ []) ++ (comma_field a ++ comma_field b);
  whole = ap (λ (l : List ℕ). c ∷ l) (sym (append_assoc (comma_field a) (comma_field b) (10 ∷ [])));
  goes = both (c ∷ []) (comma_field a ++ comma_field b) (one c h) (both (comma_field a) (comma_field b) (field-goes a) (field-goes b));
}

pair-skipped : (c : ℕ) (a b : ℤ) → 10 < c → sound_line c 0 ≡ true → Skipped (pair_line (c ∷ []) a b)
unfolding pair_line
pair-skipped c a b h s = skip-line (pair_line (c ∷ []) a b) (pair_ended c a b h) (λ rest. s)

frame-sound : sound_line 70 0 ≡ true
unfolding sound_line
frame-sound = refl

peek-sound : sound_line 80 0 ≡ true
unfolding sound_line
peek-sound = refl

read-sound : sound_line 82 0 ≡ true
unfolding sound_line
read-sound = refl

frames-skipped : (left right : List ℤ) (n : ℕ) → Skipped (frame_lines left right n)
unfolding frame_lines
frames-skipped left right zero = skip-none
frames-skipped left right (suc n) =
    skip_both (frame_lines left right n) (frame_line (get_or left n (pos 0)) (get_or right n (pos 0))) (frames-skipped left right n)
    (pair-skipped 70 (clamp16 (get_or left n (pos 0))) (clamp16 (get_or right n (pos 0))) (omega arith) frame-sound)

clocked-skipped : (chip : Chip) (ram : List ℕ) (queues left right : List ℤ) → Skipped (clocked_text chip ram queues left right)
unfolding clocked_text
clocked-skipped chip ram queues left right = frames-skipped _ _ _

-- ---- what a line of a log prints
pub printed-skipped : (w : World) (line : Result Line LineFault) → Skipped (printed w line)
unfolding effect_of
printed-skipped w (Ok (Write a v)) = skip-none
printed-skipped w (Ok (WriteRam a v)) = skip-none
printed-skipped w (Ok (Read a)) = pair-skipped 82 _ _ (omega arith) read-sound
printed-skipped w (Ok (Peek a)) = pair-skipped 80 _ _ (omega arith) peek-sound
printed-skipped w (Ok (Clock n)) = clocked-skipped w.player.chip w.ram w.queues _ _
printed-skipped w (Ok (Version v)) = skip-none
printed-skipped w (Err why) = skip-none

-- ---- behind such lines stands what no player prints
stays : (n : ℕ) (rest : List ℕ) → sound_line (get_or rest 0 0) 0 ≡ false → skip_lines n rest ≡ rest
unfolding skip_lines
stays zero rest e = refl
stays (suc n) rest e = ap (λ (b : Bool). cond b (skip_lines n (behind_line rest)) rest) e

pub all-skipped : (text rest : List ℕ) → Skipped text → sound_line (get_or rest 0 0) 0 ≡ false → skipped (text ++ rest) ≡ rest
all-skipped text rest s e =
    let left : ℕ = length (text ++ rest) - s.count in
    let all : length (text ++ rest) ≡ s.count + left = omega (arith, length-append text rest, s.few) in
    ap (λ (k : ℕ). skip_lines k (text ++ rest)) all ∙ s.skips left rest ∙ stays left rest e
