-- The lines of a timed log's plain log are played. Assumes nothing.
use Rattle.std.specs.Prelude.{Ok}
use mathlib.Core.Path.{◌≡◌, refl, sym, ap, ◌∙◌}
use mathlib.Core.Bool.{Bool, true, false, cond}
use mathlib.Core.List.{List, [], ◌∷◌, ◌++◌, append-nil}
use Prim.Native.Nat.{ℕ, zero, suc, ◌+◌, ◌-◌, ◌/◌, ◌%◌, ◌≤◌, ◌<◌}
use native.Mathlib.Omega.{arith}
use native.Mathlib.Decide.{dec_le}
use lib.Dec.{eqb, ltb}
use lib.ListN.{length, drop, replicate}
use borrow.Author.Tests.{eq-eqb, ne_eqb, eqb-false, le-leb}
use Rattle.num.proofs.Choice.{cond-by, never}
use Rattle.decimal.specs.Written.{digits_in, decimal}
use Rattle.decimal.proofs.RoundTrip.{natural-back}
use Rattle.log_lines.specs.declared.Line.TheVariants.{Clock}
use Rattle.log_lines.specs.Lines.{one_of, one_at, clock_of, parsed_line, is_bad}
use Rattle.log_player.specs.Steps.{first_line}
use Rattle.plain_chip.specs.Lists.{Every}
use Rattle.log_resume.specs.Cuts.{no_end, Playable}
use Rattle.timed_log.specs.Unrolled.{clock_most, clock_line}
use Rattle.timed_as_plain.specs.Scores.{gap_lines}
use Rattle.decimal.specs.Read.{Numeral}

-- ---- no byte 10
pub no-end-append : (a b : List ℕ) → no_end a ≡ true → no_end b ≡ true → no_end (a ++ b) ≡ true
no-end-append [] b h g = g
no-end-append (c ∷ a) b h g = go (eqb c 10) h (no-end-append a b)
  where
    go : (t : Bool) → cond t false (no_end a) ≡ true → (no_end a ≡ true → no_end b ≡ true → no_end (a ++ b) ≡ true) → cond t false (no_end (a ++ b)) ≡ true
    go true h ih = h
    go false h ih = ih h g

pub no-end-drop : (n : ℕ) (a : List ℕ) → no_end a ≡ true → no_end (drop n a) ≡ true
no-end-drop zero a h = h
no-end-drop (suc n) [] h = h
no-end-drop (suc n) (c ∷ a) h = no-end-drop n a (go (eqb c 10) h)
  where
    go : (t : Bool) → cond t false (no_end a) ≡ true → no_end a ≡ true
    go true h = never (sym h)
    go false h = h

pub first-no-end : (l : List ℕ) → no_end (first_line l) ≡ true
unfolding first_line
first-no-end [] = refl
first-no-end (c ∷ cs) = go (eqb c 10) refl (first-no-end cs)
  where
    go : (t : Bool) → eqb c 10 ≡ t → no_end (first_line cs) ≡ true → no_end (cond t [] (c ∷ first_line cs)) ≡ true
    go true e h = refl
    go false e h = ap (λ (b : Bool). cond b false (no_end (first_line cs))) e ∙ h

digit-no-end : (n : ℕ) → no_end ((48 + n) ∷ []) ≡ true
digit-no-end n = rw (ne_eqb (48 + n) 10 (λ e. absurd (omega arith)))

digits-no-end : (turns n : ℕ) → no_end (digits_in turns n) ≡ true
unfolding digits_in
digits-no-end zero n = refl
digits-no-end (suc turns) n =
    cond-by (λ (l : List ℕ). no_end l ≡ true) (ltb n 10) ((48 + n) ∷ []) (digits_in turns (n / 10) ++ ((48 + n % 10) ∷ []))
    (λ e. digit-no-end n) (λ e. no-end-append (digits_in turns (n / 10)) ((48 + n % 10) ∷ []) (digits-no-end turns (n / 10)) (digit-no-end (n % 10)))

-- ---- a `C` line that is written is read as the same number of frames
pub clock-line : (n : ℕ) → 1 ≤ n → n ≤ clock_most → parsed_line (clock_line n) ≡ Ok (Clock n)
unfolding parsed_line one_at clock_line
clock-line n low high =
    ap (λ (r : Numeral ℕ). clock_of (one_of (67 ∷ 44 ∷ decimal n) 1000 r)) (natural-back n (67 ∷ 44 ∷ decimal n) [] 2 (omega arith) (sym (append-nil (decimal n))) refl)
    ∙ rw (eq-eqb (2 + length (decimal n)) (length (67 ∷ 44 ∷ decimal n)) (omega arith), le-leb n 1000 high, ne_eqb n 0 (λ e. absurd (omega arith)))

clock-no-end : (n : ℕ) → no_end (clock_line n) ≡ true
unfolding clock_line decimal
clock-no-end n = digits-no-end (suc n) n

pub clock-playable : (n : ℕ) → 1 ≤ n → n ≤ clock_most → Playable (clock_line n)
clock-playable n low high = record { one = clock-no-end n; played = ap is_bad (clock-line n low high) }

-- ---- lists of lines
pub every_append : {A : Type 0} (P : A → Type 0) (a b : List A) → Every P a → Every P b → Every P (a ++ b)
every_append P [] b f g = g
every_append P (x ∷ a) b f g = (f.0, every_append P a b f.1 g)

every-replicate : {A : Type 0} (P : A → Type 0) (x : A) (n : ℕ) → P x → Every P (replicate n x)
every-replicate P x zero p = tt
every-replicate P x (suc n) p = (p, every-replicate P x n p)

pub gap-playable : (gap : ℕ) → Every Playable (gap_lines gap)
unfolding gap_lines
gap-playable gap =
    every_append Playable (replicate (gap / clock_most) (clock_line clock_most)) _ (every-replicate Playable (clock_line clock_most) (gap / clock_most) (clock-playable clock_most (omega arith) (omega arith)))
    (cond-by (Every Playable) (eqb (gap % clock_most) 0) [] (clock_line (gap % clock_most) ∷ []) (λ e. tt) (λ e. (some (eqb-false (gap % clock_most) 0 e), tt)))
  where
    some : (gap % clock_most ≡ 0 → ⊥) → Playable (clock_line (gap % clock_most))
    some n = clock-playable (gap % clock_most) (omega arith) (omega arith)

-- ---- gaps: a thousand more, or what is left
pub gap-none : gap_lines 0 ≡ []
unfolding gap_lines
gap-none = refl

pub gap-small : (gap : ℕ) → (gap ≡ 0 → ⊥) → gap ≤ clock_most → gap_lines gap ≡ clock_line gap ∷ []
unfolding gap_lines
gap-small gap n h =
    elim (dec_le clock_most gap) [
      | yes e ↦ ap lines (let k : gap ≡ clock_most = omega arith in k) ∙ ap (λ (k : ℕ). clock_line k ∷ []) (let k : clock_most ≡ gap = omega arith in k)
      | no e ↦
          let q : gap / clock_most ≡ 0 = omega arith in
          let r : gap % clock_most ≡ gap = omega arith in
          rw (q, r) (ap (λ (b : Bool). cond b [] (clock_line gap ∷ [])) (ne_eqb gap 0 n))
    ]
  where
    lines : ℕ → List (List ℕ)
    lines g = replicate (g / clock_most) (clock_line clock_most) ++ cond (eqb (g % clock_most) 0) [] (clock_line (g % clock_most) ∷ [])

pub gap_more : (gap : ℕ) → clock_most < gap → gap_lines gap ≡ clock_line clock_most ∷ gap_lines (gap - clock_most)
unfolding gap_lines
gap_more gap h =
    let q : gap / clock_most ≡ suc ((gap - clock_most) / clock_most) = omega arith in
    let r : gap % clock_most ≡ (gap - clock_most) % clock_most = omega arith in
    rw (q, r)
