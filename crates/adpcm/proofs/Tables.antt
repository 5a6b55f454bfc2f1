-- Bounds of the tables' entries, each by one computed test over its table. Assumes nothing.
use Rattle.std.proofs.Common.{◌≡◌, ℕ, zero, suc, ◌+◌, ◌-◌, ◌*◌, ◌/◌, ◌%◌, ◌^◌, ◌<◌, ◌≤◌, min, cond, T, eqb, ltb, leb, List, [], ◌∷◌, get_or, ℤ, pos, negsuc, nat_abs, refl, arith, ltb→lt, leb→le}
use Rattle.num.proofs.Choice.{cond-by}
use Rattle.num.proofs.Tables.{all_of, at_all}
use Rattle.adpcm.specs.declared.Variant.{Variant}
use Rattle.adpcm.specs.declared.Variant.TheVariants.{H, L, LPlus}
use Rattle.adpcm.specs.Ima.{step_sizes, step_size, index_table}
use Rattle.adpcm.specs.Codes.{levels_of, level_indexes, adjust_of}

pub step-lt : (i : ℕ) → step_size i < 2 ^ 15
unfolding step_sizes step_size
step-lt i = ltb→lt (step_size i) (2 ^ 15) (at_all (λ x. ltb x (2 ^ 15)) 0 tt step_sizes tt (min i 88))

-- the size read from the table and cut to 15 bits
pub step_cut : (i : ℕ) → min (get_or step_sizes (min i 88) 0) 32767 ≡ step_size i
unfolding step_size
step_cut i = omega (arith, step-lt i)

level : (levels : List ℕ) → T (all_of (λ x. leb x 14) levels) → (i : ℕ) → get_or levels i 0 ≤ 14
level levels t i = leb→le (get_or levels i 0) 14 (at_all (λ x. leb x 14) 0 tt levels t i)

pub level-le : (version : ℕ) (k : Variant) (i : ℕ) → get_or (levels_of version k) i 0 ≤ 14
unfolding levels_of
level-le version H i = level [] tt i
level-le version L i = level (1 ∷ 3 ∷ 5 ∷ 7 ∷ []) tt i
level-le version LPlus i =
    cond-by (λ (l : List ℕ). get_or l i 0 ≤ 14) (eqb version 1) (10 ∷ 11 ∷ 12 ∷ 14 ∷ []) (1 ∷ 2 ∷ 3 ∷ 14 ∷ [])
    (λ e. level (10 ∷ 11 ∷ 12 ∷ 14 ∷ []) tt i) (λ e. level (1 ∷ 2 ∷ 3 ∷ 14 ∷ []) tt i)

four : (P : ℕ → Type 0) → P 0 → P 1 → P 2 → P 3 → (i : ℕ) → i < 4 → P i
four P a b c d zero h = a
four P a b c d (suc zero) h = b
four P a b c d (suc (suc zero)) h = c
four P a b c d (suc (suc (suc zero))) h = d
four P a b c d (suc (suc (suc (suc n)))) h = absurd (omega arith)

-- the levels and the index's moves, computed
pub level-l : (i : ℕ) → i < 4 → 2 * i + 1 ≡ get_or (1 ∷ 3 ∷ 5 ∷ 7 ∷ []) i 0
level-l = four (λ i. 2 * i + 1 ≡ get_or (1 ∷ 3 ∷ 5 ∷ 7 ∷ []) i 0) refl refl refl refl

pub level-first : (i : ℕ) → i < 4 → i + (i + 1) / 4 + 10 ≡ get_or (10 ∷ 11 ∷ 12 ∷ 14 ∷ []) i 0
level-first = four (λ i. i + (i + 1) / 4 + 10 ≡ get_or (10 ∷ 11 ∷ 12 ∷ 14 ∷ []) i 0) refl refl refl refl

pub level-plus : (i : ℕ) → i < 4 → i + (i + 1) / 4 * 10 + 1 ≡ get_or (1 ∷ 2 ∷ 3 ∷ 14 ∷ []) i 0
level-plus = four (λ i. i + (i + 1) / 4 * 10 + 1 ≡ get_or (1 ∷ 2 ∷ 3 ∷ 14 ∷ []) i 0) refl refl refl refl

pub level-moves : (i : ℕ) → i < 4 → 0 < i → pos (2 * i) ≡ get_or level_indexes i (pos 0)
unfolding level_indexes
level-moves = four (λ i. 0 < i → pos (2 * i) ≡ get_or level_indexes i (pos 0)) (λ h. absurd (omega arith)) (λ h. refl) (λ h. refl) (λ h. refl)

-- H's moves: in rows of four, back and on, and the same again
abbrev pub move_of : ℕ → ℤ
move_of code = cond (ltb (code % 8) 4) (negsuc 0) (pos (2 * (code % 8) - 6))

abbrev Moves : ℕ → Type 0
Moves i = move_of i ≡ get_or index_table i (pos 0)

row : (q : ℕ) → Moves (4 * q + 0) → Moves (4 * q + 1) → Moves (4 * q + 2) → Moves (4 * q + 3) → (r : ℕ) → r < 4 → Moves (4 * q + r)
row q = four (λ r. Moves (4 * q + r))

rows : (q : ℕ) → q < 4 → (r : ℕ) → r < 4 → Moves (4 * q + r)
unfolding index_table
rows =
    four (λ q. (r : ℕ) → r < 4 → Moves (4 * q + r))
    (row 0 refl refl refl refl) (row 1 refl refl refl refl) (row 2 refl refl refl refl) (row 3 refl refl refl refl)

pub code-moves : (code : ℕ) → move_of code ≡ get_or index_table (code % 16) (pos 0)
code-moves code = rw (parts code, eight code) at (rows (code / 4 % 4) (omega arith) (code % 4) (omega arith))
  where
    parts : (n : ℕ) → 4 * (n / 4 % 4) + n % 4 ≡ n % 16
    parts n = omega arith

    eight : (n : ℕ) → n % 16 % 8 ≡ n % 8
    eight n = omega arith

small : (table : List ℤ) → T (all_of (λ z. leb (nat_abs z) 8) table) → (i : ℕ) → nat_abs (get_or table i (pos 0)) ≤ 8
small table t i = leb→le (nat_abs (get_or table i (pos 0))) 8 (at_all (λ z. leb (nat_abs z) 8) (pos 0) tt table t i)

pub adjust-le : (k : Variant) (code : ℕ) → nat_abs (adjust_of k code) ≤ 8
unfolding adjust_of index_table level_indexes
adjust-le H code = small index_table tt (code % 16)
adjust-le L code = small level_indexes tt (code % 4)
adjust-le LPlus code = small level_indexes tt (code % 4)
