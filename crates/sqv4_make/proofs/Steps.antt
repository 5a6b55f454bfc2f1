-- A byte more, and bytes one after the other. Assumes nothing.
use Rattle.std.proofs.Common.{◌≡◌, ℕ, ◌+◌, ◌-◌, ◌<◌, ◌≤◌, eqb, List, length, get_or, drop, ℤ, refl, add-one, length-set, drop_of_length-le, drop-cons, Option, Some, None}
use Rattle.num.proofs.Choice.{cond-by}
use Rattle.sqv4_make.specs.declared.Progress.{Progress}
use Rattle.sqv4_make.specs.Lines.{sample_line}
use Rattle.sqv4_make.specs.Making.{line_read, stored_by, samples_ended, step_of, samples_step, fed, samples_fed}

-- ---- the samples are as many as before
length-stored : (xs : List ℤ) (at : ℕ) (x : Option ℤ) → length (stored_by xs at x) ≡ length xs
length-stored xs at (Some x) = length-set xs at x
length-stored xs at None = refl

pub length-step : (m : Progress) (b : ℕ) (xs : List ℤ) → length (samples_step m b xs) ≡ length xs
unfolding samples_step samples_ended
length-step m b xs =
    cond-by (λ (l : List ℤ). length l ≡ length xs) m.good _ xs
    (λ g. cond-by (λ (l : List ℤ). length l ≡ length xs) (eqb b 10) _ xs
    (λ e. cond-by (λ (l : List ℤ). length l ≡ length xs) (eqb m.lines 0) xs (stored_by xs (m.lines - 1) (sample_line (line_read m))) (λ z. refl) (λ z. length-stored xs (m.lines - 1) (sample_line (line_read m))))
    (λ e. refl))
    (λ g. refl)

module _ (m : Progress) (xs : List ℤ) where
  pub fed-next : (bytes : List ℕ) (i : ℕ) (next : Progress) (ys : List ℤ) → i < length bytes → next ≡ step_of m (get_or bytes i 0) → ys ≡ samples_step m (get_or bytes i 0) xs
      → (fed next (drop (i + 1) bytes) ≡ fed m (drop i bytes)) × (samples_fed next (drop (i + 1) bytes) ys ≡ samples_fed m (drop i bytes) xs)
  unfolding fed samples_fed
  fed-next bytes i next ys h e f = (rw (add-one i, drop-cons bytes i 0 h, e), rw (add-one i, drop-cons bytes i 0 h, e, f))

  pub fed-all : (bytes : List ℕ) (i : ℕ) → length bytes ≤ i → (m ≡ fed m (drop i bytes)) × (xs ≡ samples_fed m (drop i bytes) xs)
  unfolding fed samples_fed
  fed-all bytes i h = (rw (drop_of_length-le bytes h), rw (drop_of_length-le bytes h))
