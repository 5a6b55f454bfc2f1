-- A turn of the check's loop over fragments, and answers by their numbers. Assumes nothing.
use Rattle.std.specs.Prelude.{Result, Ok}
use mathlib.Core.Path.{◌≡◌, sym, ap, ◌∙◌}
use mathlib.Core.List.{List}
use Prim.Native.Nat.{ℕ, suc, ◌+◌, ◌-◌, ◌*◌, ◌≤◌, ◌<◌}
use native.Mathlib.Omega.{arith}
use native.Mathlib.Nat.{mul-le-mul_right, sub-zero}
use native.Mathlib.Numerals.{add-one}
use lib.ListN.{length, take, drop}
use Rattle.sqv4.specs.declared.Fault.{Fault}
use Rattle.sqv4.specs.declared.Header.{Header}
use Rattle.sqv4.specs.declared.InspectError.{InspectError}
use Rattle.sqv4.specs.Files.{fault_in, faults_from, unless_fault, used_at, fragment_at, number_of, Fills}

-- equal answers have one number
pub numbered : {r x : Result Header InspectError} → r ≡ x → (r ≡ x) × (number_of r ≡ number_of x)
numbered e = (e, ap number_of e)

module _ (d : List ℕ) (h : Header) where
  -- how many fragments a file has
  abbrev pub total : ℕ
  total = h.frame_count * h.channels

  -- what is to come from position p on
  abbrev pub rest : ℕ → Result Header InspectError
  rest p = faults_from d h p (total - p)

  pub rest_all : rest 0 ≡ faults_from d h 0 total
  rest_all = ap (faults_from d h 0) (sub-zero total)

  faults-step : (p : ℕ) → p < total → rest p ≡ unless_fault (fault_in h.version (used_at h p) (fragment_at d h p)) (rest (p + 1))
  unfolding faults_from
  faults-step p l = ap (λ (n : ℕ). faults_from d h p n) (one p total l) ∙ rw (add-one p)
    where
      one : (p total : ℕ) → p < total → total - p ≡ suc (total - (suc p))
      one p total l = omega arith

  pub faults-none : (p : ℕ) → total ≤ p → rest p ≡ Ok h
  unfolding faults_from
  faults-none p l = ap (λ (n : ℕ). faults_from d h p n) (zero_left p total l)
    where
      zero_left : (p total : ℕ) → total ≤ p → total - p ≡ 0
      zero_left p total l = omega arith

  -- there is room for fragment p
  pub room : (p : ℕ) → Fills d h → p < total → 16 + p * h.frame_size + h.frame_size ≤ length d
  room p f l = omega (arith, f.long, mul-le-mul_right h.frame_size l)

  -- a turn: fault x of the fragment at `at`
  pub turn : (p at used : ℕ) (x : Result (Unit {0}) Fault) → p < total → at ≡ 16 + p * h.frame_size → used ≡ used_at h p → x ≡ fault_in h.version used (take (at + h.frame_size - at) (drop at d)) → rest p ≡ unless_fault x (rest (p + 1))
  turn p at used x l e u f =
      let m : at + h.frame_size - at ≡ h.frame_size = omega arith in
      faults-step p l ∙ ap (λ (y : Result (Unit {0}) Fault). unless_fault y (rest (p + 1))) (sym (rw (m, e, u) at f))
