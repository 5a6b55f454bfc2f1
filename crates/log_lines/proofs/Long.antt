-- A line of more than 16 bytes is malformed. Assumes nothing.
use mathlib.Core.Path.{◌≡◌, refl, sym, ap, ◌∙◌}
use mathlib.Core.Bool.{Bool, true, false}
use mathlib.Core.List.{List}
use Prim.Native.Nat.{ℕ, suc, ◌+◌, ◌-◌, ◌^◌, ◌≤◌, ◌<◌}
use native.Mathlib.Omega.{arith}
use lib.Dec.{eqb, leb}
use lib.ListN.{length, drop, get_or, length-append, length-drop}
use borrow.Author.Tests.{eqb-true, leb-true, eq-eqb}
use Rattle.std.specs.Prelude.{Option, Some, None, Result, Err}
use Rattle.num.proofs.Choice.{cond-by}
use Rattle.decimal.specs.Written.{decimal}
use Rattle.decimal.specs.Read.{natural_at, Numeral}
use Rattle.decimal.proofs.Writing.{width-below}
use Rattle.decimal.proofs.RoundTrip.{natural-only-written}
use Rattle.log_lines.specs.declared.Line.{Line}
use Rattle.log_lines.specs.declared.LineFault.{LineFault}
use Rattle.log_lines.specs.declared.LineFault.TheVariants.{Malformed}
use Rattle.log_lines.specs.Lines.{one_of, one_at, address_and, two_of, two_at, as_write, written_ram, read_of, peek_of, clock_of, as_version, parsed_line}
use Rattle.log_lines.proofs.Commas.{comma-inside}

-- a text is no longer than what stands before a numeral, the numeral and what stands behind it
around : (text : List ℕ) (at next n : ℕ) → natural_at text at ≡ Some (n, next) → length text ≤ at + length (decimal n) + (length text - next)
around text at next n e =
    let b : length (drop at text) ≡ length (decimal n) + length (drop next text) = ap length (natural-only-written n text at next e) ∙ length-append (decimal n) (drop next text) in
    omega (arith, length-drop at text, length-drop next text)

-- a number of k digits at most, and then the end
short-one : (text : List ℕ) (at most k n : ℕ) → most < 10 ^ suc k → one_at text at most ≡ Some n → length text ≤ at + suc k
unfolding one_at
short-one text at most k n h = go (natural_at text at) refl
  where
    none : {A : Type 0} → ◌≡◌ {A = Option ℕ} None (Some n) → A
    none e = absurd (let z : ◌≡◌ {A = ℕ} 0 1 = cc in omega arith)

    go : (t : Numeral ℕ) → natural_at text at ≡ t → one_of text most t ≡ Some n → length text ≤ at + suc k
    go None e q = none q
    go (Some (m, next)) e q = ends (eqb next (length text)) refl
      where
        within : next ≡ length text → (b : Bool) → leb m most ≡ b → length text ≤ at + suc k
        within t true u = omega (arith, around text at next m e, width-below k m (omega (arith, leb-true m most u)))
        within t false u = none (sym (rw (eq-eqb next (length text) t, u)) ∙ q)

        ends : (b : Bool) → eqb next (length text) ≡ b → length text ≤ at + suc k
        ends true t = within (eqb-true next (length text) t) (leb m most) refl
        ends false t = none (sym (rw t) ∙ q)

-- an address, a comma and a byte, and then the end
short-two : (text : List ℕ) (at a v : ℕ) → ◌≡◌ {A = Option (ℕ × ℕ)} (two_at text at) (Some (a, v)) → length text ≤ at + 14
unfolding two_at
short-two text at a v = go (natural_at text at) refl
  where
    none : {A : Type 0} → ◌≡◌ {A = Option (ℕ × ℕ)} None (Some (a, v)) → A
    none e = absurd (let z : ◌≡◌ {A = ℕ} 0 1 = cc in omega arith)

    go : (t : Numeral ℕ) → natural_at text at ≡ t → ◌≡◌ {A = Option (ℕ × ℕ)} (two_of text t) (Some (a, v)) → length text ≤ at + 14
    go None e q = none q
    go (Some (m, next)) e q = low (leb m 4294967295) refl
      where
        byte : m ≤ 4294967295 → get_or text next 0 ≡ 44 → (o : Option ℕ) → one_at text (next + 1) 255 ≡ o → ◌≡◌ {A = Option (ℕ × ℕ)} (address_and m o) (Some (a, v)) → length text ≤ at + 14
        byte t u None o r = none r
        byte t u (Some b) o r =
            omega (arith, around text at next m e, width-below 9 m (omega arith), comma-inside text next u, short-one text (next + 1) 255 2 b (omega arith) o)

        parted : m ≤ 4294967295 → (b : Bool) → eqb (get_or text next 0) 44 ≡ b → leb m 4294967295 ≡ true → length text ≤ at + 14
        parted t true u h = byte t (eqb-true (get_or text next 0) 44 u) (one_at text (next + 1) 255) refl (sym (rw (h, u)) ∙ q)
        parted t false u h = none (sym (rw (h, u)) ∙ q)

        low : (b : Bool) → leb m 4294967295 ≡ b → length text ≤ at + 14
        low true t = parted (leb-true m 4294967295 t) (eqb (get_or text next 0) 44) refl t
        low false t = none (sym (rw t) ∙ q)

-- ---- the line
module _ (text : List ℕ) (h : 16 < length text) where
  two : (f : Option (ℕ × ℕ) → Result Line LineFault) → f None ≡ Err Malformed → (t : Option (ℕ × ℕ)) → two_at text 2 ≡ t → f t ≡ Err Malformed
  two f n None e = n
  two f n (Some (a, v)) e = absurd (omega (arith, short-two text 2 a v e))

  one : (f : Option ℕ → Result Line LineFault) (most : ℕ) → most < 10 ^ 10 → f None ≡ Err Malformed → (t : Option ℕ) → one_at text 2 most ≡ t → f t ≡ Err Malformed
  one f most k n None e = n
  one f most k n (Some m) e = absurd (omega (arith, short-one text 2 most 9 m k e))

  abbrev Is : Result Line LineFault → Type 0
  Is l = l ≡ Err Malformed

  pub long-line : parsed_line text ≡ Err Malformed
  unfolding parsed_line
  long-line =
      cond-by Is (eqb (get_or text 1 0) 44) _ _
      (λ c. cond-by Is (eqb (get_or text 0 0) 87) _ _ (λ k. two as_write refl (two_at text 2) refl)
      (λ k. cond-by Is (eqb (get_or text 0 0) 77) _ _ (λ k. two written_ram refl (two_at text 2) refl)
      (λ k. cond-by Is (eqb (get_or text 0 0) 82) _ _ (λ k. one read_of 4294967295 (omega arith) refl (one_at text 2 4294967295) refl)
      (λ k. cond-by Is (eqb (get_or text 0 0) 80) _ _ (λ k. one peek_of 4294967295 (omega arith) refl (one_at text 2 4294967295) refl)
      (λ k. cond-by Is (eqb (get_or text 0 0) 67) _ _ (λ k. one clock_of 1000 (omega arith) refl (one_at text 2 1000) refl)
      (λ k. cond-by Is (eqb (get_or text 0 0) 86) _ _ (λ k. one as_version 4 (omega arith) refl (one_at text 2 4) refl) (λ k. refl)))))))
      (λ c. refl)
