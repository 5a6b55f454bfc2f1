-- Where a line ends, and what the next one is. Assumes nothing.
use Rattle.std.specs.Prelude.{Option, Ok, Some, None, Err, nat_lt, position}
use Rattle.std.specs.List.{position_or_len}
use Rattle.std.proofs.lemmas.List.Recursion.{is_position_or_len}
use mathlib.Core.Path.{◌≡◌, refl, sym, ap, ◌∙◌}
use mathlib.Core.Bool.{Bool, true, false, cond}
use mathlib.Core.List.{List, [], ◌∷◌}
use Prim.Native.Nat.{ℕ, ◌+◌, ◌-◌, ◌≤◌, ◌<◌}
use native.Mathlib.Omega.{arith}
use lib.Dec.{eqb}
use lib.ListN.{length, take, drop, length-drop, drop_of_length-le}
use borrow.Author.Tests.{eq-eqb, ne_eqb, eqb-true, eqb-false, le-leb, lt-leb, ltb-true, ltb-false}
use Rattle.log_lines.specs.declared.Line.{Line}
use Rattle.log_lines.specs.declared.LineFault.{LineFault}
use Rattle.log_lines.specs.declared.LineFault.TheVariants.{Malformed}
use Rattle.log_lines.specs.Lines.{parsed_line}
use Rattle.log_player.specs.declared.Stop.TheVariants.{Bad}
use Rattle.log_player.specs.Steps.{first_line, line_end, next_of}

-- ---- the first line, one byte at a time
-- the place of the first byte 10, as a search finds it
stop-place : (text : List ℕ) → length (first_line text) ≡ position_or_len (λ (c : ℕ). eqb c 10) text
unfolding first_line
stop-place text = is_position_or_len (λ (l : List ℕ). length (first_line l)) (λ (c : ℕ). eqb c 10) refl (λ c cs. go c cs (eqb c 10) refl) text
  where
    go : (c : ℕ) (cs : List ℕ) (b : Bool) → eqb c 10 ≡ b → length (first_line (c ∷ cs)) ≡ cond (eqb c 10) 0 (1 + length (first_line cs))
    go c cs true e = rw e refl
    go c cs false e = rw e (omega arith)

-- the line is the first part of what it is the line of
pub first_short : (l : List ℕ) → length (first_line l) ≤ length l
unfolding first_line
first_short [] = omega arith
first_short (c ∷ cs) = go (eqb c 10) refl (first_short cs)
  where
    go : (b : Bool) → eqb c 10 ≡ b → length (first_line cs) ≤ length cs → length (first_line (c ∷ cs)) ≤ length (c ∷ cs)
    go true e h = rw e (omega arith)
    go false e h = rw e (omega arith)

stop-found : (text : List ℕ) (found : Option ℕ) (count : ℕ) → found ≡ position (λ (c : ℕ). eqb c 10) text → found ≡ Some count → (count ≡ length (first_line text)) × (count < length text)
stop-found text found count e h = let t = go _ _ (nat_lt _ _) refl (sym h ∙ e) in (t.0 ∙ sym (stop-place text), rw (sym t.0) at t.1)
  where
    go : (n m : ℕ) (b : Bool) → nat_lt n m ≡ b → Some count ≡ cond (nat_lt n m) (Some n) None → (count ≡ n) × (n < m)
    go n m true k q = let z : Some count ≡ Some n = q ∙ ap (λ (b : Bool). cond b (Some n) None) k in (cc, ltb-true n m k)
    go n m false k q = absurd (let z : Some count ≡ None = q ∙ ap (λ (b : Bool). cond b (Some n) None) k in let y : ◌≡◌ {A = ℕ} 0 1 = cc in omega arith)

-- a text without byte 10
stop-none : (text : List ℕ) (found : Option ℕ) → found ≡ position (λ (c : ℕ). eqb c 10) text → found ≡ None → length (first_line text) ≡ length text
stop-none text found e h =
    let k : length text ≤ position_or_len (λ (c : ℕ). eqb c 10) text = go _ _ (nat_lt _ _) refl (sym h ∙ e) in
    omega (arith, k, stop-place text, first_short text)
  where
    go : (n m : ℕ) (b : Bool) → nat_lt n m ≡ b → None ≡ cond (nat_lt n m) (Some n) None → m ≤ n
    go n m true k q = absurd (let z : None ≡ Some n = q ∙ ap (λ (b : Bool). cond b (Some n) None) k in let y : ◌≡◌ {A = ℕ} 0 1 = cc in omega arith)
    go n m false k q = ltb-false n m k

pub end-at : (text : List ℕ) (from : ℕ) (found : Option ℕ) (count : ℕ) → found ≡ position (λ (c : ℕ). eqb c 10) text → found ≡ Some count → line_end text from ≡ Some (from + count)
unfolding line_end
end-at text from found count e h =
    let t = stop-found text found count e h in
    rw (ne_eqb (length (first_line text)) (length text) (λ q. absurd (omega (arith, t.0, t.1, q))), ← t.0)

pub end-nowhere : (text : List ℕ) (from : ℕ) (found : Option ℕ) → found ≡ position (λ (c : ℕ). eqb c 10) text → found ≡ None → line_end text from ≡ None
unfolding line_end
end-nowhere text from found e h = rw (eq-eqb (length (first_line text)) (length text) (stop-none text found e h))

pub first-taken : (l : List ℕ) → take (length (first_line l)) l ≡ first_line l
unfolding first_line
first-taken [] = refl
first-taken (c ∷ cs) = go (eqb c 10) refl (first-taken cs)
  where
    go : (b : Bool) → eqb c 10 ≡ b → take (length (first_line cs)) cs ≡ first_line cs → take (length (first_line (c ∷ cs))) (c ∷ cs) ≡ first_line (c ∷ cs)
    go true e h = rw e
    go false e h = rw e (ap (λ (k : List ℕ). c ∷ k) h)

-- ---- where a line ends: nowhere, or at a place inside
pub end-found : (l : List ℕ) (from stop : ℕ) {found : Option ℕ} → found ≡ line_end (drop from l) from → found ≡ Some stop → (stop ≡ from + length (first_line (drop from l))) × (stop < length l)
unfolding line_end
end-found l from stop e q = go (eqb (length (first_line (drop from l))) (length (drop from l))) refl (sym q ∙ e)
  where
    go : (b : Bool) → eqb (length (first_line (drop from l))) (length (drop from l)) ≡ b → Some stop ≡ cond b None (Some (from + length (first_line (drop from l)))) → (stop ≡ from + length (first_line (drop from l))) × (stop < length l)
    go true k h = absurd (let y : ◌≡◌ {A = ℕ} 0 1 = cc in omega arith)
    go false k h =
        let s : stop ≡ from + length (first_line (drop from l)) = cc in
        let n : length (first_line (drop from l)) ≡ length (drop from l) → ⊥ = eqb-false _ _ k in
        (s, omega (arith, s, less n (first_short (drop from l)), length-drop from l))
      where
        less : {a b : ℕ} → (a ≡ b → ⊥) → a ≤ b → a < b
        less n h = omega arith

pub end-none : (l : List ℕ) (from : ℕ) {found : Option ℕ} → found ≡ line_end (drop from l) from → found ≡ None → length (first_line (drop from l)) ≡ length (drop from l)
unfolding line_end
end-none l from e q = go (eqb (length (first_line (drop from l))) (length (drop from l))) refl (sym q ∙ e)
  where
    go : (b : Bool) → eqb (length (first_line (drop from l))) (length (drop from l)) ≡ b → None ≡ cond b None (Some (from + length (first_line (drop from l)))) → length (first_line (drop from l)) ≡ length (drop from l)
    go true k h = eqb-true _ _ k
    go false k h = absurd (let y : ◌≡◌ {A = ℕ} 0 1 = cc in omega arith)

-- ---- what comes next
pub next_past : (l : List ℕ) (from : ℕ) → length l ≤ from → next_of (drop from l) from ≡ Ok None
unfolding next_of first_line
next_past l from h = rw (drop_of_length-le l h)

module _ (l : List ℕ) (from : ℕ) (e : length (first_line (drop from l)) ≡ length (drop from l)) where
  pub next-rest : length l - from ≤ 16 → next_of (drop from l) from ≡ Ok None
  unfolding next_of
  next-rest k = rw (eq-eqb (length (first_line (drop from l))) (length (drop from l)) e, le-leb (length (drop from l)) 16 (omega (arith, length-drop from l)))

  pub next-long : 16 < length l - from → next_of (drop from l) from ≡ Err (Bad Malformed)
  unfolding next_of
  next-long k = rw (eq-eqb (length (first_line (drop from l))) (length (drop from l)) e, lt-leb (length (drop from l)) 16 (omega (arith, length-drop from l)))

module _ (l : List ℕ) (from stop : ℕ) (s : stop ≡ from + length (first_line (drop from l))) where
  within : stop < length l → (length (first_line (drop from l)) ≡ length (drop from l) → ⊥)
  within h e = omega (arith, length-drop from l)

  pub next-line : (line : Line) → stop < length l → Ok line ≡ parsed_line (first_line (drop from l)) → next_of (drop from l) from ≡ Ok (Some (stop + 1))
  unfolding next_of
  next-line line h e = rw (ne_eqb (length (first_line (drop from l))) (length (drop from l)) (within h), ← e, ← s)

  pub next-bad : (why : LineFault) → stop < length l → Err why ≡ parsed_line (first_line (drop from l)) → next_of (drop from l) from ≡ Err (Bad why)
  unfolding next_of
  next-bad why h e = rw (ne_eqb (length (first_line (drop from l))) (length (drop from l)) (within h), ← e)

  -- the bytes from the one place to the other
  pub line-part : take (stop - from) (drop from l) ≡ first_line (drop from l)
  line-part =
      let k : stop - from ≡ length (first_line (drop from l)) = omega arith in
      rw k (first-taken (drop from l))
