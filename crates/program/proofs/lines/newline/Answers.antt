use Rattle.std.specs.Prelude.{MatchOption, None, Some}
use Rattle.std.specs.List.{AllWithin, HoldsAt}
use Rattle.std.proofs.Common.{rules, tests, arith, ◌≡◌, ◌≢◌, ◌<◌, ◌≤◌, length, slice_index, ℕ, ◌+◌, ◌-◌, List, Option, drop}
use Rattle.std.proofs.lemmas.Iterator.{YieldsList-from_slice, IsFirst-from_position}
use Rattle.std.proofs.lemmas.List.{get_or-drop}
use lib.ListN.{length-drop, get_or}
use mathlib.Core.Path.{sym, ap, ◌∙◌}
use Rattle.program.specs.Reading.{Open}
use Rattle.program.proofs.lines.newline.Goals as goal

-- what a search for byte 10 finds
abbrev First : List ℕ → Option ℕ → Type 0
First l found = MatchOption found (AllWithin (λ (x : ℕ). x ≢ 10) l 0 (length l)) (λ i. (i < length l) × HoldsAt (λ (x : ℕ). x ≡ 10) l i × AllWithin (λ (x : ℕ). x ≢ 10) l 0 i)

-- no byte 10 among the first of those from a place on
open_to : (text : List ℕ) (from n to : ℕ) → to ≤ from + n → AllWithin (λ x. x ≢ 10) (drop from text) 0 n → Open text from to
open_to text from n to k e i a b h = e (i - from) 0 (omega arith) (omega arith) (get_or-drop from text (i - from) 0 ∙ ap (λ (j : ℕ). get_or text j 0) (let q : from + (i - from) ≡ i = omega arith in q) ∙ h)

some-line : (text : List ℕ) (from n : ℕ) → First (drop from text) (Some n) → (from ≤ from + n) × (from + n < length text) × (slice_index text (from + n) ≡ 10) × Open text from (from + n)
some-line text from n e = (omega arith, omega (arith, length-drop from text, e.0), sym (get_or-drop from text n 0) ∙ e.1 0, open_to text from n (from + n) (omega arith) e.2)

pub returns-in_err-position-clause-none : goal.returns-in_err-position-clause-none
returns-in_err-position-clause-none c =
    let e : First c.tail.result.now c.position.result = IsFirst-from_position _ _ _ (λ (x : ℕ). x ≡ 10) (λ (x : ℕ). x ≢ 10) c.position.ensures.ran (YieldsList-from_slice c.tail.result.now cc) (λ x q k. search (rules, tests)) (λ x q k. search (rules, tests)) in
    let a : First (drop c.args.from c.args.text.now) None = rw (c.tail.ensures, c.in_err-position.was) at e in
    rw c.from_residual.ensures (open_to c.args.text.now c.args.from (length (drop c.args.from c.args.text.now)) (length c.args.text.now) (omega (arith, length-drop c.args.from c.args.text.now)) a)

pub returns-clause-some : goal.returns-clause-some
returns-clause-some c =
    let e : First c.tail.result.now c.position.result = IsFirst-from_position _ _ _ (λ (x : ℕ). x ≡ 10) (λ (x : ℕ). x ≢ 10) c.position.ensures.ran (YieldsList-from_slice c.tail.result.now cc) (λ x q k. search (rules, tests)) (λ x q k. search (rules, tests)) in
    let a : First (drop c.args.from c.args.text.now) (Some c.in_ok-position.field-0) = rw (c.tail.ensures, c.in_ok-position.was) at e in
    some-line c.args.text.now c.args.from c.in_ok-position.field-0 a
