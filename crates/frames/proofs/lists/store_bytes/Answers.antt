use Rattle.std.proofs.Common.{◌≡◌, ℕ, [], ◌∷◌, ◌++◌, ◌+◌, length, set, sym, refl, ap, ◌∙◌, arith, length-append, length-drop, length-set, rules}
use mathlib.Core.Logic.{inl, inr}
use lib.Seq.{set_out}
use Rattle.frames.specs.Stored.{calls_stored}
use Rattle.frames.proofs.Counts.{zero-add, element, stored-none, stored_more}
use Rattle.frames.proofs.lists.store_bytes.Goals as goal

pub loop-address-init : goal.loop-address-init
loop-address-init c = (omega arith, search rules, search rules, refl, stored-none c.args.addresses.now c.args.values.now 0 c.args.ram.now)

pub loop-address-preserved-then-at-ram : goal.loop-address-preserved-then-at-ram
loop-address-preserved-then-at-ram c =
    let l = c.loop-address in
    let a = c.args in
    let i = length l.yielded in
    let v = l.invariant in
    let s = c.in-Some.ensures.steps in
    let x = element a.addresses.now _ _ _ i v.1 s.0 in
    let y = element a.values.now _ _ _ i v.2 s.1 in
    let n : length (l.yielded ++ (c.in-Some.field-0-0, c.in-Some.field-0-1) ∷ []) ≡ i + 1 = length-append l.yielded _ in
    rw n (omega (arith, x.0), x.2, y.2, length-set l.ram c.in-Some.field-0-0.now c.in-Some.field-0-1.now ∙ v.3, stored_more a.addresses.now a.values.now 0 a.ram.now i i l.ram _ (zero-add i) v.4 (λ j. set l.ram (x.1 j) (y.1 j)))

pub loop-address-preserved : goal.loop-address-preserved
loop-address-preserved c =
    let l = c.loop-address in
    let a = c.args in
    let i = length l.yielded in
    let v = l.invariant in
    let s = c.in-Some.ensures.steps in
    let x = element a.addresses.now _ _ _ i v.1 s.0 in
    let y = element a.values.now _ _ _ i v.2 s.1 in
    let n : length (l.yielded ++ (c.in-Some.field-0-0, c.in-Some.field-0-1) ∷ []) ≡ i + 1 = length-append l.yielded _ in
    rw n (omega (arith, x.0), x.2, y.2, v.3, stored_more a.addresses.now a.values.now 0 a.ram.now i i l.ram _ (zero-add i) v.4 (sym (set_out l.ram c.in-Some.field-0-0.now c.in-Some.field-0-1.now c.if-at-ram.false) ∙ λ j. set l.ram (x.1 j) (y.1 j)))

pub returns : goal.returns
returns c =
    let l = c.loop-address in
    let a = c.args in
    let v = l.invariant in
    let e : length l.yielded ≡ length a.addresses.now =
    elim c.in-None.ensures.steps [
      | inl e ↦ omega (arith, e.1.0, v.0, ap length v.1, length-drop (length l.yielded) a.addresses.now)
      | inr e ↦ omega (arith, e.1.0, v.0, ap length v.2, length-drop (length l.yielded) a.values.now, c.requires)
    ] in
    v.4 ∙ ap (λ (m : ℕ). calls_stored a.addresses.now a.values.now 0 m a.ram.now) e
