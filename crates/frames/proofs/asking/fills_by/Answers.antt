use Rattle.std.proofs.Common.{◌≡◌, ℕ, ◌<◌, drop, List, [], ◌∷◌, ◌++◌, ◌+◌, ◌*◌, length, sym, ap, ◌∙◌, arith, length-append, length-drop, ne_eqb, rules}
use mathlib.Core.Logic.{inl, inr}
use Rattle.sizes.specs.Sizes.{stems_per_frame}
use Rattle.frames.specs.Listing.{asked_of, clocked_as, clocked_by, frames_asked}
use Rattle.frames.proofs.Counts.{zero-add, none_left, element, frames-none, frames-more, frames-within}
use Rattle.frames.proofs.asking.fills_by.Goals as goal

pub loop-kind-init : goal.loop-kind-init
loop-kind-init c =
    let z = frames-none c.args.kinds.now c.args.addresses.now 0 in
    (omega arith, search rules, search rules, omega arith)

-- the call, and the stems that it needs
record Taken (kinds addresses kinds_left addresses_left : List ℕ) (i frames : ℕ) : Type 0 where
  pub within : i < length kinds
  pub kinds_are : kinds_left ≡ drop (i + 1) kinds
  pub addresses_are : addresses_left ≡ drop (i + 1) addresses
  pub frames_are : frames ≡ clocked_by kinds addresses (0 + i)

taken : (kinds addresses kinds_now addresses_now kinds_left addresses_left : List ℕ) (kind address i frames : ℕ) → kinds_now ≡ drop i kinds → addresses_now ≡ drop i addresses → kinds_now ≡ kind ∷ kinds_left → addresses_now ≡ address ∷ addresses_left → frames ≡ clocked_as (asked_of kind) address → Taken kinds addresses kinds_left addresses_left i frames
taken kinds addresses kinds_now addresses_now kinds_left addresses_left kind address i frames k a e f q =
    let x = element kinds kinds_now kinds_left kind i k e in
    let y = element addresses addresses_now addresses_left address i a f in
    record {
      within = x.0;
      kinds_are = x.2;
      addresses_are = y.2;
      frames_are = q ∙ (λ j. clocked_as (asked_of (x.1 j)) (y.1 j)) ∙ ap (clocked_by kinds addresses) (zero-add i);
    }

pub returns-then-rest-needed : goal.returns-then-rest-needed
returns-then-rest-needed c =
    let l = c.loop-kind in
    let a = c.args in
    let i = length l.yielded in
    let s = c.in-Some.ensures.steps in
    let t = taken a.kinds.now a.addresses.now _ _ _ _ _ _ i _ l.invariant.1 l.invariant.2 s.0 s.1 c.clocked_by-needed.ensures.result in
    let f = frames-more a.kinds.now a.addresses.now 0 i in
    let e = t.frames_are in
    let w = frames-within a.kinds.now a.addresses.now 0 (i + 1) (length a.kinds.now) (omega (arith, t.within)) in
    sym (ne_eqb a.stems (stems_per_frame * frames_asked a.kinds.now a.addresses.now 0 (length a.kinds.now)) (λ y. omega (arith, y, w, f, e, l.invariant.3, c.if-rest-needed.true)))

pub loop-kind-preserved : goal.loop-kind-preserved
loop-kind-preserved c =
    let l = c.loop-kind in
    let a = c.args in
    let i = length l.yielded in
    let s = c.in-Some.ensures.steps in
    let t = taken a.kinds.now a.addresses.now _ _ _ _ _ _ i _ l.invariant.1 l.invariant.2 s.0 s.1 c.clocked_by-needed.ensures.result in
    let f = frames-more a.kinds.now a.addresses.now 0 i in
    let e = t.frames_are in
    let n : length (l.yielded ++ (c.in-Some.field-0-0, c.in-Some.field-0-1) ∷ []) ≡ i + 1 = length-append l.yielded _ in
    rw n (omega (arith, t.within), t.kinds_are, t.addresses_are, omega (arith, f, e, l.invariant.3, c.if-rest-needed.false))

pub returns : goal.returns
returns c =
    let l = c.loop-kind in
    let a = c.args in
    let v = l.invariant in
    let e : length l.yielded ≡ length a.kinds.now =
    elim c.in-None.ensures.steps [
      | inl e ↦ omega (arith, e.1.0, v.0, ap length v.1, length-drop (length l.yielded) a.kinds.now)
      | inr e ↦ omega (arith, e.1.0, v.0, ap length v.2, length-drop (length l.yielded) a.addresses.now, c.requires)
    ] in
    none_left l.rest (stems_per_frame * frames_asked a.kinds.now a.addresses.now 0 (length a.kinds.now)) a.stems (ap (λ (j : ℕ). l.rest + stems_per_frame * frames_asked a.kinds.now a.addresses.now 0 j) (sym e) ∙ v.3)
