use Rattle.std.proofs.Common.{◌≡◌, ℕ, ◌-◌, ◌<◌, eqb, length, take, drop, sym, ap, ◌∙◌, arith, length-drop, length-take, rules, tests}
use Rattle.std.proofs.lemmas.Iterator.{YieldsList-from_slice, IsFirst-from_position}
use Rattle.frames.specs.Listing.{write_pcm_ram_kind}
use Rattle.frames.proofs.Counts.{alike, part-at}
use Rattle.frames.proofs.lists.run_end.Goals as goal

pub returns-in-Some-clause-run : goal.returns-in-Some-clause-run
returns-in-Some-clause-run c =
    let a = c.args in
    let n = a.count - a.from in
    let f = IsFirst-from_position _ _ _ (λ y. Unit {0}) (λ y. eqb y write_pcm_ram_kind ≡ a.stores) c.position.ensures.ran (YieldsList-from_slice (take n (drop a.from a.kinds.now)) (search rules)) (λ x q k. tt) (λ x q k. (search (rules, tests), alike _ _ (search (rules, tests)))) in
    let g = rw c.in-Some.is at f in
    λ j h k.
    let inside : j - a.from < n = omega (arith, g.0, length-take n (drop a.from a.kinds.now)) in
    ap (λ (y : ℕ). eqb y write_pcm_ram_kind) (sym (part-at a.kinds.now a.from n (j - a.from) j inside (omega arith))) ∙ g.2 (j - a.from) 0 (omega arith) (omega arith)

pub returns-in-None-clause-run : goal.returns-in-None-clause-run
returns-in-None-clause-run c =
    let a = c.args in
    let n = a.count - a.from in
    let f = IsFirst-from_position _ _ _ (λ y. Unit {0}) (λ y. eqb y write_pcm_ram_kind ≡ a.stores) c.position.ensures.ran (YieldsList-from_slice (take n (drop a.from a.kinds.now)) (search rules)) (λ x q k. tt) (λ x q k. (search (rules, tests), alike _ _ (search (rules, tests)))) in
    let g = rw c.in-None.is at f in
    λ j h k.
    let inside : j - a.from < length (take n (drop a.from a.kinds.now)) = omega (arith, length-take n (drop a.from a.kinds.now), length-drop a.from a.kinds.now, c.requires.1) in
    ap (λ (y : ℕ). eqb y write_pcm_ram_kind) (sym (part-at a.kinds.now a.from n (j - a.from) j (omega arith) (omega arith))) ∙ g (j - a.from) 0 (omega arith) inside
