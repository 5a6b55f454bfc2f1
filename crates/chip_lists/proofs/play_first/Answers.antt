use mathlib.Core.Path.{refl, sym, ap, ◌∙◌}
use mathlib.Core.List.{List, ◌++◌}
use native.Mathlib.Omega.{arith}
use lib.IntN.{ℤ}
use lib.ListN.{length, drop, take-append-drop}
use lib.Seq.{sets, length-take-le}
use Rattle.sizes.specs.Sizes.{queue_buffer}
use Rattle.frames.specs.Listing.{Listed}
use Rattle.frames.proofs.Asks.{shut, was-played, was-not}
use Rattle.s3w2.specs.Chips.{core_at}
use Rattle.chip_lists.proofs.Alone.{alone, first-away, first-lends, first-played}
use Rattle.chip_lists.proofs.Ones.{lent_first}
use Rattle.s3w2.proofs.Ranges.{chip-fits}
use Rattle.chip_lists.proofs.Rested.{first-left}
use Rattle.chip_lists.proofs.play_first.Goals as goal

pub slice_bounds-own-end : goal.slice_bounds-own-end
slice_bounds-own-end c = omega (arith, (alone _ _ _ _ _ c.requires).lent)

pub slice_bounds-own-end-2 : goal.slice_bounds-own-end-2
slice_bounds-own-end-2 c =
    sym (length-take-le queue_buffer c.args.queues.now (omega (arith, (alone _ _ _ _ _ c.requires).lent)))

pub returns-in_default : goal.returns-in_default
returns-in_default c =
    let a = c.args in
    let k = c.play.ensures in
    let r = c.refusal_without_stems-refusal in
    let l = lent_first a.chip a.ram.now a.queues.now a.values.now in
    let barred = was-not a.kinds.now a.addresses.now (length a.stems.now) l (sym k.result ∙ c.in_default.is) in
    let o = sym (shut a.kinds.now a.addresses.now (length a.stems.now) l barred) in
    let lower = k.left.queues_is ∙ ap (λ (x : Listed). x.queues) o in
    first-away a.kinds.now a.addresses.now a.chip a.ram.now a.queues.now a.values.now a.stems.now a.others.now (alone _ _ _ _ _ c.requires) barred r.result _ _ _ _ _ r.ensures c.answers.ensures
    (k.left.ram_is ∙ ap (λ (x : Listed). x.ram) o) (ap (λ (q : List ℤ). q ++ drop queue_buffer a.queues.now) lower ∙ take-append-drop queue_buffer a.queues.now) (k.left.values_is ∙ ap (λ (x : Listed). x.values) o)
    (k.left.stems_is ∙ ap (λ (x : Listed). sets a.stems.now 0 x.stems) o)

pub returns : goal.returns
returns c =
    let a = c.args in
    let p = c.play in
    let k = p.ensures in
    let f = chip-fits a.chip c.well_formed.0.1.1 in
    let g = alone (core_at a.chip 1) (length a.ram.now) (length a.queues.now) (length a.stems.now) (length a.others.now) c.requires in
    let z = (f.each 1 (omega arith)).sized in
    let was = was-played a.kinds.now a.addresses.now (length a.stems.now) (lent_first a.chip a.ram.now a.queues.now a.values.now) c.in-Some.played (sym k.result ∙ c.in-Some.is) in
    let lends = first-lends a.kinds.now a.addresses.now a.chip a.ram.now a.queues.now a.values.now a.stems.now a.others.now g z was.0 in
    let leaves = first-left a.kinds.now a.addresses.now a.chip a.ram.now a.queues.now a.values.now a.stems.now a.others.now f.sized lends g.still z k.each_accepted c.in-Some.played _ _ _ _ _ was.1 k.left c.clear.ensures k.ram_value in
    first-played a.kinds.now a.addresses.now a.chip a.ram.now a.queues.now a.values.now a.stems.now a.others.now g z was.0 _ _ _ _ _ _ _ refl leaves p.auto.ram c.clear.ensures
