use mathlib.Core.Path.{sym, ap, ◌∙◌}
use Prim.Native.Nat.{ℕ, ◌*◌}
use native.Mathlib.Omega.{arith}
use lib.ListN.{length, drop}
use lib.Seq.{length-take-le}
use Rattle.sizes.specs.Sizes.{queue_buffer, stems_per_frame}
use Rattle.voices.specs.Accepted.{accepts_core}
use Rattle.frames.specs.Listing.{played_of}
use Rattle.s3w2.specs.Chips.{core_at}
use Rattle.s3w2.proofs.Fits.{core-accepts}
use Rattle.chip_lists.proofs.Ones.{lent_first, one_left}
use Rattle.chip_lists.proofs.Parts.{lower_long, upper_long, upper-slice, upper-put}
use Rattle.s3w2.proofs.Ranges.{chip-fits}
use Rattle.chip_lists.proofs.SecondCalls.{one-frames, one-played, one-is, one-there}
use Rattle.chip_lists.proofs.play_one.Goals as goal

pub slice_bounds-play-end-2 : goal.slice_bounds-play-end-2
slice_bounds-play-end-2 c =
    sym (length-take-le queue_buffer c.args.queues.now (omega (arith, c.requires.fact_2.lent)))

pub second_call-other-requires-clause-fact_3 : goal.second_call-other-requires-clause-fact_3
second_call-other-requires-clause-fact_3 c =
    let a = c.args in
    let g = c.requires.fact_2 in
    let k = c.play.auto in
    let ok = core-accepts a.chip (length a.ram.now) g.accepted 1 (omega arith) in
    let l = lent_first a.chip a.ram.now a.queues.now a.values.now in
    let n = one-frames a.kinds.now a.addresses.now 0 l c.requires.fact_1.0 c.requires.fact_1.1 c.requires.fact_1.2 in (ap (accepts_core (core_at a.chip 1) a.chip.version) k.ram ∙ ok)

pub second_call-other-requires-clause-fact_4 : goal.second_call-other-requires-clause-fact_4
second_call-other-requires-clause-fact_4 c =
    let a = c.args in
    let g = c.requires.fact_2 in
    let l = lent_first a.chip a.ram.now a.queues.now a.values.now in
    let n = one-frames a.kinds.now a.addresses.now 0 l c.requires.fact_1.0 c.requires.fact_1.1 c.requires.fact_1.2 in (g.alike ∙ g.enough ∙ ap (λ (m : ℕ). stems_per_frame * m) n)

pub returns : goal.returns
returns c =
    let a = c.args in
    let g = c.requires.fact_2 in
    let f = chip-fits a.chip c.well_formed.0.1.1 in
    let r = c.play in
    let p = r.ensures in
    let s = c.second_call-other in
    let low = lower_long a.queues.now g.lent in
    let high = upper_long a.queues.now g.lent in
    let ok = core-accepts a.chip (length a.ram.now) g.accepted 0 (omega arith) in
    let upper = drop queue_buffer a.queues.now in
    let same = r.auto.queues ∙ low in
    let l = lent_first a.chip a.ram.now a.queues.now a.values.now in
    let n = one-frames a.kinds.now a.addresses.now (length a.stems.now) l c.requires.fact_1.0 c.requires.fact_1.1 c.requires.fact_1.2 in
    let enough = g.enough ∙ ap (λ (m : ℕ). stems_per_frame * m) n in
    let e = one-played a.kinds.now a.addresses.now (length a.stems.now) l c.requires.fact_1.0 c.requires.fact_1.1 c.requires.fact_1.2 low ok enough in
    let i = one-is a.kinds.now a.addresses.now (length a.stems.now) l c.requires.fact_1.0 c.requires.fact_1.1 c.requires.fact_1.2 low ok enough c.in-Some.played (sym p.result ∙ c.in-Some.is) in
    one_left a.kinds.now a.addresses.now a.chip a.ram.now a.queues.now a.values.now a.stems.now a.others.now f.sized g (played_of a.kinds.now a.addresses.now (length a.stems.now) l) c.in-Some.played _ _ _ _
    (record { is = e; played-is = i; left = p.left; accepted = p.ram_value ok })
    _ (upper-slice r.new.queues upper same high) _ _ s.new.queues _ _ _ s.ensures (upper-put r.new.queues upper same high s.new.queues)

pub returns-in_default : goal.returns-in_default
returns-in_default c =
    let a = c.args in
    let g = c.requires.fact_2 in
    let l = lent_first a.chip a.ram.now a.queues.now a.values.now in
    let n = one-frames a.kinds.now a.addresses.now (length a.stems.now) l c.requires.fact_1.0 c.requires.fact_1.1 c.requires.fact_1.2 in
    one-there a.kinds.now a.addresses.now (length a.stems.now) l c.requires.fact_1.0 c.requires.fact_1.1 c.requires.fact_1.2 (lower_long a.queues.now g.lent) (core-accepts a.chip (length a.ram.now) g.accepted 0 (omega arith)) (g.enough ∙ ap (λ (m : ℕ). stems_per_frame * m) n)
    (sym c.play.ensures.result ∙ c.in_default.is)
