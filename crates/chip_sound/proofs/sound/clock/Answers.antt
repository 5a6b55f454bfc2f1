use Rattle.std.specs.Prelude.{Ok, is_ok}
use mathlib.Core.Path.{◌≡◌, refl, ap, ap₂, ◌∙◌}
use mathlib.Core.List.{List, ◌++◌}
use Prim.Native.Nat.{ℕ, ◌+◌, ◌-◌, ◌*◌, ◌≤◌}
use native.Mathlib.Omega.{arith}
use lib.IntN.{ℤ, pos}
use lib.ListN.{length, drop, length-replicate}
use borrow.Author.Tests.{eqb-true}
use borrow.Rule.Slice.PartMut.{put_mid}
use Rattle.cores.specs.Sizes.{chip_queues}
use Rattle.s3w2.specs.declared.Chip.{Chip}
use Rattle.s3w2.specs.declared.Returned.{Returned}
use Rattle.s3w2.specs.declared.Returned.TheVariants.{Ended}
use Rattle.s3w2.specs.Answers.{answered}
use Rattle.chip_sound.specs.Sound.{clock_called, clock_stems}
use Rattle.s3w2.proofs.Refused.{away, stays, goes-on, goes-called}
use Rattle.s3w2.proofs.Cases.{all_there}
use Rattle.chip_sound.proofs.Endings.{both-ended}
use Rattle.chip_sound.proofs.Loops.{prefix-length, room_most, ran-long, begin}
use Rattle.chip_sound.proofs.Clocks.{clocking-begin, clocking-turn, clock-over, stems-over}
use Rattle.chip_sound.proofs.sound.clock.Goals as goal

pub returns-in-Err-clause-called : goal.returns-in-Err-clause-called
unfolding clock_called clock_stems
returns-in-Err-clause-called c =
    let r = c.refusal_of_clock in
    let no = ap is_ok c.in-Err.is in
    (c.answers.ensures ∙ away r.result _ r.ensures _ c.in-Err.is _ _)

pub returns-in-Err-clause-stems : goal.returns-in-Err-clause-stems
unfolding clock_called clock_stems
returns-in-Err-clause-stems c =
    let r = c.refusal_of_clock in
    let no = ap is_ok c.in-Err.is in
    (stays r.result _ r.ensures _ _ no)

pub loop-done-init : goal.loop-done-init
loop-done-init c =
    let a = c.args in
    let r = c.refusal_of_clock in
    let sounds = c.second_sounds-sounds.result in
    let t = all_there _ _ _ _ r.result r.ensures (ap is_ok c.in_default.is) in
    let g = begin a.ram.now a.queues.now sounds a.chip a.frames t.accepted (eqb-true (length a.queues.now) chip_queues t.lent) c.core_at-one.result c.core_at-two.result c.core_at-one.ensures c.core_at-two.ensures in
    (clocking-begin a.ram.now a.queues.now sounds a.chip a.stems.now a.frames c.core_at-one.result c.core_at-two.result g (eqb-true (length a.stems.now) (32 * a.frames) t.enough), length-replicate 4096 (pos 0), length-replicate 4096 (pos 0), refl)

pub slice_bounds-run_core-end : goal.slice_bounds-run_core-end
slice_bounds-run_core-end c =
    let end_in : 16 * c.min-count.result ≤ 4096 = omega (arith, c.min-count.ensures) in
    prefix-length _ _ (omega (arith, end_in, c.loop-done.invariant.1))

pub slice_bounds-second-end : goal.slice_bounds-second-end
slice_bounds-second-end c =
    let end_in : 16 * c.min-count.result ≤ 4096 = omega (arith, c.min-count.ensures) in
    let room_in : c.room-more.result ≤ 4096 = omega (arith, room_most c.second_sounds-sounds.result (16 * c.min-count.result) c.room-more.result c.room-more.ensures) in
    omega (arith, room_in, c.loop-done.invariant.2)

pub slice_bounds-run_core-end-in-loop-done : goal.slice_bounds-run_core-end-in-loop-done
slice_bounds-run_core-end-in-loop-done c =
    let end_in : 16 * c.min-count.result ≤ 4096 = omega (arith, c.min-count.ensures) in
    let room_in : c.room-more.result ≤ 4096 = omega (arith, room_most c.second_sounds-sounds.result (16 * c.min-count.result) c.room-more.result c.room-more.ensures) in
    prefix-length _ _ (omega (arith, room_in, c.loop-done.invariant.2))

pub slice_bounds-second-end-in-loop-done : goal.slice_bounds-second-end-in-loop-done
slice_bounds-second-end-in-loop-done c =
    let end_in : 16 * c.min-count.result ≤ 4096 = omega (arith, c.min-count.ensures) in
    let room_in : c.room-more.result ≤ 4096 = omega (arith, room_most c.second_sounds-sounds.result (16 * c.min-count.result) c.room-more.result c.room-more.ensures) in
    let two_long : length (c.run_core-two.new.stems ++ drop c.room-more.result c.loop-done.second) ≡ 4096 = ran-long c.args.chip.version c.args.ram.now c.run_core-one.new.queues 1 c.loop-done.two c.run_core-two.result c.room-more.result c.loop-done.second c.run_core-two.new.stems (record { result = c.run_core-two.ensures.result; given = c.run_core-two.ensures.stems; accepted = c.run_core-two.ensures.ram_value }) c.loop-done.invariant.2 room_in in
    omega (arith, two_long, end_in)

pub loop-done-preserved : goal.loop-done-preserved
loop-done-preserved c =
    let end_in : 16 * c.min-count.result ≤ 4096 = omega (arith, c.min-count.ensures) in
    let room_in : c.room-more.result ≤ 4096 = omega (arith, room_most c.second_sounds-sounds.result (16 * c.min-count.result) c.room-more.result c.room-more.ensures) in
    let one_long : length (c.run_core-one.new.stems ++ drop (16 * c.min-count.result) c.loop-done.first) ≡ 4096 = ran-long c.args.chip.version c.args.ram.now c.loop-done.queues 0 c.loop-done.one c.run_core-one.result (16 * c.min-count.result) c.loop-done.first c.run_core-one.new.stems (record { result = c.run_core-one.ensures.result; given = c.run_core-one.ensures.stems; accepted = c.run_core-one.ensures.ram_value }) c.loop-done.invariant.1 end_in in
    let two_long : length (c.run_core-two.new.stems ++ drop c.room-more.result c.loop-done.second) ≡ 4096 = ran-long c.args.chip.version c.args.ram.now c.run_core-one.new.queues 1 c.loop-done.two c.run_core-two.result c.room-more.result c.loop-done.second c.run_core-two.new.stems (record { result = c.run_core-two.ensures.result; given = c.run_core-two.ensures.stems; accepted = c.run_core-two.ensures.ram_value }) c.loop-done.invariant.2 room_in in
    let kept : ◌≡◌ {A = List ℤ} c.run_core-one.new.queues c.args.queues.now = c.run_core-one.ensures.queues ∙ c.loop-done.invariant.3 in
    let a = c.args in
    let l = c.loop-done in
    let sounds = c.second_sounds-sounds.result in
    let count = c.min-count in
    let room = c.room-more in
    let f = c.run_core-one in
    let g = c.run_core-two in
    let d = c.pair in
    let wide : 32 * l.done + 32 * count.result - 32 * l.done ≡ 32 * count.result = omega arith in (
      clocking-turn a.ram.now a.queues.now sounds a.chip a.stems.now a.frames l.done l.one l.two l.stems l.second l.invariant.0 c.loop-done-test.true count.result count.ensures l.first l.invariant.1 l.invariant.2 room.result room.ensures l.queues f.new.queues l.invariant.3 kept f.result g.result f.new.stems g.new.stems (record { result = c.run_core-one.ensures.result; given = c.run_core-one.ensures.stems; accepted = c.run_core-one.ensures.ram_value }) (record { result = c.run_core-two.ensures.result; given = c.run_core-two.ensures.stems; accepted = c.run_core-two.ensures.ram_value }) d.new.stems _ d.ensures (ap (λ (j : ℕ). put_mid (32 * l.done) j l.stems d.new.stems) wide),
      one_long,
      two_long,
      g.ensures.queues ∙ kept,
    )

pub returns-clause-called : goal.returns-clause-called
unfolding clock_called clock_stems
returns-clause-called c =
    let a = c.args in
    let l = c.loop-done in
    let sounds = c.second_sounds-sounds.result in
    let r = c.refusal_of_clock in
    let done = ap is_ok c.in_default.is in
    let e = c.second_sounds-sounds.ensures in
    let h = c.loop-done-test.false in
    let chip = c.with_cores-after in
    let now = clock-over a.ram.now a.queues.now sounds a.chip a.stems.now a.frames l.done l.one l.two l.stems l.second l.invariant.0 e h chip.result chip.ensures in
    let was = c.flags-was in
    let told = c.ended_since.ensures ∙ ap (λ (x : ℕ). Ended x) (both-ended a.chip a.ram.now a.queues.now a.frames chip.result was.result.first was.result.second was.ensures.first was.ensures.second now) in
    (goes-called r.result _ r.ensures _ _ _ done (c.answers-2.ensures ∙ ap₂ (λ (x : Chip) (y : Returned). answered x (Ok y)) now told))

pub returns-clause-stems : goal.returns-clause-stems
unfolding clock_called clock_stems
returns-clause-stems c =
    let a = c.args in
    let l = c.loop-done in
    let sounds = c.second_sounds-sounds.result in
    let r = c.refusal_of_clock in
    let done = ap is_ok c.in_default.is in
    let e = c.second_sounds-sounds.ensures in
    let h = c.loop-done-test.false in
    (stems-over a.ram.now a.queues.now sounds a.chip a.stems.now a.frames l.done l.one l.two l.stems l.second l.invariant.0 e h ∙ goes-on r.result _ r.ensures _ _ done)
