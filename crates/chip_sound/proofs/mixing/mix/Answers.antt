use mathlib.Core.Path.{◌≡◌, refl, ◌∙◌}
use mathlib.Core.List.{List, ◌++◌}
use Prim.Native.Nat.{◌*◌, ◌≤◌}
use native.Mathlib.Omega.{arith}
use lib.IntN.{ℤ, pos}
use lib.ListN.{length, drop, length-replicate}
use Rattle.chip_sound.proofs.Loops.{prefix-length, room_most, ran-long, begin}
use Rattle.chip_sound.proofs.Mixes.{mixing-begin, mixing-turn, chip-over, left-over, right-over}
use Rattle.chip_sound.proofs.mixing.mix.Goals as goal

pub loop-at-init : goal.loop-at-init
loop-at-init g c =
    let a = c.args in
    let m = g.T.SideNumber in
    let sounds = c.second_sounds-sounds.result in
    let n = c.min-n in
    let start = begin a.ram.now a.queues.now sounds a.chip n.result c.requires.0 c.requires.1 c.core_at-first.result c.core_at-second.result c.core_at-first.ensures c.core_at-second.ensures in
    (mixing-begin m.silent m.plus a.ram.now a.queues.now sounds a.chip a.left.now a.right.now n.result c.core_at-first.result c.core_at-second.result start n.ensures, length-replicate 4096 (pos 0), length-replicate 4096 (pos 0), refl)

pub slice_bounds-run_core-end : goal.slice_bounds-run_core-end
slice_bounds-run_core-end g c =
    let end_in : 16 * c.min-count.result ≤ 4096 = omega (arith, c.min-count.ensures) in
    prefix-length _ _ (omega (arith, end_in, c.loop-at.invariant.1))

pub slice_bounds-others-end : goal.slice_bounds-others-end
slice_bounds-others-end g c =
    let end_in : 16 * c.min-count.result ≤ 4096 = omega (arith, c.min-count.ensures) in
    let room_in : c.room-more.result ≤ 4096 = omega (arith, room_most c.second_sounds-sounds.result (16 * c.min-count.result) c.room-more.result c.room-more.ensures) in
    omega (arith, room_in, c.loop-at.invariant.2)

pub slice_bounds-run_core-end-in-loop-at : goal.slice_bounds-run_core-end-in-loop-at
slice_bounds-run_core-end-in-loop-at g c =
    let end_in : 16 * c.min-count.result ≤ 4096 = omega (arith, c.min-count.ensures) in
    let room_in : c.room-more.result ≤ 4096 = omega (arith, room_most c.second_sounds-sounds.result (16 * c.min-count.result) c.room-more.result c.room-more.ensures) in
    prefix-length _ _ (omega (arith, room_in, c.loop-at.invariant.2))

pub slice_bounds-add-end : goal.slice_bounds-add-end
slice_bounds-add-end g c =
    let end_in : 16 * c.min-count.result ≤ 4096 = omega (arith, c.min-count.ensures) in
    let one_long : length (c.run_core-first.new.stems ++ drop (16 * c.min-count.result) c.loop-at.stems) ≡ 4096 = ran-long c.args.chip.version c.args.ram.now c.loop-at.queues 0 c.loop-at.first c.run_core-first.result (16 * c.min-count.result) c.loop-at.stems c.run_core-first.new.stems (record { result = c.run_core-first.ensures.result; given = c.run_core-first.ensures.stems; accepted = c.run_core-first.ensures.ram_value }) c.loop-at.invariant.1 end_in in
    prefix-length _ _ (omega (arith, one_long, end_in))

pub slice_bounds-others-end-in-loop-at : goal.slice_bounds-others-end-in-loop-at
slice_bounds-others-end-in-loop-at g c =
    let end_in : 16 * c.min-count.result ≤ 4096 = omega (arith, c.min-count.ensures) in
    let room_in : c.room-more.result ≤ 4096 = omega (arith, room_most c.second_sounds-sounds.result (16 * c.min-count.result) c.room-more.result c.room-more.ensures) in
    let two_long : length (c.run_core-second.new.stems ++ drop c.room-more.result c.loop-at.others) ≡ 4096 = ran-long c.args.chip.version c.args.ram.now c.run_core-first.new.queues 1 c.loop-at.second c.run_core-second.result c.room-more.result c.loop-at.others c.run_core-second.new.stems (record { result = c.run_core-second.ensures.result; given = c.run_core-second.ensures.stems; accepted = c.run_core-second.ensures.ram_value }) c.loop-at.invariant.2 room_in in
    omega (arith, two_long, room_in)

pub slice_bounds-add-end-in-loop-at : goal.slice_bounds-add-end-in-loop-at
slice_bounds-add-end-in-loop-at g c =
    let end_in : 16 * c.min-count.result ≤ 4096 = omega (arith, c.min-count.ensures) in
    let room_in : c.room-more.result ≤ 4096 = omega (arith, room_most c.second_sounds-sounds.result (16 * c.min-count.result) c.room-more.result c.room-more.ensures) in
    let two_long : length (c.run_core-second.new.stems ++ drop c.room-more.result c.loop-at.others) ≡ 4096 = ran-long c.args.chip.version c.args.ram.now c.run_core-first.new.queues 1 c.loop-at.second c.run_core-second.result c.room-more.result c.loop-at.others c.run_core-second.new.stems (record { result = c.run_core-second.ensures.result; given = c.run_core-second.ensures.stems; accepted = c.run_core-second.ensures.ram_value }) c.loop-at.invariant.2 room_in in
    prefix-length _ _ (omega (arith, two_long, room_in))

pub loop-at-preserved : goal.loop-at-preserved
loop-at-preserved g c =
    let end_in : 16 * c.min-count.result ≤ 4096 = omega (arith, c.min-count.ensures) in
    let room_in : c.room-more.result ≤ 4096 = omega (arith, room_most c.second_sounds-sounds.result (16 * c.min-count.result) c.room-more.result c.room-more.ensures) in
    let one_long : length (c.run_core-first.new.stems ++ drop (16 * c.min-count.result) c.loop-at.stems) ≡ 4096 = ran-long c.args.chip.version c.args.ram.now c.loop-at.queues 0 c.loop-at.first c.run_core-first.result (16 * c.min-count.result) c.loop-at.stems c.run_core-first.new.stems (record { result = c.run_core-first.ensures.result; given = c.run_core-first.ensures.stems; accepted = c.run_core-first.ensures.ram_value }) c.loop-at.invariant.1 end_in in
    let two_long : length (c.run_core-second.new.stems ++ drop c.room-more.result c.loop-at.others) ≡ 4096 = ran-long c.args.chip.version c.args.ram.now c.run_core-first.new.queues 1 c.loop-at.second c.run_core-second.result c.room-more.result c.loop-at.others c.run_core-second.new.stems (record { result = c.run_core-second.ensures.result; given = c.run_core-second.ensures.stems; accepted = c.run_core-second.ensures.ram_value }) c.loop-at.invariant.2 room_in in
    let kept : ◌≡◌ {A = List ℤ} c.run_core-first.new.queues c.args.queues.now = c.run_core-first.ensures.queues ∙ c.loop-at.invariant.3 in
    let m = g.T.SideNumber in
    let a = c.args in
    let l = c.loop-at in
    let n = c.min-n.result in
    let sounds = c.second_sounds-sounds.result in
    let count = c.min-count in
    let room = c.room-more in
    let f = c.run_core-first in
    let h = c.run_core-second in
    let d = c.add in (
      mixing-turn m.silent m.plus a.ram.now a.queues.now sounds a.chip a.left.now a.right.now n l.at l.first l.second l.left l.right l.invariant.0 c.loop-at-test.true count.result count.ensures l.stems l.others l.invariant.1 l.invariant.2 room.result room.ensures l.queues f.new.queues l.invariant.3 kept f.result h.result f.new.stems h.new.stems (record { result = c.run_core-first.ensures.result; given = c.run_core-first.ensures.stems; accepted = c.run_core-first.ensures.ram_value }) (record { result = c.run_core-second.ensures.result; given = c.run_core-second.ensures.stems; accepted = c.run_core-second.ensures.ram_value }) _ _ d.ensures.left d.ensures.right,
      one_long,
      two_long,
      h.ensures.queues ∙ kept,
    )

pub returns-clause-result : goal.returns-clause-result
returns-clause-result g c =
    let m = g.T.SideNumber in
    let a = c.args in
    let l = c.loop-at in
    let chip = c.with_cores in
    chip-over m.silent m.plus a.ram.now a.queues.now c.second_sounds-sounds.result a.chip a.left.now a.right.now c.min-n.result l.at l.first l.second l.left l.right l.invariant.0 c.second_sounds-sounds.ensures c.loop-at-test.false chip.result chip.ensures

pub returns-clause-left : goal.returns-clause-left
returns-clause-left g c =
    let m = g.T.SideNumber in
    let a = c.args in
    let l = c.loop-at in
    left-over m.silent m.plus a.ram.now a.queues.now c.second_sounds-sounds.result a.chip a.left.now a.right.now c.min-n.result l.at l.first l.second l.left l.right l.invariant.0 c.second_sounds-sounds.ensures c.loop-at-test.false

pub returns-clause-right : goal.returns-clause-right
returns-clause-right g c =
    let m = g.T.SideNumber in
    let a = c.args in
    let l = c.loop-at in
    right-over m.silent m.plus a.ram.now a.queues.now c.second_sounds-sounds.result a.chip a.left.now a.right.now c.min-n.result l.at l.first l.second l.left l.right l.invariant.0 c.second_sounds-sounds.ensures c.loop-at-test.false
