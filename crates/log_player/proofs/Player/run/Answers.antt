use mathlib.Core.Path.{sym, ap, subst, ◌∙◌}
use Prim.Native.Nat.{◌≤◌}
use lib.ListN.{length}
use lib.Seq.{sets}
use Rattle.std.specs.Prelude.{is_ok}
use Rattle.log_player.specs.Runs.{Run, ran_to}
use Rattle.log_player.proofs.Running.{allowed, run-refused, run-accepted}
use Rattle.log_player.proofs.Player.run.Goals as goal

pub returns-in-Err : goal.returns-in-Err
returns-in-Err c =
    let a = c.args in
    let w = run-refused a.out.now a.input.now a.self a.ram.now a.queues.now a.number a.from _ c.refusal_of_sound.ensures _ c.in-Err.is _ c.ran.ensures in
    record { result = w.0; ram = w.1.0; queues = w.1.1.0; out = w.1.1.1.0; bound = w.1.1.1.1 }

pub run_lines-requires : goal.run_lines-requires
run_lines-requires c =
    let a = c.args in
    sym (allowed a.out.now a.input.now a.self a.ram.now a.queues.now a.number a.from _ c.refusal_of_sound.ensures (ap is_ok c.in_default.is))

pub returns-clause-result : goal.returns-clause-result
returns-clause-result c =
    let a = c.args in
    let e = run-accepted a.out.now a.input.now a.self a.ram.now a.queues.now a.number a.from _ c.refusal_of_sound.ensures (ap is_ok c.in_default.is) in
    let k = c.run_lines.ensures in (k.result ∙ ap ran_to e)

pub returns-clause-ram : goal.returns-clause-ram
returns-clause-ram c =
    let a = c.args in
    let e = run-accepted a.out.now a.input.now a.self a.ram.now a.queues.now a.number a.from _ c.refusal_of_sound.ensures (ap is_ok c.in_default.is) in
    let k = c.run_lines.ensures in (k.ram ∙ ap (λ (r : Run). r.world.ram) e)

pub returns-clause-queues : goal.returns-clause-queues
returns-clause-queues c =
    let a = c.args in
    let e = run-accepted a.out.now a.input.now a.self a.ram.now a.queues.now a.number a.from _ c.refusal_of_sound.ensures (ap is_ok c.in_default.is) in
    let k = c.run_lines.ensures in (k.queues ∙ ap (λ (r : Run). r.world.queues) e)

pub returns-clause-out : goal.returns-clause-out
returns-clause-out c =
    let a = c.args in
    let e = run-accepted a.out.now a.input.now a.self a.ram.now a.queues.now a.number a.from _ c.refusal_of_sound.ensures (ap is_ok c.in_default.is) in
    let k = c.run_lines.ensures in (k.out ∙ ap (λ (r : Run). sets a.out.now 0 r.text) e)

pub returns-clause-bound : goal.returns-clause-bound
returns-clause-bound c =
    let a = c.args in
    let e = run-accepted a.out.now a.input.now a.self a.ram.now a.queues.now a.number a.from _ c.refusal_of_sound.ensures (ap is_ok c.in_default.is) in
    let k = c.run_lines.ensures in (subst (λ (r : Run). length r.text ≤ length a.out.now) e k.bound)
