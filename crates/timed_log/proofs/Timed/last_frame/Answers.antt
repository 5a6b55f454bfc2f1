use Rattle.log_player.specs.Worlds.{world}
use Rattle.timed_log.proofs.Turning.{lasts, lasts-none}
use Rattle.timed_log.proofs.Timed.last_frame.Goals as goal

pub returns-then-sounds_last : goal.returns-then-sounds_last
returns-then-sounds_last c =
    let a = c.args in
    let e = c.run.ensures in
    let w = lasts (world a.self.player a.ram.now a.queues.now) a.self.clock a.rest a.out.now _ c.sounds_last.ensures _ _ _ _ c.if-sounds_last.true (e.result, (e.ram, (e.queues, (e.out, e.bound)))) in
    record { result = w.0; ram = w.1.0; queues = w.1.1.0; out = w.1.1.1.0; bound = w.1.1.1.1 }

pub returns : goal.returns
returns c =
    let a = c.args in
    let w = lasts-none (world a.self.player a.ram.now a.queues.now) a.self.clock a.rest a.out.now _ c.sounds_last.ensures c.if-sounds_last.false in
    record { result = w.0; ram = w.1.0; queues = w.1.1.0; out = w.1.1.1.0; bound = w.1.1.1.1 }
