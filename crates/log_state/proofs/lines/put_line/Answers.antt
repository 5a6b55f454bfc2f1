use lib.ListN.{length}
use Rattle.log_state.proofs.Cases.{head-written, voice-written}
use Rattle.log_state.proofs.lines.put_line.Goals as goal

pub returns-then-k-eq0 : goal.returns-then-k-eq0
returns-then-k-eq0 c =
    let e = c.write_head.ensures in
    let w = head-written c.args.player.chip (length c.args.ram.now) c.args.queues.now c.args.k c.args.out.now _ _ c.if-k-eq0.true (e.answer, e.out) in
    record { answer = w.0; out = w.1 }

pub returns : goal.returns
returns c =
    let e = c.write_voice.ensures in
    let w = voice-written c.args.player.chip (length c.args.ram.now) c.args.queues.now c.args.k c.args.out.now _ _ c.if-k-eq0.false (e.answer, e.out) in
    record { answer = w.0; out = w.1 }
