use mathlib.Core.Bool.{true, false}
use lib.ListN.{length}
use Rattle.log_state.proofs.Cases.{head-taken, voice-taken}
use Rattle.log_state.proofs.lines.take_line.Goals as goal

pub returns-then-k-eq0 : goal.returns-then-k-eq0
returns-then-k-eq0 c =
    let a = c.args in
    let w = head-taken a.stored a.player (length a.ram.now) a.queues.now a.k a.text.now _ _ c.if-k-eq0.true c.read_head.ensures c.taken.ensures in
    record { result = w.0; queues = w.1 }

pub returns-then-stored : goal.returns-then-stored
returns-then-stored c =
    let a = c.args in
    let e = c.read_stored_voice.ensures in
    let w = voice-taken a.stored a.player (length a.ram.now) a.queues.now a.k a.text.now _ _ true _ c.if-k-eq0.false c.if-stored.true _ c.own_line-line.ensures (e.called, e.queues) c.taken-then-stored.ensures in
    record { result = w.0; queues = w.1 }

pub returns : goal.returns
returns c =
    let a = c.args in
    let e = c.read_voice.ensures in
    let w = voice-taken a.stored a.player (length a.ram.now) a.queues.now a.k a.text.now _ _ false _ c.if-k-eq0.false c.if-stored.false _ c.own_line-line.ensures (e.called, e.queues) c.taken-2.ensures in
    record { result = w.0; queues = w.1 }
