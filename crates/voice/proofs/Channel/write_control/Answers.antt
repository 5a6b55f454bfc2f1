use Rattle.std.proofs.Common.{ap, ◌∙◌, arith}
use Rattle.voice.specs.Channel.{set_registers}
use Rattle.voice.proofs.Offsets.{write-waveform, write-restart, write-latch, write-sample, write-sample-control, write-rest, entries-pushed, entries-kept}
use Rattle.voice.proofs.Channel.write_control.Goals as goal

pub returns-in-2 : goal.returns-in-2
returns-in-2 c = let a = c.args in (c.write_waveform.ensures ∙ write-waveform a.version a.self a.offset a.value c.in-2.is, entries-kept a.version a.self a.offset a.value a.queue.now (λ e. omega (arith, c.in-2.is)))

pub returns-in-10 : goal.returns-in-10
returns-in-10 c = let a = c.args in (c.restart.ensures ∙ write-restart a.version a.self a.offset a.value c.in-10.is, entries-kept a.version a.self a.offset a.value a.queue.now (λ e. omega (arith, c.in-10.is)))

pub returns-in-12 : goal.returns-in-12
returns-in-12 c = let a = c.args in (c.write_latch.ensures ∙ write-latch a.version a.self a.offset a.value c.in-12.is, entries-kept a.version a.self a.offset a.value a.queue.now (λ e. omega (arith, c.in-12.is)))

pub returns-in-13 : goal.returns-in-13
returns-in-13 c = let a = c.args in (c.write_sample.ensures.0 ∙ write-sample a.version a.self a.offset a.value c.in-13.is, c.write_sample.ensures.1 ∙ entries-pushed a.version a.self a.offset a.value a.queue.now c.in-13.is)

pub returns-in-26 : goal.returns-in-26
returns-in-26 c = let a = c.args in (c.write_sample_control.ensures ∙ write-sample-control a.version a.self a.offset a.value c.in-26.is, entries-kept a.version a.self a.offset a.value a.queue.now (λ e. omega (arith, c.in-26.is)))

pub returns-in_default : goal.returns-in_default
returns-in_default c =
    let a = c.args in
    (ap (set_registers a.self) c.write-h.ensures ∙ write-rest a.version a.self a.offset a.value (λ e. omega arith) (λ e. omega arith) (λ e. omega arith) (λ e. omega arith) (λ e. omega arith), entries-kept a.version a.self a.offset a.value a.queue.now (λ e. omega arith))
