use Rattle.line_fields.proofs.Numbers.{told-room}
use mathlib.Core.Path.{ap, ◌∙◌}
use Prim.Native.Nat.{ℕ}
use native.Mathlib.Omega.{arith}
use lib.ListN.{replicate, length-replicate}
use lib.Seq.{sets}
use Rattle.session_lines.proofs.Whole.{packed, write-yes, write-none}
use Rattle.session_lines.proofs.writing.write_voice.Goals as goal

pub returns-then-voice-ge-CHIP_VOICES : goal.returns-then-voice-ge-CHIP_VOICES
returns-then-voice-ge-CHIP_VOICES c =
    let p = (write-none _ _ _ _ _ c.if-voice-ge-CHIP_VOICES.true) in
    record { result = p.0; out = p.1; number = (told-room _ _ _ p).1.1 }

pub returns : goal.returns
returns c =
    let p = (let a = c.args in
    write-yes a.voice a.c a.wavetable.now a.queue.now a.out.now _ _ _ c.if-voice-ge-CHIP_VOICES.false
    (packed a.voice a.c a.wavetable.now a.queue.now (replicate 2330 0) _ _ _ _ (omega (arith, length-replicate {0} {A = ℕ} 2330 0)) (c.put_first.ensures ∙ ap (sets (replicate 2330 0) 0) c.state_numbers-states.ensures) c.put_table.ensures c.put_queue-count.ensures.numbers c.put_queue-count.ensures.result)
    c.write_line.ensures.result c.write_line.ensures.out) in
    record { result = p.0; out = p.1; number = (told-room _ _ _ p).1.1 }
