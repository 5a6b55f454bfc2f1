use mathlib.Core.Path.{sym, ◌∙◌}
use Rattle.session_lines.proofs.Whole.{read-yes, read_no, after_same, after-no}
use Rattle.session_lines.proofs.reading.read_voice.Goals as goal

pub returns-in-Ok : goal.returns-in-Ok
returns-in-Ok c =
    let t = c.take_voice.ensures in
    let s = after_same _ _ _ _ _ _ _ _ (read-yes _ _ _ _ _ _ c.has_3ws8pna.ensures (sym c.in-Ok.is ∙ c.read_line-fields.ensures.result) c.read_line-fields.ensures.numbers) (t.result, (t.wavetable, t.queue)) in
    record { result = s.0; wavetable = s.1.0; queue = s.1.1 }

pub returns-in-Err : goal.returns-in-Err
returns-in-Err c =
    let a = c.args in
    let s = after-no _ _ a.c a.wavetable.now a.queue.now (read_no _ _ _ _ _ c.has_3ws8pna.ensures (sym c.in-Err.is ∙ c.read_line-fields.ensures.result)) in
    record { result = s.0; wavetable = s.1.0; queue = s.1.1 }
