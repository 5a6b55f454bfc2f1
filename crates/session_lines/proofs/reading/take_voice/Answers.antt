use mathlib.Core.Path.{sym, ◌∙◌}
use Rattle.session_lines.proofs.Whole.{after-yes}
use Rattle.session_lines.proofs.reading.take_voice.Goals as goal

pub returns : goal.returns
returns c =
    let a = c.args in
    let s = after-yes a.line.stored a.line.version _ _ c.queue_told-told.ensures a.c _ _ _ _ _ (sym c.is_allowed.ensures ∙ c.if-not-is_allowed.false) c.channel.ensures c.take_table.ensures c.take_samples.ensures in
    record { result = s.0; wavetable = s.1.0; queue = s.1.1 }
