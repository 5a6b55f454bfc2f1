use Rattle.session_lines.proofs.Told.{told-voice}
use mathlib.Core.Path.{sym, ap, ◌∙◌}
use Rattle.std.specs.Prelude.{Err}
use Rattle.std.proofs.lemmas.Result.{err_from_is_err_and}
use Rattle.session_lines.specs.Lines.{told_of}
use Rattle.session_lines.proofs.Whole.{read-yes, read_no, refused}
use Rattle.session_lines.proofs.reading.check_voice.Goals as goal

pub returns : goal.returns
returns c =
    let e = c.told.ensures ∙ sym (ap told_of (read-yes _ _ _ _ _ _ c.has_3ws8pna.ensures (sym c.in_ok-read_line.was ∙ c.read_line.ensures.result) c.read_line.ensures.numbers)) in
    record { result = e; number = (told-voice _ _ e).1 }

pub returns-in_err-read_line : goal.returns-in_err-read_line
returns-in_err-read_line c =
    let r = err_from_is_err_and c.from_residual.result c.from_residual.ensures.1 in
    let e = r.1 ∙ ap Err r.2 ∙ sym (ap told_of (read_no _ _ _ _ _ c.has_3ws8pna.ensures (sym c.in_err-read_line.was ∙ c.read_line.ensures.result)) ∙ refused _) in
    record { result = e; number = (told-voice _ _ e).1 }
