use Rattle.line_fields.proofs.Numbers.{told-room}
use mathlib.Core.Path.{sym, ◌∙◌}
use Rattle.line_fields.specs.Text.{line_text}
use Rattle.line_fields.proofs.Putting.{write-yes, write-no}
use Rattle.line_fields.proofs.writing.write_line.Goals as goal

pub returns-then-fits : goal.returns-then-fits
returns-then-fits c =
    let a = c.args in
    let t = told-room _ a.out.now (line_text a.numbers.now)
    (write-yes a.out.now c.put_line.new.out a.numbers.now c.put_line.result (sym c.fits.ensures ∙ c.if-fits.true) c.put_line.ensures) in
    record { result = t.0; out = t.1.0; number = t.1.1 }

pub returns : goal.returns
returns c =
    let a = c.args in
    let t = told-room _ a.out.now (line_text a.numbers.now)
    (write-no a.out.now a.numbers.now (sym c.fits.ensures ∙ c.if-fits.false)) in
    record { result = t.0; out = t.1.0; number = t.1.1 }
