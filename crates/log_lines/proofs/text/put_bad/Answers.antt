use borrow.Author.Rules.{rules}
use Rattle.output.proofs.Writing.{puts-append}
use Rattle.log_lines.specs.Texts.{bad_line}
use Rattle.log_lines.proofs.Lengths.{bad-length}
use Rattle.log_lines.proofs.text.put_bad.Goals as goal

pub returns-clause-put : goal.returns-clause-put
unfolding bad_line
returns-clause-put c =
    puts-append _ _ _ _ _ c.put_bytes.ensures
    (puts-append _ _ _ _ _ c.put_natural.ensures
    (puts-append _ _ _ _ _ c.put_byte.ensures (puts-append _ _ _ _ _ c.put_natural-2.ensures c.put_byte-2.ensures)))

pub returns-clause-bound : goal.returns-clause-bound
returns-clause-bound c =
    (bad-length _ _ (search rules) (search rules))
