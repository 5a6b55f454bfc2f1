use Rattle.output.proofs.Writing.{puts-append}
use Rattle.sqv4_text.specs.Lines.{answer_line}
use Rattle.sqv4_text.proofs.put_answer.Goals as goal

pub returns : goal.returns
unfolding answer_line
returns c = puts-append _ _ _ _ _ c.put_word.ensures (puts-append _ _ _ _ _ c.put_values.ensures c.put_byte.ensures)
