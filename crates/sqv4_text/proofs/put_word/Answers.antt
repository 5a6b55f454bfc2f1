use Rattle.sqv4_text.specs.Lines.{word_of}
use Rattle.sqv4_text.proofs.put_word.Goals as goal

pub returns-in-Ok : goal.returns-in-Ok
unfolding word_of
returns-in-Ok c = rw c.in-Ok.is c.put_bytes.ensures

pub returns-in-Err : goal.returns-in-Err
unfolding word_of
returns-in-Err c = rw c.in-Err.is c.put_bytes-in-Err.ensures
