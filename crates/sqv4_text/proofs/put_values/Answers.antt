use Rattle.sqv4_text.specs.Lines.{values_of}
use Rattle.sqv4_text.proofs.put_values.Goals as goal

pub returns-in-Ok : goal.returns-in-Ok
unfolding values_of
returns-in-Ok c = rw c.in-Ok.is c.put_header.ensures

pub returns-in-Err : goal.returns-in-Err
unfolding values_of
returns-in-Err c = rw c.in-Err.is c.put_error.ensures
