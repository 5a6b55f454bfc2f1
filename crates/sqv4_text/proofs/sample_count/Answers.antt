use Rattle.sqv4_text.specs.Lines.{samples_in}
use Rattle.sqv4_text.proofs.sample_count.Goals as goal

pub returns-in-Ok : goal.returns-in-Ok
unfolding samples_in
returns-in-Ok c = rw (c.in-Ok.is, c.min.ensures)

pub returns-in-Err : goal.returns-in-Err
unfolding samples_in
returns-in-Err c = rw c.in-Err.is
