use Rattle.log_state.proofs.Refused.{fine-put}
use Rattle.log_state.proofs.refusing.put_refusal.Goals as goal

pub returns-in-Ok : goal.returns-in-Ok
returns-in-Ok g c = fine-put _ _ _ _ c.in-Ok.is c.put_bytes.ensures
