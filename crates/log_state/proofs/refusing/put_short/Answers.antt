use mathlib.Core.Path.{subst}
use Rattle.output.specs.Output.{Puts}
use Rattle.log_state.proofs.Refused.{short-line}
use Rattle.log_state.proofs.refusing.put_short.Goals as goal

pub returns : goal.returns
returns c = subst (Puts _ _) short-line c.put_bytes.ensures
