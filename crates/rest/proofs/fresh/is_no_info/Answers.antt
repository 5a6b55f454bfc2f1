use Rattle.rest.specs.Rest.{is_no_info}
use borrow.Author.Rules.{rules}
use Rattle.rest.proofs.fresh.is_no_info.Goals as goal

pub returns : goal.returns
unfolding is_no_info
returns c = search rules
