use Rattle.rest.specs.Rest.{every}
use borrow.Author.Rules.{rules}
use Rattle.rest.proofs.are_centred.Goals as goal

pub returns : goal.returns
unfolding every
returns c = search rules
