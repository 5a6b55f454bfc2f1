use Rattle.rest.specs.Rest.{is_fresh_pcm}
use borrow.Author.Rules.{rules}
use Rattle.rest.proofs.fresh.is_fresh_pcm.Goals as goal

pub returns : goal.returns
unfolding is_fresh_pcm
returns c = search rules
