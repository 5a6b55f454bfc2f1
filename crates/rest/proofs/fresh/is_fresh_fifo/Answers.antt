use borrow.Author.Rules.{rules}
use mathlib.Core.Path.{refl, ◌∙◌}
use Rattle.rest.proofs.Tests.{zero-back}
use Rattle.rest.specs.Rest.{is_fresh_fifo}
use Rattle.rest.proofs.fresh.is_fresh_fifo.Goals as goal

pub returns : goal.returns
unfolding is_fresh_fifo
returns c = rw (c.is_zero.ensures ∙ zero-back c.args.f.held (search rules)) refl
