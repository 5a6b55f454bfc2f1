use borrow.Author.Rules.{rules}
use mathlib.Core.Path.{◌≡◌, refl, sym, ap, ◌∙◌}
use mathlib.Core.Bool.{Bool, true, false, not}
use Rattle.rest.proofs.Tests.{zero-back}
use Rattle.rest.specs.Rest.{is_emptied}
use Rattle.rest.proofs.fresh.is_emptied.Goals as goal

none : {some : Bool} (none : Bool) → some ≡ not none → none ≡ not some
none true e = sym (ap not e)
none false e = sym (ap not e)

pub returns : goal.returns
unfolding is_emptied
returns c = rw (none c.is_none.result c.is_none.ensures, c.is_no_info.ensures, none c.is_none-2.result c.is_none-2.ensures, none c.is_none-3.result c.is_none-3.ensures, c.is_zero.ensures ∙ zero-back c.args.s.decoder.predictor (search rules)) refl
