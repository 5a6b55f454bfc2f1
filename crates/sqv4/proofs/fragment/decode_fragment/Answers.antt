use mathlib.Core.Path.{◌∙◌}
use Rattle.sqv4.proofs.Strided.{strided-sets}
use Rattle.sqv4.proofs.fragment.decode_fragment.Goals as goal

pub returns : goal.returns
returns c =
    c.decode_part.ensures.out ∙ rw (c.default.ensures, c.reach.ensures) (strided-sets _ _ _)
