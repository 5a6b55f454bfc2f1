use mathlib.Core.Path.{◌∙◌}
use Rattle.sqv4.proofs.Strided.{strided-sets}
use Rattle.sqv4.proofs.fragment.decode_legacy_fragment.Goals as goal

pub returns-clause-out : goal.returns-clause-out
returns-clause-out c =
    let v = c.legacy_version-older.ensures in
    let n = c.reach.ensures in
    (c.decode_part.ensures.out ∙ rw (n, v) (strided-sets _ _ _))
