use native.Mathlib.Omega.{arith}
use Rattle.num.proofs.Bytes.{le_four}
use Rattle.sqv4.proofs.check.number.Goals as goal

pub returns-clause-result : goal.returns-clause-result
returns-clause-result c =
    (omega (arith, le_four c.args.file.now c.args.at c.requires))
