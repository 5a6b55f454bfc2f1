use Rattle.std.proofs.Common.{refl, arith, eq-eqb, ne_eqb}
use Rattle.adpcm.specs.Codes.{levels_of}
use Rattle.adpcm.proofs.Tables.{level-l, level-first, level-plus}
use Rattle.adpcm.proofs.level_at.Goals as goal

pub returns-in-H : goal.returns-in-H
unfolding levels_of
returns-in-H c = rw c.in-H.is (refl, omega arith)

pub returns-in-L : goal.returns-in-L
unfolding levels_of
returns-in-L c = rw c.in-L.is (level-l c.args.at c.requires, omega (arith, c.requires))

pub returns-then-version-eq1 : goal.returns-then-version-eq1
unfolding levels_of
returns-then-version-eq1 c = rw (c.in-LPlus.is, eq-eqb _ 1 c.if-version-eq1.true) (level-first c.args.at c.requires, omega (arith, c.requires))

pub returns-else-version-eq1 : goal.returns-else-version-eq1
unfolding levels_of
returns-else-version-eq1 c = rw (c.in-LPlus.is, ne_eqb _ 1 c.if-version-eq1.false) (level-plus c.args.at c.requires, omega (arith, c.requires))
