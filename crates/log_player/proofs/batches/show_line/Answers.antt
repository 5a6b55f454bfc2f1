use mathlib.Core.Path.{sym, ◌∙◌}
use native.Mathlib.Omega.{arith}
use Rattle.frames.specs.declared.Asked.TheVariants as asked
use Rattle.output.proofs.Writing.{puts-none}
use Rattle.log_player.proofs.Batching.{shown-by, shown-none, shows}
use Rattle.log_player.proofs.batches.show_line.Goals as goal

pub returns-in-Read : goal.returns-in-Read
returns-in-Read c =
    let a = c.args in
    let t = c.put_read_back.ensures in
    let w = shows a.kind a.address a.value a.left.now a.right.now _ _ _ (shown-by a.kind a.address a.value a.left.now a.right.now asked.Read (sym c.in-Read.is ∙ c.from.ensures)) t.put (omega (arith, t.bound)) in
    record { put = w.0; bound = w.1 }

pub returns-in-Peek : goal.returns-in-Peek
returns-in-Peek c =
    let a = c.args in
    let t = c.put_read_back-in-Peek.ensures in
    let w = shows a.kind a.address a.value a.left.now a.right.now _ _ _ (shown-by a.kind a.address a.value a.left.now a.right.now asked.Peek (sym c.in-Peek.is ∙ c.from.ensures)) t.put (omega (arith, t.bound)) in
    record { put = w.0; bound = w.1 }

pub returns-in-Clock : goal.returns-in-Clock
returns-in-Clock c =
    let a = c.args in
    let t = c.put_frames.ensures in
    let w = shows a.kind a.address a.value a.left.now a.right.now _ _ _ (shown-by a.kind a.address a.value a.left.now a.right.now asked.Clock (sym c.in-Clock.is ∙ c.from.ensures)) t.put (omega (arith, t.bound)) in
    record { put = w.0; bound = w.1 }

pub returns-in_default : goal.returns-in_default
returns-in_default c =
    let a = c.args in
    let d = c.in_default in
    let w = shows a.kind a.address a.value a.left.now a.right.now _ _ _ (shown-none a.kind a.address a.value a.left.now a.right.now _ c.from.ensures d.not-Read d.not-Peek d.not-Clock) (puts-none a.out.now c.requires) (omega arith) in
    record { put = w.0; bound = w.1 }
