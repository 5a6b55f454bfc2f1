use Prim.Native.Nat.{◌-◌}
use Rattle.line_fields.specs.Reading.{parts_at}
use Rattle.line_fields.proofs.Taking.{Progress}
use Rattle.line_fields.proofs.reading.Line.take_parts.Given as goal

abbrev pub invariant-loop-k : goal.invariant-loop-k
invariant-loop-k l =
    Progress l.self.fifo l.self.text.now (parts_at l.self.fifo l.self.text.now (l.to - l.from) l.from l.at) l.from l.to l.initial.numbers l.numbers l.end l.k
