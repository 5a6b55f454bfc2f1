use native.Mathlib.Omega.{arith}
use mathlib.Core.Path.{◌∙◌}
use Rattle.registers.specs.Pcm.{read_pcm}
use Rattle.registers.proofs.Offsets.{read-start, read-end, read-loop, read_none}
use Rattle.registers.proofs.PcmRegisters.read.Goals as goal

pub returns-in-9 : goal.returns-in-9
unfolding read_pcm
returns-in-9 c = rw c.in-9.is

pub returns-in-0-to-2 : goal.returns-in-0-to-2
returns-in-0-to-2 c = c.byte.ensures ∙ read-start c.args.self c.args.offset (omega arith)

pub returns-in-3-to-5 : goal.returns-in-3-to-5
returns-in-3-to-5 c = c.byte-in-3-to-5.ensures ∙ read-end c.args.self c.args.offset (omega arith) (omega arith)

pub returns-in-6-to-8 : goal.returns-in-6-to-8
returns-in-6-to-8 c = c.byte-in-6-to-8.ensures ∙ read-loop c.args.self c.args.offset (omega arith) (omega arith)

pub returns-in_default : goal.returns-in_default
returns-in_default c = read_none c.args.self c.args.offset (omega arith)
