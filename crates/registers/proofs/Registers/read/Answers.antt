use native.Mathlib.Omega.{arith}
use mathlib.Core.Path.{◌∙◌}
use lib.Bits.{and_mask}
use Rattle.registers.specs.Control.{read_registers}
use Rattle.registers.proofs.Offsets.{read-frequency, read-param-1, read-param-2, read-other}
use Rattle.registers.proofs.Registers.read.Goals as goal

pub returns-in-2 : goal.returns-in-2
unfolding read_registers
returns-in-2 c = rw c.in-2.is c.from.ensures

pub returns-in-3 : goal.returns-in-3
unfolding read_registers
returns-in-3 c = rw c.in-3.is

pub returns-in-4 : goal.returns-in-4
unfolding read_registers
returns-in-4 c = rw c.in-4.is

pub returns-in-5 : goal.returns-in-5
unfolding read_registers
returns-in-5 c = rw c.in-5.is c.modulation_byte.ensures

pub returns-in-11 : goal.returns-in-11
unfolding read_registers
returns-in-11 c = rw (and_mask c.args.self.modulation_targeting_mode 1, c.in-11.is)

pub returns-in-0-to-1 : goal.returns-in-0-to-1
returns-in-0-to-1 c = c.byte.ensures ∙ read-frequency c.args.self c.args.offset (omega arith)

pub returns-in-6-to-7 : goal.returns-in-6-to-7
returns-in-6-to-7 c = c.byte-in-6-to-7.ensures ∙ read-param-1 c.args.self c.args.offset (omega arith) (omega arith)

pub returns-in-8-to-9 : goal.returns-in-8-to-9
returns-in-8-to-9 c = c.byte-in-8-to-9.ensures ∙ read-param-2 c.args.self c.args.offset (omega arith) (omega arith)

pub returns-in_default : goal.returns-in_default
returns-in_default c = read-other c.args.self c.args.offset (omega arith) (λ e. omega arith)
