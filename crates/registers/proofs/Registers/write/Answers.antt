use native.Mathlib.Omega.{arith}
use mathlib.Core.Path.{◌≡◌, refl, ap, ◌∙◌}
use lib.Bits.{and_mask}
use Rattle.registers.specs.Control.{set_frequency, set_param1, set_param2, write_registers}
use Rattle.registers.proofs.Offsets.{write-frequency, write-param-1, write-param-2, write-other}
use Rattle.registers.proofs.Registers.write.Goals as goal

pub returns-in-5 : goal.returns-in-5
unfolding write_registers
returns-in-5 c = rw (c.from-self.ensures, and_mask c.args.value 3, c.in-5.is) refl

pub returns-in-3 : goal.returns-in-3
unfolding write_registers
returns-in-3 c = rw c.in-3.is

pub returns-in-4 : goal.returns-in-4
unfolding write_registers
returns-in-4 c = rw c.in-4.is

pub returns-in-11 : goal.returns-in-11
unfolding write_registers
returns-in-11 c = rw (and_mask c.args.value 1, c.in-11.is)

pub returns-in-0-to-1 : goal.returns-in-0-to-1
returns-in-0-to-1 c = ap (set_frequency c.args.self) c.with_byte_16.ensures ∙ write-frequency c.args.self c.args.offset c.args.value (omega arith)

pub returns-then-offset-lt3 : goal.returns-then-offset-lt3
unfolding write_registers
returns-then-offset-lt3 c = let e : c.args.offset ≡ 2 = omega arith in rw e

pub returns-in-6-to-7 : goal.returns-in-6-to-7
returns-in-6-to-7 c = ap (set_param1 c.args.self) c.with_byte_16-in-6-to-7.ensures ∙ write-param-1 c.args.self c.args.offset c.args.value (omega arith) (omega arith)

pub returns-in-8-to-9 : goal.returns-in-8-to-9
returns-in-8-to-9 c = ap (set_param2 c.args.self) c.with_byte_16-in-8-to-9.ensures ∙ write-param-2 c.args.self c.args.offset c.args.value (omega arith) (omega arith)

pub returns-else-offset-lt10 : goal.returns-else-offset-lt10
returns-else-offset-lt10 c = write-other c.args.self c.args.offset c.args.value (omega arith) (λ e. omega arith)
