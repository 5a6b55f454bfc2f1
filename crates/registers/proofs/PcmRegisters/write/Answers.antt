use native.Mathlib.Omega.{arith}
use mathlib.Core.Path.{ap, ◌∙◌}
use lib.Bits.{and_mask}
use Rattle.registers.specs.Pcm.{set_start, set_end, set_loop, write_pcm}
use Rattle.registers.proofs.Offsets.{write-start, write-end, write-loop, write-none}
use Rattle.registers.proofs.PcmRegisters.write.Goals as goal

pub returns-in-9 : goal.returns-in-9
unfolding write_pcm
returns-in-9 c = rw (and_mask c.args.value 1, c.in-9.is)

pub returns-in-0-to-2 : goal.returns-in-0-to-2
returns-in-0-to-2 c = ap (set_start c.args.self) c.with_byte.ensures ∙ write-start c.args.self c.args.offset c.args.value (omega arith)

pub returns-in-3-to-5 : goal.returns-in-3-to-5
returns-in-3-to-5 c = ap (set_end c.args.self) c.with_byte-in-3-to-5.ensures ∙ write-end c.args.self c.args.offset c.args.value (omega arith) (omega arith)

pub returns-in-6-to-8 : goal.returns-in-6-to-8
returns-in-6-to-8 c = ap (set_loop c.args.self) c.with_byte-in-6-to-8.ensures ∙ write-loop c.args.self c.args.offset c.args.value (omega arith) (omega arith)

pub returns-else-offset-lt9 : goal.returns-else-offset-lt9
returns-else-offset-lt9 c = write-none c.args.self c.args.offset c.args.value (omega arith)
