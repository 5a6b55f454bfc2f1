use borrow.Author.Tests.{ne_eqb, lt-ltb, le-ltb}
use Rattle.log_lines.specs.Lines.{addressed}
use Rattle.log_lines.proofs.parsing.mapped.Goals as goal

pub returns-then-address-lt-REGISTERS_END : goal.returns-then-address-lt-REGISTERS_END
unfolding addressed
returns-then-address-lt-REGISTERS_END c kind h = rw (ne_eqb kind 77 h, lt-ltb c.args.address 2304 c.if-address-lt-REGISTERS_END.true)

pub returns : goal.returns
unfolding addressed
returns c kind h = rw (ne_eqb kind 77 h, le-ltb c.args.address 2304 c.if-address-lt-REGISTERS_END.false)
