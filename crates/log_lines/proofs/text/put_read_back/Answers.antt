use borrow.Author.Rules.{rules}
use Rattle.log_lines.proofs.Lengths.{read_length}
use Rattle.log_lines.proofs.text.put_read_back.Goals as goal

pub returns-clause-bound : goal.returns-clause-bound
returns-clause-bound c =
    (read_length _ c.args.address c.args.byte (search rules) (search rules))
