use Rattle.sqv4_text.proofs.Texts.{puts-inside}
use Rattle.sqv4_text.proofs.print_file.Goals as goal

pub print_samples-requires : goal.print_samples-requires
print_samples-requires c = puts-inside _ _ _ c.put_answer.ensures
