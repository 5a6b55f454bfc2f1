use mathlib.Core.Path.{sym, ◌∙◌}
use Rattle.sqv4_writer.proofs.Limits.{wrote}
use Rattle.sqv4_writer.proofs.streams.write_stream.Goals as goal

pub write_file-requires : goal.write_file-requires
write_file-requires c = (wrote _ _ _ _ _ _ _ (sym c.answer_for.ensures ∙ c.in_ok-length.was)).terms.few
