use mathlib.Core.Path.{refl}
use native.Mathlib.Omega.{arith}
use Rattle.output.proofs.Writing.{put-copied}
use Rattle.session_lines.proofs.writing.put_first.Goals as goal

pub returns : goal.returns
returns c = (put-copied c.args.numbers.now _ _ c.copy_from_slice.new.self 0 0 c.min-count.result c.min-count.result (omega arith) (omega (arith, c.min-count.ensures)) (omega arith) c.copy_from_slice.ensures.after refl).1
