-- Lines put one behind the other. Assumes nothing.
use mathlib.Core.List.{List, [], ◌++◌}
use Prim.Native.Nat.{ℕ, ◌+◌}
use native.Mathlib.Omega.{arith}
use native.Mathlib.Numerals.{add-one}
use Rattle.output.specs.declared.Output.{Output}
use Rattle.output.proofs.Writing.{put-append, put-none}
use Rattle.s3w2_notes.specs.Lines.{sum_line, sum_of, SumLines, LinePut, LinesPut}

pub lines_none : (l : List ℕ) → LinesPut l l 0 0
lines_none l = record { text = []; lines = SumLines.none; put = put-none l 0 0 (omega arith) }

pub lines_more : (l : List ℕ) (s t : Output) (k : ℕ) → LinesPut l s.buffer.now k s.at → LinePut s t k → LinesPut l t.buffer.now (k + 1) t.at
lines_more l s t k before line = rw add-one (record {
  text = before.text ++ sum_line (sum_of k) line.frequency;
  lines = SumLines.more line.frequency before.lines line.nearest;
  put = put-append l s.buffer.now t.buffer.now 0 s.at t.at before.text (sum_line (sum_of k) line.frequency) before.put line.put.put;
})
