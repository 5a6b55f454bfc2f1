use lib.Bits.{and_mask}
use lib.ListN.{get_or, replicate}
use Rattle.sqv4_writer.proofs.Held.{put-above, wait, full, done}
use Rattle.sqv4_writer.proofs.packing.pack.Goals as goal
use Rattle.sqv4_writer.proofs.packing.pack.Goals.{then-filled-ge8, else-filled-ge8}

pub loop-code-preserved : goal.loop-code-preserved
loop-code-preserved c =
    let l = c.loop-code in
    let a = c.args in
    let p = put-above (get_or a.codes l.code-index 0) l.held a.bits l.filled c.requires.fact_1.1 l.invariant.few (c.requires.fact_2 l.code-index) l.invariant.kept in elim c.if-filled-ge8.branch [
      | then-filled-ge8 w ↦
          rw (w.bytes-is, w.held-is, w.filled-is, w.end-is, w.store.ensures, and_mask _ 8, p)
          (full a.bits a.codes 0 (replicate 32 0) c.requires.fact_1.1 c.requires.fact_1.0 c.requires.fact_2 l.bytes l.held l.filled l.end l.code-index l.invariant c.loop-code-test.true w.if-filled-ge8.true)
      | else-filled-ge8 w ↦
          rw (w.bytes-is, w.held-is, w.filled-is, w.end-is, p)
          (wait a.bits a.codes 0 (replicate 32 0) c.requires.fact_1.1 c.requires.fact_1.0 c.requires.fact_2 l.bytes l.held l.filled l.end l.code-index l.invariant c.loop-code-test.true w.if-filled-ge8.false)
    ]

pub returns : goal.returns
returns c = done _ _ _ _ _ _ _ _ _ c.loop-code.invariant c.loop-code-test.false
