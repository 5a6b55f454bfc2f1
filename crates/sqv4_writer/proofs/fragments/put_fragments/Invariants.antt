use mathlib.Core.Path.{◌≡◌}
use Prim.Native.Nat.{◌≤◌, ◌*◌}
use lib.ListN.{length, drop}
use Rattle.output.specs.Output.{Puts}
use Rattle.sqv4_writer.specs.Streams.{fragments_for, fragment_count}
use Rattle.sqv4_writer.proofs.fragments.put_fragments.Given as goal

abbrev pub invariant-loop-part : goal.invariant-loop-part
invariant-loop-part l =
    let p = length l.yielded in
    (p ≤ fragment_count (length l.samples)) × (l.part-iterator.size ≡ 63) × (l.part-iterator.rest.now ≡ drop (p * 63) l.samples) × Puts l.fn.out l.out (fragments_for l.terms.variant l.terms.volume l.terms.index l.samples p)
