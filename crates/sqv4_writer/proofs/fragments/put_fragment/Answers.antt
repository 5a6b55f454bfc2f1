use Rattle.output.proofs.Writing.{puts-append}
use Rattle.sqv4.specs.Decoding.{start_of}
use Rattle.sqv4_writer.specs.Streams.{fragment_for}
use Rattle.sqv4_writer.proofs.Filled.{array-small, packed-bytes}
use Rattle.sqv4_writer.proofs.fragments.put_fragment.Goals as goal

pub pack-packed-requires-clause-fact_2 : goal.pack-packed-requires-clause-fact_2
pack-packed-requires-clause-fact_2 c =
    let a = c.args in
    (λ i. rw (c.choose_codes.ensures, c.bits-bits.ensures) (array-small a.terms.variant a.terms.volume (start_of a.terms.index) a.samples.now c.requires i))

pub returns : goal.returns
unfolding fragment_for
returns c =
    let a = c.args in
    puts-append _ _ _ _ _ c.put_bytes.ensures (rw (packed-bytes a.terms.variant a.terms.volume a.terms.index _ a.samples.now _ _ c.requires c.bits-bits.ensures c.choose_codes.ensures c.pack-packed.ensures) at c.put_bytes-2.ensures)
