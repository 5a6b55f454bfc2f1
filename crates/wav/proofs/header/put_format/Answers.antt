use Rattle.output.proofs.Writing.{puts-append}
use Rattle.wav.specs.Headers.{format_chunk}
use Rattle.wav.proofs.header.put_format.Goals as goal

pub returns : goal.returns
unfolding format_chunk
returns c =
    let b = c.block_align-block.ensures.result in
    puts-append _ _ _ _ _ c.put_bytes.ensures
    (puts-append _ _ _ _ _ c.put_low.ensures
    (puts-append _ _ _ _ _ c.put_low-2.ensures
    (puts-append _ _ _ _ _ c.put_low-3.ensures
    (puts-append _ _ _ _ _ c.put_low-4.ensures
    (puts-append _ _ _ _ _ (rw b at c.put_low-5.ensures) (puts-append _ _ _ _ _ (rw b at c.put_low-6.ensures) c.put_low-7.ensures))))))
