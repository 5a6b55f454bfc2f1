use Rattle.output.proofs.Writing.{puts-append}
use Rattle.wav.specs.Headers.{wav_header}
use Rattle.wav.proofs.header.put_header.Goals as goal

pub returns : goal.returns
unfolding wav_header
returns c =
    puts-append _ _ _ _ _ c.put_bytes.ensures
    (puts-append _ _ _ _ _ (rw (c.riff_size.ensures, c.unwrap_or-size.ensures) at c.put_low.ensures)
    (puts-append _ _ _ _ _ c.put_bytes-2.ensures
    (puts-append _ _ _ _ _ c.put_format.ensures
    (puts-append _ _ _ _ _ c.put_bytes-3.ensures (rw (c.data_size.ensures, c.unwrap_or-size.ensures) at c.put_low-2.ensures)))))
