use mathlib.Core.Path.{refl}
use Rattle.rest.specs.Rest.{is_fresh_channel}
use Rattle.rest.proofs.fresh.is_fresh.Goals as goal

pub returns : goal.returns
unfolding is_fresh_channel
returns c = rw (c.is_fresh_oscillator.ensures, c.is_fresh_fifo.ensures, c.is_emptied.ensures, c.is_fresh_pcm.ensures, c.are_fresh_registers.ensures) refl
