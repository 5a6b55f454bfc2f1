use Rattle.session_lines.specs.Numbers.{channel_from}
use Rattle.session_lines.proofs.states.LineNumbers.channel.Goals as goal

pub returns : goal.returns
unfolding channel_from
returns c =
    λ i. record {
      oscillator = c.oscillator.ensures i;
      fifo = c.args.queue;
      stream = c.default.ensures i;
      pcm = c.pcm.ensures i;
      registers = c.registers.ensures i;
    }
