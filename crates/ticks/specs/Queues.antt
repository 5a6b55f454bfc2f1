-- A queue's ticks, as generate_fifo_sample has them. The volume does not apply.
use Rattle.std.specs.Prelude.{List, ℕ, ℤ}
use Rattle.registers.specs.Queue.{ticked}
use Rattle.registers.specs.declared.Fifo.{Fifo}
use Rattle.ticks.specs.Again.{again}
use Rattle.ticks.specs.Mix.{heard}
use Rattle.ticks.specs.declared.QueueSound.{QueueSound}

-- the queue after a tick; its sample is the held one
abbrev pub fifo_tick : ℕ → List ℤ → Fifo → Fifo
fifo_tick frequency q f = ticked f q frequency

unfoldable pub queue_tick : ℕ → ℕ → List ℤ → QueueSound → QueueSound
queue_tick frequency panpot q v = record {
  fifo = fifo_tick frequency q v.fifo;
  sides = heard v.sides (fifo_tick frequency q v.fifo).held panpot;
}

unfoldable pub queue_ticks : ℕ → ℕ → ℕ → List ℤ → QueueSound → QueueSound
queue_ticks n frequency panpot q v = again n (queue_tick frequency panpot q) v
