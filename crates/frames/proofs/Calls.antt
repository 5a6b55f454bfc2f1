-- What a voice's ticks give, from what is said of what they are given. Assumes nothing.
use Rattle.std.proofs.Common.{◌≡◌, ℕ, ◌+◌, ◌-◌, List, take, drop, ℤ, ap, ◌∙◌, arith}
use Rattle.sizes.specs.Sizes.{fifo_capacity}
use Rattle.num.specs.Lists.{part}
use Rattle.ticks.specs.Queues.{queue_ticks}
use Rattle.ticks.specs.declared.QueueSound.{QueueSound}
use Rattle.stream.specs.declared.Play.{Play}
use Rattle.stream.specs.declared.Window.{Window}
use Rattle.voice.specs.Serving.{served_ticks}
use Rattle.voice.specs.declared.Served.{Served}

pub served-is : (n : ℕ) (w w' : Window) (samples : List ℤ) (base : ℕ) (p p' : Play) (volume panpot : ℕ) (v v' r : Served)
    → w ≡ w' → p ≡ p' → v ≡ v' → r ≡ served_ticks n w samples base p volume panpot v → r ≡ served_ticks n w' samples base p' volume panpot v'
served-is n w w' samples base p p' volume panpot v v' r ew ep ev e =
    e ∙ ap (λ (x : Window). served_ticks n x samples base p volume panpot v) ew ∙ ap (λ (x : Play). served_ticks n w' samples base x volume panpot v) ep ∙ ap (served_ticks n w' samples base p' volume panpot) ev

pub queue-is : (n frequency panpot from to : ℕ) (queues : List ℤ) (v v' r : QueueSound) → to ≡ from + fifo_capacity → v ≡ v' → r ≡ queue_ticks n frequency panpot (take (to - from) (drop from queues)) v
    → r ≡ queue_ticks n frequency panpot (part queues from fifo_capacity) v'
queue-is n frequency panpot from to queues v v' r et ev e =
    let k : to - from ≡ fifo_capacity = omega arith in
    e ∙ ap (λ (m : ℕ). queue_ticks n frequency panpot (take m (drop from queues)) v) k ∙ ap (queue_ticks n frequency panpot (part queues from fifo_capacity)) ev
