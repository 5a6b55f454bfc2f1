use Rattle.std.proofs.Common.{ℕ, ◌*◌, sym, ap, ◌∙◌}
use lib.Bits.{and_mask}
use Rattle.ticks.specs.Queues.{queue_ticks}
use Rattle.voice.proofs.OneTick.{silent-tick, sound-tick, queue-tick, stream-tick}
use Rattle.voice.proofs.Channel.tick.Goals as goal

pub returns-in-Silent-clause-fragments_after : goal.returns-in-Silent-clause-fragments_after
returns-in-Silent-clause-fragments_after c =
    let a = c.args in
    (silent-tick a.version a.wavetables.now a.fragments.now a.ram.now a.queue.now a.ch a.t a.self (sym c.kind.ensures ∙ c.in-Silent.is) _ c.silent-sides.ensures)

pub returns-in-Oscillator-clause-fragments_after : goal.returns-in-Oscillator-clause-fragments_after
returns-in-Oscillator-clause-fragments_after c =
    let a = c.args in
    (sound-tick a.version a.wavetables.now a.fragments.now a.ram.now a.queue.now a.ch a.t a.self (sym c.kind.ensures ∙ c.in-Oscillator.is) _ _ c.sound_tick-v.ensures c.after_sound-self.ensures)

pub returns-in-Sqv4-clause-fragments_after : goal.returns-in-Sqv4-clause-fragments_after
returns-in-Sqv4-clause-fragments_after c =
    let a = c.args in
    (stream-tick a.version a.wavetables.now a.fragments.now a.ram.now a.queue.now a.ch a.t a.self (sym c.kind.ensures ∙ c.in-Sqv4.is) _ _ _ _ (ap (λ (n : ℕ). n * 128) (and_mask a.ch 3)) c.stream_tick-v.ensures c.after_stream-self.ensures)

pub returns-in-FifoDac-clause-fragments_after : goal.returns-in-FifoDac-clause-fragments_after
returns-in-FifoDac-clause-fragments_after c =
    let a = c.args in
    let run = c.run-v in
    (queue-tick a.version a.wavetables.now a.fragments.now a.ram.now a.queue.now a.ch a.t a.self (sym c.kind.ensures ∙ c.in-FifoDac.is) _ _ (run.ensures.result ∙ ap (queue_ticks 1 a.self.registers.frequency a.self.registers.panpot a.queue.now) c.queue_sound.ensures) c.after_queue-self.ensures)
