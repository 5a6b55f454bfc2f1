-- A tick of a PCM voice, as generate_pcm_sample has it.
use Rattle.std.specs.Prelude.{cond, List, ℕ, ℤ, pos, length, get_or}
use Rattle.tone.specs.Phase.{fraction}
use Rattle.tone.specs.Taps.{raised, blend}
use Rattle.tone.specs.Pcm.{pcm_address, pcm_next, pcm_phase_after, pcm_is_over}
use Rattle.registers.specs.declared.PcmRegisters.{PcmRegisters}
use Rattle.ticks.specs.Oscillators.{set_phase}
use Rattle.ticks.specs.Finish.{finished, position_of}
use Rattle.ticks.specs.declared.Oscillator.{Oscillator}
use Rattle.ticks.specs.declared.Target.{Target}
use Rattle.ticks.specs.declared.Setting.{Setting}
use Rattle.ticks.specs.declared.Ticked.{Ticked}

abbrev pub pcm_tap : Setting → PcmRegisters → List ℕ → ℕ → ℕ → ℕ
pcm_tap s p ram at phase =
    cond s.interpolate
    (blend (get_or ram at 0) (get_or ram (pcm_next at p.end_addr p.loop_addr p.control (length ram)) 0) (fraction phase))
    (raised (get_or ram at 0))

-- the sample at an address is given; then the phase goes on, jumps to the loop, or stays at the end, where all is silent
unfoldable pub after_pcm : Setting → PcmRegisters → ℕ → Oscillator → ℤ → Ticked
after_pcm s p at o q8 = record {
  oscillator = set_phase o (pcm_phase_after o.phase at p.start_addr p.end_addr p.loop_addr p.control s.step);
  q8 = cond (pcm_is_over at p.end_addr p.control) (pos 0) q8;
}

-- the tick, at its address
unfoldable pub pcm_at : Setting → PcmRegisters → List ℕ → Oscillator → ℕ → Ticked
unfolding finished
pcm_at s p ram o at =
    after_pcm s p at
    (finished s o (pcm_tap s p ram at o.phase) s.interpolate).oscillator
    (finished s o (pcm_tap s p ram at o.phase) s.interpolate).q8

abbrev pub pcm_tick : Setting → PcmRegisters → List ℕ → Target → Oscillator → Ticked
pcm_tick s p ram t o = pcm_at s p ram o (pcm_address (position_of s t o.phase) p.start_addr (length ram))
