use Rattle.std.proofs.Common.{ℕ, ◌%◌, sym, ap, ◌∙◌}
use Rattle.voice.proofs.Tests.{first-arm, second-arm}
use lib.Bits.{and_mask}
use Rattle.registers.specs.Pcm.{set_sample_control}
use Rattle.voice.specs.Channel.{set_pcm}
use Rattle.voice.specs.Writes.{sample_control_written}
use Rattle.voice.proofs.Channel.write_sample_control.Goals as goal

pub returns-then-has_sample_control : goal.returns-then-has_sample_control
unfolding sample_control_written
returns-then-has_sample_control c = let a = c.args in ap (λ (n : ℕ). set_pcm a.self (set_sample_control a.self.pcm n)) (and_mask a.value 3) ∙ first-arm _ (set_pcm a.self (set_sample_control a.self.pcm (a.value % 8))) a.self (sym c.has_sample_control.ensures ∙ c.if-has_sample_control.true)

pub returns-else-has_sample_control : goal.returns-else-has_sample_control
unfolding sample_control_written
returns-else-has_sample_control c = let a = c.args in second-arm _ (set_pcm a.self (set_sample_control a.self.pcm (a.value % 8))) a.self (sym c.has_sample_control.ensures ∙ c.if-has_sample_control.false)
