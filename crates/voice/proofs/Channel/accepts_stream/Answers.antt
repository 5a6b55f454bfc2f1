use Rattle.std.proofs.Common.{◌≡◌, ℕ, Bool, true, false, ◌&&◌, sym, refl, ◌∙◌}
use Rattle.registers.specs.Waveforms.{is_sqv4}
use Rattle.stream.specs.Accepted.{accepts_cache}
use Rattle.voice.specs.Accepted.{accepts_stream}
use Rattle.voice.specs.declared.Channel.{Channel}
use Rattle.voice.proofs.Tests.{fails, passes, first-arm, second-arm}
use Rattle.voice.proofs.Channel.accepts_stream.Goals as goal

module _ (c : Channel) (length : ℕ) where
  abbrev cache : Bool
  cache = accepts_cache c.stream c.pcm.start_addr c.pcm.end_addr length

  held : c.stream.valid ≡ true → is_sqv4 c.registers.waveform_type ≡ true → cache ≡ accepts_stream c length
  unfolding accepts_stream
  held v e = passes (is_sqv4 c.registers.waveform_type) cache e refl ∙ first-arm _ (is_sqv4 c.registers.waveform_type && cache) true v

  strange : c.stream.valid ≡ true → is_sqv4 c.registers.waveform_type ≡ false → false ≡ accepts_stream c length
  unfolding accepts_stream
  strange v e = fails (is_sqv4 c.registers.waveform_type) cache e ∙ first-arm _ (is_sqv4 c.registers.waveform_type && cache) true v

  empty : c.stream.valid ≡ false → true ≡ accepts_stream c length
  unfolding accepts_stream
  empty v = second-arm _ (is_sqv4 c.registers.waveform_type && cache) true v

pub returns-then-is_sqv4 : goal.returns-then-is_sqv4
returns-then-is_sqv4 c = let a = c.args in c.accepts.ensures ∙ held a.self a.length (sym c.is_valid.ensures ∙ c.if-is_valid.true) (sym c.is_sqv4.ensures ∙ c.if-is_sqv4.true)

pub returns-then-is_valid : goal.returns-then-is_valid
returns-then-is_valid c = let a = c.args in strange a.self a.length (sym c.is_valid.ensures ∙ c.if-is_valid.true) (sym c.is_sqv4.ensures ∙ c.if-is_sqv4.false)

pub returns : goal.returns
returns c = let a = c.args in empty a.self a.length (sym c.is_valid.ensures ∙ c.if-is_valid.false)
