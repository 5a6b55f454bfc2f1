use Rattle.std.proofs.Common.{sym, ap, ◌∙◌}
use Rattle.stream.specs.Cache.{emptied}
use Rattle.voice.proofs.Tests.{first-arm, second-arm}
use Rattle.registers.specs.Pcm.{write_pcm}
use Rattle.registers.specs.declared.PcmRegisters.{PcmRegisters}
use Rattle.voice.specs.Channel.{set_stream, set_pcm}
use Rattle.voice.specs.Writes.{write_pcm_reg}
use Rattle.voice.proofs.Channel.write_pcm_reg.Goals as goal

pub returns-then-pcm_write_invalidates : goal.returns-then-pcm_write_invalidates
unfolding write_pcm_reg
returns-then-pcm_write_invalidates c =
    let a = c.args in
    c.invalidate_sqv4.ensures
    ∙ ap (λ (x : PcmRegisters). set_stream (set_pcm a.self x) emptied) c.write-q.ensures
    ∙ first-arm _ (set_stream (set_pcm a.self (write_pcm a.self.pcm a.offset a.value)) emptied) (set_pcm a.self (write_pcm a.self.pcm a.offset a.value)) (sym c.pcm_write_invalidates.ensures ∙ c.if-pcm_write_invalidates.true)

pub returns : goal.returns
unfolding write_pcm_reg
returns c =
    let a = c.args in
    ap (set_pcm a.self) c.write-q.ensures ∙ second-arm _ (set_stream (set_pcm a.self (write_pcm a.self.pcm a.offset a.value)) emptied) (set_pcm a.self (write_pcm a.self.pcm a.offset a.value)) (sym c.pcm_write_invalidates.ensures ∙ c.if-pcm_write_invalidates.false)
