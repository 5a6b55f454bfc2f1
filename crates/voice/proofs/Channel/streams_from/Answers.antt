use Rattle.std.proofs.Common.{◌≡◌, ℕ, ◌<◌, ◌≤◌, true, false, ◌&&◌, ltb, leb, sym, refl, ◌∙◌, le-leb}
use Rattle.voice.specs.Reads.{streams_from}
use borrow.Author.Tests.{lt-leb}
use Rattle.registers.specs.Waveforms.{is_sqv4}
use Rattle.voice.specs.declared.Channel.{Channel}
use Rattle.voice.proofs.Tests.{fails, passes, first-arm, second-arm}
use Rattle.voice.proofs.Channel.streams_from.Goals as goal

module _ (c : Channel) (address : ℕ) where
  ahead : is_sqv4 c.registers.waveform_type ≡ true → address < c.pcm.start_addr → false ≡ streams_from c address
  unfolding streams_from
  ahead e h =
      fails (leb c.pcm.start_addr address) (ltb address c.pcm.end_addr) (lt-leb c.pcm.start_addr address h)
      ∙ first-arm _ (leb c.pcm.start_addr address && ltb address c.pcm.end_addr) false e

  within : is_sqv4 c.registers.waveform_type ≡ true → c.pcm.start_addr ≤ address → ltb address c.pcm.end_addr ≡ streams_from c address
  unfolding streams_from
  within e h =
      passes (leb c.pcm.start_addr address) (ltb address c.pcm.end_addr) (le-leb c.pcm.start_addr address h) refl
      ∙ first-arm _ (leb c.pcm.start_addr address && ltb address c.pcm.end_addr) false e

  other : is_sqv4 c.registers.waveform_type ≡ false → false ≡ streams_from c address
  unfolding streams_from
  other e = second-arm _ (leb c.pcm.start_addr address && ltb address c.pcm.end_addr) false e

pub returns-then-address-p : goal.returns-then-address-p
returns-then-address-p c = let a = c.args in ahead a.self a.address (sym c.is_sqv4.ensures ∙ c.if-is_sqv4.true) c.if-address-p.true

pub returns-then-is_sqv4 : goal.returns-then-is_sqv4
returns-then-is_sqv4 c = let a = c.args in within a.self a.address (sym c.is_sqv4.ensures ∙ c.if-is_sqv4.true) c.if-address-p.false

pub returns : goal.returns
returns c = let a = c.args in other a.self a.address (sym c.is_sqv4.ensures ∙ c.if-is_sqv4.false)
