use Rattle.std.proofs.Common.{◌≡◌, ℕ, true, false, cond, eqb, sym, ◌∙◌, eq-eqb, ne_eqb}
use Rattle.voice.specs.Reads.{read_queue}
use Rattle.num.specs.Bits.{byte_of}
use Rattle.version.specs.Versions.{has3ws8pna}
use Rattle.version.specs.declared.SguVersion.{SguVersion}
use Rattle.voice.specs.declared.Channel.{Channel}
use Rattle.voice.proofs.Tests.{first-arm, second-arm}
use Rattle.voice.proofs.Channel.read_queue.Goals as goal

module _ (c : Channel) (version : SguVersion) (o : ℕ) where
  abbrev shown : ℕ
  shown = cond (eqb o 14) (byte_of 1 c.fifo.count) (byte_of 0 c.fifo.count)

  high : has3ws8pna version ≡ true → o ≡ 14 → byte_of 1 c.fifo.count ≡ read_queue version c o
  unfolding read_queue
  high e h = first-arm (eqb o 14) (byte_of 1 c.fifo.count) (byte_of 0 c.fifo.count) (eq-eqb _ _ h) ∙ first-arm _ shown 0 e

  low : has3ws8pna version ≡ true → (o ≡ 14 → ⊥) → byte_of 0 c.fifo.count ≡ read_queue version c o
  unfolding read_queue
  low e h = second-arm (eqb o 14) (byte_of 1 c.fifo.count) (byte_of 0 c.fifo.count) (ne_eqb _ _ h) ∙ first-arm _ shown 0 e

  none : has3ws8pna version ≡ false → 0 ≡ read_queue version c o
  unfolding read_queue
  none e = second-arm _ shown 0 e

pub returns-then-offset-eq14 : goal.returns-then-offset-eq14
returns-then-offset-eq14 c = let a = c.args in c.high_byte.ensures ∙ high a.self a.version a.offset (sym c.has_3ws8pna.ensures ∙ c.if-has_3ws8pna.true) c.if-offset-eq14.true

pub returns-then-has_3ws8pna : goal.returns-then-has_3ws8pna
returns-then-has_3ws8pna c = let a = c.args in c.low_byte.ensures ∙ low a.self a.version a.offset (sym c.has_3ws8pna.ensures ∙ c.if-has_3ws8pna.true) c.if-offset-eq14.false

pub returns : goal.returns
returns c = let a = c.args in none a.self a.version a.offset (sym c.has_3ws8pna.ensures ∙ c.if-has_3ws8pna.false)
