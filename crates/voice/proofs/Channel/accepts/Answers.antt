use Rattle.std.proofs.Common.{sym, ◌∙◌}
use Rattle.voice.specs.Accepted.{accepts_channel}
use Rattle.voice.proofs.Tests.{fails, passes}
use Rattle.voice.proofs.Channel.accepts.Goals as goal

pub returns-then-not-accepts : goal.returns-then-not-accepts
unfolding accepts_channel
returns-then-not-accepts c = fails _ _ (sym c.accepts.ensures ∙ c.if-not-accepts.true)

pub returns-then-not-accepts-2 : goal.returns-then-not-accepts-2
unfolding accepts_channel
returns-then-not-accepts-2 c = passes _ _ (sym c.accepts.ensures ∙ c.if-not-accepts.false) (fails _ _ (sym c.accepts-2.ensures ∙ c.if-not-accepts-2.true))

pub returns-then-not-accepts-3 : goal.returns-then-not-accepts-3
unfolding accepts_channel
returns-then-not-accepts-3 c = passes _ _ (sym c.accepts.ensures ∙ c.if-not-accepts.false) (passes _ _ (sym c.accepts-2.ensures ∙ c.if-not-accepts-2.false) (fails _ _ (sym c.accepts-3.ensures ∙ c.if-not-accepts-3.true)))

pub returns-then-not-accepts-4 : goal.returns-then-not-accepts-4
unfolding accepts_channel
returns-then-not-accepts-4 c = passes _ _ (sym c.accepts.ensures ∙ c.if-not-accepts.false) (passes _ _ (sym c.accepts-2.ensures ∙ c.if-not-accepts-2.false) (passes _ _ (sym c.accepts-3.ensures ∙ c.if-not-accepts-3.false) (fails _ _ (sym c.accepts-4.ensures ∙ c.if-not-accepts-4.true))))

pub returns : goal.returns
unfolding accepts_channel
returns c = passes _ _ (sym c.accepts.ensures ∙ c.if-not-accepts.false) (passes _ _ (sym c.accepts-2.ensures ∙ c.if-not-accepts-2.false) (passes _ _ (sym c.accepts-3.ensures ∙ c.if-not-accepts-3.false) (passes _ _ (sym c.accepts-4.ensures ∙ c.if-not-accepts-4.false) c.accepts_stream.ensures)))
