use mathlib.Core.Path.{sym, ◌∙◌}
use Rattle.version.proofs.Texts.{named-1, named-2, named-2-1, named-3, named-3-1, named_none}
use Rattle.version.proofs.names.named.Goals as goal

pub returns-then-is_either : goal.returns-then-is_either
returns-then-is_either c = named-1 c.args.s.now (sym c.is_either.ensures ∙ c.if-is_either.true)

pub returns-then-is_either-2 : goal.returns-then-is_either-2
returns-then-is_either-2 c = named-2 c.args.s.now (sym c.is_either.ensures ∙ c.if-is_either.false) (sym c.is_either-2.ensures ∙ c.if-is_either-2.true)

pub returns-then-is_text : goal.returns-then-is_text
returns-then-is_text c = named-2-1 c.args.s.now (sym c.is_either.ensures ∙ c.if-is_either.false) (sym c.is_either-2.ensures ∙ c.if-is_either-2.false) (sym c.is_text.ensures ∙ c.if-is_text.true)

pub returns-then-is_either-3 : goal.returns-then-is_either-3
returns-then-is_either-3 c = named-3 c.args.s.now (sym c.is_either.ensures ∙ c.if-is_either.false) (sym c.is_either-2.ensures ∙ c.if-is_either-2.false) (sym c.is_text.ensures ∙ c.if-is_text.false) (sym c.is_either-3.ensures ∙ c.if-is_either-3.true)

pub returns-then-is_text-2 : goal.returns-then-is_text-2
returns-then-is_text-2 c = named-3-1 c.args.s.now (sym c.is_either.ensures ∙ c.if-is_either.false) (sym c.is_either-2.ensures ∙ c.if-is_either-2.false) (sym c.is_text.ensures ∙ c.if-is_text.false) (sym c.is_either-3.ensures ∙ c.if-is_either-3.false) (sym c.is_text-2.ensures ∙ c.if-is_text-2.true)

pub returns : goal.returns
returns c = named_none c.args.s.now (sym c.is_either.ensures ∙ c.if-is_either.false) (sym c.is_either-2.ensures ∙ c.if-is_either-2.false) (sym c.is_text.ensures ∙ c.if-is_text.false) (sym c.is_either-3.ensures ∙ c.if-is_either-3.false) (sym c.is_text-2.ensures ∙ c.if-is_text-2.false)
