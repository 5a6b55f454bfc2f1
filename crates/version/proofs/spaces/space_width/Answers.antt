use mathlib.Core.Path.{sym, ◌∙◌}
use Rattle.version.proofs.Texts.{width_one, width_two, width_three, width-none}
use Rattle.version.proofs.spaces.space_width.Goals as goal

pub returns-then-among : goal.returns-then-among
returns-then-among c = width_one c.args.one c.args.two c.args.three (sym c.among.ensures ∙ c.if-among.true)

pub returns-then-among-2 : goal.returns-then-among-2
returns-then-among-2 c = width_two c.args.one c.args.two c.args.three (sym c.among.ensures ∙ c.if-among.false) (sym c.among-2.ensures ∙ c.if-among-2.true)

pub returns-then-among-3 : goal.returns-then-among-3
returns-then-among-3 c = width_three c.args.one c.args.two c.args.three (sym c.among.ensures ∙ c.if-among.false) (sym c.among-2.ensures ∙ c.if-among-2.false) (sym c.among-3.ensures ∙ c.if-among-3.true)

pub returns : goal.returns
returns c = width-none c.args.one c.args.two c.args.three (sym c.among.ensures ∙ c.if-among.false) (sym c.among-2.ensures ∙ c.if-among-2.false) (sym c.among-3.ensures ∙ c.if-among-3.false)
