use Rattle.std.proofs.Common.{sym, ◌∙◌}
use Rattle.tone.proofs.Ram.{too-low, too-high, counted}
use Rattle.tone.proofs.pcm.is_ram_length.Goals as goal

pub returns-then-length-lt256 : goal.returns-then-length-lt256
returns-then-length-lt256 c = sym (too-low c.args.length c.if-length-lt256.true)

pub returns-then-length-gt-RAM_MOST : goal.returns-then-length-gt-RAM_MOST
returns-then-length-gt-RAM_MOST c = sym (too-high c.args.length c.if-length-gt-RAM_MOST.true)

pub returns : goal.returns
returns c = c.is_power_of_two.ensures ∙ counted c.args.length c.if-length-lt256.false c.if-length-gt-RAM_MOST.false
