use Rattle.std.proofs.Common.{◌+◌, ◌%◌, sym, refl, arith, eq-eqb, ne_eqb}
use lib.Bits.{and_mask}
use Rattle.tone.specs.Targets.{absolute_channel}
use Rattle.tone.proofs.Channels.{absolute-is}
use Rattle.tone.proofs.targets.convert_to_absolute_channel_address.Goals as goal

pub returns-then-mode-eq0-clause-result : goal.returns-then-mode-eq0-clause-result
unfolding absolute_channel
returns-then-mode-eq0-clause-result c = rw (and_mask c.args.target 3, eq-eqb c.args.mode 0 c.if-mode-eq0.true) (refl)

pub returns-clause-result : goal.returns-clause-result
unfolding absolute_channel
returns-clause-result c = let a = c.args in
    rw (and_mask a.target 3, and_mask (a.carrier + a.target % 8) 3, ne_eqb a.mode 0 c.if-mode-eq0.false) (sym (absolute-is a.carrier (a.target % 8) (omega arith)))
