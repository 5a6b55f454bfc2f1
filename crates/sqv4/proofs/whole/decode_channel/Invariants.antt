use Rattle.sqv4.proofs.Wholes.{Going}
use Rattle.sqv4.proofs.whole.decode_channel.Given as goal

abbrev pub invariant-loop-frame : goal.invariant-loop-frame
invariant-loop-frame l =
    Going l.file l.header l.channel l.initial.samples l.samples l.state l.frame l.from l.at
