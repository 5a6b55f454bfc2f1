use Rattle.std.proofs.Common.{◌∙◌, arith}
use Rattle.voice.proofs.Offsets.{read-control, read_count, read-stream, read_low, read-high}
use Rattle.voice.proofs.Channel.read_control.Goals as goal
use Rattle.voice.proofs.Channel.read_control.Goals.{in_default-via-then-offset-lt14, in_default-via-else-offset-lt14+else-offset-lt16+else-offset-lt26}

pub returns-in-26 : goal.returns-in-26
returns-in-26 c = let a = c.args in c.read_sample_control.ensures ∙ read-control a.version a.self a.offset c.in-26.is

pub returns-in-14-to-15 : goal.returns-in-14-to-15
returns-in-14-to-15 c = let a = c.args in c.read_queue.ensures ∙ read_count a.version a.self a.offset (omega arith) (omega arith)

pub returns-in-16-to-25 : goal.returns-in-16-to-25
returns-in-16-to-25 c = let a = c.args in c.read.ensures ∙ read-stream a.version a.self a.offset (omega arith) (omega arith)

pub returns-in_default : goal.returns-in_default
returns-in_default c =
    let a = c.args in
    c.read-in_default.ensures
    ∙ elim c.in_default.branch [
      | in_default-via-then-offset-lt14 w ↦ read_low a.version a.self a.offset (omega arith)
      | in_default-via-else-offset-lt14+else-offset-lt16+else-offset-lt26 w ↦ read-high a.version a.self a.offset (omega arith)
    ]
