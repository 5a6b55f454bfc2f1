use Rattle.std.proofs.Common.{sym}
use Rattle.stream.proofs.Counts.{length-parted, length-is}
use Rattle.stream.proofs.accepted.is_length_fit.Goals as goal

pub returns-then-length-size-ne0 : goal.returns-then-length-size-ne0
returns-then-length-size-ne0 c =
    let a = c.args in sym (length-parted a.size a.frames a.length c.if-length-size-ne0.true)

pub returns : goal.returns
returns c =
    length-is c.args.size c.args.frames c.args.length c.requires c.if-length-lt16.false c.if-length-size-ne0.false
