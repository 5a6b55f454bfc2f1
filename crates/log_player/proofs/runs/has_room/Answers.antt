use mathlib.Core.Path.{sym}
use native.Mathlib.Omega.{arith}
use Rattle.log_player.proofs.Rooms.{room-none, room-past, room-left}
use Rattle.log_player.proofs.runs.has_room.Goals as goal

pub returns-then-number-eq18446744073709551615-clause-result : goal.returns-then-number-eq18446744073709551615-clause-result
returns-then-number-eq18446744073709551615-clause-result c = (sym (room-none c.args.room c.args.length c.args.end c.args.number c.if-number-eq18446744073709551615.true))

pub returns-then-length-end-clause-result : goal.returns-then-length-end-clause-result
returns-then-length-end-clause-result c = (sym (room-past c.args.room c.args.length c.args.end c.args.number c.if-number-eq18446744073709551615.false c.if-length-end.true))

pub returns-clause-result : goal.returns-clause-result
returns-clause-result c = (sym (room-left c.args.room c.args.length c.args.end c.args.number c.if-number-eq18446744073709551615.false (omega arith)))
