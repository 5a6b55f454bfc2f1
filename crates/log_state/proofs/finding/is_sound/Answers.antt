use Rattle.std.proofs.Common.{◌≢◌, arith}
use borrow.Author.Tests.{ne_eqb}
use Rattle.log_state.specs.Finding.{sound_line}
use Rattle.log_state.proofs.finding.is_sound.Goals as goal

pub returns-then-k-ne0 : goal.returns-then-k-ne0
unfolding sound_line
returns-then-k-ne0 c = rw (ne_eqb _ 0 c.if-k-ne0.true)

pub returns-in-70 : goal.returns-in-70
unfolding sound_line
returns-in-70 c = rw (c.if-k-ne0.false, c.in-70.is)

pub returns-in-80 : goal.returns-in-80
unfolding sound_line
returns-in-80 c = rw (c.if-k-ne0.false, c.in-80.is)

pub returns-in-82 : goal.returns-in-82
unfolding sound_line
returns-in-82 c = rw (c.if-k-ne0.false, c.in-82.is)

pub returns-in_default : goal.returns-in_default
unfolding sound_line
returns-in_default c =
    let a : c.args.byte ≢ 70 = omega arith in
    let b : c.args.byte ≢ 80 = omega arith in
    let d : c.args.byte ≢ 82 = omega arith in
    rw c.if-k-ne0.false (simp (ne_eqb _ 70 a, ne_eqb _ 80 b, ne_eqb _ 82 d))
