use mathlib.Core.Path.{◌≡◌}
use borrow.Author.Rules.{rules}
use mir.Syntax.{w16}
use mir.Val.{SFits, of_z}
use Rattle.num.proofs.Integers.{back}
use Rattle.session_lines.specs.Numbers.{state_numbers}
use Rattle.session_lines.proofs.states.state_numbers.Goals as goal

pub returns : goal.returns
unfolding state_numbers
returns c =
    let a = c.args.c in
    let last : SFits w16 a.oscillator.last_sample = search rules in
    let held : SFits w16 a.fifo.held = search rules in
    let first : c.bits16.result ≡ of_z w16 a.oscillator.last_sample = rw (back w16 _ last) at c.bits16.ensures in
    let second : c.bits16-2.result ≡ of_z w16 a.fifo.held = rw (back w16 _ held) at c.bits16-2.ensures in
    rw (c.from.ensures, c.from-2.ensures, c.flag.ensures, first, second)
