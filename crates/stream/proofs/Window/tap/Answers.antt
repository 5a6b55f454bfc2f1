use Rattle.std.proofs.Common.{◌≡◌, ◌+◌, ◌%◌, ◌^◌, get_or, pos, ◌∙◌, w16, to_z, of_z, rules}
use Rattle.stream.specs.Window.{tap_in}
use Rattle.stream.proofs.Window.tap.Goals as goal

pub returns : goal.returns
unfolding tap_in
returns c =
    let a = c.args in
    let at = (a.base + c.place.result) % 2 ^ 64 % 1024 in
    let g : to_z w16 (of_z w16 (get_or a.samples.now at (pos 0))) ≡ get_or a.samples.now at (pos 0) = search rules in
    g ∙ rw c.place.ensures
