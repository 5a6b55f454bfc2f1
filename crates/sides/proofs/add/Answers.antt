use lib.ListN.{length}
use Rattle.sides.proofs.Added.{room-left, room-right}
use Rattle.sides.proofs.add.Goals as goal

pub add_side-requires : goal.add_side-requires
add_side-requires g c =
    let a = c.args in room-left (length a.stems.now) (length a.left.now) (length a.right.now) a.first c.frames_in-count.result c.frames_in-count.ensures

pub add_side-requires-2 : goal.add_side-requires-2
add_side-requires-2 g c =
    let a = c.args in
    room-right (length a.stems.now) (length a.left.now) (length a.right.now) a.first c.frames_in-count.result c.frames_in-count.ensures
