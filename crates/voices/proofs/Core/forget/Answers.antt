use mathlib.Core.Path.{◌≡◌, refl, sym, ◌∙◌}
use mathlib.Core.Bool.{true}
use Rattle.voices.specs.Writes.{after_ram_write_at, after_ram_write_to}
use Rattle.voices.proofs.Storing.{stored-emptied}
use Rattle.voices.proofs.Loops.{ram-emptied, ram-kept, ram-more}
use Rattle.voices.proofs.Core.forget.Goals as goal
use Rattle.voices.proofs.Core.forget.Goals.{then-streams_from, else-streams_from}

pub loop-ch-init : goal.loop-ch-init
unfolding after_ram_write_to
loop-ch-init c = refl

pub loop-ch-preserved : goal.loop-ch-preserved
loop-ch-preserved c =
    let l = c.loop-ch in
    let a = c.args in
    let x = c.if-streams_from.self in
    let found = sym c.streams_from.ensures in
    let turn : x ≡ after_ram_write_at a.address l.self l.ch =
    elim c.if-streams_from.branch [
      | then-streams_from w ↦ ram-emptied a.address l.self x l.ch w.invalidate_sqv4.result (found ∙ w.if-streams_from.true) w.invalidate_sqv4.ensures (w.self-is ∙ stored-emptied l.self l.ch w.invalidate_sqv4.result true w.clear_fragments.new.samples refl w.clear_fragments.ensures)
      | else-streams_from w ↦ ram-kept a.address l.self x l.ch (found ∙ w.if-streams_from.false) w.self-is
    ] in
    ram-more a.address a.self.now l.self x l.ch l.invariant turn
