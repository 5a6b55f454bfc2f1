use native.Mathlib.Omega.{arith}
use Rattle.log_player.proofs.Lines.{silent-buffers}
use Rattle.log_player.proofs.Player.play_within.Goals as goal

pub play_over-requires-clause-fact_2 : goal.play_over-requires-clause-fact_2
play_over-requires-clause-fact_2 g c =
    let a = c.args in
    (silent-buffers a.kinds.now a.addresses.now a.values.now a.frames g.row.N g.row.S c.requires.fact_2 (omega (arith, c.requires.fact_2.3, c.requires.fact_3.0)) c.requires.fact_3.1)
