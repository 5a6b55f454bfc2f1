use mathlib.Core.Path.{ap, ◌∙◌}
use mathlib.Core.Bool.{false}
use lib.ListN.{get_or}
use Rattle.endings.specs.Sets.{off}
use Rattle.endings.proofs.Sets.{set_same}
use Rattle.voices.specs.Core.{no_channel}
use Rattle.voices.specs.Actives.{ended_since}
use Rattle.voices.proofs.activity.ended.Goals as goal

pub returns : goal.returns
unfolding ended_since
returns c =
    let a = c.args in
    let is = c.actives in
    record { set = c.ended.ensures.set ∙ set_same 8 (λ ch. off (get_or a.was ch false) (get_or is.result ch false)) (λ ch. off (get_or a.was ch false) (get_or a.channels ch no_channel).pcm.active) (λ ch h. ap (off (get_or a.was ch false)) (is.ensures.flags ch h)) }
