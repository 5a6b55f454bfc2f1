use Rattle.std.proofs.Common.{pos, negsuc, refl, ◌∙◌, w32}
use Rattle.num.proofs.Integers.{back}
use Rattle.num.proofs.Fit.{clamp-is}
use Rattle.tone.proofs.mix.stream_value.Goals as goal

pub returns : goal.returns
returns c = rw (back w32 _ (record { sfits = c.clamp.type_inv })) ((rw (back w32 _ c.ranges.q8) at c.clamp.ensures.value) ∙ clamp-is c.args.q8 (negsuc 8388607) (pos 8388607) refl)
