use Rattle.std.proofs.Common.{to_z-of_z}
use borrow.Author.Rules.{sfits_of}
use lib.Bits.{and_mask}
use Rattle.adpcm.specs.declared.Variant.TheVariants.{H, L, LPlus}
use Rattle.adpcm.specs.Codes.{adjust_of}
use Rattle.adpcm.proofs.Tables.{adjust-le}
use Rattle.adpcm.proofs.adjust.Goals as goal

pub returns-in-H : goal.returns-in-H
unfolding adjust_of
returns-in-H c = rw (to_z-of_z (sfits_of c.code_adjust.type_inv), c.in-H.is) (c.code_adjust.ensures, rw c.code_adjust.ensures (adjust-le H c.args.code))

pub returns-in-L : goal.returns-in-L
unfolding adjust_of
returns-in-L c = rw (to_z-of_z (sfits_of c.level_adjust.type_inv), c.in-L.is) (rw (and_mask c.args.code 2) at c.level_adjust.ensures, rw (c.level_adjust.ensures, and_mask c.args.code 2) (adjust-le L c.args.code))

pub returns-in-LPlus : goal.returns-in-LPlus
unfolding adjust_of
returns-in-LPlus c = rw (to_z-of_z (sfits_of c.level_adjust-in-LPlus.type_inv), c.in-LPlus.is) (rw (and_mask c.args.code 2) at c.level_adjust-in-LPlus.ensures, rw (c.level_adjust-in-LPlus.ensures, and_mask c.args.code 2) (adjust-le LPlus c.args.code))
