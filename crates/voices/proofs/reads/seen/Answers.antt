use Rattle.voices.specs.Reads.{seen_at}
use Rattle.voice.specs.Reads.{read_control}
use mathlib.Core.Path.{ap, ◌∙◌}
use Prim.Native.Nat.{ℕ}
use lib.ListN.{get_or}
use Rattle.voices.specs.Addresses.{offset_of}
use Rattle.voices.proofs.Chosen.{in-wavetables, in_blocks, above}
use Rattle.voices.proofs.reads.seen.Goals as goal

pub returns-then-address-lt2048 : goal.returns-then-address-lt2048
unfolding seen_at
returns-then-address-lt2048 c =
    let a = c.args in
    in-wavetables a.address (get_or a.wavetables.now a.address 0) (read_control a.version a.c (offset_of a.address)) 0 c.if-address-lt2048.true

pub returns-then-address-lt2304 : goal.returns-then-address-lt2304
unfolding seen_at
returns-then-address-lt2304 c =
    let a = c.args in
    c.read_control.ensures ∙ ap (λ (x : ℕ). read_control a.version a.c x) c.offset_of.ensures
    ∙ in_blocks a.address (get_or a.wavetables.now a.address 0) (read_control a.version a.c (offset_of a.address)) 0 c.if-address-lt2048.false c.if-address-lt2304.true

pub returns : goal.returns
unfolding seen_at
returns c =
    let a = c.args in
    above a.address (get_or a.wavetables.now a.address 0) (read_control a.version a.c (offset_of a.address)) 0 c.if-address-lt2048.false c.if-address-lt2304.false
