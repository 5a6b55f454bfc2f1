use Rattle.voices.specs.Reads.{after_read_channel, after_read_register}
use mathlib.Core.Path.{ap₂, ◌∙◌}
use Prim.Native.Nat.{ℕ}
use Rattle.voices.specs.Addresses.{channel_of, offset_of}
use Rattle.voices.proofs.Chosen.{in-wavetables, in_blocks, above}
use Rattle.voices.proofs.Core.after_read_register.Goals as goal

pub returns-then-address-lt2048 : goal.returns-then-address-lt2048
unfolding after_read_register
returns-then-address-lt2048 c =
    let a = c.args in
    in-wavetables a.address a.self (after_read_channel a.self (channel_of a.address) (offset_of a.address)) a.self c.if-address-lt2048.true

pub returns-then-address-lt2304 : goal.returns-then-address-lt2304
unfolding after_read_register
returns-then-address-lt2304 c =
    let a = c.args in
    c.after_read.ensures ∙ ap₂ (λ (x y : ℕ). after_read_channel a.self x y) c.channel_of-ch.ensures.0 c.offset_of-offset.ensures ∙ in_blocks a.address a.self (after_read_channel a.self (channel_of a.address) (offset_of a.address)) a.self c.if-address-lt2048.false c.if-address-lt2304.true

pub returns : goal.returns
unfolding after_read_register
returns c =
    let a = c.args in
    above a.address a.self (after_read_channel a.self (channel_of a.address) (offset_of a.address)) a.self c.if-address-lt2048.false c.if-address-lt2304.false
