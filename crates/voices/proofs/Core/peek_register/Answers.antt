use Rattle.voices.specs.Reads.{read_wavetable, read_channel_control, peek_register}
use mathlib.Core.Path.{ap₂, ◌∙◌}
use Prim.Native.Nat.{ℕ}
use Rattle.voices.specs.Addresses.{channel_of, offset_of}
use Rattle.voices.proofs.Chosen.{in-wavetables, in_blocks, above}
use Rattle.voices.proofs.Core.peek_register.Goals as goal

pub returns-then-address-lt2048 : goal.returns-then-address-lt2048
unfolding peek_register
returns-then-address-lt2048 c =
    let a = c.args in
    c.read_wavetable.ensures ∙ in-wavetables a.address (read_wavetable a.self a.address) (read_channel_control a.version a.self (channel_of a.address) (offset_of a.address)) 0 c.if-address-lt2048.true

pub returns-then-address-lt2304 : goal.returns-then-address-lt2304
unfolding peek_register
returns-then-address-lt2304 c =
    let a = c.args in
    c.read_control.ensures ∙ ap₂ (λ (x y : ℕ). read_channel_control a.version a.self x y) c.channel_of-ch.ensures.0 c.offset_of-offset.ensures ∙ in_blocks a.address (read_wavetable a.self a.address) (read_channel_control a.version a.self (channel_of a.address) (offset_of a.address)) 0 c.if-address-lt2048.false c.if-address-lt2304.true

pub returns : goal.returns
unfolding peek_register
returns c =
    let a = c.args in
    above a.address (read_wavetable a.self a.address) (read_channel_control a.version a.self (channel_of a.address) (offset_of a.address)) 0 c.if-address-lt2048.false c.if-address-lt2304.false
