use Rattle.std.proofs.Common.{◌∙◌, w16, w32}
use borrow.Author.Rules.{sfits_of}
use Rattle.num.proofs.Integers.{back}
use Rattle.stream.specs.Window.{value_in}
use Rattle.stream.proofs.Window.value.Goals as goal

pub returns-then-interpolate : goal.returns-then-interpolate
unfolding value_in
returns-then-interpolate c =
    let t₁ = c.tap-current in
    let t₂ = c.tap-next in
    let r = c.blend_samples in
    rw (back w32 r.result (sfits_of r.type_inv))
    (r.ensures.result
    ∙ rw (back w16 t₁.result (sfits_of t₁.type_inv), back w16 t₂.result (sfits_of t₂.type_inv), t₁.ensures, t₂.ensures, c.if-interpolate.true))

pub returns : goal.returns
unfolding value_in
returns c =
    let t₁ = c.tap-current in
    let r = c.raised_sample in
    rw (back w32 r.result (sfits_of r.type_inv)) (r.ensures.result ∙ rw (back w16 t₁.result (sfits_of t₁.type_inv), t₁.ensures, c.if-interpolate.false))
