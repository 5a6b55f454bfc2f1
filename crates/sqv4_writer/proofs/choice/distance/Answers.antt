use borrow.Author.Rules.{rules, sfits_of}
use mathlib.Core.Path.{◌≡◌, ap, ◌∙◌}
use native.Mathlib.Omega.{arith}
use Prim.Native.Nat.{ℕ, ◌^◌, min}
use lib.IntN.{ℤ, nat_abs, ◌-ℤ◌}
use mir.Syntax.{w16, w32}
use mir.Val.{SFits}
use Rattle.num.proofs.Integers.{back}
use Rattle.num.proofs.Fit.{widen16-32, fit-abs, abs-fit, abs-sub}
use Rattle.adpcm.specs.declared.State.{State}
use Rattle.adpcm.specs.Codes.{applied_volume, decode_at, decode_code}
use Rattle.adpcm.proofs.Ima.{read_is}
use Rattle.sqv4_writer.specs.Choice.{distance_of}
use Rattle.sqv4_writer.proofs.choice.distance.Goals as goal

-- a value and a sample are less than 2 ^ 17 apart
apart : (v s : ℤ) → SFits w16 v → SFits w16 s → SFits w32 (v -ℤ s)
apart v s h f = fit-abs w32 _ (2 ^ 17) (omega (arith, abs-sub v s, abs-fit w16 h, abs-fit w16 f)) (omega arith)

pub returns : goal.returns
unfolding distance_of
returns c =
    let a = c.args in
    let d = c.decode_at-next in
    let v = c.apply_volume-value in
    let f = c.ranges.sample in
    let h : SFits w16 v.result = sfits_of v.type_inv in
    let near : SFits w16 d.result.predictor = search rules in
    let ed : d.result ≡ decode_code 3 a.variant a.state a.code =
    d.ensures ∙ ap (λ (n : ℕ). decode_at 3 a.variant a.state (min n 32767) a.code) c.requires ∙ read_is 3 a.variant a.state a.code in
    let ev : v.result ≡ applied_volume d.result.predictor a.volume = rw (back w16 _ near) at v.ensures in
    let em : c.unsigned_abs.result ≡ nat_abs (v.result -ℤ a.sample) =
    rw (back w16 _ h, back w32 _ (widen16-32 h), back w16 _ f, back w32 _ (widen16-32 f), back w32 _ (apart v.result a.sample h f)) at c.unsigned_abs.ensures.value in
    em ∙ ap (λ (z : ℤ). nat_abs (z -ℤ a.sample)) (ev ∙ ap (λ (s : State). applied_volume s.predictor a.volume) ed)
