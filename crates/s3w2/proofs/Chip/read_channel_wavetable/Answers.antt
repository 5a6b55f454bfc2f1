use Rattle.std.specs.Prelude.{Ok, is_ok}
use Rattle.voices.specs.Reads.{read_wavetable}
use mathlib.Core.Path.{ap, ◌∙◌}
use native.Mathlib.Omega.{arith}
use Prim.Native.Nat.{ℕ, ◌+◌, ◌*◌}
use Rattle.sizes.specs.Sizes.{num_channels}
use Rattle.cores.specs.Sizes.{num_cores}
use Rattle.voices.specs.declared.Core.{Core}
use Rattle.s3w2.specs.declared.Returned.TheVariants.{Byte}
use Rattle.s3w2.specs.Channels.{read_channel_wavetable_answer}
use Rattle.s3w2.proofs.Refused.{tells-away, goes-told}
use Rattle.s3w2.proofs.Cases.{none_of, one_of, one-core, at-core}
use Rattle.s3w2.proofs.Chip.read_channel_wavetable.Goals as goal

pub returns-in_err-refusal : goal.returns-in_err-refusal
unfolding read_channel_wavetable_answer
returns-in_err-refusal c =
    tells-away c.refusal.result _ c.refusal.ensures _ c.in_err-refusal.was _ _ c.from_residual.ensures.1

pub returns-then-ch-gt-LAST_CHANNEL : goal.returns-then-ch-gt-LAST_CHANNEL
unfolding read_channel_wavetable_answer
returns-then-ch-gt-LAST_CHANNEL c =
    let a = c.args in
    goes-told c.refusal.result _ c.refusal.ensures _ _ (ap is_ok c.in_ok-refusal.was) (ap (λ (x : ℕ). Ok (Byte x)) (none_of a.ch num_channels _ 0 c.if-ch-gt-LAST_CHANNEL.true))

pub returns-then-core-gt-LAST_CORE : goal.returns-then-core-gt-LAST_CORE
unfolding read_channel_wavetable_answer
returns-then-core-gt-LAST_CORE c =
    let a = c.args in
    goes-told c.refusal.result _ c.refusal.ensures _ _ (ap is_ok c.in_ok-refusal.was) (ap (λ (x : ℕ). Ok (Byte x)) (none_of a.core num_cores _ 0 c.if-core-gt-LAST_CORE.true ∙ one_of a.ch num_channels _ 0 (omega (arith, c.if-ch-gt-LAST_CHANNEL.false))))

pub returns : goal.returns
unfolding read_channel_wavetable_answer
returns c =
    let a = c.args in
    goes-told c.refusal.result _ c.refusal.ensures _ _ (ap is_ok c.in_ok-refusal.was) (ap (λ (x : ℕ). Ok (Byte x)) (one-core a.core _ 0 _ c.if-core-gt-LAST_CORE.false (c.read_wavetable.ensures ∙ ap (λ (v : Core). read_wavetable v (a.ch * 256 + a.offset)) (at-core a.self a.core _ c.if-core-gt-LAST_CORE.false c.core_at-voices.ensures)) ∙ one_of a.ch num_channels _ 0 (omega (arith, c.if-ch-gt-LAST_CHANNEL.false))))
