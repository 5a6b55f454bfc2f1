use Rattle.std.specs.Prelude.{Ok, is_ok}
use Rattle.voices.specs.Reads.{wavetable_length}
use mathlib.Core.Path.{ap, ◌∙◌}
use Prim.Native.Nat.{ℕ}
use Rattle.voices.specs.declared.Core.{Core}
use Rattle.s3w2.specs.declared.Returned.TheVariants.{Count}
use Rattle.s3w2.specs.Channels.{wavetable_length_answer}
use Rattle.s3w2.proofs.Refused.{tells-away}
use Rattle.s3w2.proofs.Cases.{tells_none, tells, at-core}
use Rattle.s3w2.proofs.Chip.wavetable_length.Goals as goal

pub returns-in_err-refusal : goal.returns-in_err-refusal
unfolding wavetable_length_answer
returns-in_err-refusal c =
    tells-away c.refusal.result _ c.refusal.ensures _ c.in_err-refusal.was _ _ c.from_residual.ensures.1

pub returns-then-core-gt-LAST_CORE : goal.returns-then-core-gt-LAST_CORE
unfolding wavetable_length_answer
returns-then-core-gt-LAST_CORE c =
    let a = c.args in
    tells_none c.refusal.result _ c.refusal.ensures (ap is_ok c.in_ok-refusal.was) a.core (λ (x : ℕ). Ok (Count x)) _ 0 c.if-core-gt-LAST_CORE.true

pub returns : goal.returns
unfolding wavetable_length_answer
returns c =
    let a = c.args in
    tells c.refusal.result _ c.refusal.ensures (ap is_ok c.in_ok-refusal.was) a.core (λ (x : ℕ). Ok (Count x)) _ 0 _ c.if-core-gt-LAST_CORE.false (c.wavetable_length.ensures ∙ ap (λ (v : Core). wavetable_length a.self.version v a.ch) (at-core a.self a.core _ c.if-core-gt-LAST_CORE.false c.core_at-voices.ensures))
