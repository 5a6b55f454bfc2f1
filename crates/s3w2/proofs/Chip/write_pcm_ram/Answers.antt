use Rattle.std.specs.Prelude.{Ok, is_ok}
use mathlib.Core.Path.{sym, ap, ◌∙◌}
use lib.Seq.{set_out}
use Rattle.voices.specs.declared.Core.{Core}
use Rattle.voices.specs.Writes.{after_ram_write}
use Rattle.s3w2.specs.declared.Chip.{Chip}
use Rattle.s3w2.specs.declared.Returned.TheVariants.{Done}
use Rattle.s3w2.specs.Answers.{answered}
use Rattle.s3w2.specs.Ram.{write_pcm_ram_called, write_pcm_ram_ram}
use Rattle.s3w2.proofs.Refused.{away, stays, goes-on, goes-called}
use Rattle.s3w2.proofs.Cases.{cores-are, none_of, one_of}
use Rattle.s3w2.proofs.Chip.write_pcm_ram.Goals as goal

pub returns-in-Err-clause-called : goal.returns-in-Err-clause-called
unfolding write_pcm_ram_called write_pcm_ram_ram
returns-in-Err-clause-called c =
    (c.answers.ensures ∙ away c.refusal_with_ram.result _ c.refusal_with_ram.ensures _ c.in-Err.is _ _)

pub returns-in-Err-clause-ram : goal.returns-in-Err-clause-ram
unfolding write_pcm_ram_called write_pcm_ram_ram
returns-in-Err-clause-ram c =
    (stays c.refusal_with_ram.result _ c.refusal_with_ram.ensures _ _ (ap is_ok c.in-Err.is))

pub returns-then-ram-at-clause-called : goal.returns-then-ram-at-clause-called
unfolding write_pcm_ram_called write_pcm_ram_ram
returns-then-ram-at-clause-called c =
    let a = c.args in (goes-called c.refusal_with_ram.result _ c.refusal_with_ram.ensures _ _ _ (ap is_ok c.in_default.is) (c.answers-then-ram-at.ensures ∙ ap (λ (x : Chip). answered x (Ok Done)) (none_of _ _ _ a.self c.if-ram-at.true)))

pub returns-then-ram-at-clause-ram : goal.returns-then-ram-at-clause-ram
unfolding write_pcm_ram_called write_pcm_ram_ram
returns-then-ram-at-clause-ram c =
    let a = c.args in (sym (set_out a.ram.now a.address a.value c.if-ram-at.true) ∙ goes-on c.refusal_with_ram.result _ c.refusal_with_ram.ensures _ _ (ap is_ok c.in_default.is))

pub returns-clause-called : goal.returns-clause-called
unfolding write_pcm_ram_called write_pcm_ram_ram
returns-clause-called c =
    let a = c.args in (goes-called c.refusal_with_ram.result _ c.refusal_with_ram.ensures _ _ _ (ap is_ok c.in_default.is)
    (c.answers-2.ensures ∙ ap (λ (x : Chip). answered x (Ok Done)) (c.with_cores-chip.ensures ∙ cores-are a.self _ _ _ _ (c.after_ram_write.ensures ∙ ap (λ (v : Core). after_ram_write v a.address) c.core_at-first.ensures) (c.after_ram_write-2.ensures ∙ ap (λ (v : Core). after_ram_write v a.address) c.core_at-second.ensures) ∙ one_of _ _ _ a.self c.if-ram-at.false)))

pub returns-clause-ram : goal.returns-clause-ram
unfolding write_pcm_ram_called write_pcm_ram_ram
returns-clause-ram c =
    let a = c.args in (goes-on c.refusal_with_ram.result _ c.refusal_with_ram.ensures _ _ (ap is_ok c.in_default.is))
