use Rattle.std.specs.Prelude.{is_ok}
use Rattle.voices.specs.Reads.{after_read_register}
use Rattle.voices.specs.Reads.{peek_register}
use mathlib.Core.Path.{ap, ◌∙◌}
use Rattle.voices.specs.declared.Core.{Core}
use Rattle.s3w2.specs.Registers.{read_register_called}
use Rattle.s3w2.proofs.Refused.{away}
use Rattle.s3w2.proofs.Cases.{reads_none, reads, at-core}
use Rattle.s3w2.proofs.Chip.read_register.Goals as goal

pub returns-in-Err : goal.returns-in-Err
unfolding read_register_called
returns-in-Err c =
    c.answers.ensures ∙ away c.refusal.result _ c.refusal.ensures _ c.in-Err.is _ _

pub returns-then-core-gt-LAST_CORE : goal.returns-then-core-gt-LAST_CORE
unfolding read_register_called
returns-then-core-gt-LAST_CORE c =
    let a = c.args in
    reads_none c.refusal.result _ c.refusal.ensures (ap is_ok c.in_default.is) a.core a.self _ _ _ c.if-core-gt-LAST_CORE.true c.answers-then-core-gt-LAST_CORE.ensures

pub returns : goal.returns
unfolding read_register_called
returns c =
    let a = c.args in
    reads c.refusal.result _ c.refusal.ensures (ap is_ok c.in_default.is) a.core a.self _ _ _ _ _ c.if-core-gt-LAST_CORE.false c.with_core.ensures (c.after_read_register.ensures ∙ ap (λ (v : Core). after_read_register v a.address) (at-core a.self a.core _ c.if-core-gt-LAST_CORE.false c.core_at-voices.ensures)) (c.peek_register-byte.ensures ∙ ap (λ (v : Core). peek_register a.self.version v a.address) (at-core a.self a.core _ c.if-core-gt-LAST_CORE.false c.core_at-voices.ensures))
