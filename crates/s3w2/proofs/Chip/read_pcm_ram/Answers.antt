use Rattle.std.specs.Prelude.{Ok, is_ok}
use mathlib.Core.Path.{ap}
use Prim.Native.Nat.{ℕ}
use Rattle.s3w2.specs.declared.Returned.TheVariants.{Byte}
use Rattle.s3w2.specs.Ram.{read_pcm_ram_answer}
use Rattle.s3w2.proofs.Refused.{tells-away, goes-told}
use Rattle.s3w2.proofs.Chip.read_pcm_ram.Goals as goal

pub returns-in_err-refusal_with_ram : goal.returns-in_err-refusal_with_ram
unfolding read_pcm_ram_answer
returns-in_err-refusal_with_ram c =
    tells-away c.refusal_with_ram.result _ c.refusal_with_ram.ensures _ c.in_err-refusal_with_ram.was _ _ c.from_residual.ensures.1

pub returns : goal.returns
unfolding read_pcm_ram_answer
returns c =
    goes-told c.refusal_with_ram.result _ c.refusal_with_ram.ensures _ _ (ap is_ok c.in_ok-refusal_with_ram.was) (ap (λ (x : ℕ). Ok (Byte x)) c.byte_at.ensures)
