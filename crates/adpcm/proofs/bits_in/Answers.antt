use Rattle.std.proofs.Common.{◌≡◌, ℕ, ◌*◌, ◌%◌, ◌^◌, ◌≤◌, sym, ◌∙◌, one-mul, arith, lit<, shl_exact}
use lib.Bits.{and_mask}
use Rattle.num.proofs.Bytes.{window}
use Rattle.adpcm.proofs.Packed.{bits-past}
use Rattle.adpcm.proofs.bits_in.Goals as goal

-- 1 << w, at a width up to 8
one_shl : (w : ℕ) → w ≤ 8 → 1 * 2 ^ w % 2 ^ 32 ≡ 2 ^ w
one_shl w h = shl_exact 1 w 32 (lit< tt) (omega arith) ∙ one-mul (2 ^ w)

pub returns-then-input-at : goal.returns-then-input-at
returns-then-input-at c =
    let a = c.args in
    sym (bits-past a.input.now (λ i. (c.type_inv.input i).fits) a.at a.within a.width c.requires.0 c.requires.1 c.if-input-at.true)

pub returns : goal.returns
returns c =
    rw (one_shl _ c.requires.1, and_mask, c.byte_at-low.ensures, c.byte_at-high.ensures)
    (sym (window c.args.input.now (λ i. (c.type_inv.input i).fits) c.args.at c.args.within c.args.width c.requires.0 c.requires.1))
