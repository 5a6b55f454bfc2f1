use Rattle.std.proofs.Common.{refl, sym, ap, ◌∙◌, w64, SFits, rules, eq-eqb}
use Rattle.num.proofs.Integers.{back}
use Rattle.sqv4_make.specs.Lines.{sample_within, sample_line}
use Rattle.sqv4_make.proofs.Samples.{fitting}
use Rattle.sqv4_make.proofs.lines.sample_line.Goals as goal

pub returns : goal.returns
unfolding sample_line
returns c =
    let z = c.in_ok-value.value in
    let f : SFits w64 z = search rules in
    fitting _ _ z _ _ c.ok.ensures.value (rw (back w64 z f) at c.try_from.ensures) refl refl
    ∙ sym (ap (sample_within _) (sym c.take_number.ensures ∙ c.in_ok-value.was) ∙ rw (eq-eqb _ _ c.if-next-line.false))
