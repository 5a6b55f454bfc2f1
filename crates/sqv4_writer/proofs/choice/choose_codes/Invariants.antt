use mathlib.Core.Path.{◌≡◌}
use lib.ListN.{length, drop}
use lib.Seq.{sets}
use Rattle.sqv4.specs.Decoding.{start_of}
use Rattle.sqv4_writer.specs.Choice.{codes_for}
use Rattle.sqv4_writer.proofs.choice.choose_codes.Given as goal

abbrev pub invariant-loop-i : goal.invariant-loop-i
invariant-loop-i l =
    (length l.codes ≡ 64) × (sets l.codes l.i (codes_for l.terms.variant l.terms.volume l.state (drop l.i l.samples)) ≡ sets l.initial.codes 0 (codes_for l.terms.variant l.terms.volume (start_of l.terms.index) l.samples))
