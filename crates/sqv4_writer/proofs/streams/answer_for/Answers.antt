use borrow.Author.Tests.{lt-ltb, le-ltb}
use mathlib.Core.Path.{◌≡◌, sym, ◌∙◌}
use mathlib.Core.Bool.{false}
use Rattle.sqv4_writer.specs.Streams.{answer_for, out_of_terms}
use Rattle.sqv4_writer.proofs.Limits.{in-terms}
use Rattle.sqv4_writer.proofs.streams.answer_for.Goals as goal

within : (c : goal.Else-out_of_terms) → let a = c.args in out_of_terms a.samples a.terms.rate a.terms.volume a.terms.index ≡ false
within c = sym c.out_of_terms.ensures ∙ c.if-out_of_terms.false

pub returns-then-out_of_terms : goal.returns-then-out_of_terms
unfolding answer_for
returns-then-out_of_terms c = rw (sym c.out_of_terms.ensures ∙ c.if-out_of_terms.true)

pub file_length-length-requires : goal.file_length-length-requires
file_length-length-requires c = (in-terms _ _ _ _ (within c)).few

pub returns-then-room-length : goal.returns-then-room-length
unfolding answer_for
returns-then-room-length c =
    let a = c.args in
    rw (within c.before.before, sym c.file_length-length.ensures, lt-ltb a.room c.file_length-length.result c.if-room-length.true)

pub returns : goal.returns
unfolding answer_for
returns c =
    let a = c.args in
    rw (within c.before.before, sym c.file_length-length.ensures, le-ltb a.room c.file_length-length.result c.if-room-length.false)
