use Rattle.std.proofs.Common.{◌≡◌, ℕ, ◌-◌, ◌≤◌, ℤ, List, length, sym, ap, ◌∙◌, arith, length-take-le, Result, Ok}
use Rattle.sqv4_writer.specs.Streams.{answer_for}
use Rattle.sqv4_writer.specs.declared.StreamError.{StreamError}
use Rattle.sqv4_writer.specs.declared.Terms.{Terms}
use Rattle.sqv4_make.specs.Making.{most_bytes, most_samples}
use Rattle.sqv4_make.proofs.Rooms.{samples-fit, taken-answer}
use Rattle.sqv4_make.proofs.making.make.Goals as goal

-- the samples that were stored are all that there are
samples-room : (count : ℕ) (t : Terms) (xs : List ℤ) (found : Result ℕ StreamError) (n : ℕ)
    → found ≡ answer_for count t.variant t.rate t.volume t.index most_bytes → found ≡ Ok n → length xs ≡ most_samples → count ≤ length xs
samples-room count t xs found n e is h = omega (arith, samples-fit count t.variant t.rate t.volume t.index n (sym e ∙ is), h)

pub slice_bounds-write_stream-end : goal.slice_bounds-write_stream-end
slice_bounds-write_stream-end c =
    let a = c.args in
    let t = a.terms in
    let e = c.answer_for.ensures ∙ ap (answer_for (a.lines - 1) t.variant t.rate t.volume t.index) c.requires.2 in
    sym (length-take-le _ _ (samples-room (a.lines - 1) t a.samples.now _ _ e c.in_ok-answer_for.was c.requires.1))

pub returns-clause-result : goal.returns-clause-result
returns-clause-result c =
    let a = c.args in
    let t = a.terms in
    let e = c.answer_for.ensures ∙ ap (answer_for (a.lines - 1) t.variant t.rate t.volume t.index) c.requires.2 in
    c.write_stream.ensures.result
    ∙ taken-answer (a.lines - 1) a.samples.now t.variant t.rate t.volume t.index a.file.now (samples-room (a.lines - 1) t a.samples.now _ _ e c.in_ok-answer_for.was c.requires.1) c.requires.2
