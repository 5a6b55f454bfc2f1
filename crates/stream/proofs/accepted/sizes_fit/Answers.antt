use Rattle.std.proofs.Common.{eqb, sym, ap, ◌∙◌, eq-eqb, ne_eqb, le-leb}
use borrow.Author.Tests.{lt-leb}
use Rattle.sqv4.specs.Files.{frame_samples_of}
use Rattle.stream.specs.Accepted.{sizes_fit}
use Rattle.stream.proofs.accepted.sizes_fit.Goals as goal

pub returns-then-info-lt1 : goal.returns-then-info-lt1
unfolding sizes_fit
returns-then-info-lt1 c = rw (lt-leb 1 c.args.info.version c.if-info-lt1.true)

pub returns-then-info-gt3 : goal.returns-then-info-gt3
unfolding sizes_fit
returns-then-info-gt3 c =
    let a = c.args in rw (le-leb 1 a.info.version c.if-info-lt1.false, lt-leb a.info.version 3 c.if-info-gt3.true)

pub returns-then-info-frame_samples : goal.returns-then-info-frame_samples
unfolding sizes_fit
returns-then-info-frame_samples c =
    let a = c.args in
    let v = a.info.version in
    rw (le-leb 1 v c.if-info-lt1.false, le-leb v 3 c.if-info-gt3.false, ne_eqb a.info.frame_samples (frame_samples_of v) (λ e. c.if-info-frame_samples.true (e ∙ sym c.frame_samples.ensures.result)))

pub returns : goal.returns
unfolding sizes_fit
returns c =
    let a = c.args in
    let v = a.info.version in
    rw (le-leb 1 v c.if-info-lt1.false, le-leb v 3 c.if-info-gt3.false, eq-eqb a.info.frame_samples (frame_samples_of v) (c.if-info-frame_samples.false ∙ c.frame_samples.ensures.result))
    (ap (eqb a.info.frame_size) c.frame_size.ensures.result)
