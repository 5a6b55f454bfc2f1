use Rattle.std.proofs.Common.{ℕ, List, ap, ◌∙◌, le-ltb, lt-ltb, le-leb}
use borrow.Author.Tests.{lt-leb}
use Rattle.sqv4.specs.Files.{inspected}
use Rattle.stream.specs.File.{opened_as, opened_from, source_of}
use Rattle.stream.proofs.file.initialize_sqv4.Goals as goal

pub returns-then-end-start : goal.returns-then-end-start
unfolding opened_from source_of
returns-then-end-start c = rw (le-ltb c.args.start c.args.end c.if-end-start.true)

pub returns-then-ram-end : goal.returns-then-ram-end
unfolding opened_from source_of
returns-then-ram-end c = rw (lt-ltb c.args.start c.args.end c.if-end-start.false, lt-leb c.args.end _ c.if-ram-end.true)

pub returns : goal.returns
unfolding opened_from source_of
returns c =
    let a = c.args in
    rw (lt-ltb a.start a.end c.if-end-start.false, le-leb a.end _ c.if-ram-end.false)
    (c.open_bytes.ensures ∙ ap (λ (l : List ℕ). opened_as a.wants_v3 a.start a.loop_addr (inspected l)) c.stream_bytes.ensures)
