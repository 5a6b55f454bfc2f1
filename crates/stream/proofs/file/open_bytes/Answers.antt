use Rattle.std.proofs.Common.{◌≡◌, sym, ◌∙◌, arith, Ok}
use Rattle.sqv4.specs.Files.{inspected}
use Rattle.stream.proofs.Openings.{header-fits}
use Rattle.stream.proofs.file.open_bytes.Goals as goal

found : (c : goal.Then-is_wanted) → inspected c.args.file.now ≡ Ok c.in-Ok.header
found c = sym c.inspect.ensures.result ∙ c.in-Ok.is

pub with_loop-requires : goal.with_loop-requires
with_loop-requires c =
    let w = header-fits c.args.file.now _ (λ i. (c.type_inv.file i).fits) (found c) in
    (omega (arith, w.0, c.requires), w.1, w.2, w.3)
