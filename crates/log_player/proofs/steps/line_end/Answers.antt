use Rattle.std.specs.Prelude.{Some, None, position}
use Rattle.std.proofs.Common.{rules, tests}
use Rattle.std.proofs.lemmas.Iterator.{YieldsList-from_slice}
use Rattle.std.proofs.lemmas.Iterator.Search.{position_from_yields_List}
use mathlib.Core.Path.{◌≡◌, sym, ap, ◌∙◌}
use Prim.Native.Nat.{ℕ, ◌+◌}
use lib.Dec.{eqb}
use lib.ListN.{drop}
use Rattle.log_player.proofs.Stops.{end-at, end-nowhere}
use Rattle.log_player.proofs.steps.line_end.Goals as goal

pub returns-in_err-count : goal.returns-in_err-count
returns-in_err-count c =
    let e : c.position.result ≡ position (λ (x : ℕ). eqb x 10) c.tail.result.now = position_from_yields_List _ _ _ _ c.position.ensures.ran (YieldsList-from_slice c.tail.result.now cc) (λ x b q k. search (rules, tests)) in
    c.from_residual.ensures ∙ sym (end-nowhere (drop c.args.from c.args.input.now) c.args.from _ (rw c.tail.ensures at e) c.in_err-count.was)

pub returns : goal.returns
returns c =
    let e : c.position.result ≡ position (λ (x : ℕ). eqb x 10) c.tail.result.now = position_from_yields_List _ _ _ _ c.position.ensures.ran (YieldsList-from_slice c.tail.result.now cc) (λ x b q k. search (rules, tests)) in
    sym (end-at (drop c.args.from c.args.input.now) c.args.from _ _ (rw c.tail.ensures at e) c.in_ok-count.was)
