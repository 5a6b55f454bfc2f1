use Rattle.std.proofs.Common.{ℕ, ◌*◌, ◌≤◌, eqb, length, ap, ◌∙◌, arith}
use Rattle.sizes.specs.Sizes.{stems_per_frame}
use Rattle.frames.specs.Listing.{frames_asked}
use Rattle.frames.proofs.Counts.{frames-cut}
use Rattle.frames.proofs.asking.fills.Goals as goal

pub returns : goal.returns
returns c =
    let a = c.args in
    let n = c.call_count-count.ensures in
    let h : c.call_count-count.result ≤ length a.kinds.now = omega (arith, n) in
    c.fills_by.ensures ∙ ap (λ (m : ℕ). eqb a.stems (stems_per_frame * m)) (frames-cut a.kinds.now a.addresses.now _ h ∙ ap (frames_asked a.kinds.now a.addresses.now 0) n)
