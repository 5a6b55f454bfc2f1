use Prim.Native.Nat.{ℕ, ◌≤◌}
use native.Mathlib.Omega.{arith}
use mathlib.Core.Path.{◌≡◌, sym, ap, ◌∙◌}
use Rattle.sqv4.specs.Whole.{decoded_into}
use Rattle.sqv4.proofs.Accepted.{accepted-says, says-fills}
use Rattle.sqv4.proofs.Refused.{one, two}
use Rattle.sqv4.proofs.whole.decode.Goals as goal

only : (n : ℕ) → (1 ≤ n) × (n ≤ 2) → (n ≡ 2 → ⊥) → n ≡ 1
only n h k = omega arith

pub decode_channel-requires-clause-fact_1 : goal.decode_channel-requires-clause-fact_1
decode_channel-requires-clause-fact_1 c = let s = (accepted-says _ _ (λ i. (c.shared_slice_known-1.given i).fits) (sym c.inspect.ensures.result ∙ c.in_ok-header.was)) in (says-fills _ _ s)

pub decode_channel-requires-clause-fact_2 : goal.decode_channel-requires-clause-fact_2
decode_channel-requires-clause-fact_2 c = let s = (accepted-says _ _ (λ i. (c.shared_slice_known-1.given i).fits) (sym c.inspect.ensures.result ∙ c.in_ok-header.was)) in (s.one-or-two.0)

pub decode_channel-requires-then-header-eq2-clause-fact_1 : goal.decode_channel-requires-then-header-eq2-clause-fact_1
decode_channel-requires-then-header-eq2-clause-fact_1 c = let s = (accepted-says _ _ (λ i. (c.shared_slice_known-1.given i).fits) (sym c.inspect.ensures.result ∙ c.in_ok-header.was)) in (says-fills _ _ s)

pub returns-then-header-eq2-clause-samples : goal.returns-then-header-eq2-clause-samples
returns-then-header-eq2-clause-samples c =
    let f = c.before.before.before.before.before.before.before.before.before in
    let h = c.in_ok-header.header in
    let d = c.args.file.now in
    let o = c.args.samples.now in
    (two o _ _ d h c.if-header-eq2.true c.decode_channel.ensures c.decode_channel-then-header-eq2.ensures ∙ ap (decoded_into o d) (sym (sym f.inspect.ensures.result ∙ f.in_ok-header.was)))

pub returns-else-header-eq2-clause-samples : goal.returns-else-header-eq2-clause-samples
returns-else-header-eq2-clause-samples c =
    let f = c.before.before.before.before.before.before in
    let h = c.in_ok-header.header in
    let d = c.args.file.now in
    let o = c.args.samples.now in
    let s = (accepted-says _ _ (λ i. (f.shared_slice_known-1.given i).fits) (sym f.inspect.ensures.result ∙ f.in_ok-header.was)) in
    (one o _ d h (only h.channels s.one-or-two c.if-header-eq2.false) c.decode_channel.ensures ∙ ap (decoded_into o d) (sym (sym f.inspect.ensures.result ∙ f.in_ok-header.was)))
