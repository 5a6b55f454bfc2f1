use Rattle.std.proofs.Common.{sym, ap, ◌∙◌, le-ltb, lt-ltb, eq-eqb, ne_eqb}
use Rattle.stream.specs.declared.StreamCache.{StreamCache}
use Rattle.stream.specs.Cache.{Stock, stock, onward_in}
use Rattle.stream.proofs.Onward.{ensure-held, ensure-load, ensure-back, ensure-on}
use Rattle.stream.proofs.StreamCache.ensure_sqv4_frame.Goals as goal

pub returns-then-has-clause-result : goal.returns-then-has-clause-result
returns-then-has-clause-result c =
    let a = c.args in
    let e = sym (ensure-held a.file.now a.variant a.self.info (stock a.self a.samples.now) a.target (sym c.has.ensures ∙ c.if-has.true)) in
    (ap (λ (x : Stock). x.cache) e)

pub returns-then-has-clause-samples : goal.returns-then-has-clause-samples
returns-then-has-clause-samples c =
    let a = c.args in
    let e = sym (ensure-held a.file.now a.variant a.self.info (stock a.self a.samples.now) a.target (sym c.has.ensures ∙ c.if-has.true)) in
    (ap (λ (x : Stock). x.samples) e)

pub returns-then-info-eq3-clause-result : goal.returns-then-info-eq3-clause-result
returns-then-info-eq3-clause-result c =
    let a = c.args in
    let e = sym (ensure-load a.file.now a.variant a.self.info (stock a.self a.samples.now) a.target (sym c.has.ensures ∙ c.if-has.false) (eq-eqb a.self.info.version 3 c.if-info-eq3.true)) in
    (c.load.ensures.result ∙ ap (λ (x : Stock). x.cache) e)

pub returns-then-info-eq3-clause-samples : goal.returns-then-info-eq3-clause-samples
returns-then-info-eq3-clause-samples c =
    let a = c.args in
    let e = sym (ensure-load a.file.now a.variant a.self.info (stock a.self a.samples.now) a.target (sym c.has.ensures ∙ c.if-has.false) (eq-eqb a.self.info.version 3 c.if-info-eq3.true)) in
    (c.load.ensures.samples ∙ ap (λ (x : Stock). x.samples) e)

pub returns-then-target-next-clause-result : goal.returns-then-target-next-clause-result
returns-then-target-next-clause-result c =
    let a = c.args in
    let e = sym (ensure-back a.file.now a.variant a.self.info (stock a.self a.samples.now) a.target (sym c.has.ensures ∙ c.if-has.false) (ne_eqb a.self.info.version 3 c.if-info-eq3.false) (lt-ltb a.target a.self.next_frame c.if-target-next.true)) in
    let r = c.rewound.ensures in (c.onward.ensures.result ∙ ap (λ (x : StreamCache). (onward_in a.file.now a.variant x.info (stock x a.samples.now) a.target).cache) r ∙ ap (λ (x : Stock). x.cache) e)

pub returns-then-target-next-clause-samples : goal.returns-then-target-next-clause-samples
returns-then-target-next-clause-samples c =
    let a = c.args in
    let e = sym (ensure-back a.file.now a.variant a.self.info (stock a.self a.samples.now) a.target (sym c.has.ensures ∙ c.if-has.false) (ne_eqb a.self.info.version 3 c.if-info-eq3.false) (lt-ltb a.target a.self.next_frame c.if-target-next.true)) in
    let r = c.rewound.ensures in (c.onward.ensures.samples ∙ ap (λ (x : StreamCache). (onward_in a.file.now a.variant x.info (stock x a.samples.now) a.target).samples) r ∙ ap (λ (x : Stock). x.samples) e)

pub returns-clause-result : goal.returns-clause-result
returns-clause-result c =
    let a = c.args in
    let e = sym (ensure-on a.file.now a.variant a.self.info (stock a.self a.samples.now) a.target (sym c.has.ensures ∙ c.if-has.false) (ne_eqb a.self.info.version 3 c.if-info-eq3.false) (le-ltb a.target a.self.next_frame c.if-target-next.false)) in
    (c.onward-2.ensures.result ∙ ap (λ (x : Stock). x.cache) e)

pub returns-clause-samples : goal.returns-clause-samples
returns-clause-samples c =
    let a = c.args in
    let e = sym (ensure-on a.file.now a.variant a.self.info (stock a.self a.samples.now) a.target (sym c.has.ensures ∙ c.if-has.false) (ne_eqb a.self.info.version 3 c.if-info-eq3.false) (le-ltb a.target a.self.next_frame c.if-target-next.false)) in
    (c.onward-2.ensures.samples ∙ ap (λ (x : Stock). x.samples) e)
