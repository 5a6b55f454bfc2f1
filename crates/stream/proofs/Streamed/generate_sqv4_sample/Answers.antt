use Rattle.std.specs.Prelude.{Some, None}
use Rattle.std.proofs.Common.{ℕ, ◌-◌, false, List, length, pos, sym, ap, ◌∙◌, eq-eqb, ne_eqb}
use Rattle.num.specs.Lists.{part}
use Rattle.stream.specs.declared.StreamCache.{StreamCache}
use Rattle.stream.specs.Cache.{Stock, stock, filled_with}
use Rattle.stream.specs.Tick.{StreamTick, unheard, tick_of}
use Rattle.stream.specs.Cached.{held_found, fresh_found, streamed_of}
use Rattle.stream.proofs.Accepts.{accepted-as, accepted-ready}
use Rattle.stream.proofs.Openings.{opened-accepted}
use Rattle.stream.proofs.Founds.{found-short, found-held, found-odd, found-fresh, tick-by}
use Rattle.stream.proofs.Streamed.generate_sqv4_sample.Goals as goal

pub returns-then-samples-ne128-clause-result : goal.returns-then-samples-ne128-clause-result
returns-then-samples-ne128-clause-result c =
    let a = c.args in
    let s = stock a.self.cache a.samples.now in
    let e = tick-by a.ram.now a.p s a.self.phase a.self.active (unheard s) (found-short a.ram.now a.p s (ne_eqb (length a.samples.now) 128 c.if-samples-ne128.true)) in
    (c.silent.ensures ∙ ap streamed_of e)

pub returns-then-samples-ne128-clause-samples : goal.returns-then-samples-ne128-clause-samples
returns-then-samples-ne128-clause-samples c =
    let a = c.args in
    let s = stock a.self.cache a.samples.now in
    let e = tick-by a.ram.now a.p s a.self.phase a.self.active (unheard s) (found-short a.ram.now a.p s (ne_eqb (length a.samples.now) 128 c.if-samples-ne128.true)) in
    (ap (λ (t : StreamTick Stock). t.stream.samples) e)

pub play-requires-clause-fact_1 : goal.play-requires-clause-fact_1
play-requires-clause-fact_1 c =
    let a = c.args in
    (rw c.stream_bytes.ensures (accepted-ready a.ram.now a.self.cache a.p.start a.p.end (accepted-as a.self.cache a.p.start a.p.end (length a.ram.now) (sym c.accepts.ensures ∙ c.if-accepts.true) c.if-cache.true)))

pub returns-then-accepts-clause-result : goal.returns-then-accepts-clause-result
returns-then-accepts-clause-result c =
    let a = c.args in
    let s = stock a.self.cache a.samples.now in
    let f = found-held a.ram.now a.p s (eq-eqb (length a.samples.now) 128 c.if-samples-ne128.false) c.if-cache.true (sym c.accepts.ensures ∙ c.if-accepts.true) in
    let e = ap (λ (d : List ℕ). tick_of a.p a.self.phase a.self.active (held_found d s a.self.cache.variant)) c.stream_bytes.ensures ∙ tick-by a.ram.now a.p s a.self.phase a.self.active (held_found (part a.ram.now a.p.start (a.p.end - a.p.start)) s a.self.cache.variant) f in
    (c.play.ensures.result ∙ ap streamed_of e)

pub returns-then-accepts-clause-samples : goal.returns-then-accepts-clause-samples
returns-then-accepts-clause-samples c =
    let a = c.args in
    let s = stock a.self.cache a.samples.now in
    let f = found-held a.ram.now a.p s (eq-eqb (length a.samples.now) 128 c.if-samples-ne128.false) c.if-cache.true (sym c.accepts.ensures ∙ c.if-accepts.true) in
    let e = ap (λ (d : List ℕ). tick_of a.p a.self.phase a.self.active (held_found d s a.self.cache.variant)) c.stream_bytes.ensures ∙ tick-by a.ram.now a.p s a.self.phase a.self.active (held_found (part a.ram.now a.p.start (a.p.end - a.p.start)) s a.self.cache.variant) f in
    (c.play.ensures.samples ∙ ap (λ (t : StreamTick Stock). t.stream.samples) e)

pub returns-then-cache-clause-result : goal.returns-then-cache-clause-result
returns-then-cache-clause-result c =
    let a = c.args in
    let s = stock a.self.cache a.samples.now in
    let e = tick-by a.ram.now a.p s a.self.phase a.self.active (unheard s) (found-odd a.ram.now a.p s (eq-eqb (length a.samples.now) 128 c.if-samples-ne128.false) c.if-cache.true (sym c.accepts.ensures ∙ c.if-accepts.false)) in
    (c.silent-then-cache.ensures ∙ ap streamed_of e)

pub returns-then-cache-clause-samples : goal.returns-then-cache-clause-samples
returns-then-cache-clause-samples c =
    let a = c.args in
    let s = stock a.self.cache a.samples.now in
    let e = tick-by a.ram.now a.p s a.self.phase a.self.active (unheard s) (found-odd a.ram.now a.p s (eq-eqb (length a.samples.now) 128 c.if-samples-ne128.false) c.if-cache.true (sym c.accepts.ensures ∙ c.if-accepts.false)) in
    (ap (λ (t : StreamTick Stock). t.stream.samples) e)

pub returns-in_default-clause-result : goal.returns-in_default-clause-result
returns-in_default-clause-result c =
    let a = c.args in
    let s = stock a.self.cache a.samples.now in
    let f = found-fresh a.ram.now a.p s (eq-eqb (length a.samples.now) 128 c.if-samples-ne128.false) c.if-cache.false None (sym c.initialize_sqv4-opened.ensures ∙ c.in_default.is) in
    let e = tick-by a.ram.now a.p s a.self.phase a.self.active (fresh_found (part a.ram.now a.p.start (a.p.end - a.p.start)) a.samples.now None) f in
    (c.stopped.ensures ∙ ap (λ (x : StreamCache). record { cache = x; phase = a.self.phase; active = false; q8 = pos 0 }) c.default.ensures ∙ ap streamed_of e)

pub returns-in_default-clause-samples : goal.returns-in_default-clause-samples
returns-in_default-clause-samples c =
    let a = c.args in
    let s = stock a.self.cache a.samples.now in
    let f = found-fresh a.ram.now a.p s (eq-eqb (length a.samples.now) 128 c.if-samples-ne128.false) c.if-cache.false None (sym c.initialize_sqv4-opened.ensures ∙ c.in_default.is) in
    let e = tick-by a.ram.now a.p s a.self.phase a.self.active (fresh_found (part a.ram.now a.p.start (a.p.end - a.p.start)) a.samples.now None) f in
    (c.clear.ensures ∙ ap (λ (t : StreamTick Stock). t.stream.samples) e)

pub play-requires-2-clause-fact_1 : goal.play-requires-2-clause-fact_1
play-requires-2-clause-fact_1 c =
    let a = c.args in
    let k = c.in-Some in
    let w = opened-accepted a.ram.now a.p.wants_v3 a.p.start a.p.end a.p.loop_addr k.variant k.info (sym c.initialize_sqv4-opened.ensures ∙ k.is) in
    (rw (c.stream_bytes-2.ensures, c.filled-c.ensures) (accepted-ready a.ram.now (filled_with k.variant k.info) a.p.start a.p.end w))

pub returns-clause-result : goal.returns-clause-result
returns-clause-result c =
    let a = c.args in
    let s = stock a.self.cache a.samples.now in
    let k = c.in-Some in
    let file = part a.ram.now a.p.start (a.p.end - a.p.start) in
    let f = found-fresh a.ram.now a.p s (eq-eqb (length a.samples.now) 128 c.if-samples-ne128.false) c.if-cache.false (Some (k.variant, k.info)) (sym c.initialize_sqv4-opened.ensures ∙ k.is) in
    let e = ap (λ (d : List ℕ). tick_of a.p a.self.phase a.self.active (held_found d (stock c.filled-c.result a.samples.now) c.filled-c.result.variant)) c.stream_bytes-2.ensures
    ∙ ap (λ (x : StreamCache). tick_of a.p a.self.phase a.self.active (held_found file (stock x a.samples.now) x.variant)) c.filled-c.ensures
    ∙ tick-by a.ram.now a.p s a.self.phase a.self.active (fresh_found file a.samples.now (Some (k.variant, k.info))) f in
    (c.play-2.ensures.result ∙ ap streamed_of e)

pub returns-clause-samples : goal.returns-clause-samples
returns-clause-samples c =
    let a = c.args in
    let s = stock a.self.cache a.samples.now in
    let k = c.in-Some in
    let file = part a.ram.now a.p.start (a.p.end - a.p.start) in
    let f = found-fresh a.ram.now a.p s (eq-eqb (length a.samples.now) 128 c.if-samples-ne128.false) c.if-cache.false (Some (k.variant, k.info)) (sym c.initialize_sqv4-opened.ensures ∙ k.is) in
    let e = ap (λ (d : List ℕ). tick_of a.p a.self.phase a.self.active (held_found d (stock c.filled-c.result a.samples.now) c.filled-c.result.variant)) c.stream_bytes-2.ensures
    ∙ ap (λ (x : StreamCache). tick_of a.p a.self.phase a.self.active (held_found file (stock x a.samples.now) x.variant)) c.filled-c.ensures
    ∙ tick-by a.ram.now a.p s a.self.phase a.self.active (fresh_found file a.samples.now (Some (k.variant, k.info))) f in
    (c.play-2.ensures.samples ∙ ap (λ (t : StreamTick Stock). t.stream.samples) e)
