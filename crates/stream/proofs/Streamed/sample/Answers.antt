use Rattle.std.proofs.Common.{◌≡◌, ◌+◌, ◌<◌, ℕ, ℤ, List, eqb, length, sym, ap, ◌∙◌, subst, w16, w32}
use borrow.Author.Rules.{sfits_of}
use Rattle.num.proofs.Integers.{back}
use Rattle.adpcm.specs.declared.Variant.{Variant}
use Rattle.stream.specs.declared.Info.{Info}
use Rattle.stream.specs.declared.StreamCache.{StreamCache}
use Rattle.stream.specs.Cache.{Stock, stock, Plays, frames_of, fragment_samples, fragment_state, ensure_in}
use Rattle.stream.specs.Tick.{Given}
use Rattle.stream.specs.Cached.{cached_read}
use Rattle.stream.specs.Ready.{with_given}
use Rattle.stream.proofs.Fragments.{frame-there}
use Rattle.stream.proofs.Onward.{Kept, kept-ensure}
use Rattle.stream.proofs.Heard.{heard-one, heard-two, read_is, mixes-next}
use Rattle.stream.proofs.Streamed.sample.Goals as goal

-- what the first fragment leaves as it was
first-kept : (file : List ℕ) (k : Variant) (c d : StreamCache) (s t : List ℤ) (f : ℕ) → d ≡ (ensure_in file k c.info (stock c s) f).cache → t ≡ (ensure_in file k c.info (stock c s) f).samples
    → Kept (eqb c.info.version 3) (fragment_samples file k c.info) (fragment_state file k c.info) (stock c s) (stock d t)
first-kept file k c d s t f p q =
    let w = kept-ensure (eqb c.info.version 3) (fragment_samples file k c.info) (fragment_state file k c.info) (stock c s) f in
    record { valid = ap (λ (x : StreamCache). x.valid) p ∙ w.valid; variant = ap (λ (x : StreamCache). x.variant) p ∙ w.variant; info = ap (λ (x : StreamCache). x.info) p ∙ w.info; long = ap length q ∙ w.long }

pub ensure_sqv4_frame-d-requires-clause-fact_1 : goal.ensure_sqv4_frame-d-requires-clause-fact_1
ensure_sqv4_frame-d-requires-clause-fact_1 c =
    let a = c.args in
    let e = c.ensure_sqv4_frame-c in
    let w = first-kept a.file.now a.variant a.self.cache e.result a.samples.now e.new.samples c.frame_of.result e.ensures.result e.ensures.samples in
    subst (λ (x : Info). Plays a.file.now a.variant x) (sym w.info) c.requires.fact_1

pub ensure_sqv4_frame-d-requires-clause-fact_3 : goal.ensure_sqv4_frame-d-requires-clause-fact_3
ensure_sqv4_frame-d-requires-clause-fact_3 c =
    let a = c.args in
    let e = c.ensure_sqv4_frame-c in
    let w = first-kept a.file.now a.variant a.self.cache e.result a.samples.now e.new.samples c.frame_of.result e.ensures.result e.ensures.samples in
    let n = mixes-next a.self.cache.info a.p a.frac a.i (sym c.is_mixed.ensures.result ∙ c.if-is_mixed.true) in
    let l : c.frame_of-then-is_mixed.result < frames_of a.self.cache.info = rw c.frame_of-then-is_mixed.ensures (frame-there a.file.now a.variant a.self.cache.info c.requires.fact_1 (a.i + 1) n) in
    subst (λ (x : Info). c.frame_of-then-is_mixed.result < frames_of x) (sym w.info) l

pub returns-then-is_mixed-clause-result : goal.returns-then-is_mixed-clause-result
returns-then-is_mixed-clause-result c =
    let a = c.args in
    let i = a.self.cache.info in
    let e = c.ensure_sqv4_frame-c in
    let w = first-kept a.file.now a.variant a.self.cache e.result a.samples.now e.new.samples c.frame_of.result e.ensures.result e.ensures.samples in
    let s₁ = stock e.result e.new.samples in
    let e₂ = c.ensure_sqv4_frame-d in
    let t₁ = c.tap-current in
    let t₂ = c.tap in
    let f₂ = c.frame_of-then-is_mixed in
    let g : Given Stock = record { left = s₁; sample = t₁.result } in
    let n : Given Stock = record { left = stock e₂.result e₂.new.samples; sample = t₂.result } in
    let r : g ≡ cached_read a.file.now a.variant i (stock a.self.cache a.samples.now) a.i =
    read_is a.file.now a.variant i (stock a.self.cache a.samples.now) a.i c.frame_of.result e.result e.new.samples t₁.result c.frame_of.ensures e.ensures.result e.ensures.samples t₁.ensures in
    let q : n ≡ cached_read a.file.now a.variant i s₁ (a.i + 1) = read_is a.file.now a.variant i s₁ (a.i + 1) f₂.result e₂.result e₂.new.samples t₂.result f₂.ensures
    (e₂.ensures.result ∙ ap (λ (x : Info). (ensure_in a.file.now a.variant x s₁ f₂.result).cache) w.info)
    (e₂.ensures.samples ∙ ap (λ (x : Info). (ensure_in a.file.now a.variant x s₁ f₂.result).samples) w.info) t₂.ensures in
    let h = heard-two (cached_read a.file.now a.variant i) i a.p a.frac (stock a.self.cache a.samples.now) a.i g r (sym c.is_mixed.ensures.result ∙ c.if-is_mixed.true) n q _
    (back w32 c.blend_samples.result (sfits_of c.blend_samples.type_inv) ∙ (rw (back w16 t₁.result (sfits_of t₁.type_inv), back w16 t₂.result (sfits_of t₂.type_inv)) at c.blend_samples.ensures.result)) in
    ap (with_given a.self) h

pub returns-then-is_mixed-clause-samples : goal.returns-then-is_mixed-clause-samples
returns-then-is_mixed-clause-samples c =
    let a = c.args in
    let i = a.self.cache.info in
    let e = c.ensure_sqv4_frame-c in
    let w = first-kept a.file.now a.variant a.self.cache e.result a.samples.now e.new.samples c.frame_of.result e.ensures.result e.ensures.samples in
    let s₁ = stock e.result e.new.samples in
    let e₂ = c.ensure_sqv4_frame-d in
    let t₁ = c.tap-current in
    let t₂ = c.tap in
    let f₂ = c.frame_of-then-is_mixed in
    let g : Given Stock = record { left = s₁; sample = t₁.result } in
    let n : Given Stock = record { left = stock e₂.result e₂.new.samples; sample = t₂.result } in
    let r : g ≡ cached_read a.file.now a.variant i (stock a.self.cache a.samples.now) a.i =
    read_is a.file.now a.variant i (stock a.self.cache a.samples.now) a.i c.frame_of.result e.result e.new.samples t₁.result c.frame_of.ensures e.ensures.result e.ensures.samples t₁.ensures in
    let q : n ≡ cached_read a.file.now a.variant i s₁ (a.i + 1) = read_is a.file.now a.variant i s₁ (a.i + 1) f₂.result e₂.result e₂.new.samples t₂.result f₂.ensures
    (e₂.ensures.result ∙ ap (λ (x : Info). (ensure_in a.file.now a.variant x s₁ f₂.result).cache) w.info)
    (e₂.ensures.samples ∙ ap (λ (x : Info). (ensure_in a.file.now a.variant x s₁ f₂.result).samples) w.info) t₂.ensures in
    let h = heard-two (cached_read a.file.now a.variant i) i a.p a.frac (stock a.self.cache a.samples.now) a.i g r (sym c.is_mixed.ensures.result ∙ c.if-is_mixed.true) n q _
    (back w32 c.blend_samples.result (sfits_of c.blend_samples.type_inv) ∙ (rw (back w16 t₁.result (sfits_of t₁.type_inv), back w16 t₂.result (sfits_of t₂.type_inv)) at c.blend_samples.ensures.result)) in
    ap (λ (x : Given Stock). x.left.samples) h

pub returns-clause-result : goal.returns-clause-result
returns-clause-result c =
    let a = c.args in
    let i = a.self.cache.info in
    let e = c.ensure_sqv4_frame-c in
    let t₁ = c.tap-current in
    let g : Given Stock = record { left = stock e.result e.new.samples; sample = t₁.result } in
    let r : g ≡ cached_read a.file.now a.variant i (stock a.self.cache a.samples.now) a.i =
    read_is a.file.now a.variant i (stock a.self.cache a.samples.now) a.i c.frame_of.result e.result e.new.samples t₁.result c.frame_of.ensures e.ensures.result e.ensures.samples t₁.ensures in
    let h = heard-one (cached_read a.file.now a.variant i) i a.p a.frac (stock a.self.cache a.samples.now) a.i g r (sym c.is_mixed.ensures.result ∙ c.if-is_mixed.false) _
    (back w32 c.raised_sample.result (sfits_of c.raised_sample.type_inv) ∙ (rw (back w16 t₁.result (sfits_of t₁.type_inv)) at c.raised_sample.ensures.result)) in
    ap (with_given a.self) h

pub returns-clause-samples : goal.returns-clause-samples
returns-clause-samples c =
    let a = c.args in
    let i = a.self.cache.info in
    let e = c.ensure_sqv4_frame-c in
    let t₁ = c.tap-current in
    let g : Given Stock = record { left = stock e.result e.new.samples; sample = t₁.result } in
    let r : g ≡ cached_read a.file.now a.variant i (stock a.self.cache a.samples.now) a.i =
    read_is a.file.now a.variant i (stock a.self.cache a.samples.now) a.i c.frame_of.result e.result e.new.samples t₁.result c.frame_of.ensures e.ensures.result e.ensures.samples t₁.ensures in
    let h = heard-one (cached_read a.file.now a.variant i) i a.p a.frac (stock a.self.cache a.samples.now) a.i g r (sym c.is_mixed.ensures.result ∙ c.if-is_mixed.false) c.raised_sample.result
    (rw (back w16 t₁.result (sfits_of t₁.type_inv)) at c.raised_sample.ensures.result) in
    ap (λ (x : Given Stock). x.left.samples) h
