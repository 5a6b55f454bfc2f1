-- The ways of the tick: what the cache finds. Assumes nothing.
use Rattle.std.specs.Prelude.{Option}
use Rattle.stream.specs.declared.Info.{Info}
use Rattle.adpcm.specs.declared.Variant.{Variant}
use Rattle.std.proofs.Common.{◌≡◌, ℕ, ◌-◌, Bool, true, false, cond, eqb, List, length, sym, ap, ◌∙◌}
use Rattle.num.specs.Lists.{part}
use Rattle.stream.specs.declared.Play.{Play}
use Rattle.stream.specs.File.{source_of, opened_in}
use Rattle.stream.specs.Cache.{Stock}
use Rattle.stream.specs.Accepted.{accepts_cache}
use Rattle.stream.specs.Tick.{FoundFile, unheard, tick_of}
use Rattle.stream.specs.Cached.{held_found, fresh_found, cached_found, cached_tick}

pub choose : {A : Type 0} (b : Bool) (x y : A) → b ≡ true → cond b x y ≡ x
choose b x y e = ap (λ (t : Bool). cond t x y) e

pub refuse : {A : Type 0} (b : Bool) (x y : A) → b ≡ false → cond b x y ≡ y
refuse b x y e = ap (λ (t : Bool). cond t x y) e

module _ (ram : List ℕ) (p : Play) (s : Stock) where
  abbrev file : List ℕ
  file = part ram p.start (p.end - p.start)

  pub found-short : eqb (length s.samples) 128 ≡ false → cached_found ram p s ≡ unheard s
  unfolding cached_found
  found-short e = refuse (eqb (length s.samples) 128) _ _ e

  pub found-held : eqb (length s.samples) 128 ≡ true → s.cache.valid ≡ true → accepts_cache s.cache p.start p.end (length ram) ≡ true → cached_found ram p s ≡ held_found file s s.cache.variant
  unfolding cached_found source_of
  found-held e v a = choose (eqb (length s.samples) 128) _ _ e ∙ choose s.cache.valid _ _ v ∙ choose (accepts_cache s.cache p.start p.end (length ram)) _ _ a

  pub found-odd : eqb (length s.samples) 128 ≡ true → s.cache.valid ≡ true → accepts_cache s.cache p.start p.end (length ram) ≡ false → cached_found ram p s ≡ unheard s
  unfolding cached_found
  found-odd e v a = choose (eqb (length s.samples) 128) _ _ e ∙ choose s.cache.valid _ _ v ∙ refuse (accepts_cache s.cache p.start p.end (length ram)) _ _ a

  pub found-fresh : eqb (length s.samples) 128 ≡ true → s.cache.valid ≡ false → (o : Option (Variant × Info)) → opened_in ram p.wants_v3 p.start p.end p.loop_addr ≡ o → cached_found ram p s ≡ fresh_found file s.samples o
  unfolding cached_found source_of
  found-fresh e v o q = choose (eqb (length s.samples) 128) _ _ e ∙ refuse s.cache.valid _ _ v ∙ ap (fresh_found file s.samples) q

  pub tick-by : (phase : ℕ) (active : Bool) (f : FoundFile Stock) → cached_found ram p s ≡ f → tick_of p phase active f ≡ cached_tick ram p phase active s
  unfolding cached_tick
  tick-by phase active f e = sym (ap (tick_of p phase active) e)
