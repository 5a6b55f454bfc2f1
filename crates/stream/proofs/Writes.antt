-- A RAM write outside a stream leaves its cache coherent; an emptied cache is coherent. Assumes nothing.
use Rattle.std.proofs.Common.{◌≡◌, ℕ, ◌+◌, ◌-◌, ◌<◌, ◌≤◌, Bool, ◌⊎◌, List, length, take, drop, set, ℤ, sym, ap, ◌∙◌, subst, inl, inr, arith, length-set, drop-set-lt}
use native.Mathlib.Decide.{dec_le}
use lib.Seq.{take-set-le, drop-set-add}
use Rattle.num.specs.Lists.{part}
use Rattle.stream.specs.File.{Source, source_of}
use Rattle.stream.specs.Cache.{Stock, stock, emptied}
use Rattle.stream.specs.Coherent.{CoherentFrom, CoherentIn}
use Rattle.stream.proofs.Same.{emptied-coherent}

module _ (ram : List ℕ) (a x start end : ℕ) (out : (a < start) ⊎ (end ≤ a)) where
  part_out : part (set ram a x) start (end - start) ≡ part ram start (end - start)
  part_out = elim (dec_le start a) [ yes h ↦ above out h | no h ↦ rw (drop-set-lt start ram a x (omega arith)) ]
    where
      above : (a < start) ⊎ (end ≤ a) → start ≤ a → take (end - start) (drop start (set ram a x)) ≡ take (end - start) (drop start ram)
      above (inl l) h = absurd (omega arith)
      above (inr l) h =
          let e : a ≡ start + (a - start) = omega arith in
          ap (λ (n : ℕ). take (end - start) (drop start (set ram n x))) e
          ∙ rw (drop-set-add start ram (a - start) x) (take-set-le (end - start) (drop start ram) (a - start) x (omega arith))

  pub source-out : source_of (set ram a x) start end ≡ source_of ram start end
  unfolding source_of
  source-out = rw (length-set ram a x, part_out)

  -- whatever the chip wants and wherever the loop is
  pub coherent-out : (wants : Bool) (again : ℕ) (s : Stock) → CoherentIn ram wants start end again s → CoherentIn (set ram a x) wants start end again s
  coherent-out wants again s ok = subst (λ (src : Source). CoherentFrom src wants start again s) (sym source-out) ok

-- whatever the RAM and the addresses are
pub coherent-emptied : (ram : List ℕ) (wants : Bool) (start end again : ℕ) (samples : List ℤ) → length samples ≡ 128 → CoherentIn ram wants start end again (stock emptied samples)
coherent-emptied ram wants start end again samples e = emptied-coherent _ _ samples e
