-- Turns in two parts, turns round and round, and frames as turns. Assumes nothing.
use Rattle.std.proofs.Common.{◌≡◌, ℕ, zero, suc, ◌+◌, ◌*◌, ◌%◌, List, ◌++◌, length, ℤ, sym, refl, ap, ◌∙◌, append_assoc, arith}
use native.Mathlib.Nat as N
use Rattle.sizes.specs.Sizes.{num_channels}
use Rattle.version.specs.declared.SguVersion.{SguVersion}
use Rattle.ticks.specs.Mix.{silence}
use Rattle.voices.specs.declared.Core.{Core}
use Rattle.frames.specs.Ticking.{Voiced, voiced, voice_ticks}
use Rattle.frames.specs.Turning.{Turns, one_turn, turned, frames}
use Rattle.frames.proofs.Loop.{done-long}

-- some turns, and some after them
abbrev pub then : Turns → Turns → Turns
then a b = record { core = b.core; stems = a.stems ++ b.stems; sample = b.sample }

module _ (version : SguVersion) (ram : List ℕ) (queues : List ℤ) (n : ℕ) where
  abbrev go : ℕ → ℕ → Core → Turns
  go first k core = turned version ram queues first n k core

  abbrev ticks : ℕ → Core → Voiced
  ticks ch core = voice_ticks version ram queues ch n (voiced core silence)

  pub turned-add : (first j : ℕ) (core : Core) (k : ℕ) → go first (j + suc k) core ≡ then (go first j core) (go (first + j) (suc k) (go first j core).core)
  unfolding turned
  turned-add first j core k = ap (λ (m : ℕ). go first m core) (N.add-suc j k) ∙ by k
    where
      a : Turns
      a = go first j core

      place : (k : ℕ) → (first + (j + k)) % 8 ≡ (first + j + k) % 8
      place k = omega arith

      by : (k : ℕ) → go first (suc (j + k)) core ≡ then a (go (first + j) (suc k) a.core)
      by zero =
          ap (λ (m : ℕ). go first (suc m) core) (N.add-zero j)
          ∙ ap (λ (i : ℕ). one_turn a (ticks i a.core)) (let e : (first + j) % 8 ≡ (first + j + 0) % 8 = omega arith in e)
      by (suc k) =
          let b = go (first + j) (suc k) a.core in
          ap (λ (m : ℕ). go first (suc m) core) (N.add-suc j k)
          ∙ ap (λ (t : Turns). one_turn t (ticks ((first + suc (j + k)) % 8) t.core)) (by k)
          ∙ ap (λ (i : ℕ). one_turn (then a b) (ticks i b.core)) (let e : (first + suc (j + k)) % 8 ≡ (first + j + suc k) % 8 = omega arith in e)
          ∙ ap (λ (l : List ℤ). record { core = (ticks ((first + j + suc k) % 8) b.core).core; stems = l; sample = (ticks ((first + j + suc k) % 8) b.core).sides.sample })
          (append_assoc a.stems b.stems _)

  -- the voices come round after eight
  pub turned_round : (first m : ℕ) (core : Core) (k : ℕ) → go (first + 8 * m) k core ≡ go first k core
  unfolding turned
  turned_round first m core zero = refl
  turned_round first m core (suc k) =
      ap (λ (t : Turns). one_turn t (ticks ((first + 8 * m + k) % 8) t.core)) (turned_round first m core k)
      ∙ ap (λ (i : ℕ). one_turn (go first k core) (ticks i (go first k core).core)) (let e : (first + 8 * m + k) % 8 ≡ (first + k) % num_channels = omega arith in e)

module _ (version : SguVersion) (ram : List ℕ) (queues : List ℤ) (core : Core) where
  -- m frames are eight turns each
  pub frames-turns : (m : ℕ) → turned version ram queues 0 4 (8 * m) core ≡ frames version ram queues m core
  unfolding turned frames
  frames-turns zero = refl
  frames-turns (suc m) =
      let f = frames version ram queues m core in
      ap (λ (i : ℕ). turned version ram queues 0 4 i core) (more m)
      ∙ turned-add version ram queues 4 0 (8 * m) core 7
      ∙ ap (λ (t : Turns). then t (turned version ram queues (0 + 8 * m) 4 8 t.core)) (frames-turns m)
      ∙ ap (then f) (turned_round version ram queues 4 0 m f.core 8)
    where
      more : (m : ℕ) → 8 * suc m ≡ 8 * m + 8
      more m = omega arith

  pub frames-long : (m : ℕ) → length (frames version ram queues m core).stems ≡ 16 * m
  frames-long m = ap (λ (t : Turns). length t.stems) (sym (frames-turns m)) ∙ done-long version ram queues 0 4 core (8 * m) ∙ omega arith
