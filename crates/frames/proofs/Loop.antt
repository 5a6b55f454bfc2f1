-- One turn more, and so many stems. Assumes nothing.
use Rattle.std.proofs.Common.{◌≡◌, ℕ, zero, suc, ◌+◌, ◌*◌, ◌%◌, List, length, ℤ, refl, ◌∙◌, add-one, arith, length-append}
use Rattle.sizes.specs.Sizes.{num_channels}
use Rattle.version.specs.declared.SguVersion.{SguVersion}
use Rattle.ticks.specs.Mix.{silence}
use Rattle.voices.specs.declared.Core.{Core}
use Rattle.frames.specs.Ticking.{voiced, voice_ticks}
use Rattle.frames.specs.Turning.{Turns, one_turn, turned}

module _ (version : SguVersion) (ram : List ℕ) (queues : List ℤ) (first n : ℕ) (core₀ : Core) where
  abbrev done : ℕ → Turns
  done k = turned version ram queues first n k core₀

  pub done_more : (k : ℕ) → done (k + 1) ≡ one_turn (done k) (voice_ticks version ram queues ((first + k) % num_channels) n (voiced (done k).core silence))
  unfolding turned
  done_more k = rw add-one

  pub done-long : (k : ℕ) → length (done k).stems ≡ 2 * k
  unfolding turned
  done-long zero = refl
  done-long (suc k) = length-append (done k).stems _ ∙ (let e = done-long k in omega arith)
