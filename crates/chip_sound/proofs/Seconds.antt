-- Core 1 where it does not sound: the version lacks it, or it is at rest. Core 0 is in every version. Assumes nothing.
use mathlib.Core.Path.{◌≡◌, refl, sym, ap, ◌∙◌}
use mathlib.Core.Bool.{Bool, true, false, cond, ◌&&◌, not}
use mathlib.Core.List.{List}
use Prim.Native.Nat.{ℕ, ◌*◌, ◌≤◌, ◌<◌}
use native.Mathlib.Omega.{arith}
use lib.Dec.{ltb}
use lib.IntN.{ℤ}
use borrow.Author.Tests.{lt-ltb, le-ltb}
use Rattle.num.proofs.Choice.{never}
use Rattle.version.specs.declared.SguVersion.{SguVersion}
use Rattle.version.specs.declared.SguVersion.TheVariants.{V1, V2, V2_1, V3, V3_1}
use Rattle.version.specs.Versions.{core_count}
use Rattle.sides.specs.Sides.{added}
use Rattle.sides.proofs.Frames.{added-silent}
use Rattle.frames.specs.Turning.{Turns, frames}
use Rattle.frame_reports.specs.Ending.{frames_ended}
use Rattle.rest.specs.Rest.{rests}
use Rattle.rest.proofs.Resting.{rest-frames, rest_ended}
use Rattle.s3w2.specs.declared.Chip.{Chip}
use Rattle.s3w2.specs.Chips.{core_at, core_queues}
use Rattle.chip_sound.specs.Sound.{silent_turns, core_frames, core_ended}
use Rattle.chip_sound.specs.Both.{second_sounds}

first-there : (version : SguVersion) → ltb 0 (core_count version) ≡ true
first-there V1 = refl
first-there V2 = refl
first-there V2_1 = refl
first-there V3 = refl
first-there V3_1 = refl

-- ---- the test
module _ (chip : Chip) (count : ℕ) where
  pub not_there : count ≡ core_count chip.version → count < 2 → false ≡ second_sounds chip
  unfolding second_sounds
  not_there e h = sym (ap (λ (t : Bool). t && not (rests (core_at chip 1))) (le-ltb 1 (core_count chip.version) (omega (arith, e, h))))

  pub there-not : (resting : Bool) → count ≡ core_count chip.version → 2 ≤ count → resting ≡ rests (core_at chip 1) → not resting ≡ second_sounds chip
  unfolding second_sounds
  there-not resting e h r = ap not r ∙ sym (ap (λ (t : Bool). t && not (rests (core_at chip 1))) (lt-ltb 1 (core_count chip.version) (omega (arith, e, h))))

-- ---- the two ways not to sound
module _ {A : Type 0} (there resting : Bool) (moved still : A) where
  way : there && not resting ≡ false → (resting ≡ true → moved ≡ still) → cond there moved still ≡ still
  way e h = go there resting e h
    where
      go : (t r : Bool) → t && not r ≡ false → (r ≡ true → moved ≡ still) → cond t moved still ≡ still
      go false r q g = refl
      go true true q g = g refl
      go true false q g = never q

  way-there : there && not resting ≡ true → cond there moved still ≡ moved
  way-there e = go there resting e
    where
      go : (t r : Bool) → t && not r ≡ true → cond t moved still ≡ moved
      go true r q = refl
      go false r q = never (sym q)

module _ (chip : Chip) (ram : List ℕ) (queues : List ℤ) (n : ℕ) where
  abbrev its : ℕ → Turns
  its k = frames chip.version ram (core_queues k queues) n (core_at chip k)

  pub first-frames : core_frames chip ram queues n 0 ≡ its 0
  first-frames = ap (λ (t : Bool). cond t (its 0) (silent_turns n (core_at chip 0))) (first-there chip.version)

  pub first_ended : core_ended chip ram queues n 0 ≡ frames_ended chip.version ram (core_queues 0 queues) n (core_at chip 0)
  first_ended = ap (λ (t : Bool). cond t (frames_ended chip.version ram (core_queues 0 queues) n (core_at chip 0)) 0) (first-there chip.version)

  pub second-frames : second_sounds chip ≡ true → core_frames chip ram queues n 1 ≡ its 1
  unfolding second_sounds
  second-frames e = way-there (ltb 1 (core_count chip.version)) (rests (core_at chip 1)) (its 1) (silent_turns n (core_at chip 1)) e

  pub second_ended : second_sounds chip ≡ true → core_ended chip ram queues n 1 ≡ frames_ended chip.version ram (core_queues 1 queues) n (core_at chip 1)
  unfolding second_sounds
  second_ended e = way-there (ltb 1 (core_count chip.version)) (rests (core_at chip 1)) (frames_ended chip.version ram (core_queues 1 queues) n (core_at chip 1)) 0 e

  module _ (quiet : second_sounds chip ≡ false) where
    pub silent-second : core_frames chip ram queues n 1 ≡ silent_turns n (core_at chip 1)
    unfolding second_sounds
    silent-second =
        way (ltb 1 (core_count chip.version)) (rests (core_at chip 1)) (its 1) (silent_turns n (core_at chip 1)) quiet
        (λ h. rest-frames (core_at chip 1) h chip.version ram (core_queues 1 queues) n)

    pub silent-ended : core_ended chip ram queues n 1 ≡ 0
    unfolding second_sounds
    silent-ended =
        way (ltb 1 (core_count chip.version)) (rests (core_at chip 1)) (frames_ended chip.version ram (core_queues 1 queues) n (core_at chip 1)) 0 quiet
        (λ h. rest_ended (core_at chip 1) h chip.version ram (core_queues 1 queues) n)

  -- ---- from the frames that core 1 was clocked for: all of them, or none
  module _ (sounds : Bool) (e : sounds ≡ second_sounds chip) where
    abbrev clocked : Turns
    clocked = frames chip.version ram (core_queues 1 queues) (cond sounds n 0) (core_at chip 1)

    pub second-core : clocked.core ≡ (core_frames chip ram queues n 1).core
    unfolding frames
    second-core = go sounds e
      where
        go : (b : Bool) → b ≡ second_sounds chip → (frames chip.version ram (core_queues 1 queues) (cond b n 0) (core_at chip 1)).core ≡ (core_frames chip ram queues n 1).core
        go true q = sym (ap (λ (t : Turns). t.core) (second-frames (sym q)))
        go false q = sym (ap (λ (t : Turns). t.core) (silent-second (sym q)))

    pub second-side : {A : Type 0} (silent : A) (plus : A → ℤ → A) (stems : List ℤ) (hand first : ℕ) (side : List A)
        → added silent plus n stems clocked.stems hand first side ≡ added silent plus n stems (core_frames chip ram queues n 1).stems hand first side
    unfolding frames
    second-side {A} silent plus stems hand first side = go sounds e
      where
        on : List ℤ → List A
        on l = added silent plus n stems l hand first side

        go : (b : Bool) → b ≡ second_sounds chip → on (frames chip.version ram (core_queues 1 queues) (cond b n 0) (core_at chip 1)).stems ≡ on (core_frames chip ram queues n 1).stems
        go true q = sym (ap (λ (t : Turns). on t.stems) (second-frames (sym q)))
        go false q = sym (ap (λ (t : Turns). on t.stems) (silent-second (sym q)) ∙ added-silent silent plus stems hand first side n (16 * n))
