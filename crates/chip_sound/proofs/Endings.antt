-- Voices turned off, from the flags taken before some frames and the voices after them. Assumes nothing.
use mathlib.Core.Path.{◌≡◌, refl, sym, ap, ap₂, ◌∙◌}
use mathlib.Core.Bool.{Bool, true, false, cond}
use mathlib.Core.List.{List}
use Prim.Native.Nat.{ℕ, ◌+◌, ◌*◌, ◌%◌, ◌≤◌}
use native.Mathlib.Omega.{arith}
use lib.Dec.{ltb}
use lib.IntN.{ℤ}
use lib.ListN.{get_or}
use Rattle.endings.specs.Sets.{off, set_of}
use Rattle.endings.proofs.Sets.{set_same, off-none}
use Rattle.version.specs.declared.SguVersion.{SguVersion}
use Rattle.version.specs.Versions.{core_count}
use Rattle.ticks.specs.Again.{again}
use Rattle.ticks.specs.Mix.{silence}
use Rattle.voices.specs.Core.{channel_at}
use Rattle.voices.specs.Actives.{Actives, ended_since}
use Rattle.voices.specs.declared.Core.{Core}
use Rattle.frames.specs.Ticking.{voiced, voice_tick, voice_ticks}
use Rattle.frames.specs.Turning.{Turns, turned, frames}
use Rattle.frame_reports.specs.Ending.{turned_off, tick_ends, frames_ended}
use Rattle.frame_reports.proofs.Endings.{ended-active}
use Rattle.s3w2.specs.declared.Chip.{Chip}
use Rattle.s3w2.specs.Chips.{core_at, core_queues}
use Rattle.chip_sound.specs.Sound.{silent_turns, core_frames, core_ended, framed, framed_ended}

module _ (version : SguVersion) (ram : List ℕ) (queues : List ℤ) where
  -- some frames
  pub frames-ended : (was : List Bool) (core next : Core) (n : ℕ) → Actives core.channels was → next ≡ (frames version ram queues n core).core → ended_since was next.channels ≡ frames_ended version ram queues n core
  unfolding ended_since
  frames-ended was core next n flags e =
      set_same 8 (λ ch. off (get_or was ch false) (channel_at next ch).pcm.active) (λ ch. turned_off (channel_at core ch) (channel_at (frames version ram queues n core).core ch))
      (λ ch h. ap₂ off (flags ch h) (ap (λ (k : Core). (channel_at k ch).pcm.active) e))
      ∙ sym (ended-active version ram queues n core)

  -- one tick
  tick-core : (core : Core) (ch : ℕ) → ch ≤ 7 → (turned version ram queues ch 1 1 core).core ≡ (voice_tick version ram queues ch (voiced core silence)).core
  unfolding turned voice_ticks again
  tick-core core ch h = ap (λ (j : ℕ). (voice_tick version ram queues j (voiced core silence)).core) (place ch h)
    where
      place : (j : ℕ) → j ≤ 7 → (j + 0) % 8 ≡ j
      place j g = omega arith

  pub tick-ended : (core next : Core) (ch : ℕ) → ch ≤ 7 → next ≡ (turned version ram queues ch 1 1 core).core → turned_off (channel_at core ch) (channel_at next ch) ≡ tick_ends version ram queues ch (voiced core silence)
  unfolding tick_ends
  tick-ended core next ch h e = ap (λ (k : Core). turned_off (channel_at core ch) (channel_at k ch)) (e ∙ tick-core core ch h)

-- ---- both cores
none-ended : (was : List Bool) (core : Core) → Actives core.channels was → ended_since was core.channels ≡ 0
unfolding ended_since set_of
none-ended was core flags = set_same 8 (λ ch. off (get_or was ch false) (channel_at core ch).pcm.active) (λ ch. false) (λ ch h. ap (λ (b : Bool). off b (channel_at core ch).pcm.active) (flags ch h) ∙ off-none (channel_at core ch).pcm.active)

module _ (chip : Chip) (ram : List ℕ) (queues : List ℤ) (n : ℕ) where
  core-ended : (k : ℕ) (was : List Bool) → Actives (core_at chip k).channels was → ended_since was (core_frames chip ram queues n k).core.channels ≡ core_ended chip ram queues n k
  core-ended k was flags = go (ltb k (core_count chip.version))
    where
      moved : Turns
      moved = frames chip.version ram (core_queues k queues) n (core_at chip k)

      go : (t : Bool) → ended_since was (cond t moved (silent_turns n (core_at chip k))).core.channels ≡ cond t (frames_ended chip.version ram (core_queues k queues) n (core_at chip k)) 0
      go true = frames-ended chip.version ram (core_queues k queues) was (core_at chip k) moved.core n flags refl
      go false = none-ended was (core_at chip k) flags

  pub both-ended : (next : Chip) (first second : List Bool) → Actives (core_at chip 0).channels first → Actives (core_at chip 1).channels second → next ≡ framed chip ram queues n
      → ended_since first (core_at next 0).channels + 256 * ended_since second (core_at next 1).channels ≡ framed_ended chip ram queues n
  both-ended next first second a b e =
      ap (λ (c : Chip). ended_since first (core_at c 0).channels + 256 * ended_since second (core_at c 1).channels) e
      ∙ ap₂ (λ (x y : ℕ). x + 256 * y) (core-ended 0 first a) (core-ended 1 second b)
