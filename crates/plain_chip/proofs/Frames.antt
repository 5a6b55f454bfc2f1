-- Turns and frames of one model's voices, seen as another's, are the other's: the same voices, stems, sample and values ahead of the
-- volume. Good voices stay good. Assumes nothing.
use mathlib.Core.Path.{◌≡◌, refl, sym, ap, ap₂, ◌∙◌}
use mathlib.Core.List.{List, [], ◌∷◌, ◌++◌, map}
use Prim.Native.Nat.{ℕ, zero, suc, ◌+◌, ◌%◌}
use lib.ListN.{length, get_or, length-set, get_or-map}
use Rattle.sizes.specs.Sizes.{num_channels, ticks_per_frame}
use Rattle.version.specs.declared.SguVersion.{SguVersion}
use Rattle.registers.specs.Control.{target_channel}
use Rattle.ticks.specs.Again.{again}
use Rattle.ticks.specs.Mix.{silence}
use Rattle.ticks.specs.Oscillators.{target_from}
use Rattle.ticks.specs.declared.Target.{Target}
use Rattle.plain_chip.specs.Lists.{Every}
use Rattle.plain_chip.specs.Voices.{PlainVoice}
use Rattle.plain_chip.specs.Ticks.{VoiceTick}
use Rattle.plain_chip.specs.Models.{Model}
use Rattle.plain_chip.specs.Frames.{Ticking, ModelTurns, with_tick, one_turn, followed, shown, modulator, tick_at, turned, frame, frames}
use Rattle.plain_chip.specs.Good.{Bytes}
use Rattle.plain_chip.proofs.Lists.{every_get, every_set, map-set}
use Rattle.plain_chip.proofs.Sims.{Sim, tick_seen}

-- ---- as many voices as before
module _ {A : Type 0} (m : Model A) (version : SguVersion) (ram : List ℕ) where
  length-tick : (ch : ℕ) (s : Ticking A) → length (tick_at m version ram ch s).voices ≡ length s.voices
  unfolding tick_at
  length-tick ch s = simp length-set

  length-ticks : (n ch : ℕ) (s : Ticking A) → length (again n (tick_at m version ram ch) s).voices ≡ length s.voices
  unfolding again
  length-ticks zero ch s = refl
  length-ticks (suc n) ch s = length-tick ch (again n (tick_at m version ram ch) s) ∙ length-ticks n ch s

  pub length-turned : (first n k : ℕ) (l : List A) → length (turned m version ram first n k l).voices ≡ length l
  unfolding turned
  length-turned first n zero l = refl
  length-turned first n (suc k) l = length-ticks n ((first + k) % num_channels) _ ∙ length-turned first n k l

  pub length-frames : (n : ℕ) (l : List A) → length (frames m version ram n l).voices ≡ length l
  unfolding frames
  length-frames zero l = refl
  length-frames (suc n) l = length-turned 0 ticks_per_frame num_channels (frames m version ram n l).voices ∙ length-frames n l

-- ---- one model seen as the other
module _ {A B : Type 0} (g : A → B) where
  abbrev pub ticking_seen : Ticking A → Ticking B
  ticking_seen s = record { voices = map g s.voices; sides = s.sides; values = s.values }

  abbrev pub played_seen : ModelTurns A → ModelTurns B
  played_seen r = record { voices = map g r.voices; stems = r.stems; sample = r.sample; values = r.values }

module _ {A B : Type 0} {g : A → B} {P : SguVersion → List ℕ → A → Type 0} {a : Model A} {b : Model B} (sim : Sim g P a b) where
  -- voice k of a list
  pub voice-at : (l : List A) (k : ℕ) → g (get_or l k a.absent) ≡ get_or (map g l) k b.absent
  voice-at l k = sym (get_or-map g l k a.absent) ∙ ap (get_or (map g l) k) sim.absent

  module _ (version : SguVersion) (ram : List ℕ) where
    same-shown : (x : A) → shown a version ram x ≡ shown b version ram (g x)
    same-shown x = ap (λ (v : PlainVoice). target_from v.oscillator version v.pcm.sample_control) (sim.session x)

    -- what a voice sees of the one that modulates it
    pub same_seen : (l : List A) (ch : ℕ) → modulator a version ram l ch ≡ modulator b version ram (map g l) ch
    same_seen l ch =
        same-shown (get_or l (target_channel (a.session (get_or l ch a.absent)).registers ch) a.absent)
        ∙ ap (shown b version ram) (voice-at l (target_channel (a.session (get_or l ch a.absent)).registers ch))
        ∙ ap (λ (v : PlainVoice). shown b version ram (get_or (map g l) (target_channel v.registers ch) b.absent)) (sim.session (get_or l ch a.absent) ∙ ap b.session (voice-at l ch))

    module _ (bytes : Bytes ram) where
      -- ---- a tick of one of the voices
      same_at : (ch : ℕ) (s : Ticking A) → Every (P version ram) s.voices → ticking_seen g (tick_at a version ram ch s) ≡ tick_at b version ram ch (ticking_seen g s)
      unfolding tick_at
      same_at ch s p =
          let l = s.voices in
          let r : VoiceTick A = a.tick version ram (modulator a version ram l ch) s.sides (get_or l ch a.absent) in
          let e : tick_seen g r ≡ b.tick version ram (modulator b version ram (map g l) ch) s.sides (get_or (map g l) ch b.absent) =
          sim.tick version ram (modulator a version ram l ch) s.sides (get_or l ch a.absent) bytes (every_get (P version ram) a.absent l ch p (sim.absent-ok version ram))
          ∙ ap₂ (λ (t : Target) (x : B). b.tick version ram t s.sides x) (same_seen l ch) (voice-at l ch) in
          ap (λ (l : List B). record { voices = l; sides = r.sides; values = s.values ++ (r.value ∷ []) }) (map-set g r.voice l ch)
          ∙ ap (with_tick ch (ticking_seen g s)) e

      keeps-at : (ch : ℕ) (s : Ticking A) → Every (P version ram) s.voices → Every (P version ram) (tick_at a version ram ch s).voices
      unfolding tick_at
      keeps-at ch s p =
          every_set (P version ram) _ (sim.tick-ok version ram (modulator a version ram s.voices ch) s.sides (get_or s.voices ch a.absent) bytes (every_get (P version ram) a.absent s.voices ch p (sim.absent-ok version ram)))
          s.voices ch p

      keeps-ticks : (n ch : ℕ) (s : Ticking A) → Every (P version ram) s.voices → Every (P version ram) (again n (tick_at a version ram ch) s).voices
      unfolding again
      keeps-ticks zero ch s p = p
      keeps-ticks (suc n) ch s p = keeps-at ch (again n (tick_at a version ram ch) s) (keeps-ticks n ch s p)

      same-ticks : (n ch : ℕ) (s : Ticking A) → Every (P version ram) s.voices → ticking_seen g (again n (tick_at a version ram ch) s) ≡ again n (tick_at b version ram ch) (ticking_seen g s)
      unfolding again
      same-ticks zero ch s p = refl
      same-ticks (suc n) ch s p = same_at ch (again n (tick_at a version ram ch) s) (keeps-ticks n ch s p) ∙ ap (tick_at b version ram ch) (same-ticks n ch s p)

      -- ---- turns
      pub keeps-turned : (first n k : ℕ) (l : List A) → Every (P version ram) l → Every (P version ram) (turned a version ram first n k l).voices
      unfolding turned
      keeps-turned first n zero l p = p
      keeps-turned first n (suc k) l p = keeps-ticks n ((first + k) % num_channels) _ (keeps-turned first n k l p)

      pub same-turned : (first n k : ℕ) (l : List A) → Every (P version ram) l → played_seen g (turned a version ram first n k l) ≡ turned b version ram first n k (map g l)
      unfolding turned
      same-turned first n zero l p = refl
      same-turned first n (suc k) l p =
          let r : ModelTurns A = turned a version ram first n k l in
          let s : Ticking A = record { voices = r.voices; sides = silence; values = [] } in
          ap (one_turn (played_seen g r)) (same-ticks n ((first + k) % num_channels) s (keeps-turned first n k l p))
          ∙ ap (λ (x : ModelTurns B). one_turn x (again n (tick_at b version ram ((first + k) % num_channels)) (record { voices = x.voices; sides = silence; values = [] }))) (same-turned first n k l p)

      -- ---- frames
      pub keeps-frames : (n : ℕ) (l : List A) → Every (P version ram) l → Every (P version ram) (frames a version ram n l).voices
      unfolding frames
      keeps-frames zero l p = p
      keeps-frames (suc n) l p = keeps-turned 0 ticks_per_frame num_channels (frames a version ram n l).voices (keeps-frames n l p)

      pub same-frames : (n : ℕ) (l : List A) → Every (P version ram) l → played_seen g (frames a version ram n l) ≡ frames b version ram n (map g l)
      unfolding frames
      same-frames zero l p = refl
      same-frames (suc n) l p =
          let r : ModelTurns A = frames a version ram n l in
          ap (followed (played_seen g r)) (same-turned 0 ticks_per_frame num_channels r.voices (keeps-frames n l p))
          ∙ ap (λ (x : ModelTurns B). followed x (frame b version ram x.voices)) (same-frames n l p)
