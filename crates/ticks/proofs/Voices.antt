-- A voice's ticks: one more, several at once, and ticks to which the target does not matter. Assumes nothing.
use mathlib.Core.Path.{◌≡◌, refl, sym, ap, ◌∙◌}
use mathlib.Core.Bool.{Bool, true, false, cond}
use Prim.Native.Nat.{ℕ, zero, suc, ◌+◌, ◌*◌}
use native.Mathlib.Nat as N
use native.Mathlib.Omega.{arith}
use Rattle.ticks.specs.Again.{again}
use Rattle.ticks.specs.Mix.{sound_after}
use Rattle.ticks.specs.Sounds.{target_for, Tick, sound_tick, ticks_of}
use Rattle.ticks.specs.declared.Oscillator.{Oscillator}
use Rattle.ticks.specs.declared.Target.{Target}
use Rattle.ticks.specs.declared.Setting.{Setting}
use Rattle.ticks.specs.declared.Ticked.{Ticked}
use Rattle.ticks.specs.declared.Sound.{Sound}
use Rattle.ticks.proofs.Again.{again-more, again-split}

module _ (tick : Tick) (s : Setting) where
  pub ticks-none : (own : Bool) (t : Target) (v : Sound) → ticks_of 0 tick s own t v ≡ v
  unfolding ticks_of again
  ticks-none own t v = refl

  pub ticks-more : (n : ℕ) (own : Bool) (t : Target) (v : Sound) → ticks_of (n + 1) tick s own t v ≡ sound_tick tick s own t (ticks_of n tick s own t v)
  unfolding ticks_of
  ticks-more n own t v = again-more (sound_tick tick s own t) v n

  pub ticks-split : (m n : ℕ) (own : Bool) (t : Target) (v : Sound) → ticks_of (m + n) tick s own t v ≡ ticks_of m tick s own t (ticks_of n tick s own t v)
  unfolding ticks_of
  ticks-split m n own t v = again-split (sound_tick tick s own t) v m n

  -- a turn of a loop whose target stands still
  pub turn : (t : Target) (v₀ : Sound) (k : ℕ) (v w : Sound) (r : Ticked) → v ≡ ticks_of k tick s false t v₀ → r ≡ tick t v.oscillator → w ≡ sound_after s v.sides r
      → w ≡ ticks_of (k + 1) tick s false t v₀
  turn t v₀ k v w r e f g = g ∙ ap (λ (x : Ticked). sound_after s v.sides x) f ∙ ap (sound_tick tick s false t) e ∙ sym (ticks-more k false t v₀)

  -- the target for one tick is the voice itself, or it stands still for all of them
  round : (own : Bool) (n each : ℕ) (t : Target) (v : Sound) → each ≡ cond own 1 n → ticks_of each tick s false (target_for own t v.oscillator) v ≡ ticks_of each tick s own t v
  unfolding ticks_of again
  round true n each t v e = rw e
  round false n each t v e = refl

  pub rounds : (own : Bool) (n each : ℕ) (t u : Target) (v₀ : Sound) (k : ℕ) (v w : Sound) → each ≡ cond own 1 n → v ≡ ticks_of (k * each) tick s own t v₀
      → u ≡ target_for own t v.oscillator → w ≡ ticks_of each tick s false u v → w ≡ ticks_of ((k + 1) * each) tick s own t v₀
  rounds own n each t u v₀ k v w ee ev eu ew =
      ew ∙ ap (λ (x : Target). ticks_of each tick s false x v) eu ∙ round own n each t v ee ∙ ap (λ (x : Sound). ticks_of each tick s own t x) ev
      ∙ sym (ticks-split each (k * each) own t v₀) ∙ ap (λ (m : ℕ). ticks_of m tick s own t v₀) (more k each)
    where
      more : (k e : ℕ) → e + k * e ≡ (k + 1) * e
      more k e = rw (N.add-mul k 1 e) (omega arith)

  -- to which the target does not matter
  pub ticks-any : ((t u : Target) (o : Oscillator) → tick t o ≡ tick u o) → (n : ℕ) (own : Bool) (t u : Target) (v : Sound) → ticks_of n tick s false u v ≡ ticks_of n tick s own t v
  unfolding ticks_of again
  ticks-any same zero own t u v = refl
  ticks-any same (suc n) own t u v =
      ap (sound_tick tick s false u) (ticks-any same n own t u v)
      ∙ ap (sound_after s (ticks_of n tick s own t v).sides) (same u (target_for own t (ticks_of n tick s own t v).oscillator) (ticks_of n tick s own t v).oscillator)

-- all the rounds are all the ticks
pub all : (own : Bool) (n k each : ℕ) → k ≡ cond own n 1 → each ≡ cond own 1 n → k * each ≡ n
all true n k each e f = rw (e, f) (N.mul-one n)
all false n k each e f = rw (e, f) (N.one-mul n)
