-- A stream voice's tick, over how a sample of the stream is read: with the cache (Cached), and without one (Plain).
use Rattle.std.specs.Prelude.{ℕ, ◌+◌, Bool, false, cond, ℤ, pos, ◌==◌, nat_lt, Option, Some, None}
use Rattle.tone.specs.Phase.{whole, fraction, stepped, phase_of}
use Rattle.tone.specs.Taps.{raised_sample, blend_samples}
use Rattle.stream.specs.declared.Info.{Info}
use Rattle.stream.specs.declared.Play.{Play}

-- ---- what a tick asks for: past the last sample the loop's, or nothing
unfoldable pub plan_of : Info → Play → ℕ → Option (ℕ × ℕ)
plan_of i p phase =
    cond (nat_lt (whole phase) i.sample_count) (Some (whole phase, phase))
    (cond (i.sample_count == 0) None (cond p.loops (Some (i.loop_sample, phase_of i.loop_sample)) None))

-- whether the sample after it is blended in
abbrev pub blends : Info → Play → ℕ → ℕ → Bool
blends i p frac at = cond p.interpolate (cond (frac == 0) false (nat_lt (at + 1) i.sample_count)) false

-- ---- the tick, where a stream in state s gives its samples one by one
-- what a read gives: the sample, and the stream after it
pub record Given (S : Type 0) : Type 0 where
  pub left : S
  pub sample : ℤ

pub record StreamTick (S : Type 0) : Type 0 where
  pub stream : S
  pub phase : ℕ
  pub active : Bool
  pub value : ℤ

-- what a voice finds: no file; a stream that is not heard; a file, with its numbers and the way to read it
pub data FoundFile (S : Type 0) : Type 0 where
  absent : S → FoundFile S
  unheard : S → FoundFile S
  present : Info → (S → ℕ → Given S) → S → FoundFile S

module _ {S : Type 0} where
  -- the value at a sample; the fraction is that of the phase before a loop's jump
  abbrev pub heard_at : (S → ℕ → Given S) → Info → Play → ℕ → S → ℕ → Given S
  heard_at read i p frac s at =
      let a = read s at in
      let b = read a.left (at + 1) in
      cond (blends i p frac at) (record { left = b.left; sample = blend_samples a.sample b.sample frac }) (record { left = a.left; sample = raised_sample a.sample })

  abbrev pub ended : S → ℕ → StreamTick S
  ended s phase = record { stream = s; phase = phase; active = false; value = pos 0 }

  abbrev pub played_by : (S → ℕ → Given S) → Info → Play → ℕ → Bool → S → Option (ℕ × ℕ) → StreamTick S
  played_by read i p phase active s None = ended s phase
  played_by read i p phase active s (Some (at, from)) =
      let h = heard_at read i p (fraction phase) s at in
      record { stream = h.left; phase = stepped from p.step; active = active; value = h.sample }

  abbrev pub tick_of : Play → ℕ → Bool → FoundFile S → StreamTick S
  tick_of p phase active (absent s) = ended s phase
  tick_of p phase active (unheard s) = record { stream = s; phase = phase; active = active; value = pos 0 }
  tick_of p phase active (present i read s) = played_by read i p phase active s (plan_of i p phase)
