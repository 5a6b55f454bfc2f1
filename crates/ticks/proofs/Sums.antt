-- The sides of some ticks: exact sums, within -4,096 to 4,095 for each tick. Assumes nothing.
use mathlib.Core.Path.{◌≡◌, refl, subst}
use mathlib.Core.Bool.{Bool}
use mathlib.Core.List.{List}
use Prim.Native.Nat.{ℕ, zero, suc, ◌+◌, ◌*◌, ◌≤◌, ◌<◌, ◌%◌, ◌^◌}
use native.Mathlib.Nat as N
use native.Mathlib.Omega.{arith}
use lib.Dec.{eqb}
use lib.IntN.{ℤ, pos, ◌+ℤ◌}
use lib.ListN.{length, get_or}
use mir.Syntax.{w16, w32}
use mir.Val.{SFits}
use Rattle.num.specs.Integers.{up, down}
use Rattle.num.proofs.Choice.{cond-by}
use Rattle.num.proofs.Integers.{fit}
use Rattle.tone.specs.Mix.{high_nibble, low_nibble, volume_of, wrapping_add}
use Rattle.tone.specs.Sides.{side, Ticks}
use Rattle.tone.proofs.Ranges.{volume-fits}
use Rattle.tone.proofs.Sides.{tick-one, ticks-none, ticks-more, ticks-sum, ticks-wider, ticks-fit, frame-range}
use Rattle.tone.proofs.Wrapping.{wrapped-is}
use Rattle.registers.specs.Queue.{ticked, RangedFifo, FitFifo}
use Rattle.registers.specs.PlainQueue.{FitEntries}
use Rattle.registers.proofs.Accepted.{tick-ranged}
use Rattle.registers.proofs.Ranges.{tick-fits}
use Rattle.registers.specs.declared.PcmRegisters.{PcmRegisters}
use Rattle.registers.specs.declared.WaveformType.{WaveformType}
use Rattle.registers.specs.declared.WaveformType.TheVariants.{Wavetable, Pcm, Noise, DmaPcm, Sqv4, FifoDac}
use Rattle.ticks.specs.Again.{again}
use Rattle.ticks.specs.Wavetable.{wavetable_tick}
use Rattle.ticks.specs.Pcm.{pcm_tick}
use Rattle.ticks.specs.Mix.{silence, heard, Room, Adds, sound_after}
use Rattle.ticks.specs.Sounds.{target_for, Tick, sound_tick, ticks_of, noise_of, dma_of, sound_ticks}
use Rattle.ticks.specs.Queues.{queue_tick, queue_ticks}
use Rattle.ticks.specs.declared.Oscillator.{Oscillator}
use Rattle.ticks.specs.declared.Target.{Target}
use Rattle.ticks.specs.declared.Setting.{Setting}
use Rattle.ticks.specs.declared.Ticked.{Ticked}
use Rattle.ticks.specs.declared.Sides.{Sides}
use Rattle.ticks.specs.declared.Sound.{Sound}
use Rattle.ticks.specs.declared.QueueSound.{QueueSound}
use Rattle.ticks.proofs.Ranges.{Good, GoodTick, with-last, wavetable-good, pcm-good, noise-good, dma-good}

-- a sum that fits does not wrap
exact : (y z : ℤ) → SFits w32 (y +ℤ z) → wrapping_add y z ≡ y +ℤ z
unfolding wrapping_add
exact y z f = wrapped-is (y +ℤ z) (y +ℤ z) f refl

pub room-none : Room 0 silence
room-none = record { lefts = ticks-none; rights = ticks-none }

room-wider : (m n : ℕ) (v : Sides) → m ≤ n → Room m v → Room n v
room-wider m n v h r = record { lefts = ticks-wider m n v.left h r.lefts; rights = ticks-wider m n v.right h r.rights }

module _ (n : ℕ) (v : Sides) (x : ℤ) (panpot : ℕ) (small : n < 2 ^ 18) (f : SFits w16 x) (byte : panpot < 256) (r : Room n v) where
  one_more : (z : ℤ) (weight : ℕ) → weight ≤ 15 → Ticks n z → Ticks (n + 1) (z +ℤ side x weight)
  one_more z weight h t = ticks-more n z (side x weight) t (tick-one x weight f h)

  plain : (z : ℤ) (weight : ℕ) → weight ≤ 15 → Ticks n z → wrapping_add z (side x weight) ≡ z +ℤ side x weight
  plain z weight h t = exact z (side x weight) (ticks-fit (n + 1) (z +ℤ side x weight) (omega arith) (one_more z weight h t))

  -- a tick more is a plain sum
  pub heard-exact : heard v x panpot ≡ record { sample = x; left = v.left +ℤ side x (high_nibble panpot); right = v.right +ℤ side x (low_nibble panpot) }
  unfolding heard
  heard-exact = rw (plain v.left (high_nibble panpot) (omega arith) r.lefts, plain v.right (low_nibble panpot) (omega arith) r.rights)

  pub heard-room : Room (n + 1) (heard v x panpot)
  heard-room = rw heard-exact (record { lefts = one_more v.left (high_nibble panpot) (omega arith) r.lefts; rights = one_more v.right (low_nibble panpot) (omega arith) r.rights })

-- some ticks and one more
pub adds-more : (k : ℕ) (u v w : Sides) → Adds k u v → Adds 1 v w → Adds (k + 1) u w
adds-more k u v w f g m h r = subst (λ (i : ℕ). Room i w) (sum m k) (g (m + k) (omega arith) (f m (omega arith) r))
  where
    sum : (m k : ℕ) → m + k + 1 ≡ m + (k + 1)
    sum m k = omega arith

-- ---- a voice's ticks

-- m ticks from silence on
pub record Steady (m : ℕ) (v : Sound) : Type 0 where
  pub oscillator : Good v.oscillator
  pub sides : Room m v.sides

pub begins : (o : Oscillator) → Good o → Steady 0 (record { oscillator = o; sides = silence })
begins o g = record { oscillator = g; sides = room-none }

module _ (s : Setting) (volume : s.volume ≤ 255) (panpot : s.panpot < 256) where
  after-steady : (m : ℕ) (v : Sides) (r : Ticked) → m < 2 ^ 18 → GoodTick r → Room m v → Steady (m + 1) (sound_after s v r)
  unfolding sound_after
  after-steady m v r small g room = record {
    oscillator = with-last r g;
    sides = heard-room m v (volume_of r.q8 s.volume) s.panpot small (volume-fits r.q8 s.volume g.value volume) panpot room;
  }

  module _ (tick : Tick) (good : (t : Target) (o : Oscillator) → Good o → GoodTick (tick t o)) where
    pub ticks-steady : (n m : ℕ) (own : Bool) (t : Target) (v : Sound) → m + n ≤ 2 ^ 18 → Steady m v → Steady (m + n) (ticks_of n tick s own t v)
    unfolding ticks_of again
    ticks-steady zero m own t v small e = rw (N.add-zero m) e
    ticks-steady (suc n) m own t v small e =
        let b = ticks-steady n m own t v (omega arith) e in
        subst (λ (k : ℕ). Steady k (sound_tick tick s own t (ticks_of n tick s own t v))) (more m n)
        (after-steady (m + n) (ticks_of n tick s own t v).sides _ (omega arith) (good (target_for own t (ticks_of n tick s own t v).oscillator) (ticks_of n tick s own t v).oscillator b.oscillator) b.sides)
      where
        more : (m n : ℕ) → m + n + 1 ≡ m + suc n
        more m n = omega arith

  still : (m n : ℕ) (v : Sound) → Steady m v → Steady (m + n) v
  still m n v e = record { oscillator = e.oscillator; sides = room-wider m (m + n) v.sides (omega arith) e.sides }

  module _ (p : PcmRegisters) (w ram : List ℕ) (end : p.end_addr < 2 ^ 32) (again : p.loop_addr < 2 ^ 32) (tables : (i : ℕ) → get_or w i 0 < 256) (bytes : (i : ℕ) → get_or ram i 0 < 256) where
    pub sound-steady : (k : WaveformType) (n m ch : ℕ) (own : Bool) (t : Target) (v : Sound) → m + n ≤ 2 ^ 18 → Steady m v → Steady (m + n) (sound_ticks n k s p w ram ch own t v)
    sound-steady Wavetable n m ch own t v h e = ticks-steady (wavetable_tick s w (ch % 8 * 256)) (λ t o g. wavetable-good s w (ch % 8 * 256) t o tables g) n m own t v h e
    sound-steady Pcm n m ch own t v h e =
        cond-by (Steady (m + n)) (eqb (length ram) 0) v _ (λ f. still m n v e)
        (λ f. ticks-steady (pcm_tick s p ram) (λ t o g. pcm-good s p ram t o bytes end again g) n m own t v h e)
    sound-steady Noise n m ch own t v h e = ticks-steady (noise_of s) (λ t o g. noise-good s o g) n m own t v h e
    sound-steady DmaPcm n m ch own t v h e = ticks-steady dma_of (λ t o g. dma-good o g) n m own t v h e
    sound-steady Sqv4 n m ch own t v h e = still m n v e
    sound-steady FifoDac n m ch own t v h e = still m n v e

-- ---- a queue's ticks

pub record SteadyQueue (m : ℕ) (v : QueueSound) : Type 0 where
  pub ranged : RangedFifo v.fifo
  pub fits : FitFifo v.fifo
  pub sides : Room m v.sides

pub queue-steady : (frequency panpot : ℕ) (q : List ℤ) → frequency < 2 ^ 16 → panpot < 256 → FitEntries q → (n m : ℕ) (v : QueueSound) → m + n ≤ 2 ^ 18 → SteadyQueue m v
    → SteadyQueue (m + n) (queue_ticks n frequency panpot q v)
unfolding queue_ticks queue_tick again
queue-steady frequency panpot q h byte entries zero m v small e = rw (N.add-zero m) e
queue-steady frequency panpot q h byte entries (suc n) m v small e =
    let b = queue-steady frequency panpot q h byte entries n m v (omega arith) e in
    let f = (queue_ticks n frequency panpot q v).fifo in
    let d = tick-fits f q frequency entries b.fits in
    record {
      ranged = tick-ranged f q frequency h b.ranged;
      fits = d;
      sides = subst (λ (k : ℕ). Room k (heard (queue_ticks n frequency panpot q v).sides (ticked f q frequency).held panpot)) (more m n)
          (heard-room (m + n) (queue_ticks n frequency panpot q v).sides (ticked f q frequency).held panpot (omega arith) d.sample byte b.sides);
    }
  where
    more : (m n : ℕ) → m + n + 1 ≡ m + suc n
    more m n = omega arith

-- ---- four ticks of a voice fit a stem of 16 bits
pub stem-fits : (v : Sides) → Room 4 v → SFits w16 v.left × SFits w16 v.right
stem-fits v r = (four v.left r.lefts, four v.right r.rights)
  where
    four : (z : ℤ) → Ticks 4 z → SFits w16 z
    four z t = fit w16 z (omega (arith, t.high)) (omega (arith, t.low))

-- ---- a frame: four ticks of each of eight voices

abbrev pub total : (ℕ → ℤ) → ℕ → ℤ
total voice zero = pos 0
total voice (suc n) = total voice n +ℤ voice n

voices : (voice : ℕ → ℤ) → ((k : ℕ) → Ticks 4 (voice k)) → (n : ℕ) → Ticks (4 * n) (total voice n)
voices voice each zero = ticks-none
voices voice each (suc n) =
    subst (λ (m : ℕ). Ticks m (total voice n +ℤ voice n)) (more n) (ticks-sum (4 * n) 4 (total voice n) (voice n) (voices voice each n) (each n))
  where
    more : (n : ℕ) → 4 * n + 4 ≡ 4 * suc n
    more n = omega arith

pub frame : (voice : ℕ → ℤ) → ((k : ℕ) → Ticks 4 (voice k)) → (up (total voice 8) ≤ 131040) × (down (total voice 8) ≤ 131072)
frame voice each = frame-range (total voice 8) (voices voice each 8)
