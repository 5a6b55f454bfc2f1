-- Accepted values: the tests and what they say, clause by clause; what every write keeps. Assumes nothing.
use mathlib.Core.Path.{◌≡◌, refl, sym, ap, ◌∙◌}
use mathlib.Core.Bool.{Bool, true, false, cond, ◌&&◌}
use Prim.Native.Nat.{ℕ, ◌*◌, ◌-◌, ◌%◌, ◌^◌, ◌≤◌, ◌<◌}
use native.Mathlib.Omega.{arith}
use lib.Dec.{eqb, leb, ltb}
use lib.IntN.{ℤ, pos, negsuc, nat_abs}
use mathlib.Core.List.{List}
use borrow.Author.Tests.{leb-true, ltb-true, eqb-true, eq-eqb, le-leb, lt-ltb, leb-false}
use Rattle.sizes.specs.Sizes.{fifo_capacity}
use Rattle.num.specs.Bits.{with_byte}
use Rattle.num.proofs.Choice.{cond-by, both, together, never}
use Rattle.num.proofs.Bits.{with-field-lt}
use Rattle.version.specs.Versions.{has3ws8pna}
use Rattle.registers.specs.Waveforms.{waveform_number, without_fifo, under}
use Rattle.registers.specs.Control.{default_registers, set_waveform, write_registers, accepts_registers, AcceptedRegisters}
use Rattle.registers.specs.Pcm.{default_pcm, set_sample_control, set_active, write_pcm, accepts_pcm, AcceptedPcm}
use Rattle.registers.specs.Queue.{default_fifo, set_latch, pushed, popped, advanced, ticked, is_quiet, QuietFifo, allows_fifo, kept_fifo, ranges_fifo, RangedFifo, accepts_fifo, AcceptedFifo}
use Rattle.version.specs.declared.SguVersion.{SguVersion}
use Rattle.registers.specs.declared.WaveformType.{WaveformType}
use Rattle.registers.specs.declared.WaveformType.TheVariants.{Wavetable, Pcm, Noise, DmaPcm, Sqv4, FifoDac}
use Rattle.registers.specs.declared.Registers.{Registers}
use Rattle.registers.specs.declared.PcmRegisters.{PcmRegisters}
use Rattle.registers.specs.declared.Fifo.{Fifo}

-- ---- control registers

-- a test that is asked for only where another holds
only : (a b : Bool) → cond a b true ≡ true → a ≡ true → b ≡ true
only true b e h = e
only false b e h = never (sym h)

where-only : (a b : Bool) → (a ≡ true → b ≡ true) → cond a b true ≡ true
where-only true b f = f refl
where-only false b f = refl

module _ (r : Registers) (version : SguVersion) where
  pub accepted-registers : accepts_registers r version ≡ true → AcceptedRegisters r version
  unfolding accepts_registers
  accepted-registers e =
      let a = both (leb r.modulation_target 7) (leb r.modulation_targeting_mode 1 && cond (eqb (waveform_number r.waveform_type) 5) (has3ws8pna version) true) e in
      let b = both (leb r.modulation_targeting_mode 1) (cond (eqb (waveform_number r.waveform_type) 5) (has3ws8pna version) true) a.1 in
      record {
        target = leb-true r.modulation_target 7 a.0;
        mode = leb-true r.modulation_targeting_mode 1 b.0;
        fifo = λ h. only (eqb (waveform_number r.waveform_type) 5) (has3ws8pna version) b.1 (eq-eqb _ _ h);
      }

  pub registers-accepted : AcceptedRegisters r version → accepts_registers r version ≡ true
  unfolding accepts_registers
  registers-accepted a =
      together _ _ (le-leb _ _ a.target)
      (together _ _ (le-leb _ _ a.mode)
      (where-only (eqb (waveform_number r.waveform_type) 5) (has3ws8pna version) (λ e. a.fifo (eqb-true _ _ e))))

  -- a write of a number register keeps them
  again : AcceptedRegisters r version → (f v p x y : ℕ) → AcceptedRegisters (record { frequency = f; waveform_type = r.waveform_type; volume = v; panpot = p; modulation_type = r.modulation_type; modulation_target = r.modulation_target; modulation_targeting_mode = r.modulation_targeting_mode; modulation_param_1 = x; modulation_param_2 = y }) version
  again a f v p x y = record { target = a.target; mode = a.mode; fifo = a.fifo }

  pub write-accepted : (offset value : ℕ) → AcceptedRegisters r version → AcceptedRegisters (write_registers r offset value) version
  unfolding write_registers
  write-accepted offset value a =
      cond-by ok (leb offset 1) _ _ (λ e. again a _ _ _ _ _)
      (λ e. cond-by ok (eqb offset 2) _ _ (λ e. a)
      (λ e. cond-by ok (eqb offset 3) _ _ (λ e. again a _ _ _ _ _)
      (λ e. cond-by ok (eqb offset 4) _ _ (λ e. again a _ _ _ _ _)
      (λ e. cond-by ok (eqb offset 5) _ _ (λ e. record { target = omega arith; mode = a.mode; fifo = a.fifo })
      (λ e. cond-by ok (leb offset 7) _ _ (λ e. again a _ _ _ _ _)
      (λ e. cond-by ok (leb offset 9) _ _ (λ e. again a _ _ _ _ _)
      (λ e. cond-by ok (eqb offset 11) _ _ (λ e. record { target = a.target; mode = omega arith; fifo = a.fifo })
      (λ e. a))))))))
    where
      ok : Registers → Type 0
      ok x = AcceptedRegisters x version

-- a waveform that a version has
under-fifo : (w : WaveformType) (version : SguVersion) → waveform_number (under w version) ≡ 5 → has3ws8pna version ≡ true
under-fifo w version e = at (has3ws8pna version) e
  where
    none : (w : WaveformType) → waveform_number (without_fifo w) ≡ 5 → ⊥
    none Wavetable e = omega arith
    none Pcm e = omega arith
    none Noise e = omega arith
    none DmaPcm e = omega arith
    none Sqv4 e = omega arith
    none FifoDac e = omega arith

    at : (b : Bool) → waveform_number (cond b w (without_fifo w)) ≡ 5 → b ≡ true
    at true e = refl
    at false e = absurd (none w e)

pub waveform-accepted : (r : Registers) (old version : SguVersion) (w : WaveformType) → AcceptedRegisters r old → AcceptedRegisters (set_waveform r (under w version)) version
waveform-accepted r old version w a = record { target = a.target; mode = a.mode; fifo = under-fifo w version }

pub default-registers : (version : SguVersion) → AcceptedRegisters default_registers version
default-registers version = record { target = omega arith; mode = omega arith; fifo = λ e. absurd (omega arith) }

-- ---- PCM registers

module _ (p : PcmRegisters) where
  pub accepted-pcm : accepts_pcm p ≡ true → AcceptedPcm p
  unfolding accepts_pcm
  accepted-pcm e =
      let a = both (leb p.sample_control 7) _ e in
      let b = both (ltb p.start_addr (2 ^ 24)) _ a.1 in
      let d = both (ltb p.end_addr (2 ^ 24)) _ b.1 in
      record { sample_control_of = leb-true _ _ a.0; start = ltb-true _ _ b.0; end = ltb-true _ _ d.0; again = ltb-true _ _ d.1 }

  pub pcm-accepted : AcceptedPcm p → accepts_pcm p ≡ true
  unfolding accepts_pcm
  pcm-accepted a = together _ _ (le-leb _ _ a.sample_control_of) (together _ _ (lt-ltb _ _ a.start) (together _ _ (lt-ltb _ _ a.end) (lt-ltb _ _ a.again)))

  -- a byte of an address of 24 bits
  address : (k value n : ℕ) → k ≤ 2 → value < 256 → n < 2 ^ 24 → with_byte k value n < 2 ^ 24
  address k value n l h m = with-field-lt (8 * k) 8 value n 24 (omega arith) h m

  pub write-pcm-accepted : (offset value : ℕ) → value < 256 → AcceptedPcm p → AcceptedPcm (write_pcm p offset value)
  unfolding write_pcm
  write-pcm-accepted offset value h a =
      cond-by AcceptedPcm (leb offset 2) _ _
      (λ e. record { sample_control_of = a.sample_control_of; start = address (2 - offset) value p.start_addr (omega arith) h a.start; end = a.end; again = a.again })
      (λ e. cond-by AcceptedPcm (leb offset 5) _ _
      (λ f. record { sample_control_of = a.sample_control_of; start = a.start; end = address (5 - offset) value p.end_addr (omega (arith, leb-false offset 2 e)) h a.end; again = a.again })
      (λ f. cond-by AcceptedPcm (leb offset 8) _ _
      (λ g. record { sample_control_of = a.sample_control_of; start = a.start; end = a.end; again = address (8 - offset) value p.loop_addr (omega (arith, leb-false offset 5 f)) h a.again })
      (λ g. cond-by AcceptedPcm (eqb offset 9) _ _
      (λ i. record { sample_control_of = a.sample_control_of; start = a.start; end = a.end; again = a.again })
      (λ i. a))))

  pub sample-control-accepted : (value : ℕ) → AcceptedPcm p → AcceptedPcm (set_sample_control p (value % 8))
  sample-control-accepted value a = record { sample_control_of = omega arith; start = a.start; end = a.end; again = a.again }

  pub active-accepted : (b : Bool) → AcceptedPcm p → AcceptedPcm (set_active p b)
  active-accepted b a = record { sample_control_of = a.sample_control_of; start = a.start; end = a.end; again = a.again }

pub default-pcm : AcceptedPcm default_pcm
default-pcm = record { sample_control_of = omega arith; start = omega arith; end = omega arith; again = omega arith }

-- ---- the queue

module _ (f : Fifo) where
  pub ranged-fifo : ranges_fifo f ≡ true → RangedFifo f
  unfolding ranges_fifo
  ranged-fifo e =
      let a = both (leb f.count fifo_capacity) _ e in
      let b = both (ltb f.head fifo_capacity) _ a.1 in
      let d = both (leb f.sub 3) _ b.1 in
      record { full = leb-true _ _ a.0; first = ltb-true _ _ b.0; tick = leb-true _ _ d.0; frames = leb-true _ _ d.1 }

  pub fifo-ranged : RangedFifo f → ranges_fifo f ≡ true
  unfolding ranges_fifo
  fifo-ranged a = together _ _ (le-leb _ _ a.full) (together _ _ (lt-ltb _ _ a.first) (together _ _ (le-leb _ _ a.tick) (le-leb _ _ a.frames)))

  pub latch-ranged : (value : ℕ) → RangedFifo f → RangedFifo (set_latch f value)
  latch-ranged value a = record { full = a.full; first = a.first; tick = a.tick; frames = a.frames }

  pub push-ranged : RangedFifo f → RangedFifo (pushed f)
  unfolding pushed
  push-ranged a =
      cond-by RangedFifo (ltb f.count fifo_capacity) _ _
      (λ e. record { full = omega (arith, ltb-true f.count fifo_capacity e); first = a.first; tick = a.tick; frames = a.frames })
      (λ e. a)

  module _ (q : List ℤ) (frequency : ℕ) (h : frequency < 2 ^ 16) where
    pub pop-ranged : RangedFifo f → RangedFifo (popped f q frequency)
    unfolding popped
    pop-ranged a =
        cond-by RangedFifo (eqb f.count 0) _ _ (λ e. a)
        (λ e. record { full = omega (arith, a.full); first = omega arith; tick = a.tick; frames = omega arith })

    pub advance-ranged : RangedFifo f → RangedFifo (advanced f q frequency)
    unfolding advanced
    advance-ranged a =
        cond-by RangedFifo (eqb f.hold 0) _ _ (λ e. pop-ranged a)
        (λ e. record { full = a.full; first = a.first; tick = a.tick; frames = omega (arith, a.frames) })

    pub tick-ranged : RangedFifo f → RangedFifo (ticked f q frequency)
    unfolding ticked
    tick-ranged a =
        let b = cond-by RangedFifo (eqb f.sub 0) (advanced f q frequency) f (λ e. advance-ranged a) (λ e. a) in
        record { full = b.full; first = b.first; tick = omega arith; frames = b.frames }

pub default-ranged : RangedFifo default_fifo
default-ranged = record { full = omega arith; first = omega arith; tick = omega arith; frames = omega arith }

-- ---- nothing in it
pub no_size : (z : ℤ) → nat_abs z ≡ 0 → z ≡ pos 0
no_size (pos n) e = ap pos e
no_size (negsuc n) e = absurd (omega (arith, e))

module _ (f : Fifo) where
  pub quiet-fifo : is_quiet f ≡ true → QuietFifo f
  unfolding is_quiet
  quiet-fifo e =
      let a = both (eqb (nat_abs f.held) 0) _ e in
      let b = both (eqb f.hold 0) _ a.1 in
      let c = both (eqb f.sub 0) _ b.1 in
      let d = both (eqb f.latch 0) _ c.1 in
      record { held = no_size f.held (eqb-true _ _ a.0); hold = eqb-true _ _ b.0; sub = eqb-true _ _ c.0; latch = eqb-true _ _ d.0; count = eqb-true _ _ d.1 }

  pub fifo-quiet : QuietFifo f → is_quiet f ≡ true
  unfolding is_quiet
  fifo-quiet q =
      together _ _ (eq-eqb (nat_abs f.held) 0 (ap nat_abs q.held))
      (together _ _ (eq-eqb f.hold 0 q.hold) (together _ _ (eq-eqb f.sub 0 q.sub) (together _ _ (eq-eqb f.latch 0 q.latch) (eq-eqb f.count 0 q.count))))

pub default-quiet : QuietFifo default_fifo
default-quiet = record { held = refl; hold = refl; sub = refl; latch = refl; count = refl }

-- ---- under a version
module _ (version : SguVersion) (f : Fifo) where
  pub allowed-quiet : allows_fifo version f ≡ true → has3ws8pna version ≡ false → QuietFifo f
  unfolding allows_fifo
  allowed-quiet e h = quiet-fifo f (sym (ap (λ (b : Bool). cond b true (is_quiet f)) h) ∙ e)

  pub quiet-allowed : (has3ws8pna version ≡ false → QuietFifo f) → allows_fifo version f ≡ true
  unfolding allows_fifo
  quiet-allowed q = cond-by (λ (b : Bool). b ≡ true) (has3ws8pna version) true (is_quiet f) (λ e. refl) (λ e. fifo-quiet f (q e))

  pub accepted-fifo : accepts_fifo version f ≡ true → AcceptedFifo version f
  unfolding accepts_fifo
  accepted-fifo e =
      let a = both (ranges_fifo f) _ e in
      record { ranges = ranged-fifo f a.0; quiet = allowed-quiet a.1 }

  pub fifo-accepted : AcceptedFifo version f → accepts_fifo version f ≡ true
  unfolding accepts_fifo
  fifo-accepted a = together _ _ (fifo-ranged f a.ranges) (quiet-allowed a.quiet)

  -- a version that has a FIFO asks for the ranges alone
  pub with-fifo : has3ws8pna version ≡ true → RangedFifo f → AcceptedFifo version f
  with-fifo h r = record { ranges = r; quiet = λ e. never (sym h ∙ e) }

  -- what is kept is allowed, and what is allowed is kept
  pub kept-quiet : has3ws8pna version ≡ false → QuietFifo (kept_fifo version f)
  unfolding kept_fifo
  kept-quiet h = cond-by QuietFifo (allows_fifo version f) f default_fifo (λ e. allowed-quiet e h) (λ e. default-quiet)

  pub kept-ranged : RangedFifo f → RangedFifo (kept_fifo version f)
  unfolding kept_fifo
  kept-ranged r = cond-by RangedFifo (allows_fifo version f) f default_fifo (λ e. r) (λ e. default-ranged)

  pub kept_same : allows_fifo version f ≡ true → kept_fifo version f ≡ f
  unfolding kept_fifo
  kept_same e = ap (λ (b : Bool). cond b f default_fifo) e

pub default-fifo : (version : SguVersion) → AcceptedFifo version default_fifo
default-fifo version = record { ranges = default-ranged; quiet = λ e. default-quiet }
