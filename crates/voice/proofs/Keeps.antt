-- An accepted channel: the test part by part, and what keeps a channel accepted. Assumes nothing.
use Rattle.std.proofs.Common.{◌≡◌, ℕ, ◌^◌, ◌<◌, Bool, true, false, cond, ◌&&◌, eqb, ltb, leb, sym, refl, ap, ◌∙◌, leb-false}
use Rattle.num.proofs.Choice.{cond-by, both, together}
use Rattle.version.specs.Versions.{has3ws8pna, has_sample_control}
use Rattle.registers.specs.Waveforms.{is_sqv4, waveform_from, waveform_number}
use Rattle.registers.specs.Control.{write_registers, accepts_registers}
use Rattle.registers.specs.Pcm.{write_pcm, accepts_pcm}
use Rattle.registers.specs.Queue.{pushed, accepts_fifo}
use Rattle.version.specs.declared.SguVersion.{SguVersion}
use Rattle.registers.specs.declared.WaveformType.{WaveformType}
use Rattle.registers.specs.declared.WaveformType.TheVariants as waveforms
use Rattle.registers.specs.declared.Registers.{Registers}
use Rattle.registers.specs.declared.PcmRegisters.{PcmRegisters}
use Rattle.registers.specs.declared.Fifo.{Fifo}
use Rattle.registers.proofs.Offsets.{write-none}
use Rattle.registers.proofs.Accepted.{accepted-registers, registers-accepted, write-accepted, waveform-accepted, default-registers, accepted-pcm, pcm-accepted, write-pcm-accepted, sample-control-accepted, default-pcm, accepted-fifo, fifo-accepted, with-fifo, latch-ranged, push-ranged, default-fifo}
use Rattle.stream.specs.Accepted.{accepts_cache}
use Rattle.ticks.specs.Oscillators.{accepts_oscillator, set_phase}
use Rattle.ticks.specs.declared.Oscillator.{Oscillator}
use Rattle.voice.specs.Channel.{default_channel, set_fifo, set_pcm, set_registers, set_channel_version}
use Rattle.voice.specs.Kinds.{sounding_of, oscillator_restarted}
use Rattle.voice.specs.Sounding.{kind_of}
use Rattle.voice.specs.declared.Kind.TheVariants as kinds
use Rattle.voice.specs.Writes.{waveform_written, restarted, latch_written, sample_written, sample_control_written, write_control, write_pcm_reg}
use Rattle.voice.specs.Reads.{after_read}
use Rattle.voice.specs.Accepted.{accepts_stream, accepts_channel, AcceptedChannel}
use Rattle.voice.specs.declared.Channel.{Channel}

-- ---- the test and what it says

module _ (c : Channel) (version : SguVersion) (length : ℕ) where
  pub accepted-channel : accepts_channel c version length ≡ true → AcceptedChannel c version length
  unfolding accepts_channel
  accepted-channel e =
      let a = both (accepts_registers c.registers version) _ e in
      let b = both (accepts_pcm c.pcm) _ a.1 in
      let d = both (accepts_oscillator c.oscillator) _ b.1 in
      let f = both (accepts_fifo version c.fifo) _ d.1 in
      record {
        registers = accepted-registers c.registers version a.0;
        pcm = accepted-pcm c.pcm b.0;
        oscillator = d.0;
        fifo = accepted-fifo version c.fifo f.0;
        stream = f.1;
      }

  pub channel-accepted : AcceptedChannel c version length → accepts_channel c version length ≡ true
  unfolding accepts_channel
  channel-accepted a =
      together _ _ (registers-accepted c.registers version a.registers)
      (together _ _ (pcm-accepted c.pcm a.pcm) (together _ _ a.oscillator (together _ _ (fifo-accepted version c.fifo a.fifo) a.stream)))

-- ---- parts

restarted-oscillator : (o : Oscillator) → accepts_oscillator o ≡ true → accepts_oscillator (oscillator_restarted o) ≡ true
unfolding accepts_oscillator
restarted-oscillator o e = (both (leb o.slew_current 65280) (ltb o.old_phase (2 ^ 35)) e).1

phase-oscillator : (o : Oscillator) (x : ℕ) → accepts_oscillator o ≡ true → accepts_oscillator (set_phase o x) ≡ true
unfolding accepts_oscillator
phase-oscillator o x e = e

-- no write of a number register changes the waveform
same-waveform : (r : Registers) (offset value : ℕ) → (write_registers r offset value).waveform_type ≡ r.waveform_type
unfolding write_registers
same-waveform r offset value =
    cond-by same (leb offset 1) _ _ (λ e. refl)
    (λ e. cond-by same (eqb offset 2) _ _ (λ e. refl)
    (λ e. cond-by same (eqb offset 3) _ _ (λ e. refl)
    (λ e. cond-by same (eqb offset 4) _ _ (λ e. refl)
    (λ e. cond-by same (eqb offset 5) _ _ (λ e. refl)
    (λ e. cond-by same (leb offset 7) _ _ (λ e. refl)
    (λ e. cond-by same (leb offset 9) _ _ (λ e. refl)
    (λ e. cond-by same (eqb offset 11) _ _ (λ e. refl)
    (λ e. refl))))))))
  where
    same : Registers → Type 0
    same x = x.waveform_type ≡ r.waveform_type

module _ (c : Channel) (length : ℕ) where
  fifo-stream : (f : Fifo) → accepts_stream c length ≡ true → accepts_stream (set_fifo c f) length ≡ true
  unfolding accepts_stream
  fifo-stream f e = e

  registers-stream : (r : Registers) → r.waveform_type ≡ c.registers.waveform_type → accepts_stream c length ≡ true → accepts_stream (set_registers c r) length ≡ true
  unfolding accepts_stream
  registers-stream r h e = ap (λ (w : WaveformType). cond c.stream.valid (is_sqv4 w && accepts_cache c.stream c.pcm.start_addr c.pcm.end_addr length) true) h ∙ e

  pcm-stream : (p : PcmRegisters) → c.pcm.start_addr ≡ p.start_addr → c.pcm.end_addr ≡ p.end_addr → accepts_stream c length ≡ true → accepts_stream (set_pcm c p) length ≡ true
  unfolding accepts_stream
  pcm-stream p s t e =
      ap (λ (x : ℕ). cond c.stream.valid (is_sqv4 c.registers.waveform_type && accepts_cache c.stream x p.end_addr length) true) (sym s)
      ∙ ap (λ (x : ℕ). cond c.stream.valid (is_sqv4 c.registers.waveform_type && accepts_cache c.stream c.pcm.start_addr x length) true) (sym t)
      ∙ e

-- ---- a fresh channel, and every change

pub default-accepted : (version : SguVersion) (length : ℕ) → AcceptedChannel default_channel version length
unfolding accepts_oscillator accepts_stream
default-accepted version length = record { registers = default-registers version; pcm = default-pcm; oscillator = refl; fifo = default-fifo version; stream = refl }

pub version-accepted : (c : Channel) (old version : SguVersion) (length longer : ℕ) → AcceptedChannel c old length → AcceptedChannel (set_channel_version c version) version longer
unfolding set_channel_version accepts_stream
version-accepted c old version length longer a =
    record { registers = waveform-accepted c.registers old version c.registers.waveform_type a.registers; pcm = a.pcm; oscillator = a.oscillator; fifo = default-fifo version; stream = refl }

module _ (c : Channel) (version : SguVersion) (length : ℕ) (a : AcceptedChannel c version length) where
  abbrev ok : Channel → Type 0
  ok x = AcceptedChannel x version length

  waveform-kept : (value : ℕ) → AcceptedChannel (waveform_written version c value) version length
  unfolding waveform_written accepts_stream
  waveform-kept value =
      record { registers = waveform-accepted c.registers version version (waveform_from value) a.registers; pcm = a.pcm; oscillator = a.oscillator; fifo = a.fifo; stream = refl }

  restart-kept : AcceptedChannel (restarted c) version length
  unfolding restarted accepts_stream
  restart-kept = record { registers = a.registers; pcm = a.pcm; oscillator = restarted-oscillator c.oscillator a.oscillator; fifo = default-fifo version; stream = refl }

  latch-kept : (value : ℕ) → AcceptedChannel (latch_written version c value) version length
  unfolding latch_written
  latch-kept value =
      cond-by ok (has3ws8pna version) _ _
      (λ e. record { registers = a.registers; pcm = a.pcm; oscillator = a.oscillator; fifo = with-fifo version _ e (latch-ranged c.fifo value a.fifo.ranges); stream = fifo-stream c length _ a.stream })
      (λ e. a)

  sample-kept : AcceptedChannel (sample_written version c) version length
  unfolding sample_written
  sample-kept =
      cond-by ok (has3ws8pna version) _ _
      (λ e. record { registers = a.registers; pcm = a.pcm; oscillator = a.oscillator; fifo = with-fifo version _ e (push-ranged c.fifo a.fifo.ranges); stream = fifo-stream c length (pushed c.fifo) a.stream })
      (λ e. a)

  sample-control-kept : (value : ℕ) → AcceptedChannel (sample_control_written version c value) version length
  unfolding sample_control_written
  sample-control-kept value =
      cond-by ok (has_sample_control version) _ _
      (λ e. record { registers = a.registers; pcm = sample-control-accepted c.pcm value a.pcm; oscillator = a.oscillator; fifo = a.fifo; stream = pcm-stream c length _ refl refl a.stream })
      (λ e. a)

  pub write_kept : (offset value : ℕ) → AcceptedChannel (write_control version c offset value) version length
  unfolding write_control
  write_kept offset value =
      cond-by ok (eqb offset 2) _ _ (λ e. waveform-kept value)
      (λ e. cond-by ok (eqb offset 10) _ _ (λ e. restart-kept)
      (λ e. cond-by ok (eqb offset 12) _ _ (λ e. latch-kept value)
      (λ e. cond-by ok (eqb offset 13) _ _ (λ e. sample-kept)
      (λ e. cond-by ok (eqb offset 26) _ _ (λ e. sample-control-kept value)
      (λ e. record { registers = write-accepted c.registers version offset value a.registers; pcm = a.pcm; oscillator = a.oscillator; fifo = a.fifo; stream = registers-stream c length (write_registers c.registers offset value) (same-waveform c.registers offset value) a.stream })))))

  pub pcm-write-kept : (offset value : ℕ) → value < 256 → AcceptedChannel (write_pcm_reg c offset value) version length
  unfolding write_pcm_reg accepts_stream
  pcm-write-kept offset value h =
      let p = write-pcm-accepted c.pcm offset value h a.pcm in
      cond-by ok (leb offset 9) _ _
      (λ e. record { registers = a.registers; pcm = p; oscillator = a.oscillator; fifo = a.fifo; stream = refl })
      (λ e. let same = write-none c.pcm offset value (leb-false offset 9 e) in
      record { registers = a.registers; pcm = p; oscillator = a.oscillator; fifo = a.fifo; stream = pcm-stream c length (write_pcm c.pcm offset value) (ap (λ (x : PcmRegisters). x.start_addr) same) (ap (λ (x : PcmRegisters). x.end_addr) same) a.stream })

  pub read_kept : (offset : ℕ) → AcceptedChannel (after_read c offset) version length
  unfolding after_read accepts_stream
  read_kept offset =
      cond-by ok (eqb offset 10) _ _
      (λ e. record { registers = a.registers; pcm = a.pcm; oscillator = phase-oscillator c.oscillator 0 a.oscillator; fifo = a.fifo; stream = refl })
      (λ e. a)

-- ---- a FIFO voice that is accepted is one of a chip that has a FIFO
fifo-kind : (active : Bool) (w : WaveformType) → cond active (sounding_of w) kinds.Silent ≡ kinds.FifoDac → waveform_number w ≡ 5
fifo-kind false w e = cc
fifo-kind true waveforms.Wavetable e = cc
fifo-kind true waveforms.Pcm e = cc
fifo-kind true waveforms.Noise e = cc
fifo-kind true waveforms.DmaPcm e = cc
fifo-kind true waveforms.Sqv4 e = cc
fifo-kind true waveforms.FifoDac e = refl

pub fifo-there : (c : Channel) (version : SguVersion) (length : ℕ) → AcceptedChannel c version length → kind_of c ≡ kinds.FifoDac → has3ws8pna version ≡ true
fifo-there c version length a e = a.registers.fifo (fifo-kind c.pcm.active c.registers.waveform_type e)
