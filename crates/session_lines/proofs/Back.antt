-- The numbers of a voice are its session fields again. Assumes nothing.
use mathlib.Core.Path.{◌≡◌, refl, sym, ap, ◌∙◌}
use mathlib.Core.Bool.{Bool, true, false}
use mathlib.Core.List.{List, [], ◌∷◌, ◌++◌, map}
use Prim.Native.Nat.{ℕ, zero, suc, ◌+◌, ◌%◌, ◌≤◌, ◌<◌, min}
use native.Mathlib.Omega.{arith}
use lib.Dec.{eqb}
use lib.IntN.{ℤ, pos}
use lib.ListN.{length, get_or}
use lib.Seq.{get_or-append-add}
use mir.Syntax.{w16}
use mir.Val.{SFits, to_z, of_z}
use Rattle.sizes.specs.Sizes.{fifo_capacity}
use Rattle.num.proofs.Integers.{back}
use Rattle.line_fields.specs.Table.{sample_of_number}
use Rattle.line_fields.proofs.Bounds.{bits_small}
use Rattle.registers.specs.Waveforms.{waveform_from, waveform_number, modulation_from, modulation_number}
use Rattle.registers.specs.Control.{AcceptedRegisters, FitRegisters}
use Rattle.registers.specs.Pcm.{AcceptedPcm, FitPcm}
use Rattle.registers.specs.Queue.{AcceptedFifo, FitFifo}
use Rattle.registers.specs.PlainQueue.{FitEntries}
use Rattle.registers.proofs.Ring.{length-queued}
use Rattle.registers.specs.declared.WaveformType.{WaveformType}
use Rattle.registers.specs.declared.WaveformType.TheVariants.{Wavetable, Pcm, Noise, DmaPcm, Sqv4, FifoDac}
use Rattle.registers.specs.declared.ModulationType.{ModulationType}
use Rattle.registers.specs.declared.ModulationType.TheVariants.{None, Phase, Ring, HardSync, Window, SlewRate, SlewStep}
use Rattle.ticks.specs.Oscillators.{AcceptedOscillator, FitOscillator}
use Rattle.version.specs.declared.SguVersion.{SguVersion}
use Rattle.stream.specs.Cache.{emptied}
use Rattle.voice.specs.declared.Channel.{Channel}
use Rattle.session_lines.specs.Numbers.{at, flag, entries, state_numbers, table_numbers, queue_numbers, field_numbers, queued_of, low_byte, fifo_of, channel_from, table_of, queued_samples}
use Rattle.session_lines.specs.Lines.{voice_of, session_of}
use Rattle.session_lines.proofs.Storing.{size-table, nth-table, nth-queue, nth-queued}
use Rattle.session_lines.proofs.Whole.{parts-of, size-states}

-- a channel whose values are accepted and fit their types, with its wavetable's bytes and its queue's entries
pub record Whole (version : SguVersion) (c : Channel) (w : List ℕ) (q : List ℤ) : Type 0 where
  pub registers : FitRegisters c.registers
  pub accepted : AcceptedRegisters c.registers version
  pub pcm : FitPcm c.pcm
  pub addresses : AcceptedPcm c.pcm
  pub oscillator : FitOscillator c.oscillator
  pub slew : AcceptedOscillator c.oscillator
  pub fifo : FitFifo c.fifo
  pub queue : AcceptedFifo version c.fifo
  pub entries : FitEntries q
  pub bytes : (i : ℕ) → get_or w i 0 < 256
  pub table : length w ≡ 256

byte-back : (n : ℕ) → n < 256 → n % 256 ≡ n
byte-back n h = omega arith

word_back : (n : ℕ) → n < 65536 → n % 65536 ≡ n
word_back n h = omega arith

long-back : (n : ℕ) → n < 4294967296 → n % 4294967296 ≡ n
long-back n h = omega arith

pub sample-back : (z : ℤ) → SFits w16 z → sample_of_number (of_z w16 z) ≡ z
unfolding sample_of_number
sample-back z h = ap (to_z w16) (word_back (of_z w16 z) (omega (arith, bits_small z h))) ∙ back w16 z h

wave-back : (w : WaveformType) → waveform_from (waveform_number w % 256) ≡ w
wave-back Wavetable = refl
wave-back Pcm = refl
wave-back Noise = refl
wave-back DmaPcm = refl
wave-back Sqv4 = refl
wave-back FifoDac = refl

modulation-back : (m : ModulationType) → modulation_from (modulation_number m % 256) ≡ m
modulation-back None = refl
modulation-back Phase = refl
modulation-back Ring = refl
modulation-back HardSync = refl
modulation-back Window = refl
modulation-back SlewRate = refl
modulation-back SlewStep = refl

flag-back : (b : Bool) → eqb (flag b) 1 ≡ b
flag-back true = refl
flag-back false = refl

-- ---- where the parts lie
in_table : (number : ℕ) (c : Channel) (w : List ℕ) (q : List ℤ) (i : ℕ) → at (field_numbers number c w q) (25 + i) ≡ at (table_numbers w ++ queue_numbers c.fifo q) i
in_table number c w q i =
    ap (λ (l : List ℕ). at l (25 + i)) (parts-of number c w q)
    ∙ ap (λ (n : ℕ). at (state_numbers number c ++ (table_numbers w ++ queue_numbers c.fifo q)) (n + i)) (sym (size-states number c))
    ∙ get_or-append-add (state_numbers number c) (table_numbers w ++ queue_numbers c.fifo q) i 0

pub in-queue : (number : ℕ) (c : Channel) (w : List ℕ) (q : List ℤ) (i : ℕ) → at (field_numbers number c w q) (281 + i) ≡ at (queue_numbers c.fifo q) i
in-queue number c w q i =
    ap (at (field_numbers number c w q)) (split i) ∙ in_table number c w q (256 + i)
    ∙ ap (λ (n : ℕ). at (table_numbers w ++ queue_numbers c.fifo q) (n + i)) (sym (size-table w))
    ∙ get_or-append-add (table_numbers w) (queue_numbers c.fifo q) i 0
  where
    split : (i : ℕ) → 281 + i ≡ 25 + (256 + i)
    split i = omega arith

before : (xs ys : List ℕ) (i : ℕ) → i < length xs → at (xs ++ ys) i ≡ at xs i
before [] ys i h = absurd (omega arith)
before (x ∷ xs) ys zero h = refl
before (x ∷ xs) ys (suc i) h = before xs ys i (omega arith)

-- entries that are those of a list are the list
pub entries-are : {A : Type 0} (g : ℕ → A) (f : ℕ → ℕ) (d : A) (l : List A) (k n : ℕ) → length l ≡ n → ((i : ℕ) → i < n → g (f (k + i)) ≡ get_or l i d) → map g (entries f k n) ≡ l
unfolding entries
entries-are g f d [] k zero e h = refl
entries-are g f d [] k (suc n) e h = absurd (omega arith)
entries-are g f d (x ∷ l) k zero e h = absurd (omega arith)
entries-are g f d (x ∷ l) k (suc n) e h =
    λ i. (ap (λ (j : ℕ). g (f j)) (none k) ∙ h 0 (omega arith)) i ∷ entries-are g f d l (suc k) n (omega arith) (λ j m. ap (λ (o : ℕ). g (f o)) (move k j) ∙ h (suc j) (omega arith)) i
  where
    none : (k : ℕ) → k ≡ k + 0
    none k = omega arith

    move : (k j : ℕ) → suc k + j ≡ k + suc j
    move k j = omega arith

module _ (version : SguVersion) (number : ℕ) (c : Channel) (w : List ℕ) (q : List ℤ) (r : Whole version c w q) where
  pub count-back : at (field_numbers number c w q) 281 ≡ c.fifo.count
  unfolding queue_numbers
  count-back = in-queue number c w q 0 ∙ least c.fifo.count r.queue.ranges.full
    where
      least : (n : ℕ) → n ≤ fifo_capacity → min n fifo_capacity ≡ n
      least n h = omega arith

  pub table-back : table_of (at (field_numbers number c w q)) ≡ w
  unfolding table_of
  table-back = entries-are low_byte (at (field_numbers number c w q)) 0 w 25 256 r.table (λ i h. ap low_byte (in_table number c w q i ∙ before (table_numbers w) (queue_numbers c.fifo q) i (omega (arith, size-table w)) ∙ nth-table w i h) ∙ byte-back (get_or w i 0) (r.bytes i))

  pub samples-back : queued_samples (at (field_numbers number c w q)) (at (field_numbers number c w q) 281) ≡ queued_of c.fifo q
  unfolding queued_samples queue_numbers
  samples-back =
      let F = at (field_numbers number c w q) in
      let head = c.fifo.head in
      let n = min c.fifo.count fifo_capacity in
      let many : F 281 ≡ n = in-queue number c w q 0 in
      entries-are sample_of_number F (pos 0) (queued_of c.fifo q) 282 (F 281) (length-queued q head n ∙ sym many) (λ i h.
      let k : i < n = omega (arith, many) in
      ap (λ (j : ℕ). sample_of_number (F j)) (next i)
      ∙ ap sample_of_number (in-queue number c w q (suc i) ∙ nth-queue q head n i k)
      ∙ sample-back (get_or q ((head + i) % fifo_capacity) (pos 0)) (r.entries.each ((head + i) % fifo_capacity))
      ∙ sym (nth-queued q head n i k))
    where
      next : (i : ℕ) → 282 + i ≡ 281 + suc i
      next i = omega arith

  pub channel-back : channel_from (at (field_numbers number c w q)) (fifo_of (at (field_numbers number c w q))) ≡ (session_of number c w q).channel
  unfolding channel_from field_numbers state_numbers
  channel-back =
      λ i. record {
        oscillator = record {
          phase = c.oscillator.phase;
          old_phase = c.oscillator.old_phase;
          lfsr_state = long-back c.oscillator.lfsr_state r.oscillator.lfsr i;
          last_sample = sample-back c.oscillator.last_sample r.oscillator.last i;
          slew_current = word_back c.oscillator.slew_current (omega (arith, r.slew.slew)) i;
        };
        fifo = record {
          head = 0;
          count = count-back i;
          held = sample-back c.fifo.held r.fifo.sample i;
          hold = long-back c.fifo.hold (omega (arith, r.queue.ranges.frames)) i;
          sub = byte-back c.fifo.sub (omega (arith, r.queue.ranges.tick)) i;
          latch = byte-back c.fifo.latch r.fifo.byte i;
        };
        stream = emptied;
        pcm = record {
          start_addr = long-back c.pcm.start_addr (omega (arith, r.addresses.start)) i;
          end_addr = long-back c.pcm.end_addr (omega (arith, r.addresses.end)) i;
          loop_addr = long-back c.pcm.loop_addr (omega (arith, r.addresses.again)) i;
          control = byte-back c.pcm.control r.pcm.control i;
          sample_control = byte-back c.pcm.sample_control (omega (arith, r.addresses.sample_control_of)) i;
          active = flag-back c.pcm.active i;
        };
        registers = record {
          frequency = word_back c.registers.frequency r.registers.frequency i;
          waveform_type = wave-back c.registers.waveform_type i;
          volume = byte-back c.registers.volume r.registers.volume i;
          panpot = byte-back c.registers.panpot r.registers.panpot i;
          modulation_type = modulation-back c.registers.modulation_type i;
          modulation_target = byte-back c.registers.modulation_target (omega (arith, r.accepted.target)) i;
          modulation_targeting_mode = byte-back c.registers.modulation_targeting_mode (omega (arith, r.accepted.mode)) i;
          modulation_param_1 = word_back c.registers.modulation_param_1 r.registers.param1 i;
          modulation_param_2 = word_back c.registers.modulation_param_2 r.registers.param2 i;
        };
      }

  number_is : at (field_numbers number c w q) 0 ≡ number
  unfolding field_numbers state_numbers
  number_is = refl

  pub fields_back : voice_of (at (field_numbers number c w q)) (fifo_of (at (field_numbers number c w q))) ≡ session_of number c w q
  unfolding voice_of
  fields_back = λ i. record { number = number_is i; channel = channel-back i; wavetable = table-back i; samples = samples-back i }
