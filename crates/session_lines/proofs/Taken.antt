-- A voice that is read is accepted, its cache is empty and its queue's head at 0. Assumes nothing.
use mathlib.Core.Path.{◌≡◌, refl, sym, ap, ◌∙◌, subst}
use mathlib.Core.Bool.{Bool, true, false, cond}
use mathlib.Core.List.{List, [], ◌∷◌, map}
use Prim.Native.Nat.{ℕ, zero, suc, ◌-◌, ◌%◌, ◌^◌, ◌≤◌, ◌<◌}
use native.Mathlib.Omega.{arith}
use lib.IntN.{ℤ, pos}
use lib.ListN.{length, get_or}
use mir.Syntax.{w16}
use mir.Val.{SFits}
use borrow.Author.Tests.{le-leb, lt-ltb}
use Rattle.sizes.specs.Sizes.{fifo_capacity}
use Rattle.cores.specs.Sizes.{chip_voices}
use Rattle.num.proofs.Choice.{cond-by, together, never}
use Rattle.num.proofs.Integers.{fit}
use Rattle.line_fields.specs.Table.{most_of, sample_of_number}
use Rattle.line_fields.specs.Reading.{ReadLine, line, read_line}
use Rattle.line_fields.specs.Reading as lines
use Rattle.line_fields.proofs.Good.{Good, read-good}
use Rattle.line_fields.proofs.Putting.{sample-fits}
use Rattle.registers.specs.Waveforms.{waveform_from, waveform_number}
use Rattle.registers.specs.Queue.{default_fifo, QuietFifo, allows_fifo, kept_fifo, RangedFifo, AcceptedFifo, FitFifo}
use Rattle.registers.specs.declared.Fifo.{Fifo}
use Rattle.registers.proofs.Accepted.{default-ranged, allowed-quiet, quiet-allowed, kept-quiet, kept_same}
use Rattle.version.specs.Versions.{has3ws8pna}
use Rattle.version.specs.declared.SguVersion.{SguVersion}
use Rattle.ticks.specs.Oscillators.{accepts_oscillator}
use Rattle.ticks.proofs.Ranges.{accepted-oscillator}
use Rattle.stream.specs.Cache.{emptied}
use Rattle.voice.specs.Accepted.{AcceptedChannel, accepts_stream}
use Rattle.session_lines.specs.Numbers.{at, entries, low_byte, fifo_of, channel_from, table_of, queued_samples}
use Rattle.session_lines.specs.Lines.{NumberedVoice, voice, queued, voice_of, queue_told, voice_taken, voice_from, read_as, read_voice, read_stored}
use Rattle.session_lines.proofs.Storing.{size-read-table, size-samples}
use Rattle.session_lines.proofs.Back.{Whole}

wave-number : (n : ℕ) → n ≤ 5 → waveform_number (waveform_from n) ≡ n
wave-number zero h = refl
wave-number (suc zero) h = refl
wave-number (suc (suc zero)) h = refl
wave-number (suc (suc (suc zero))) h = refl
wave-number (suc (suc (suc (suc zero)))) h = refl
wave-number (suc (suc (suc (suc (suc zero))))) h = refl
wave-number (suc (suc (suc (suc (suc (suc n)))))) h = absurd (omega arith)

small : (n : ℕ) → n ≤ 5 → n % 256 ≡ n
small n h = omega arith

no-fifo : (fifo : Bool) (n : ℕ) → n ≤ most_of fifo 2 → waveform_number (waveform_from (low_byte n)) ≡ 5 → fifo ≡ true
unfolding most_of
no-fifo true n h e = refl
no-fifo false n h e =
    let five : n ≤ 5 = omega arith in
    let q : n ≡ 5 = sym (ap (λ (k : ℕ). waveform_number (waveform_from k)) (small n five) ∙ wave-number n five) ∙ e in
    absurd (omega arith)

-- a queue that is put into a channel: its values in their ranges, its head at 0, and one that the version has
pub record Queue (version : SguVersion) (queue : Fifo) : Type 0 where
  pub accepted : AcceptedFifo version queue
  pub fits : FitFifo queue
  pub first : queue.head ≡ 0

-- without what the version asks
record Ranged (queue : Fifo) : Type 0 where
  ranges : RangedFifo queue
  fits : FitFifo queue
  first : queue.head ≡ 0

ranged-told : (stored : Bool) (version : SguVersion) (ns : List ℕ) → Good (has3ws8pna version) ns → Ranged (queue_told stored version (at ns))
unfolding most_of queue_told kept_fifo
ranged-told stored version ns g =
    let hold : at ns 22 ≤ 65535 = g.within 22 in
    let sub : at ns 23 ≤ 3 = g.within 23 in
    let count : at ns 281 ≤ fifo_capacity = g.within 281 in
    let own : Ranged (fifo_of (at ns)) = record { ranges = record { full = count; first = omega arith; tick = omega (arith, sub); frames = omega (arith, hold) }; fits = record { sample = sample-fits (at ns 21); byte = omega arith }; first = refl } in
    let none : Ranged default_fifo = record { ranges = default-ranged; fits = record { sample = fit w16 (pos 0) (omega arith) (omega arith); byte = omega arith }; first = refl } in
    cond-by Ranged stored (cond (allows_fifo version (fifo_of (at ns))) (fifo_of (at ns)) default_fifo) (fifo_of (at ns)) (λ e. cond-by Ranged (allows_fifo version (fifo_of (at ns))) (fifo_of (at ns)) default_fifo (λ h. own) (λ h. none)) (λ e. own)

taken-accepted : (version : SguVersion) (ns : List ℕ) (queue : Fifo) (length : ℕ) → Queue version queue → Good (has3ws8pna version) ns → AcceptedChannel (channel_from (at ns) queue) version length
unfolding most_of channel_from accepts_oscillator accepts_stream
taken-accepted version ns queue length k g =
    let target : at ns 6 ≤ 7 = g.within 6 in
    let mode : at ns 7 ≤ 1 = g.within 7 in
    let start : at ns 10 ≤ 16777215 = g.within 10 in
    let end : at ns 11 ≤ 16777215 = g.within 11 in
    let again : at ns 12 ≤ 16777215 = g.within 12 in
    let control : at ns 14 ≤ 7 = g.within 14 in
    let old : at ns 17 ≤ 34359738367 = g.within 17 in
    let slew : at ns 20 ≤ 65280 = g.within 20 in
    record {
      registers = record { target = omega (arith, target); mode = omega (arith, mode); fifo = no-fifo (has3ws8pna version) (at ns 2) (g.within 2) };
      pcm = record { sample_control_of = omega (arith, control); start = omega (arith, start); end = omega (arith, end); again = omega (arith, again) };
      oscillator = together _ _ (le-leb (at ns 20 % 65536) 65280 (omega (arith, slew))) (lt-ltb (at ns 17) (2 ^ 35) (omega (arith, old)));
      fifo = k.accepted;
      stream = refl;
    }

-- ---- and it fits its types
samples-fit : (l : List ℕ) (i : ℕ) → SFits w16 (get_or (map sample_of_number l) i (pos 0))
samples-fit [] i = fit w16 (pos 0) (omega arith) (omega arith)
samples-fit (n ∷ l) zero = sample-fits n
samples-fit (n ∷ l) (suc i) = samples-fit l i

bytes_fit : (l : List ℕ) (i : ℕ) → get_or (map low_byte l) i 0 < 256
bytes_fit [] i = omega arith
bytes_fit (n ∷ l) zero = omega arith
bytes_fit (n ∷ l) (suc i) = bytes_fit l i

taken-whole : (version : SguVersion) (ns : List ℕ) (queue : Fifo) → Queue version queue → Good (has3ws8pna version) ns → Whole version (channel_from (at ns) queue) (table_of (at ns)) (queued_samples (at ns) queue.count)
unfolding most_of channel_from table_of queued_samples
taken-whole version ns queue k g =
    let a = taken-accepted version ns queue 0 k g in
    let phase : at ns 16 ≤ 18446744073709551615 = g.within 16 in
    record {
      registers = record { frequency = omega arith; volume = omega arith; panpot = omega arith; param1 = omega arith; param2 = omega arith };
      accepted = a.registers;
      pcm = record { control = omega arith };
      addresses = a.pcm;
      oscillator = record { phase = omega (arith, phase); lfsr = omega arith; last = sample-fits (at ns 19) };
      slew = accepted-oscillator (channel_from (at ns) queue).oscillator a.oscillator;
      fifo = k.fits;
      queue = k.accepted;
      entries = record { each = samples-fit (entries (at ns) 282 queue.count) };
      bytes = bytes_fit (entries (at ns) 25 256);
      table = size-read-table (at ns);
    }

-- ---- what a line's reading gives: one of the chip's voices, whole, as many samples as its queue counts; accepted over any RAM, its cache empty and
-- its queue's head at 0
pub record Told (version : SguVersion) (v : NumberedVoice) : Type 0 where
  pub named : v.number < chip_voices
  pub whole : Whole version v.channel v.wavetable v.samples
  pub many : length v.samples ≡ v.channel.fifo.count
  pub accepted : (ram : ℕ) → AcceptedChannel v.channel version ram
  pub cache : v.channel.stream ≡ emptied
  pub first : v.channel.fifo.head ≡ 0

numbers-told : (version : SguVersion) (ns : List ℕ) (queue : Fifo) → Queue version queue → Good (has3ws8pna version) ns → Told version (voice_of (at ns) queue)
unfolding most_of voice_of channel_from
numbers-told version ns queue k g = let first : at ns 0 ≤ chip_voices - 1 = g.within 0 in record { named = omega (arith, first); whole = taken-whole version ns queue k g; many = size-samples (at ns) queue.count; accepted = λ ram. taken-accepted version ns queue ram k g; cache = refl; first = k.first }

-- whether it is read as a stored line or as any
pub read_told : (stored : Bool) (version : SguVersion) (text : List ℕ) (v : NumberedVoice) → read_as stored version text ≡ voice v → Told version v
unfolding read_as
read_told stored version text v e = go (read_line (has3ws8pna version) text) refl e
  where
    go : (r : ReadLine) → read_line (has3ws8pna version) text ≡ r → voice_from stored version r ≡ voice v → Told version v
    go (line ns) q f = by (allows_fifo version queue) refl f
      where
        queue : Fifo
        queue = queue_told stored version (at ns)

        good : Good (has3ws8pna version) ns
        good = read-good (has3ws8pna version) text ns q

        by : (b : Bool) → allows_fifo version queue ≡ b → cond b (voice (voice_of (at ns) queue)) queued ≡ voice v → Told version v
        by true h f =
            let w : voice_of (at ns) queue ≡ v = cc in
            let r = ranged-told stored version ns good in
            subst (Told version) w (numbers-told version ns queue (record { accepted = record { ranges = r.ranges; quiet = allowed-quiet version queue h }; fits = r.fits; first = r.first }) good)
        by false h f = absurd (let z : ◌≡◌ {A = ℕ} 0 1 = cc in omega arith)
    go (lines.malformed ns field) q f = absurd (let z : ◌≡◌ {A = ℕ} 0 1 = cc in omega arith)

-- ---- stored lines
-- a chip with a FIFO reads them as any
pub stored_same : (version : SguVersion) (text : List ℕ) → has3ws8pna version ≡ true → read_stored version text ≡ read_voice version text
unfolding read_as queue_told
stored_same version text h = go (read_line (has3ws8pna version) text)
  where
    go : (r : ReadLine) → voice_from true version r ≡ voice_from false version r
    go (line ns) = ap (voice_taken version (at ns)) (kept_same version (fifo_of (at ns)) (quiet-allowed version (fifo_of (at ns)) (λ e. never (sym h ∙ e))))
    go (lines.malformed ns field) = refl

-- a chip without one drops what is in their queues, and refuses none for it
pub stored-taken : (version : SguVersion) (text : List ℕ) → read_stored version text ≡ queued → ⊥
unfolding read_as queue_told
stored-taken version text e = go (read_line (has3ws8pna version) text) e
  where
    go : (r : ReadLine) → voice_from true version r ≡ queued → ⊥
    go (line ns) f =
        let k : allows_fifo version (kept_fifo version (fifo_of (at ns))) ≡ true = quiet-allowed version (kept_fifo version (fifo_of (at ns))) (kept-quiet version (fifo_of (at ns))) in
        let z : voice (voice_of (at ns) (kept_fifo version (fifo_of (at ns)))) ≡ queued = sym (ap (λ (b : Bool). cond b (voice (voice_of (at ns) (kept_fifo version (fifo_of (at ns))))) queued) k) ∙ f in
        absurd (let y : ◌≡◌ {A = ℕ} 0 1 = cc in omega arith)
    go (lines.malformed ns field) f = absurd (let y : ◌≡◌ {A = ℕ} 0 1 = cc in omega arith)

pub stored-quiet : (version : SguVersion) (text : List ℕ) (v : NumberedVoice) → has3ws8pna version ≡ false → read_stored version text ≡ voice v → QuietFifo v.channel.fifo × (v.samples ≡ [])
stored-quiet version text v h e =
    let t = read_told true version text v e in
    let q = t.whole.queue.quiet h in
    (q, none v.samples (t.many ∙ q.count))
  where
    none : (l : List ℤ) → length l ≡ 0 → l ≡ []
    none [] n = refl
    none (x ∷ l) n = absurd (omega arith)
