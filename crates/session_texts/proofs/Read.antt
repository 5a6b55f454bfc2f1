-- What a line's reading makes of a voice is what its fields make of it; what a session's lines promise. Assumes nothing.
use mathlib.Core.Path.{◌≡◌, refl, sym, ap, ◌∙◌}
use mathlib.Core.Bool.{Bool, true, false}
use mathlib.Core.List.{List, [], ◌∷◌}
use Prim.Native.Nat.{ℕ, ◌≤◌, ◌<◌}
use native.Mathlib.Omega.{arith}
use lib.IntN.{ℤ}
use lib.ListN.{length}
use lib.Seq.{sets}
use Rattle.sizes.specs.Sizes.{fifo_capacity}
use Rattle.cores.specs.Sizes.{chip_voices}
use Rattle.version.specs.declared.SguVersion.{SguVersion}
use Rattle.ticks.proofs.Ranges.{accepted-oscillator, oscillator-accepted}
use Rattle.voice.specs.declared.Channel.{Channel}
use Rattle.session_lines.specs.Lines.{NumberedVoice, session_of, ReadVoice, voice, malformed, queued, read_as, read_voice, read_stored, channel_after, table_after, queue_after}
use Rattle.session_lines.proofs.Heads.{head-back}
use Rattle.session_lines.proofs.Back.{Whole}
use Rattle.session_lines.proofs.Session.{voice-back}
use Rattle.session_lines.proofs.Taken.{read_told}
use Rattle.session_lines.proofs.Taken as taken
use Rattle.slots.specs.Slots.{Slot, channel_with, slot_loaded}
use Rattle.plain_chip.specs.Voices.{PlainVoice}
use Rattle.plain_chip.specs.Good.{FitVoice}
use Rattle.call_lists.specs.Texts as texts
use Rattle.call_lists.specs.Texts.{TextsOk, Told}
use Rattle.session_texts.specs.Session.{plain_voice_of, voice_read, head_read, session}
use Rattle.session_texts.proofs.Written.{own-line}

-- ---- the channel that is read has its fields, an empty cache and the queue's head at 0
pub channel-told : (version : SguVersion) (v : NumberedVoice) → taken.Told version v → v.channel ≡ channel_with (plain_voice_of v)
channel-told version v t =
    let c = v.channel in
    λ i. record {
      oscillator = c.oscillator;
      fifo = record { head = t.first i; count = sym t.many i; held = c.fifo.held; hold = c.fifo.hold; sub = c.fifo.sub; latch = c.fifo.latch };
      stream = t.cache i;
      pcm = c.pcm;
      registers = c.registers;
    }

-- a voice whose line is read: its channel, wavetable and entries are those of its fields
pub loaded-told : (v : NumberedVoice) (s : Slot) → v.channel ≡ channel_with (plain_voice_of v)
    → ◌≡◌ {A = Slot} (record { channel = channel_after (voice v) s.channel; fragments = s.fragments; wavetable = table_after (voice v) s.wavetable; queue = queue_after (voice v) s.queue }) (slot_loaded (plain_voice_of v) s)
unfolding slot_loaded
loaded-told v s e = ap (λ (c : Channel). record { channel = c; fragments = s.fragments; wavetable = sets s.wavetable 0 v.wavetable; queue = sets s.queue 0 v.samples }) e

-- ---- the fields of a voice that is made of fields
fields_back : (n : ℕ) (v : PlainVoice) → length v.queue.samples ≤ fifo_capacity → plain_voice_of (session_of n (channel_with v) v.wavetable v.queue.samples) ≡ v
fields_back n v h = ap (λ (l : List ℤ). record { registers = v.registers; pcm = v.pcm; oscillator = v.oscillator; queue = record { samples = l; held = v.queue.held; hold = v.queue.hold; sub = v.queue.sub; latch = v.queue.latch }; wavetable = v.wavetable }) (own-line v h)

-- ---- a line tells of one of the sixteen voices, its fields in their ranges
none : (l : List ℤ) → length l ≡ 0 → l ≡ []
none [] n = refl
none (x ∷ l) n = absurd (omega arith)

whole_fields : (version : SguVersion) (v : NumberedVoice) → Whole version v.channel v.wavetable v.samples → length v.samples ≡ v.channel.fifo.count → FitVoice version (plain_voice_of v)
whole_fields version v w many = record {
  registers = w.accepted;
  pcm = w.addresses;
  oscillator = oscillator-accepted v.channel.oscillator w.slew;
  fit_registers = w.registers;
  fit_pcm = w.pcm;
  fit_oscillator = w.oscillator;
  full = omega (arith, many, w.queue.ranges.full);
  samples = w.entries;
  held = w.fifo.sample;
  frames = w.queue.ranges.frames;
  tick = w.queue.ranges.tick;
  latch = w.fifo.byte;
  quiet = λ e. let q = w.queue.quiet e in record { samples = none v.samples (many ∙ q.count); held = q.held; hold = q.hold; sub = q.sub; latch = q.latch };
  table = w.table;
  bytes = record { each = w.bytes };
}

fields-whole : (version : SguVersion) (v : PlainVoice) → FitVoice version v → Whole version (channel_with v) v.wavetable v.queue.samples
fields-whole version v f = record {
  registers = f.fit_registers;
  accepted = f.registers;
  pcm = f.fit_pcm;
  addresses = f.pcm;
  oscillator = f.fit_oscillator;
  slew = accepted-oscillator v.oscillator f.oscillator;
  fifo = record { sample = f.held; byte = f.latch };
  queue = record { ranges = record { full = f.full; first = omega arith; tick = f.tick; frames = f.frames }; quiet = λ e. let q = f.quiet e in record { held = q.held; hold = q.hold; sub = q.sub; latch = q.latch; count = ap length q.samples } };
  entries = f.samples;
  bytes = f.bytes.each;
  table = f.table;
}

ranges : (stored : Bool) (version : SguVersion) (text : List ℕ) (v : NumberedVoice) → read_as stored version text ≡ voice v → (v.number < chip_voices) × FitVoice version (plain_voice_of v)
ranges stored version text v e = let t = read_told stored version text v e in (t.named, whole_fields version v t.whole t.many)

-- ---- what a session's lines promise
pub session-is-ok : TextsOk session
session-is-ok = record {
  head-back = λ version size allowed. ap head_read (head-back version size allowed);
  told = λ version text. go version (read_voice version text) (ranges false version text);
  stored-told = λ version text. go version (read_stored version text) (ranges true version text);
  voice-back = λ version n v h fit. ap voice_read (voice-back version n (channel_with v) v.wavetable v.queue.samples (omega arith) (fields-whole version v fit)) ∙ ap (texts.voice n) (fields_back n v fit.full);
}
  where
    go : (version : SguVersion) (r : ReadVoice) → ((v : NumberedVoice) → r ≡ voice v → (v.number < chip_voices) × FitVoice version (plain_voice_of v)) → Told version (voice_read r)
    go version (voice v) h = h v refl
    go version (malformed field) h = tt
    go version queued h = tt
