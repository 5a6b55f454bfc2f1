-- The line written of a voice is that of its session's fields. Assumes nothing.
use mathlib.Core.Path.{◌≡◌, sym, ap, ap₂, ◌∙◌}
use mathlib.Core.List.{List}
use Prim.Native.Nat.{ℕ, ◌≤◌, min}
use native.Mathlib.Omega.{arith}
use lib.IntN.{ℤ}
use lib.ListN.{length}
use lib.Seq.{take-length}
use Rattle.sizes.specs.Sizes.{fifo_capacity}
use Rattle.version.specs.declared.SguVersion.{SguVersion}
use Rattle.registers.specs.Queue.{queued, set_count}
use Rattle.registers.proofs.Ring.{length-queued, queued-part}
use Rattle.stream.specs.Cache.{emptied}
use Rattle.voice.specs.Channel.{set_fifo, set_stream}
use Rattle.session_lines.specs.Numbers.{queued_of}
use Rattle.session_lines.specs.Lines.{voice_text, at_start, session_of}
use Rattle.session_lines.proofs.Session.{same-text}
use Rattle.slots.specs.Slots.{Slot, plain_of, channel_with}
use Rattle.plain_chip.specs.Voices.{PlainVoice}
use Rattle.slots.specs.Good.{SlotOk}
use Rattle.session_texts.specs.Session.{plain_text}

-- the queue of a voice with these fields is their list
pub own-line : (v : PlainVoice) → length v.queue.samples ≤ fifo_capacity → queued_of (channel_with v).fifo v.queue.samples ≡ v.queue.samples
own-line v h =
    let l = v.queue.samples in
    let e : min (length l) fifo_capacity ≡ length l = omega arith in
    ap (queued l 0) e ∙ queued-part l 0 (length l) (omega arith) (omega arith) ∙ take-length l

module _ (version : SguVersion) (ram : List ℕ) (s : Slot) (ok : SlotOk version ram s) where
  abbrev queue : List ℤ
  queue = queued s.queue s.channel.fifo.head s.channel.fifo.count

  told_line : queued_of s.channel.fifo s.queue ≡ queue
  told_line =
      let e : min s.channel.fifo.count fifo_capacity ≡ s.channel.fifo.count = omega (arith, ok.accepted.fifo.ranges.full) in
      ap (queued s.queue s.channel.fifo.head) e

  long : length queue ≡ s.channel.fifo.count
  long = length-queued s.queue s.channel.fifo.head s.channel.fifo.count

  fields-same : (n : ℕ) → session_of n s.channel s.wavetable s.queue ≡ session_of n (channel_with (plain_of s)) s.wavetable queue
  fields-same n =
      ap₂ (λ (k : ℕ) (l : List ℤ). record { number = n; channel = set_stream (set_fifo s.channel (set_count (at_start s.channel.fifo) k)) emptied; wavetable = s.wavetable; samples = l })
      (sym long) (told_line ∙ sym (own-line (plain_of s) (omega (arith, long, ok.accepted.fifo.ranges.full))))

  pub text-plain : (n : ℕ) → voice_text n s.channel s.wavetable s.queue ≡ plain_text n (plain_of s)
  text-plain n = same-text n n s.channel (channel_with (plain_of s)) s.wavetable s.wavetable s.queue queue (fields-same n)
