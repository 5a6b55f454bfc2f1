-- A voice's fields read from a session: the voice then has them, whatever it was; it is good. The fields of a good voice are in their
-- ranges. Assumes nothing.
use mathlib.Core.Path.{◌≡◌, refl, sym, ap, ◌∙◌, subst}
use mathlib.Core.List.{List, [], ◌∷◌, ◌++◌, append-nil}
use Prim.Native.Nat.{ℕ, zero, suc, ◌+◌, ◌%◌, ◌≤◌}
use native.Mathlib.Omega.{arith}
use lib.IntN.{ℤ, pos}
use lib.ListN.{length, get_or, take, drop, set, drop_of_length-le}
use lib.Seq.{sets, sets-eq, length-sets, take_at}
use mir.Syntax.{w16}
use mir.Val.{SFits}
use Rattle.sizes.specs.Sizes.{fifo_capacity}
use Rattle.num.proofs.Integers.{fit}
use Rattle.num.proofs.Lists.{each_set}
use Rattle.version.specs.declared.SguVersion.{SguVersion}
use Rattle.registers.specs.Queue.{queued}
use Rattle.registers.specs.PlainQueue.{FitEntries}
use Rattle.registers.proofs.Ring.{length-queued, queued-part}
use Rattle.voice.specs.Accepted.{accepts_stream}
use Rattle.slots.specs.Slots.{Slot, plain_of, channel_with, slot_loaded}
use Rattle.plain_chip.specs.Voices.{PlainVoice}
use Rattle.plain_chip.specs.Good.{Bytes, FitVoice}
use Rattle.slots.specs.Good.{SlotOk}
use Rattle.slots.proofs.Kept.{coherent-none}

-- ---- a list put over the start of another
put_first : {A : Type 0} (l xs : List A) → length xs ≤ length l → take (length xs) (sets l 0 xs) ≡ xs
put_first l xs h =
    ap (take (length xs)) (sets-eq xs l 0 (omega arith))
    ∙ take_at xs (drop (0 + length xs) l) (length xs) refl

put_whole : {A : Type 0} (l xs : List A) → length xs ≡ length l → sets l 0 xs ≡ xs
put_whole l xs h = sets-eq xs l 0 (omega arith) ∙ ap (λ (r : List _). xs ++ r) (drop_of_length-le l {i = 0 + length xs} (omega arith)) ∙ append-nil xs

put-fits : (xs l : List ℤ) (at : ℕ) → FitEntries xs → FitEntries l → FitEntries (sets l at xs)
put-fits [] l at f g = g
put-fits (x ∷ xs) l at f g = put-fits xs (set l at x) (suc at) (record { each = λ i. f.each (suc i) }) (record { each = each_set (SFits w16) (pos 0) x (f.each 0) l g.each at })

-- ---- the voice
module _ (version : SguVersion) (v : PlainVoice) (s : Slot) (f : FitVoice version v) (table : length s.wavetable ≡ 256) (room : length s.queue ≡ fifo_capacity) where
  line-loaded : queued (sets s.queue 0 v.queue.samples) 0 (length v.queue.samples) ≡ v.queue.samples
  line-loaded =
      queued-part (sets s.queue 0 v.queue.samples) 0 (length v.queue.samples) (omega (arith, f.full)) (let e = length-sets s.queue 0 v.queue.samples in omega (arith, f.full, e))
      ∙ put_first s.queue v.queue.samples (omega (arith, f.full))

  pub same-loaded : plain_of (slot_loaded v s) ≡ v
  unfolding slot_loaded
  same-loaded = λ i. record {
    registers = v.registers;
    pcm = v.pcm;
    oscillator = v.oscillator;
    queue = record { samples = line-loaded i; held = v.queue.held; hold = v.queue.hold; sub = v.queue.sub; latch = v.queue.latch };
    wavetable = put_whole s.wavetable v.wavetable (f.table ∙ sym table) i;
  }

pub ok-loaded : (version : SguVersion) (ram : List ℕ) (v : PlainVoice) (s : Slot) → FitVoice version v → length s.fragments ≡ 128 → length s.wavetable ≡ 256 → length s.queue ≡ fifo_capacity → FitEntries s.queue
    → SlotOk version ram (slot_loaded v s)
unfolding slot_loaded accepts_stream
ok-loaded version ram v s f long table room entries =
    let w : sets s.wavetable 0 v.wavetable ≡ v.wavetable = put_whole s.wavetable v.wavetable (f.table ∙ sym table) in
    record {
      accepted = record { registers = f.registers; pcm = f.pcm; oscillator = f.oscillator; fifo = record { ranges = record { full = f.full; first = omega arith; tick = f.tick; frames = f.frames }; quiet = λ e. let q = f.quiet e in record { held = q.held; hold = q.hold; sub = q.sub; latch = q.latch; count = ap length q.samples } }; stream = refl };
      coherent = coherent-none version ram (channel_with v) s.fragments refl long;
      fits = record { registers = f.fit_registers; pcm = f.fit_pcm; oscillator = f.fit_oscillator; fifo = record { sample = f.held; byte = f.latch } };
      table = ap length w ∙ f.table;
      bytes = subst Bytes (sym w) f.bytes;
      room = length-sets s.queue 0 v.queue.samples ∙ room;
      entries = put-fits v.queue.samples s.queue 0 f.samples entries;
    }

-- ---- the fields of a good voice
cons-fits : (x : ℤ) (l : List ℤ) → SFits w16 x → FitEntries l → FitEntries (x ∷ l)
cons-fits x l h f = record { each = go }
  where
    go : (i : ℕ) → SFits w16 (get_or (x ∷ l) i (pos 0))
    go zero = h
    go (suc i) = f.each i

queued-fits : (q : List ℤ) (h n : ℕ) → FitEntries q → FitEntries (queued q h n)
unfolding queued
queued-fits q h zero f = record { each = λ i. fit w16 _ (omega arith) (omega arith) }
queued-fits q h (suc n) f = cons-fits (get_or q (h % fifo_capacity) (pos 0)) (queued q (h + 1) n) (f.each (h % fifo_capacity)) (queued-fits q (h + 1) n f)

queued-none : (q : List ℤ) (h n : ℕ) → n ≡ 0 → queued q h n ≡ []
unfolding queued
queued-none q h n e = ap (queued q h) e

pub fit-plain : (version : SguVersion) (ram : List ℕ) (s : Slot) → SlotOk version ram s → FitVoice version (plain_of s)
fit-plain version ram s ok = record {
  registers = ok.accepted.registers;
  pcm = ok.accepted.pcm;
  oscillator = ok.accepted.oscillator;
  fit_registers = ok.fits.registers;
  fit_pcm = ok.fits.pcm;
  fit_oscillator = ok.fits.oscillator;
  full = let e = length-queued s.queue s.channel.fifo.head s.channel.fifo.count in omega (arith, e, ok.accepted.fifo.ranges.full);
  samples = queued-fits s.queue s.channel.fifo.head s.channel.fifo.count ok.entries;
  held = ok.fits.fifo.sample;
  frames = ok.accepted.fifo.ranges.frames;
  tick = ok.accepted.fifo.ranges.tick;
  latch = ok.fits.fifo.byte;
  quiet = λ e. let q = ok.accepted.fifo.quiet e in record { samples = queued-none s.queue s.channel.fifo.head s.channel.fifo.count q.count; held = q.held; hold = q.hold; sub = q.sub; latch = q.latch };
  table = ok.table;
  bytes = ok.bytes;
}
