-- A byte of the RAM is written: a good voice stays good over the new RAM. Assumes nothing.
use mathlib.Core.Path.{◌≡◌, refl, sym, ap, ◌∙◌, subst}
use mathlib.Core.Bool.{Bool, true, false, cond, ◌&&◌}
use mathlib.Core.Logic.{◌⊎◌, inl, inr}
use mathlib.Core.List.{List}
use Prim.Native.Nat.{ℕ, ◌≤◌, ◌<◌}
use lib.Dec.{leb, ltb}
use lib.IntN.{ℤ, pos}
use lib.ListN.{length, set, replicate, length-replicate, length-set}
use borrow.Author.Tests.{leb-false, ltb-false}
use Rattle.num.proofs.Choice.{cond-by, never, both}
use Rattle.version.specs.Versions.{has34si22}
use Rattle.version.specs.declared.SguVersion.{SguVersion}
use Rattle.registers.specs.Waveforms.{is_sqv4}
use Rattle.stream.specs.Accepted.{accepts_cache}
use Rattle.stream.specs.Cache.{stock, emptied}
use Rattle.stream.proofs.Writes.{coherent-out}
use Rattle.voice.specs.Channel.{set_stream}
use Rattle.voice.specs.Reads.{streams_from}
use Rattle.voice.specs.Accepted.{accepts_stream, AcceptedChannel}
use Rattle.voice.specs.declared.Channel.{Channel}
use Rattle.slots.specs.Slots.{Slot, slot_poked}
use Rattle.slots.specs.Good.{SlotOk}
use Rattle.slots.proofs.Kept.{CoherentAt, coherent-none}

-- a valid cache is a stream's
valid-stream : (c : Channel) (n : ℕ) → accepts_stream c n ≡ true → c.stream.valid ≡ true → is_sqv4 c.registers.waveform_type ≡ true
unfolding accepts_stream
valid-stream c n a v =
    (both (is_sqv4 c.registers.waveform_type) (accepts_cache c.stream c.pcm.start_addr c.pcm.end_addr n)
    (sym (ap (λ (b : Bool). cond b (is_sqv4 c.registers.waveform_type && accepts_cache c.stream c.pcm.start_addr c.pcm.end_addr n) true) v) ∙ a)).0

-- an address that is not one of a part's
outside : (start end a : ℕ) → (leb start a && ltb a end) ≡ false → (a < start) ⊎ (end ≤ a)
outside start end a e = go (leb start a) refl
  where
    go : (b : Bool) → leb start a ≡ b → (a < start) ⊎ (end ≤ a)
    go true f = inr (ltb-false a end (sym (ap (λ (b : Bool). b && ltb a end) f) ∙ e))
    go false f = inl (leb-false start a f)

module _ (version : SguVersion) (ram : List ℕ) (address value : ℕ) where
  abbrev poked : List ℕ
  poked = set ram address value

  pub accepted-poked : (c : Channel) → AcceptedChannel c version (length ram) → AcceptedChannel c version (length poked)
  accepted-poked c a = subst (AcceptedChannel c version) (sym (length-set ram address value)) a

  -- a voice whose stream has not that byte
  coherent-poked : (c : Channel) (samples : List ℤ) → accepts_stream c (length ram) ≡ true → streams_from c address ≡ false → CoherentAt version ram c samples → CoherentAt version poked c samples
  unfolding streams_from
  coherent-poked c samples a e ok = go (is_sqv4 c.registers.waveform_type) refl
    where
      go : (b : Bool) → is_sqv4 c.registers.waveform_type ≡ b → CoherentAt version poked c samples
      go true w =
          coherent-out ram address value c.pcm.start_addr c.pcm.end_addr
          (outside c.pcm.start_addr c.pcm.end_addr address (sym (ap (λ (b : Bool). cond b (leb c.pcm.start_addr address && ltb address c.pcm.end_addr) false) w) ∙ e))
          (has34si22 version) c.pcm.loop_addr (stock c.stream samples) ok
      go false w = record { room = ok.room; valid = λ v. never (sym (valid-stream c (length ram) a v) ∙ w) }

  pub ok-poked : (s : Slot) → SlotOk version ram s → SlotOk version poked (slot_poked address s)
  unfolding slot_poked accepts_stream
  ok-poked s ok =
      cond-by (SlotOk version poked) (streams_from s.channel address) _ s
      (λ e. record {
        accepted = record { registers = ok.accepted.registers; pcm = ok.accepted.pcm; oscillator = ok.accepted.oscillator; fifo = ok.accepted.fifo; stream = refl };
        coherent = coherent-none version poked (set_stream s.channel emptied) (replicate 128 (pos 0)) refl (length-replicate 128 (pos 0));
        fits = record { registers = ok.fits.registers; pcm = ok.fits.pcm; oscillator = ok.fits.oscillator; fifo = ok.fits.fifo };
        table = ok.table;
        bytes = ok.bytes;
        room = ok.room;
        entries = ok.entries;
      })
      (λ e. record {
        accepted = accepted-poked s.channel ok.accepted;
        coherent = coherent-poked s.channel s.fragments ok.accepted.stream e ok.coherent;
        fits = ok.fits;
        table = ok.table;
        bytes = ok.bytes;
        room = ok.room;
        entries = ok.entries;
      })
