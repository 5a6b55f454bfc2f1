-- Coherence of a voice's cache over changes of its channel: where the stream's part stays, and where the cache is emptied. Assumes nothing.
use mathlib.Core.Path.{◌≡◌, refl, sym, ap, ◌∙◌, subst}
use mathlib.Core.Bool.{Bool, true, false, cond}
use mathlib.Core.List.{List}
use Prim.Native.Nat.{ℕ, ◌%◌}
use lib.Dec.{eqb, leb}
use lib.IntN.{ℤ, pos}
use lib.ListN.{length, replicate, length-replicate}
use borrow.Author.Tests.{leb-false}
use Rattle.num.proofs.Choice.{cond-by, never}
use Rattle.version.specs.Versions.{has3ws8pna, has34si22, has_sample_control}
use Rattle.version.specs.declared.SguVersion.{SguVersion}
use Rattle.registers.specs.declared.PcmRegisters.{PcmRegisters}
use Rattle.registers.specs.Control.{write_registers}
use Rattle.registers.specs.Pcm.{set_sample_control}
use Rattle.registers.specs.Queue.{set_latch, pushed}
use Rattle.registers.specs.declared.Registers.{Registers}
use Rattle.registers.specs.declared.Fifo.{Fifo}
use Rattle.registers.proofs.Offsets.{write-none}
use Rattle.stream.specs.Cache.{stock, emptied}
use Rattle.stream.specs.Coherent.{CoherentIn}
use Rattle.stream.specs.declared.StreamCache.{StreamCache}
use Rattle.stream.proofs.Writes.{coherent-emptied}
use Rattle.voice.specs.Channel.{set_fifo, set_pcm, set_registers}
use Rattle.voice.specs.Writes.{waveform_written, restarted, latch_written, sample_written, sample_control_written, write_control, empties_cache, write_pcm_reg}
use Rattle.voice.specs.Reads.{after_read}
use Rattle.voice.specs.declared.Channel.{Channel}

-- the cache of a channel with decoded samples, against the RAM
abbrev pub CoherentAt : SguVersion → List ℕ → Channel → List ℤ → Type 0
CoherentAt version ram c samples =
    CoherentIn ram (has34si22 version) c.pcm.start_addr c.pcm.end_addr c.pcm.loop_addr (stock c.stream samples)

-- what the cache is about stays
pub record Kept (c d : Channel) : Type 0 where
  pub start : c.pcm.start_addr ≡ d.pcm.start_addr
  pub end : c.pcm.end_addr ≡ d.pcm.end_addr
  pub again : c.pcm.loop_addr ≡ d.pcm.loop_addr
  pub stream : c.stream ≡ d.stream

abbrev pub Emptied : Channel → Type 0
Emptied d = d.stream ≡ emptied

module _ (version : SguVersion) (ram : List ℕ) where
  pub coherent-kept : (c d : Channel) (samples : List ℤ) → Kept c d → CoherentAt version ram c samples → CoherentAt version ram d samples
  coherent-kept c d samples k ok =
      subst (λ (s : StreamCache). CoherentIn ram (has34si22 version) d.pcm.start_addr d.pcm.end_addr d.pcm.loop_addr (stock s samples)) k.stream
      (subst (λ (n : ℕ). CoherentIn ram (has34si22 version) d.pcm.start_addr d.pcm.end_addr n (stock c.stream samples)) k.again
      (subst (λ (n : ℕ). CoherentIn ram (has34si22 version) d.pcm.start_addr n c.pcm.loop_addr (stock c.stream samples)) k.end
      (subst (λ (n : ℕ). CoherentIn ram (has34si22 version) n c.pcm.end_addr c.pcm.loop_addr (stock c.stream samples)) k.start ok)))

  pub coherent-none : (d : Channel) (samples : List ℤ) → Emptied d → length samples ≡ 128 → CoherentAt version ram d samples
  coherent-none d samples e n =
      subst (λ (s : StreamCache). CoherentIn ram (has34si22 version) d.pcm.start_addr d.pcm.end_addr d.pcm.loop_addr (stock s samples)) (sym e)
      (coherent-emptied ram (has34si22 version) d.pcm.start_addr d.pcm.end_addr d.pcm.loop_addr samples n)

  -- a change that either empties the cache, with its samples, or keeps all that it is about
  pub coherent-stored : (b : Bool) (c d : Channel) (samples : List ℤ) → (b ≡ true → Emptied d) → (b ≡ false → Kept c d) → CoherentAt version ram c samples
      → CoherentAt version ram d (cond b (replicate 128 (pos 0)) samples)
  coherent-stored true c d samples e k ok = coherent-none d (replicate 128 (pos 0)) (e refl) (length-replicate 128 (pos 0))
  coherent-stored false c d samples e k ok = coherent-kept c d samples (k refl) ok

kept-itself : (c : Channel) → Kept c c
kept-itself c = record { start = refl; end = refl; again = refl; stream = refl }

kept-fifo : (c : Channel) (f : Fifo) → Kept c (set_fifo c f)
kept-fifo c f = record { start = refl; end = refl; again = refl; stream = refl }

kept-registers : (c : Channel) (r : Registers) → Kept c (set_registers c r)
kept-registers c r = record { start = refl; end = refl; again = refl; stream = refl }

-- ---- a control register is written
module _ (version : SguVersion) (c : Channel) (value : ℕ) where
  latch-keeps : Kept c (latch_written version c value)
  unfolding latch_written
  latch-keeps = cond-by (Kept c) (has3ws8pna version) _ _ (λ e. kept-fifo c (set_latch c.fifo value)) (λ e. kept-itself c)

  sample-keeps : Kept c (sample_written version c)
  unfolding sample_written
  sample-keeps = cond-by (Kept c) (has3ws8pna version) _ _ (λ e. kept-fifo c (pushed c.fifo)) (λ e. kept-itself c)

  control-keeps : Kept c (sample_control_written version c value)
  unfolding sample_control_written
  control-keeps =
      cond-by (Kept c) (has_sample_control version) (set_pcm c (set_sample_control c.pcm (value % 8))) c (λ e. record { start = refl; end = refl; again = refl; stream = refl }) (λ e. kept-itself c)

module _ (version : SguVersion) (c : Channel) (offset value : ℕ) where
  pub write-empties : empties_cache offset ≡ true → Emptied (write_control version c offset value)
  unfolding write_control waveform_written restarted
  write-empties e =
      cond-by Emptied (eqb offset 2) _ _ (λ a. refl)
      (λ a. cond-by Emptied (eqb offset 10) _ _ (λ b. refl) (λ b. never (sym e ∙ ap (λ (t : Bool). cond t true (eqb offset 10)) a ∙ b)))

  pub write_keeps : empties_cache offset ≡ false → Kept c (write_control version c offset value)
  unfolding write_control
  write_keeps e =
      cond-by (Kept c) (eqb offset 2) _ _ (λ a. never (sym (ap (λ (t : Bool). cond t true (eqb offset 10)) a) ∙ e))
      (λ a. cond-by (Kept c) (eqb offset 10) _ _ (λ b. never (sym b ∙ sym (ap (λ (t : Bool). cond t true (eqb offset 10)) a) ∙ e))
      (λ b. cond-by (Kept c) (eqb offset 12) _ _ (λ d. latch-keeps version c value)
      (λ d. cond-by (Kept c) (eqb offset 13) _ _ (λ f. sample-keeps version c value)
      (λ f. cond-by (Kept c) (eqb offset 26) _ _ (λ g. control-keeps version c value)
      (λ g. kept-registers c (write_registers c.registers offset value))))))

-- ---- a PCM register is written, an offset is read
module _ (c : Channel) (offset : ℕ) where
  pub pcm-empties : (value : ℕ) → leb offset 9 ≡ true → Emptied (write_pcm_reg c offset value)
  unfolding write_pcm_reg
  pcm-empties value e = cond-by Emptied (leb offset 9) _ _ (λ a. refl) (λ a. never (sym e ∙ a))

  pub pcm-keeps : (value : ℕ) → leb offset 9 ≡ false → Kept c (write_pcm_reg c offset value)
  unfolding write_pcm_reg
  pcm-keeps value e =
      cond-by (Kept c) (leb offset 9) _ _ (λ a. never (sym a ∙ e))
      (λ a. let q = write-none c.pcm offset value (leb-false offset 9 e) in
      record { start = ap (λ (p : PcmRegisters). p.start_addr) q; end = ap (λ (p : PcmRegisters). p.end_addr) q; again = ap (λ (p : PcmRegisters). p.loop_addr) q; stream = refl })

  pub read-empties : eqb offset 10 ≡ true → Emptied (after_read c offset)
  unfolding after_read
  read-empties e = cond-by Emptied (eqb offset 10) _ _ (λ a. refl) (λ a. never (sym e ∙ a))

  pub read_keeps : eqb offset 10 ≡ false → Kept c (after_read c offset)
  unfolding after_read
  read_keeps e = cond-by (Kept c) (eqb offset 10) _ _ (λ a. never (sym a ∙ e)) (λ a. kept-itself c)
