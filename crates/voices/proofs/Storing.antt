-- A channel stored among the eight, with its parts of the tables. Assumes nothing.
use mathlib.Core.Path.{◌≡◌, refl, ap, ◌∙◌}
use mathlib.Core.Bool.{Bool, true, false}
use mathlib.Core.List.{List}
use Prim.Native.Nat.{ℕ, ◌+◌, ◌-◌, ◌*◌, ◌≤◌, ◌<◌}
use native.Mathlib.Omega.{arith}
use lib.Dec.{eqb, ltb}
use lib.IntN.{ℤ, pos}
use lib.ListN.{length, take, drop, replicate, length-take, length-drop, length-set, length-replicate}
use lib.Seq.{sets}
use borrow.Rule.Slice.PartMut.{put_mid}
use Rattle.sizes.specs.Sizes.{fifo_capacity, num_channels, queue_buffer}
use Rattle.num.specs.Lists.{part}
use Rattle.num.proofs.Choice.{cond-by}
use Rattle.version.specs.Versions.{has3ws8pna}
use Rattle.version.specs.declared.SguVersion.{SguVersion}
use Rattle.registers.specs.Queue.{place, pushed_entries}
use Rattle.voice.specs.Channel.{default_channel}
use Rattle.voice.specs.Kinds.{sample_of}
use Rattle.voice.specs.Writes.{sample_entries, write_control_entries}
use Rattle.voice.specs.declared.Channel.{Channel}
use Rattle.voice.proofs.Tests.{first-arm, second-arm}
use Rattle.voices.specs.Core.{channel_at, set_channel, set_fragments, set_wavetables, no_fragments, no_wavetable, stored_channel}
use Rattle.voices.specs.Writes.{write_channel_control_queues}
use Rattle.voices.specs.declared.Core.{Core}
use Rattle.voices.proofs.Parts.{put-part}
use Rattle.voices.proofs.Chosen.{queues-in}

-- zeros come back in the place of a voice's fragments
pub cleared : (l ys : List ℤ) (ch : ℕ) → ch < num_channels → length l ≡ 1024 → ys ≡ replicate (length (take (ch * 128 + 128 - ch * 128) (drop (ch * 128) l))) (pos 0)
    → put_mid (ch * 128) (ch * 128 + 128 - ch * 128) l ys ≡ no_fragments ch l
unfolding no_fragments
cleared l ys ch h n e =
    let r : ch * 128 + 128 ≤ length l = omega arith in
    let m : length (take (ch * 128 + 128 - ch * 128) (drop (ch * 128) l)) ≡ 128 = simp (length-take, length-drop) (omega arith) in
    let z = e ∙ ap (λ (k : ℕ). replicate k (pos 0)) m in
    put-part l ys (ch * 128) 128 r (ap length z ∙ length-replicate 128 (pos 0)) ∙ ap (sets l (ch * 128)) z

module _ (k : Core) (ch : ℕ) (c : Channel) (t : Bool) where
  pub stored-emptied : (l : List ℤ) → t ≡ true → l ≡ no_fragments ch k.fragments → set_fragments (set_channel k ch c) l ≡ stored_channel k ch c t
  unfolding stored_channel
  stored-emptied l h e = ap (set_fragments (set_channel k ch c)) (e ∙ first-arm t (no_fragments ch k.fragments) k.fragments h)

  pub stored-kept : t ≡ false → set_channel k ch c ≡ stored_channel k ch c t
  unfolding stored_channel
  stored-kept h = ap (set_fragments (set_channel k ch c)) (second-arm t (no_fragments ch k.fragments) k.fragments h)

-- ---- a voice reset
pub voice-reset : (k : Core) (ch : ℕ) (c : Channel) (r x : Core) → c ≡ default_channel → r ≡ stored_channel k ch c true → x ≡ set_wavetables r (no_wavetable ch r.wavetables)
    → x ≡ set_wavetables (stored_channel k ch default_channel true) (no_wavetable ch k.wavetables)
unfolding stored_channel
voice-reset k ch c r x d e h =
    h ∙ ap (λ (y : Core). set_wavetables y (no_wavetable ch y.wavetables)) e
    ∙ ap (λ (y : Channel). set_wavetables (stored_channel k ch y true) (no_wavetable ch k.wavetables)) d

-- ---- a voice's own entries of the queue buffer

module _ (version : SguVersion) (c : Channel) (value : ℕ) where
  pub entries-length : (q : List ℤ) (offset : ℕ) → length (write_control_entries version c q offset value) ≡ length q
  unfolding write_control_entries sample_entries pushed_entries
  entries-length q offset =
      cond-by same (eqb offset 13) _ _
      (λ e. cond-by same (has3ws8pna version) _ _
      (λ e. cond-by same (ltb c.fifo.count fifo_capacity) _ _ (λ e. length-set q (place c.fifo) (sample_of c.fifo.latch value)) (λ e. refl))
      (λ e. refl))
      (λ e. refl)
    where
      same : List ℤ → Type 0
      same l = length l ≡ length q

module _ (version : SguVersion) (k : Core) (q ys : List ℤ) (ch offset value : ℕ) where
  pub voice-queues : ch < num_channels → length q ≡ queue_buffer → ys ≡ write_control_entries version (channel_at k ch) (take (ch * fifo_capacity + fifo_capacity - ch * fifo_capacity) (drop (ch * fifo_capacity) q)) offset value
      → put_mid (ch * fifo_capacity) (ch * fifo_capacity + fifo_capacity - ch * fifo_capacity) q ys ≡ write_channel_control_queues version k q ch offset value
  voice-queues h n e =
      let r : ch * fifo_capacity + fifo_capacity ≤ length q = omega arith in
      let w : ch * fifo_capacity + fifo_capacity - ch * fifo_capacity ≡ fifo_capacity = omega arith in
      let z : ys ≡ write_control_entries version (channel_at k ch) (part q (ch * fifo_capacity) fifo_capacity) offset value = e ∙ ap (λ (m : ℕ). write_control_entries version (channel_at k ch) (take m (drop (ch * fifo_capacity) q)) offset value) w in
      let m : length (part q (ch * fifo_capacity) fifo_capacity) ≡ fifo_capacity = simp (length-take, length-drop) (omega arith) in
      put-part q ys (ch * fifo_capacity) fifo_capacity r (ap length z ∙ entries-length version (channel_at k ch) value (part q (ch * fifo_capacity) fifo_capacity) offset ∙ m)
      ∙ ap (sets q (ch * fifo_capacity)) z ∙ queues-in k ch version offset value q h
