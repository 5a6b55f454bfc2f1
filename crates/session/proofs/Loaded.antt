-- A voice line read into a voice: its own parts are changed and no others. Assumes nothing.
use mathlib.Core.Path.{◌≡◌, refl, sym, ap, ap₂, ◌∙◌}
use mathlib.Core.Bool.{false}
use mathlib.Core.List.{List, [], ◌∷◌}
use mathlib.Core.Logic.{◌⊎◌, inl, inr, ⊎_elim}
use Prim.Native.Nat.{ℕ, zero, suc, ◌+◌, ◌-◌, ◌*◌, ◌/◌, ◌%◌, ◌≤◌, ◌<◌}
use native.Mathlib.Omega.{arith}
use native.Mathlib.Decide.{dec_lt}
use lib.IntN.{ℤ}
use lib.ListN.{length, set, take, drop, length-take, length-drop}
use lib.Seq.{sets, length-sets, take-take, drop-drop}
use borrow.Rule.Slice.PartMut.{put_mid}
use Rattle.sizes.specs.Sizes.{fifo_capacity, num_channels, queue_buffer, wavetables_size}
use Rattle.cores.specs.Sizes.{chip_voices, chip_queues}
use Rattle.num.specs.Lists.{part}
use Rattle.voice.specs.declared.Channel.{Channel}
use Rattle.session_lines.specs.Lines.{ReadVoice, voice, malformed, queued, channel_after, table_after, queue_after}
use Rattle.voices.specs.Core.{channel_at, set_channel, set_wavetables, stored_channel}
use Rattle.voices.specs.Accepted.{SizedCore}
use Rattle.voices.specs.Own.{Voice, voice_at, queue_at, Changed}
use Rattle.voices.specs.Own as own
use Rattle.voices.specs.declared.Core.{Core}
use Rattle.voices.proofs.Parts.{put-part}
use Rattle.voices.proofs.Widths.{part-set-in, part-sets-out, width-own, width-other}
use Rattle.voices.proofs.Voices.{stored-changed}
use Rattle.s3w2.specs.Chips.{core_queues}
use Rattle.session.specs.Voices.{table_at, loaded_core, loaded_queues}

length-table : (r : ReadVoice) (w : List ℕ) → length (table_after r w) ≡ length w
length-table (voice v) w = length-sets w 0 v.wavetable
length-table (malformed field) w = refl
length-table queued w = refl

length-queue : (r : ReadVoice) (q : List ℤ) → length (queue_after r q) ≡ length q
length-queue (voice v) q = length-sets q 0 v.samples
length-queue (malformed field) q = refl
length-queue queued q = refl

long : {A : Type 0} (l : List A) (a n : ℕ) → a + n ≤ length l → length (part l a n) ≡ n
long l a n h = simp (length-take, length-drop) (omega arith)

-- a part that comes back changed
changed-part : {A : Type 0} (f : List A → List A) → ((x : List A) → length (f x) ≡ length x) → (l ys : List A) (a n : ℕ) → a + n ≤ length l → ys ≡ f (take (a + n - a) (drop a l))
    → put_mid a (a + n - a) l ys ≡ sets l a (f (part l a n))
changed-part f same l ys a n h e =
    let m : a + n - a ≡ n = omega arith in
    let z : ys ≡ f (part l a n) = e ∙ ap (λ (k : ℕ). f (part l a k)) m in
    put-part l ys a n h (ap length z ∙ same (part l a n) ∙ long l a n h) ∙ ap (sets l a) z

-- ---- the core of its voice
module _ (r : ReadVoice) (ch : ℕ) (h : ch < num_channels) where
  -- as the code stores it
  pub core-loaded : (k : Core) (c : Channel) (t : List ℕ) → length k.wavetables ≡ wavetables_size → c ≡ channel_after r (channel_at k ch)
      → t ≡ table_after r (take (ch * 256 + 256 - ch * 256) (drop (ch * 256) k.wavetables))
      → set_wavetables (set_channel k ch c) (put_mid (ch * 256) (ch * 256 + 256 - ch * 256) k.wavetables t) ≡ loaded_core k ch r
  unfolding loaded_core
  core-loaded k c t n e f =
      ap₂ (λ (x : Channel) (y : List ℕ). set_wavetables (set_channel k ch x) y) e (changed-part (table_after r) (length-table r) k.wavetables t (ch * 256) 256 (omega arith) f)

  -- what it makes of its core
  pub loaded-changed : (k : Core) → SizedCore k → Changed k (loaded_core k ch r) ch (own.voice (channel_after r (channel_at k ch)) (voice_at k ch).fragments (table_after r (table_at k ch)))
  unfolding loaded_core stored_channel
  loaded-changed k z =
      let m = stored-changed k z ch h (channel_after r (channel_at k ch)) false in
      let n : length k.wavetables ≡ wavetables_size = z.wavetables in
      let w : length (table_after r (table_at k ch)) ≡ 256 = length-table r (table_at k ch) ∙ long k.wavetables (ch * 256) 256 (omega (arith, h, n)) in
      record {
        own = ap₂ (λ (v : Voice) (t : List ℕ). own.voice v.channel v.fragments t) m.own (width-own 256 k.wavetables (table_after r (table_at k ch)) ch w (omega (arith, h, n)));
        others = λ j d. ap₂ (λ (v : Voice) (t : List ℕ). own.voice v.channel v.fragments t) (m.others j d) (width-other 256 k.wavetables (table_after r (table_at k ch)) ch j w d);
        sized = record { channels = m.sized.channels; fragments = m.sized.fragments; wavetables = length-sets k.wavetables (ch * 256) (table_after r (table_at k ch)) ∙ n };
      }

-- ---- a part of a part
take_within : {A : Type 0} (i n m : ℕ) (l : List A) → i + m ≤ n → take m (drop i (take n l)) ≡ take m (drop i l)
take_within zero n m l h = take-take m n l (omega arith)
take_within (suc i) zero m l h = absurd (omega arith)
take_within (suc i) (suc n) m [] h = refl
take_within (suc i) (suc n) m (x ∷ l) h = take_within i n m l (omega arith)

part-part : {A : Type 0} (l : List A) (a n i m : ℕ) → i + m ≤ n → part (part l a n) i m ≡ part l (a + i) m
part-part l a n i m h = take_within i n m (drop a l) h ∙ ap (take m) (drop-drop i a l)

part-sets-within : {A : Type 0} (xs l : List A) (a n i : ℕ) → i + length xs ≤ n → part (sets l (a + i) xs) a n ≡ sets (part l a n) i xs
part-sets-within [] l a n i h = refl
part-sets-within {A} (x ∷ xs) l a n i h =
    let e : suc (a + i) ≡ a + suc i = omega arith in
    ap (λ (m : ℕ). part (sets (set l (a + i) x) m xs) a n) e
    ∙ part-sets-within xs (set l (a + i) x) a n (suc i) (omega arith)
    ∙ ap (λ (p : List A). sets p (suc i) xs) (part-set-in l a n i x (omega arith))

-- a voice's entries among those of its core
pub queue-here : (queues : List ℤ) (number : ℕ) → queue_at queues number ≡ queue_at (core_queues (number / num_channels) queues) (number % num_channels)
queue-here queues number =
    let k = number / num_channels in
    let ch = number % num_channels in
    let e : number * fifo_capacity ≡ k * queue_buffer + ch * fifo_capacity = omega arith in
    ap (λ (a : ℕ). part queues a fifo_capacity) e ∙ sym (part-part queues (k * queue_buffer) queue_buffer (ch * fifo_capacity) fifo_capacity (omega arith))

-- ---- the queue buffer
module _ (r : ReadVoice) (number : ℕ) (h : number < chip_voices) where
  -- as the code stores it
  pub queues-loaded : (queues q : List ℤ) → length queues ≡ chip_queues → q ≡ queue_after r (take (number * fifo_capacity + fifo_capacity - number * fifo_capacity) (drop (number * fifo_capacity) queues))
      → put_mid (number * fifo_capacity) (number * fifo_capacity + fifo_capacity - number * fifo_capacity) queues q ≡ loaded_queues queues number r
  unfolding loaded_queues
  queues-loaded queues q n e = changed-part (queue_after r) (length-queue r) queues q (number * fifo_capacity) fifo_capacity (omega arith) e

  pub length-loaded : (queues : List ℤ) → length (loaded_queues queues number r) ≡ length queues
  unfolding loaded_queues
  length-loaded queues = length-sets queues (number * fifo_capacity) (queue_after r (queue_at queues number))

  -- ---- core by core
  abbrev k : ℕ
  k = number / num_channels

  abbrev ch : ℕ
  ch = number % num_channels

  module _ (queues : List ℤ) (n : length queues ≡ chip_queues) where
    wide : length (queue_after r (queue_at queues number)) ≡ fifo_capacity
    wide = length-queue r (queue_at queues number) ∙ long queues (number * fifo_capacity) fifo_capacity (omega arith)

    room : length (core_queues k queues) ≡ queue_buffer
    room = long queues (k * queue_buffer) queue_buffer (omega arith)

    apart : (j : ℕ) → (j ≡ k → ⊥) → (number * fifo_capacity + fifo_capacity ≤ j * queue_buffer) ⊎ (j * queue_buffer + queue_buffer ≤ number * fifo_capacity)
    apart j d = elim (dec_lt k j) [ yes a ↦ inl (omega arith) | no a ↦ elim (dec_lt j k) [ yes b ↦ inr (omega arith) | no b ↦ absurd (d (omega arith)) ] ]

    -- the other core's entries stay
    pub queues-apart : (j : ℕ) → (j ≡ k → ⊥) → core_queues j (loaded_queues queues number r) ≡ core_queues j queues
    unfolding loaded_queues
    queues-apart j d = part-sets-out (queue_after r (queue_at queues number)) queues (number * fifo_capacity) (j * queue_buffer) queue_buffer (⊎_elim (λ e. inl (let w = wide in omega arith)) (λ e. inr (omega arith)) (apart j d))

    -- those of its own core, but for the voice's
    queues-own : core_queues k (loaded_queues queues number r) ≡ sets (core_queues k queues) (ch * fifo_capacity) (queue_after r (queue_at queues number))
    unfolding loaded_queues
    queues-own =
        let e : number * fifo_capacity ≡ k * queue_buffer + ch * fifo_capacity = omega arith in
        let w = wide in
        ap (λ (m : ℕ). part (sets queues m (queue_after r (queue_at queues number))) (k * queue_buffer) queue_buffer) e
        ∙ part-sets-within (queue_after r (queue_at queues number)) queues (k * queue_buffer) queue_buffer (ch * fifo_capacity) (omega (arith, w))

    pub queue-own : queue_at (core_queues k (loaded_queues queues number r)) ch ≡ queue_after r (queue_at (core_queues k queues) ch)
    queue-own =
        let l = room in
        ap (λ (q : List ℤ). queue_at q ch) queues-own ∙ width-own fifo_capacity (core_queues k queues) (queue_after r (queue_at queues number)) ch wide (omega (arith, l)) ∙ ap (queue_after r) (queue-here queues number)

    pub queue-others : (j : ℕ) → (j ≡ ch → ⊥) → queue_at (core_queues k (loaded_queues queues number r)) j ≡ queue_at (core_queues k queues) j
    queue-others j d = ap (λ (q : List ℤ). queue_at q j) queues-own ∙ width-other fifo_capacity (core_queues k queues) (queue_after r (queue_at queues number)) ch j wide d
