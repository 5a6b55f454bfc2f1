-- An accepted core: the test channel by channel, and what keeps a core accepted. Assumes nothing.
use mathlib.Core.Path.{◌≡◌, refl, sym, ap, ◌∙◌, subst}
use mathlib.Core.Bool.{Bool, true, false}
use Prim.Native.Nat.{ℕ, zero, suc, ◌-◌, ◌≤◌, ◌<◌}
use native.Mathlib.Omega.{arith}
use native.Mathlib.Decide.{dec_lt}
use lib.Dec.{eqb, ltb}
use lib.ListN.{get_or-replicate}
use borrow.Author.Tests.{eqb-true, eqb-false}
use Rattle.sizes.specs.Sizes.{num_channels, registers_end, wavetables_size}
use Rattle.num.proofs.Choice.{cond-by, together}
use Rattle.version.specs.declared.SguVersion.{SguVersion}
use Rattle.stream.specs.Cache.{emptied}
use Rattle.voice.specs.Channel.{default_channel, set_stream}
use Rattle.voice.specs.Reads.{streams_from}
use Rattle.voice.specs.Accepted.{accepts_stream, accepts_channel, AcceptedChannel}
use Rattle.voice.specs.declared.Channel.{Channel}
use Rattle.voice.proofs.Keeps.{accepted-channel, channel-accepted, default-accepted, version-accepted, write_kept, pcm-write-kept, read_kept}
use Rattle.voices.specs.Addresses.{channel_of, offset_of, is_control}
use Rattle.voices.specs.Core.{fresh_core, no_channel, channel_at, reset_channel_at, set_core_version}
use Rattle.voices.specs.Writes.{write_channel_control, write_channel_pcm_reg, write_wavetable, write_block, write_register, after_ram_write}
use Rattle.voices.specs.Reads.{after_read_channel, after_read_register}
use Rattle.voices.specs.Accepted.{accepts_first, accepts_core, SizedCore, AcceptedCore}
use Rattle.voices.specs.Own.{Voice, Changed}
use Rattle.voices.specs.declared.Core.{Core}
use Rattle.voices.proofs.Chosen.{write-out, write-pcm-out, read_out, reset-out}
use Rattle.voices.proofs.Loops.{first-each}
use Rattle.voices.proofs.Voices.{control-changed, pcm-changed, read-changed, reset-changed, wavetable-changed, version-changed, ram-changed, fresh-sized}

-- ---- the test and what it says
module _ (k : Core) (version : SguVersion) (ram : ℕ) where
  pub accepted-core : SizedCore k → accepts_core k version ram ≡ true → AcceptedCore k version ram
  accepted-core z e = record { sized = z; each = λ j h. accepted-channel (channel_at k j) version ram (first-each k.channels version ram 8 j e h) }

  first-accepted : (n : ℕ) → ((j : ℕ) → j < n → AcceptedChannel (channel_at k j) version ram) → accepts_first n k.channels version ram ≡ true
  unfolding accepts_first
  first-accepted zero a = refl
  first-accepted (suc n) a =
      together (accepts_first n k.channels version ram) (accepts_channel (channel_at k n) version ram) (first-accepted n (λ j h. a j (omega arith))) (channel-accepted (channel_at k n) version ram (a n (omega arith)))

  pub core-accepted : AcceptedCore k version ram → accepts_core k version ram ≡ true
  core-accepted a = first-accepted 8 a.each

-- ---- a fresh core
pub fresh-accepted : (version : SguVersion) (ram : ℕ) → AcceptedCore fresh_core version ram
fresh-accepted version ram = record {
  sized = fresh-sized;
  each = λ j h. subst (λ (c : Channel). AcceptedChannel c version ram) (sym (get_or-replicate num_channels j default_channel no_channel h)) (default-accepted version ram);
}

-- ---- one voice changed
module _ (k : Core) (version : SguVersion) (ram : ℕ) (a : AcceptedCore k version ram) where
  abbrev ok : Core → Type 0
  ok r = AcceptedCore r version ram

  abbrev fine : Channel → Type 0
  fine c = AcceptedChannel c version ram

  -- its channel accepted, the core is
  pub one_kept : {r : Core} {ch : ℕ} {v : Voice} → Changed k r ch v → AcceptedChannel v.channel version ram → AcceptedCore r version ram
  one_kept {r} {ch} {v} m c = record { sized = m.sized; each = λ j h. at j h (eqb j ch) refl }
    where
      at : (j : ℕ) → j < num_channels → (t : Bool) → eqb j ch ≡ t → AcceptedChannel (channel_at r j) version ram
      at j h true e = subst fine (sym (ap (λ (x : Voice). x.channel) m.own) ∙ ap (channel_at r) (sym (eqb-true j ch e))) c
      at j h false e = subst fine (sym (ap (λ (x : Voice). x.channel) (m.others j (eqb-false j ch e)))) (a.each j h)

  -- a channel above 7 leaves it as it is
  either : (ch : ℕ) {r : Core} → (ch < num_channels → AcceptedCore r version ram) → (8 ≤ ch → k ≡ r) → AcceptedCore r version ram
  either ch f g = elim (dec_lt ch 8) [ yes h ↦ f h | no h ↦ subst ok (g (omega arith)) a ]

  pub control-kept : (ch offset value : ℕ) → AcceptedCore (write_channel_control version k ch offset value) version ram
  control-kept ch offset value =
      either ch (λ h. one_kept (control-changed k a.sized ch h version offset value) (write_kept (channel_at k ch) version ram (a.each ch h) offset value)) (write-out k ch version offset value)

  pub pcm-kept : (ch offset value : ℕ) → value < 256 → AcceptedCore (write_channel_pcm_reg k ch offset value) version ram
  pcm-kept ch offset value b =
      either ch (λ h. one_kept (pcm-changed k a.sized ch h offset value) (pcm-write-kept (channel_at k ch) version ram (a.each ch h) offset value b)) (write-pcm-out k ch offset value)

  pub read-channel-kept : (ch offset : ℕ) → AcceptedCore (after_read_channel k ch offset) version ram
  read-channel-kept ch offset =
      either ch (λ h. one_kept (read-changed k a.sized ch h offset) (read_kept (channel_at k ch) version ram (a.each ch h) offset)) (read_out k ch offset)

  pub reset-kept : (ch : ℕ) → AcceptedCore (reset_channel_at k ch) version ram
  reset-kept ch = either ch (λ h. one_kept (reset-changed k a.sized ch h) (default-accepted version ram)) (reset-out k ch)

  pub wavetable-kept : (at value : ℕ) → AcceptedCore (write_wavetable k at value) version ram
  unfolding write_wavetable
  wavetable-kept at value = record { sized = (wavetable-changed k a.sized at value).sized; each = a.each }

  pub block-kept : (ch offset value : ℕ) → value < 256 → AcceptedCore (write_block version k ch offset value) version ram
  unfolding write_block
  block-kept ch offset value b = cond-by ok (is_control offset) _ _ (λ e. control-kept ch offset value) (λ e. pcm-kept ch (offset - 16) value b)

  pub register-kept : (address value : ℕ) → value < 256 → AcceptedCore (write_register version k address value) version ram
  unfolding write_register
  register-kept address value b =
      cond-by ok (ltb address wavetables_size) _ _ (λ e. wavetable-kept address value)
      (λ e. cond-by ok (ltb address registers_end) _ _ (λ e. block-kept (channel_of address) (offset_of address) value b) (λ e. a))

  pub read-register-kept : (address : ℕ) → AcceptedCore (after_read_register k address) version ram
  unfolding after_read_register
  read-register-kept address =
      cond-by ok (ltb address wavetables_size) _ _ (λ e. a)
      (λ e. cond-by ok (ltb address registers_end) _ _ (λ e. read-channel-kept (channel_of address) (offset_of address)) (λ e. a))

  -- ---- all voices
  emptied-kept : (c : Channel) → AcceptedChannel c version ram → AcceptedChannel (set_stream c emptied) version ram
  unfolding accepts_stream
  emptied-kept c b = record { registers = b.registers; pcm = b.pcm; oscillator = b.oscillator; fifo = b.fifo; stream = refl }

  pub ram-kept : (address : ℕ) → AcceptedCore (after_ram_write k address) version ram
  ram-kept address =
      let m = ram-changed k a.sized address in
      record {
        sized = m.sized;
        each = λ j h. subst fine (sym (ap (λ (v : Voice). v.channel) (m.each j h))) (cond-by (λ (v : Voice). fine v.channel) (streams_from (channel_at k j) address) _ _ (λ e. emptied-kept (channel_at k j) (a.each j h)) (λ e. a.each j h));
      }

  pub version-kept : (next : SguVersion) (longer : ℕ) → AcceptedCore (set_core_version k next) next longer
  version-kept next longer =
      let m = version-changed k a.sized next in
      record {
        sized = m.sized;
        each = λ j h. subst (λ (c : Channel). AcceptedChannel c next longer) (sym (ap (λ (v : Voice). v.channel) (m.each j h))) (version-accepted (channel_at k j) version next ram longer (a.each j h));
      }
