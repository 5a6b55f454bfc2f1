-- What is read at an address, from the channel whose block it lies in; what reading makes of the core. Assumes nothing.
use mathlib.Core.Path.{◌≡◌, refl, sym, ap, ◌∙◌}
use mathlib.Core.Bool.{Bool, true, false, cond}
use Prim.Native.Nat.{ℕ, ◌<◌}
use native.Mathlib.Omega.{arith}
use lib.Dec.{eqb, ltb}
use lib.ListN.{get_or}
use lib.Seq.{set-get_or}
use Rattle.sizes.specs.Sizes.{num_channels, registers_end, wavetables_size}
use Rattle.version.specs.declared.SguVersion.{SguVersion}
use Rattle.voice.specs.Reads.{after_read}
use Rattle.voice.specs.declared.Channel.{Channel}
use Rattle.voices.specs.Addresses.{channel_of, offset_of, by_address}
use Rattle.voices.specs.Core.{no_channel, channel_at, set_channels, stored_channel}
use Rattle.voices.specs.Reads.{peek_register, seen_at, read_empties, after_read_channel, after_read_register}
use Rattle.voices.specs.declared.Core.{Core}
use Rattle.voices.proofs.Chosen.{control-in, read-in}

module _ (k : Core) (address : ℕ) where
  abbrev ch : ℕ
  ch = channel_of address

  abbrev c : Channel
  c = channel_at k (channel_of address)

  there : channel_of address < num_channels
  there = omega arith

  pub seen-peeked : (version : SguVersion) → seen_at version (channel_at k (channel_of address)) k.wavetables address ≡ peek_register version k address
  unfolding seen_at peek_register
  seen-peeked version = ap (λ (x : ℕ). by_address address (get_or k.wavetables address 0) x 0) (control-in k ch version (offset_of address) there)

  -- the voice's cache emptied
  abbrev pub emptied_at : Core
  emptied_at = stored_channel k (channel_of address) (after_read (channel_at k (channel_of address)) 10) true

  by-offset : (w : Bool) → cond w emptied_at k ≡ stored_channel k ch (cond w (after_read c 10) c) w
  unfolding stored_channel
  by-offset true = refl
  by-offset false = ap (set_channels k) (sym (set-get_or k.channels ch no_channel))

  in_block : cond (eqb (offset_of address) 10) emptied_at k ≡ after_read_channel k ch (offset_of address)
  unfolding after_read
  in_block = by-offset (eqb (offset_of address) 10) ∙ read-in k ch (offset_of address) there

  pub read-as : cond (read_empties address) emptied_at k ≡ after_read_register k address
  unfolding read_empties after_read_register
  read-as = by (ltb address wavetables_size) (ltb address registers_end)
    where
      by : (t u : Bool) → cond (cond t false (cond u (eqb (offset_of address) 10) false)) emptied_at k ≡ cond t k (cond u (after_read_channel k ch (offset_of address)) k)
      by true u = refl
      by false true = in_block
      by false false = refl
