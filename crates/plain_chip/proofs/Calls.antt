-- Each call on a chip over one model of voices, seen over another: the same chip after it, the same answers; a good chip stays good.
-- Assumes nothing.
use mathlib.Core.Path.{◌≡◌, refl, ap, ap₂, ◌∙◌}
use mathlib.Core.Bool.{Bool, true, false, cond}
use mathlib.Core.List.{List, map}
use Prim.Native.Nat.{ℕ, ◌+◌, ◌-◌, ◌/◌, ◌%◌, ◌<◌}
use native.Mathlib.Omega.{arith}
use lib.Dec.{ltb}
use lib.ListN.{length, get_or, set, replicate, length-map, length-set}
use Rattle.sizes.specs.Sizes.{num_channels, registers_end, wavetables_size}
use Rattle.num.proofs.Choice.{cond-by}
use Rattle.num.proofs.Lists.{each_set}
use Rattle.version.specs.Versions.{has3ws8pna, has_sample_control, interpolates, wavetable_mask_of}
use Rattle.version.specs.declared.SguVersion.{SguVersion}
use Rattle.registers.specs.Pcm.{read_pcm}
use Rattle.plain_chip.specs.Voices.{PlainVoice, plain_read}
use Rattle.plain_chip.specs.Models.{Model}
use Rattle.plain_chip.specs.Frames.{ModelTurns}
use Rattle.plain_chip.specs.Chips.{ModelChip, with_voices, channel_of, offset_of, is_control, fields_at, changed, load_voice, reset, set_version, reset_channel, write_channel_control, write_channel_pcm_reg, write_channel_wavetable, after_read_channel, read_channel_control, read_channel_pcm_reg, read_channel_wavetable, wavetable_length, interpolates_at, write_register, peek_register, after_read_register, write_pcm_ram, generated, after_generated, clocked, after_clocked}
use Rattle.plain_chip.specs.Good.{FitVoice, ChipOk}
use Rattle.plain_chip.proofs.Lists.{every-adjust, every_map, map-adjust, map-all, bytes-replicate}
use Rattle.plain_chip.proofs.Sims.{Sim}
use Rattle.plain_chip.proofs.Frames.{played_seen, voice-at, same-turned, keeps-turned, same-frames, keeps-frames, length-turned, length-frames}

abbrev pub chip_seen : {A B : Type 0} → (A → B) → ModelChip A → ModelChip B
chip_seen g c = record { version = c.version; ram = c.ram; voices = map g c.voices }

-- a choice between two, seen
picked : {A B : Type 0} (f : A → B) (t : Bool) (x y : A) {u v : B} → f x ≡ u → f y ≡ v → f (cond t x y) ≡ cond t u v
picked f true x y p q = p
picked f false x y p q = q

module _ {A B : Type 0} {g : A → B} {P : SguVersion → List ℕ → A → Type 0} {a : Model A} {b : Model B} (sim : Sim g P a b) where
  abbrev Seen : ModelChip A → ModelChip B
  Seen = chip_seen g

  -- ---- one voice changed
  same-changed : (c : ModelChip A) (ch : ℕ) (f : A → A) (f' : B → B) → ((x : A) → P c.version c.ram x → g (f x) ≡ f' (g x)) → ChipOk P c → Seen (changed a c ch f) ≡ changed b (Seen c) ch f'
  same-changed c ch f f' h ok =
      ap (λ (l : List B). with_voices (Seen c) l) (map-adjust g (P c.version c.ram) a.absent b.absent f f' h c.voices ch ok.voices)

  ok-changed : (c : ModelChip A) (ch : ℕ) (f : A → A) → ((x : A) → P c.version c.ram x → P c.version c.ram (f x)) → ChipOk P c → ChipOk P (changed a c ch f)
  ok-changed c ch f h ok = record {
    voices = every-adjust (P c.version c.ram) a.absent f h c.voices ch ok.voices;
    eight = length-set c.voices ch _ ∙ ok.eight;
    bytes = ok.bytes;
  }

  -- ---- the whole chip
  module _ (c : ModelChip A) (ok : ChipOk P c) where
    pub same-reset : Seen (reset a c) ≡ reset b (Seen c)
    unfolding reset
    same-reset =
        ap (λ (l : List B). record { version = c.version; ram = replicate (length c.ram) 0; voices = l })
        (map-all g (P c.version c.ram) a.reset b.reset (λ x p. sim.reset x) c.voices ok.voices)

    pub ok-reset : ChipOk P (reset a c)
    unfolding reset
    ok-reset = record {
      voices = every_map (P c.version c.ram) _ a.reset (λ x p. sim.reset-ok c.version c.ram (replicate (length c.ram) 0) x p) c.voices ok.voices;
      eight = length-map c.voices a.reset ∙ ok.eight;
      bytes = bytes-replicate (length c.ram) 0 (omega arith);
    }

    pub same-set-version : (version : SguVersion) → Seen (set_version a version c) ≡ set_version b version (Seen c)
    unfolding set_version
    same-set-version version =
        ap (λ (l : List B). record { version = version; ram = c.ram; voices = l })
        (map-all g (P c.version c.ram) (a.set_version version) (b.set_version version) (λ x p. sim.set_version version x) c.voices ok.voices)

    pub ok-set-version : (version : SguVersion) → ChipOk P (set_version a version c)
    unfolding set_version
    ok-set-version version = record {
      voices = every_map (P c.version c.ram) _ (a.set_version version) (λ x p. sim.set_version-ok c.version version c.ram x p) c.voices ok.voices;
      eight = length-map c.voices (a.set_version version) ∙ ok.eight;
      bytes = ok.bytes;
    }

    -- ---- one voice
    module _ (ch : ℕ) where
      pub same-reset-channel : Seen (reset_channel a ch c) ≡ reset_channel b ch (Seen c)
      unfolding reset_channel
      same-reset-channel = same-changed c ch a.reset b.reset (λ x p. sim.reset x) ok

      pub ok-reset-channel : ChipOk P (reset_channel a ch c)
      unfolding reset_channel
      ok-reset-channel = ok-changed c ch a.reset (λ x p. sim.reset-ok c.version c.ram c.ram x p) ok

      pub same_load : (v : PlainVoice) → FitVoice c.version v → Seen (load_voice a ch v c) ≡ load_voice b ch v (Seen c)
      same_load v f = same-changed c ch (a.load v) (b.load v) (λ x p. sim.load c.version c.ram v x f p) ok

      pub ok_load : (v : PlainVoice) → FitVoice c.version v → ChipOk P (load_voice a ch v c)
      ok_load v f = ok-changed c ch (a.load v) (λ x p. sim.load_ok c.version c.ram v x f p) ok

      pub same-write-control : (offset value : ℕ) → Seen (write_channel_control a ch offset value c) ≡ write_channel_control b ch offset value (Seen c)
      unfolding write_channel_control
      same-write-control offset value =
          same-changed c ch (a.write_control c.version offset value) (b.write_control c.version offset value) (λ x p. sim.write_control c.version c.ram offset value x p) ok

      pub ok-write-control : (offset value : ℕ) → value < 256 → ChipOk P (write_channel_control a ch offset value c)
      unfolding write_channel_control
      ok-write-control offset value h = ok-changed c ch (a.write_control c.version offset value) (λ x p. sim.write_control-ok c.version c.ram offset value x h p) ok

      pub same-write-pcm : (offset value : ℕ) → Seen (write_channel_pcm_reg a ch offset value c) ≡ write_channel_pcm_reg b ch offset value (Seen c)
      unfolding write_channel_pcm_reg
      same-write-pcm offset value = same-changed c ch (a.write_pcm offset value) (b.write_pcm offset value) (λ x p. sim.write_pcm offset value x) ok

      pub ok-write-pcm : (offset value : ℕ) → value < 256 → ChipOk P (write_channel_pcm_reg a ch offset value c)
      unfolding write_channel_pcm_reg
      ok-write-pcm offset value h = ok-changed c ch (a.write_pcm offset value) (λ x p. sim.write_pcm-ok c.version c.ram offset value x h p) ok

      pub same-write-wave : (at value : ℕ) → Seen (write_channel_wavetable a ch at value c) ≡ write_channel_wavetable b ch at value (Seen c)
      unfolding write_channel_wavetable
      same-write-wave at value = same-changed c ch (a.write_wave at value) (b.write_wave at value) (λ x p. sim.write_wave at value x) ok

      pub ok-write-wave : (at value : ℕ) → value < 256 → ChipOk P (write_channel_wavetable a ch at value c)
      unfolding write_channel_wavetable
      ok-write-wave at value h = ok-changed c ch (a.write_wave at value) (λ x p. sim.write_wave-ok c.version c.ram at value x h p) ok

      pub same-after-read : (offset : ℕ) → Seen (after_read_channel a ch offset c) ≡ after_read_channel b ch offset (Seen c)
      unfolding after_read_channel
      same-after-read offset = same-changed c ch (a.after_read offset) (b.after_read offset) (λ x p. sim.after_read offset x) ok

      pub ok-after-read : (offset : ℕ) → ChipOk P (after_read_channel a ch offset c)
      unfolding after_read_channel
      ok-after-read offset = ok-changed c ch (a.after_read offset) (λ x p. sim.after_read-ok c.version c.ram offset x p) ok

    -- ---- registers by address
    pub same-write-register : (address value : ℕ) → Seen (write_register a address value c) ≡ write_register b address value (Seen c)
    unfolding write_register
    same-write-register address value =
        picked Seen (ltb address wavetables_size) _ _ (same-write-wave (address / 256) (address % 256) value)
        (picked Seen (ltb address registers_end) _ _
        (picked Seen (is_control (offset_of address)) _ _ (same-write-control (channel_of address) (offset_of address) value) (same-write-pcm (channel_of address) (offset_of address - 16) value))
        refl)

    pub ok-write-register : (address value : ℕ) → value < 256 → ChipOk P (write_register a address value c)
    unfolding write_register
    ok-write-register address value h =
        cond-by (ChipOk P) (ltb address wavetables_size) _ _ (λ e. ok-write-wave (address / 256) (address % 256) value h)
        (λ e. cond-by (ChipOk P) (ltb address registers_end) _ _
        (λ f. cond-by (ChipOk P) (is_control (offset_of address)) _ _ (λ i. ok-write-control (channel_of address) (offset_of address) value h) (λ i. ok-write-pcm (channel_of address) (offset_of address - 16) value h))
        (λ f. ok))

    pub same-after-register : (address : ℕ) → Seen (after_read_register a address c) ≡ after_read_register b address (Seen c)
    unfolding after_read_register
    same-after-register address =
        picked Seen (ltb address wavetables_size) c _ refl (picked Seen (ltb address registers_end) _ c (same-after-read (channel_of address) (offset_of address)) refl)

    pub ok-after-register : (address : ℕ) → ChipOk P (after_read_register a address c)
    unfolding after_read_register
    ok-after-register address =
        cond-by (ChipOk P) (ltb address wavetables_size) _ _ (λ e. ok) (λ e. cond-by (ChipOk P) (ltb address registers_end) _ _ (λ f. ok-after-read (channel_of address) (offset_of address)) (λ f. ok))

    -- ---- the RAM
    pub same-write-ram : (address value : ℕ) → Seen (write_pcm_ram a address value c) ≡ write_pcm_ram b address value (Seen c)
    unfolding write_pcm_ram
    same-write-ram address value =
        picked Seen (ltb address (length c.ram)) _ c
        (ap (λ (l : List B). record { version = c.version; ram = set c.ram address value; voices = l })
        (map-all g (P c.version c.ram) (a.poked address) (b.poked address) (λ x p. sim.poked address x) c.voices ok.voices))
        refl

    pub ok-write-ram : (address value : ℕ) → value < 256 → ChipOk P (write_pcm_ram a address value c)
    unfolding write_pcm_ram
    ok-write-ram address value h =
        cond-by (ChipOk P) (ltb address (length c.ram)) _ _
        (λ e. record {
          voices = every_map (P c.version c.ram) _ (a.poked address) (λ x p. sim.poked-ok c.version c.ram address value x p) c.voices ok.voices;
          eight = length-map c.voices (a.poked address) ∙ ok.eight;
          bytes = record { each = each_set (λ (x : ℕ). x < 256) 0 value h c.ram ok.bytes.each address };
        })
        (λ e. ok)

    -- ---- sound
    pub same-generated : (ch : ℕ) → played_seen g (generated a ch c) ≡ generated b ch (Seen c)
    unfolding generated
    same-generated ch = picked (played_seen g) (ltb ch num_channels) _ _ (same-turned sim c.version c.ram ok.bytes ch 1 1 c.voices ok.voices) refl

    pub ok-generated : (ch : ℕ) → ChipOk P (after_generated a ch c)
    unfolding generated
    ok-generated ch =
        cond-by (λ (r : ModelTurns A). ChipOk P (with_voices c r.voices)) (ltb ch num_channels) _ _
        (λ e. record {
          voices = keeps-turned sim c.version c.ram ok.bytes ch 1 1 c.voices ok.voices;
          eight = length-turned a c.version c.ram ch 1 1 c.voices ∙ ok.eight;
          bytes = ok.bytes;
        })
        (λ e. ok)

    pub same-clocked : (n : ℕ) → played_seen g (clocked a n c) ≡ clocked b n (Seen c)
    unfolding clocked
    same-clocked n = same-frames sim c.version c.ram ok.bytes n c.voices ok.voices

    pub ok-clocked : (n : ℕ) → ChipOk P (after_clocked a n c)
    unfolding clocked
    ok-clocked n = record {
      voices = keeps-frames sim c.version c.ram ok.bytes n c.voices ok.voices;
      eight = length-frames a c.version c.ram n c.voices ∙ ok.eight;
      bytes = ok.bytes;
    }

  -- ---- answers
  module _ (c : ModelChip A) where
    pub same-voice : (ch : ℕ) → fields_at a c ch ≡ fields_at b (Seen c) ch
    same-voice ch = sim.session (get_or c.voices ch a.absent) ∙ ap b.session (voice-at sim c.voices ch)

    pub same-read-control : (ch offset : ℕ) → read_channel_control a ch offset c ≡ read_channel_control b ch offset (Seen c)
    unfolding read_channel_control
    same-read-control ch offset = ap (λ (v : PlainVoice). cond (ltb ch num_channels) (plain_read c.version offset v) 0) (same-voice ch)

    pub same-read-pcm : (ch offset : ℕ) → read_channel_pcm_reg a ch offset c ≡ read_channel_pcm_reg b ch offset (Seen c)
    unfolding read_channel_pcm_reg
    same-read-pcm ch offset = ap (λ (v : PlainVoice). cond (ltb ch num_channels) (read_pcm v.pcm offset) 0) (same-voice ch)

    pub same-read-wave : (ch at : ℕ) → read_channel_wavetable a ch at c ≡ read_channel_wavetable b ch at (Seen c)
    unfolding read_channel_wavetable
    same-read-wave ch at = ap (λ (v : PlainVoice). cond (ltb ch num_channels) (get_or v.wavetable at 0) 0) (same-voice ch)

    pub same-wavetable-length : (ch : ℕ) → wavetable_length a ch c ≡ wavetable_length b ch (Seen c)
    unfolding wavetable_length
    same-wavetable-length ch =
        ap (λ (v : PlainVoice). cond (ltb ch num_channels) (wavetable_mask_of c.version v.pcm.sample_control + 1) (cond (has_sample_control c.version) 0 256)) (same-voice ch)

    pub same-interpolates : (ch : ℕ) → interpolates_at a ch c ≡ interpolates_at b ch (Seen c)
    unfolding interpolates_at
    same-interpolates ch =
        ap (λ (v : PlainVoice). cond (ltb ch num_channels) (interpolates c.version v.pcm.sample_control) (cond (has_sample_control c.version) false (has3ws8pna c.version))) (same-voice ch)

    pub same-peek : (address : ℕ) → peek_register a address c ≡ peek_register b address (Seen c)
    unfolding peek_register
    same-peek address =
        ap₂ (λ (x y : ℕ). cond (ltb address wavetables_size) x (cond (ltb address registers_end) y 0)) (same-read-wave (address / 256) (address % 256)) (same-read-control (channel_of address) (offset_of address))
