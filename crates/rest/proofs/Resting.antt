-- A core at rest: clocking gives zeros, and neither that nor a RAM write nor another version changes it. Assumes nothing.
use mathlib.Core.Path.{◌≡◌, refl, sym, ap, ◌∙◌, subst}
use mathlib.Core.Bool.{true, false, cond}
use mathlib.Core.List.{List, map, ◌++◌}
use Prim.Native.Nat.{ℕ, zero, suc, ◌+◌, ◌*◌, ◌%◌, ◌<◌, ◌≤◌}
use native.Mathlib.Omega.{arith}
use lib.Dec.{eqb}
use lib.IntN.{ℤ, pos, nat_abs}
use lib.ListN.{get_or, replicate, length-replicate, get_or-replicate, replicate-append-replicate}
use lib.Seq.{ext_get_or}
use borrow.Author.Tests.{eqb-true}
use Rattle.sizes.specs.Sizes.{num_channels, stems_per_frame, ticks_per_frame, wavetables_size}
use Rattle.num.proofs.Choice.{both, together}
use Rattle.endings.specs.Sets.{set_of}
use Rattle.endings.proofs.Sets.{off-none, set_same}
use Rattle.version.specs.declared.SguVersion.{SguVersion}
use Rattle.version.specs.declared.SguVersion.TheVariants as versions
use Rattle.registers.proofs.Accepted.{no_size}
use Rattle.stream.specs.Cache.{emptied}
use Rattle.ticks.specs.Mix.{silence}
use Rattle.voice.specs.Accepted.{AcceptedChannel}
use Rattle.voice.specs.Channel.{default_channel, set_stream, set_channel_version}
use Rattle.voice.specs.Reads.{streams_from}
use Rattle.voice.specs.declared.Channel.{Channel}
use Rattle.voice.proofs.Keeps.{default-accepted}
use Rattle.voices.specs.Accepted.{accepts_core, SizedCore}
use Rattle.voices.specs.Core.{fresh_core, no_channel, channel_at, stored_channel, set_core_version}
use Rattle.voices.specs.Writes.{after_ram_write_at, after_ram_write_to, after_ram_write}
use Rattle.voices.specs.declared.Core.{Core}
use Rattle.voices.proofs.Accepting.{core-accepted}
use Rattle.frames.specs.Ticking.{voiced, voice_ticks}
use Rattle.frames.specs.Turning.{Turns, one_turn, turned, frame, frames}
use Rattle.frame_reports.specs.Ending.{turned_off, frames_ended}
use Rattle.frame_reports.proofs.Endings.{ended-active}
use Rattle.rest.specs.Rest.{is_zero, is_fresh_channel, fresh_channels, first_centred, zero_fragments, rests}
use Rattle.rest.proofs.Tests.{every-at, every_of}
use Rattle.rest.proofs.Channels.{channel-is, default-fresh}
use Rattle.rest.proofs.FreshTicks.{ticks-rest}

-- a core and the zeros of so many turns
abbrev pub zero_turns : Core → ℕ → Turns
zero_turns core stems = record { core = core; stems = replicate stems (pos 0); sample = pos 0 }

under_same : (version : SguVersion) → set_channel_version default_channel version ≡ default_channel
unfolding set_channel_version
under_same versions.V1 = refl
under_same versions.V2 = refl
under_same versions.V2_1 = refl
under_same versions.V3 = refl
under_same versions.V3_1 = refl

none-set : set_of 8 (λ ch. false) ≡ 0
unfolding set_of
none-set = refl

module _ (core : Core) (r : rests core ≡ true) where
  -- ---- what the test says
  parts : (fresh_channels core.channels ≡ true) × (first_centred core.wavetables ≡ true) × (zero_fragments core.fragments ≡ true)
  unfolding rests
  parts =
      let a = both (fresh_channels core.channels) _ r in
      let b = both (first_centred core.wavetables) (zero_fragments core.fragments) a.1 in
      (a.0, b.0, b.1)

  pub rest-channel : (ch : ℕ) → ch < num_channels → channel_at core ch ≡ default_channel
  rest-channel ch h = channel-is (channel_at core ch) (every-at 8 (λ j. is_fresh_channel (channel_at core j)) parts.0 ch h)

  rest-table : (ch : ℕ) → ch < num_channels → get_or core.wavetables (ch * 256) 0 ≡ 128
  rest-table ch h = eqb-true (get_or core.wavetables (ch * 256) 0) 128 (every-at 8 (λ j. eqb (get_or core.wavetables (j * 256) 0) 128) parts.1 ch h)

  rest-fragment : (i : ℕ) → i < 1024 → get_or core.fragments i (pos 0) ≡ pos 0
  rest-fragment i h =
      let x = get_or core.fragments i (pos 0) in
      no_size x (eqb-true (nat_abs x) 0 (every-at 1024 (λ j. is_zero (get_or core.fragments j (pos 0))) parts.2 i h))

  -- ---- turns and frames
  module _ (version : SguVersion) (ram : List ℕ) (queues : List ℤ) where
    turn-rests : (i n : ℕ) → voice_ticks version ram queues (i % 8) n (voiced core silence) ≡ voiced core silence
    turn-rests i n =
        let h : i % 8 < 8 = omega arith in
        let e : i % 8 % 8 ≡ i % 8 = omega arith in
        ticks-rest version ram queues core (i % 8) (rest-channel (i % 8) h) (ap (λ (j : ℕ). get_or core.wavetables (j * 256) 0) e ∙ rest-table (i % 8) h) n

    pub rest-turned : (first n k : ℕ) → turned version ram queues first n k core ≡ zero_turns core (2 * k)
    unfolding turned
    rest-turned first n zero = refl
    rest-turned first n (suc k) =
        ap (λ (t : Turns). one_turn t (voice_ticks version ram queues ((first + k) % num_channels) n (voiced t.core silence))) (rest-turned first n k)
        ∙ ap (one_turn (zero_turns core (2 * k))) (turn-rests (first + k) n)
        ∙ ap (λ (l : List ℤ). record { core = core; stems = l; sample = pos 0 }) (replicate-append-replicate (2 * k) 2 (pos 0) ∙ ap (λ (m : ℕ). replicate m (pos 0)) (more k))
      where
        more : (j : ℕ) → 2 * j + 2 ≡ 2 * suc j
        more j = omega arith

    -- frames give zeros and leave the core as it is
    pub rest-frames : (n : ℕ) → frames version ram queues n core ≡ record { core = core; stems = replicate (stems_per_frame * n) (pos 0); sample = pos 0 }
    unfolding frames
    rest-frames zero = refl
    rest-frames (suc n) =
        ap (λ (t : Turns). record { core = (frame version ram queues t.core).core; stems = t.stems ++ (frame version ram queues t.core).stems; sample = (frame version ram queues t.core).sample }) (rest-frames n)
        ∙ ap (λ (t : Turns). record { core = t.core; stems = replicate (16 * n) (pos 0) ++ t.stems; sample = t.sample }) (rest-turned 0 ticks_per_frame num_channels)
        ∙ ap (λ (l : List ℤ). record { core = core; stems = l; sample = pos 0 }) (replicate-append-replicate (16 * n) 16 (pos 0) ∙ ap (λ (m : ℕ). replicate m (pos 0)) (more n))
      where
        more : (j : ℕ) → 16 * j + 16 ≡ 16 * suc j
        more j = omega arith

    -- they turn no voice off
    pub rest_ended : (n : ℕ) → frames_ended version ram queues n core ≡ 0
    rest_ended n =
        ended-active version ram queues n core
        ∙ set_same 8 (λ ch. turned_off (channel_at core ch) (channel_at (frames version ram queues n core).core ch)) (λ ch. false)
        (λ ch h. ap (λ (t : Turns). turned_off (channel_at core ch) (channel_at t.core ch)) (rest-frames n) ∙ off-none (channel_at core ch).pcm.active)
        ∙ none-set

  -- ---- a byte of the RAM
  rest-ram-to : (n address : ℕ) → n ≤ 8 → after_ram_write_to n core address ≡ core
  unfolding after_ram_write_to after_ram_write_at streams_from
  rest-ram-to zero address h = refl
  rest-ram-to (suc ch) address h =
      ap (λ (k : Core). after_ram_write_at address k ch) (rest-ram-to ch address (omega arith))
      ∙ ap (λ (c : Channel). cond (streams_from c address) (stored_channel core ch (set_stream c emptied) true) core) (rest-channel ch (omega arith))

  pub rest-ram : (address : ℕ) → after_ram_write core address ≡ core
  rest-ram address = rest-ram-to 8 address (omega arith)

  -- ---- where the tables are as long as they are in the chip
  module _ (z : SizedCore core) where
    rest-channels : core.channels ≡ replicate 8 default_channel
    rest-channels = ext_get_or no_channel core.channels (replicate 8 default_channel) z.channels (λ i h. at i (omega (arith, h, z.channels)))
      where
        at : (i : ℕ) → i < 8 → channel_at core i ≡ get_or (replicate 8 default_channel) i no_channel
        at i h = rest-channel i h ∙ sym (get_or-replicate 8 i default_channel no_channel h)

    rest-fragments : core.fragments ≡ replicate 1024 (pos 0)
    rest-fragments = ext_get_or (pos 0) core.fragments (replicate 1024 (pos 0)) (z.fragments ∙ sym (length-replicate 1024 (pos 0))) (λ i h. at i (omega (arith, h, z.fragments)))
      where
        at : (i : ℕ) → i < 1024 → get_or core.fragments i (pos 0) ≡ get_or (replicate 1024 (pos 0)) i (pos 0)
        at i h = rest-fragment i h ∙ sym (get_or-replicate 1024 i (pos 0) (pos 0) h)

    -- another version
    pub rest-version : (version : SguVersion) → set_core_version core version ≡ core
    unfolding set_core_version
    rest-version version = λ i. record {
      channels = (ap (map (λ (c : Channel). set_channel_version c version)) rest-channels ∙ ap (replicate 8) (under_same version) ∙ sym rest-channels) i;
      fragments = sym rest-fragments i;
      wavetables = core.wavetables;
    }

    pub rest-accepted : (version : SguVersion) (ram : ℕ) → accepts_core core version ram ≡ true
    rest-accepted version ram = core-accepted core version ram (record {
      sized = z;
      each = λ j h. subst (λ (c : Channel). AcceptedChannel c version ram) (sym (rest-channel j h)) (default-accepted version ram);
    })

-- ---- a fresh core is at rest
pub fresh-rests : rests fresh_core ≡ true
unfolding rests
fresh-rests =
    together (fresh_channels fresh_core.channels) _
    (every_of 8 (λ j. is_fresh_channel (channel_at fresh_core j)) (λ j h. ap is_fresh_channel (get_or-replicate 8 j default_channel no_channel h) ∙ default-fresh))
    (together (first_centred fresh_core.wavetables) (zero_fragments fresh_core.fragments)
    (every_of 8 (λ j. eqb (get_or fresh_core.wavetables (j * 256) 0) 128) (λ j h. ap (λ (x : ℕ). eqb x 128) (get_or-replicate wavetables_size (j * 256) 128 0 (omega arith))))
    (every_of 1024 (λ j. is_zero (get_or fresh_core.fragments j (pos 0))) (λ j h. ap is_zero (get_or-replicate 1024 j (pos 0) (pos 0) h))))
