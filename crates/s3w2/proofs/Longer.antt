-- What is accepted over a RAM is accepted over a longer one. Assumes nothing.
use mathlib.Core.Path.{◌≡◌, refl, sym, ap, ◌∙◌}
use mathlib.Core.Bool.{Bool, true, false, cond, ◌&&◌}
use mathlib.Core.List.{List}
use Prim.Native.Nat.{ℕ, zero, suc, ◌≤◌, ◌<◌}
use native.Mathlib.Omega.{arith}
use native.Mathlib.Decide.{dec_lt}
use lib.ListN.{get_or}
use Rattle.sizes.specs.Sizes.{ram_most}
use Rattle.cores.specs.Sizes.{num_cores}
use Rattle.num.proofs.Choice.{both, together, never}
use Rattle.tone.specs.Pcm.{is_ram_length}
use Rattle.tone.proofs.Ram.{too-high}
use Rattle.version.specs.declared.SguVersion.{SguVersion}
use Rattle.registers.specs.Waveforms.{is_sqv4}
use Rattle.stream.specs.Accepted.{accepts_cache}
use Rattle.stream.proofs.Accepts.{accepted-as, as-accepted}
use Rattle.voice.specs.Accepted.{accepts_stream, accepts_channel, AcceptedChannel}
use Rattle.voice.specs.declared.Channel.{Channel}
use Rattle.voice.proofs.Keeps.{accepted-channel, channel-accepted}
use Rattle.voices.specs.Core.{no_channel}
use Rattle.voices.specs.Accepted.{accepts_first, AcceptedCore}
use Rattle.voices.proofs.Accepting.{core-accepted}
use Rattle.s3w2.specs.declared.Chip.{Chip}
use Rattle.s3w2.specs.Chips.{core_at}
use Rattle.s3w2.specs.Refusals.{accepts_chip}
use Rattle.s3w2.proofs.Fits.{chip-accepts, core-accepts}

-- ---- a longer RAM
stream-longer : (c : Channel) (n m : ℕ) → n ≤ m → accepts_stream c n ≡ true → accepts_stream c m ≡ true
unfolding accepts_stream
stream-longer c n m h e = go c.stream.valid refl
  where
    start : ℕ
    start = c.pcm.start_addr

    end : ℕ
    end = c.pcm.end_addr

    test : ℕ → Bool
    test l = is_sqv4 c.registers.waveform_type && accepts_cache c.stream start end l

    go : (b : Bool) → c.stream.valid ≡ b → cond c.stream.valid (test m) true ≡ true
    go true v =
        let a = both (is_sqv4 c.registers.waveform_type) (accepts_cache c.stream start end n) (sym (ap (λ (b : Bool). cond b (test n) true) v) ∙ e) in
        let w = accepted-as c.stream start end n a.1 v in
        ap (λ (b : Bool). cond b (test m) true) v
        ∙ together _ _ a.0 (as-accepted c.stream start end m (record { variant = w.variant; held = w.held; range = (w.range.0, omega (arith, w.range.1)); fit = w.fit }))
    go false v = ap (λ (b : Bool). cond b (test m) true) v

channel-longer : (c : Channel) (version : SguVersion) (n m : ℕ) → n ≤ m → AcceptedChannel c version n → AcceptedChannel c version m
channel-longer c version n m h a = record { registers = a.registers; pcm = a.pcm; oscillator = a.oscillator; fifo = a.fifo; stream = stream-longer c n m h a.stream }

pub ram-small : (n : ℕ) → is_ram_length n ≡ true → n ≤ ram_most
ram-small n e = elim (dec_lt ram_most n) [ yes y ↦ never (sym e ∙ too-high n y) | no y ↦ omega arith ]

-- ---- an accepted state is one over a longer RAM too
first-longer : (k : ℕ) (l : List Channel) (version : SguVersion) (n m : ℕ) → n ≤ m → accepts_first k l version n ≡ true → accepts_first k l version m ≡ true
unfolding accepts_first
first-longer zero l version n m h e = refl
first-longer (suc k) l version n m h e =
    let c = get_or l k no_channel in
    let a = both (accepts_first k l version n) (accepts_channel c version n) e in
    together (accepts_first k l version m) (accepts_channel c version m) (first-longer k l version n m h a.0)
    (channel-accepted c version m (channel-longer c version n m h (accepted-channel c version n a.1)))

pub accepts-longer : (chip : Chip) (n m : ℕ) → n ≤ m → accepts_chip chip n ≡ true → accepts_chip chip m ≡ true
accepts-longer chip n m h e = chip-accepts chip m (λ k l. first-longer 8 (core_at chip k).channels chip.version n m h (core-accepts chip n e k l))

pub longer : (chip : Chip) (n m : ℕ) → n ≤ m → ((k : ℕ) → k < num_cores → AcceptedCore (core_at chip k) chip.version n) → accepts_chip chip m ≡ true
longer chip n m h a = accepts-longer chip n m h (chip-accepts chip n (λ k l. core-accepted (core_at chip k) chip.version n (a k l)))
