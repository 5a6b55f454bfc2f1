-- One call of a list: what it makes at once, and the turns that it leaves. Assumes nothing.
use Rattle.std.proofs.Common.{◌≡◌, ℕ, ◌*◌, ◌<◌, Bool, true, false, cond, eqb, ltb, List, length, get_or, set, ℤ, sym, refl, ap, ◌∙◌, subst, arith, length-set, get_or-set_other, get_or-set_same, ne_eqb, eqb-true}
use lib.Seq.{set_out}
use borrow.Author.Tests.{eqb-false}
use native.Mathlib.Decide.{dec_lt}
use Rattle.sizes.specs.Sizes.{num_channels, registers_end, wavetables_size, stems_per_frame}
use Rattle.num.proofs.Choice.{cond-by, never}
use Rattle.version.specs.Versions.{version_of}
use Rattle.version.specs.declared.SguVersion.{SguVersion}
use Rattle.voices.specs.Addresses.{channel_of, offset_of, is_control}
use Rattle.voices.specs.Core.{channel_at, stored_channel, set_core_version}
use Rattle.voices.specs.Reads.{peek_register, seen_at, read_empties, after_read_channel, after_read_register}
use Rattle.voices.specs.Writes.{write_channel_control, write_channel_pcm_reg, write_wavetable, write_block, write_register}
use Rattle.voices.specs.declared.Core.{Core}
use Rattle.voices.proofs.Accepting.{register-kept, read-register-kept, version-kept}
use Rattle.voices.proofs.Listed.{Wrote}
use Rattle.voices.proofs.Seeing.{seen-peeked, emptied_at, read-as}
use Rattle.voices.proofs.Voices.{length-register-queues}
use Rattle.voice.specs.Reads.{after_read}
use Rattle.voice.specs.declared.Channel.{Channel}
use Rattle.frames.specs.Kept.{EachByte}
use Rattle.frames.specs.declared.Asked.{Asked}
use Rattle.frames.specs.declared.Asked.TheVariants as asks
use Rattle.frames.specs.Listing.{write_pcm_ram_kind, asked_of, Listed, clock_turns, call_as, clocked_as, clocked_by}
use Rattle.frames.proofs.Playing.{turns-none}
use Rattle.frames.proofs.Turns.{Ready}

-- ---- which calls write to the RAM
abbrev pub is_store : Asked → Bool
is_store asks.WriteRegister = false
is_store asks.WritePcmRam = true
is_store asks.Read = false
is_store asks.Peek = false
is_store asks.Clock = false
is_store asks.SetVersion = false
is_store asks.Nothing = false

pub store-kind : (kind : ℕ) → is_store (asked_of kind) ≡ eqb kind write_pcm_ram_kind
unfolding asked_of
store-kind kind = by (eqb kind 0) refl
  where
    others : (t u v w : Bool) → is_store (cond t asks.Read (cond u asks.Peek (cond v asks.Clock (cond w asks.SetVersion asks.Nothing)))) ≡ false
    others true u v w = refl
    others false true v w = refl
    others false false true w = refl
    others false false false true = refl
    others false false false false = refl

    second : (t : Bool) → eqb kind 1 ≡ t → is_store (cond t asks.WritePcmRam (cond (eqb kind 2) asks.Read (cond (eqb kind 3) asks.Peek (cond (eqb kind 4) asks.Clock (cond (eqb kind 5) asks.SetVersion asks.Nothing))))) ≡ eqb kind 1
    second true e = sym e
    second false e = others (eqb kind 2) (eqb kind 3) (eqb kind 4) (eqb kind 5) ∙ sym e

    by : (t : Bool) → eqb kind 0 ≡ t → is_store (cond t asks.WriteRegister (cond (eqb kind 1) asks.WritePcmRam (cond (eqb kind 2) asks.Read (cond (eqb kind 3) asks.Peek (cond (eqb kind 4) asks.Clock (cond (eqb kind 5) asks.SetVersion asks.Nothing)))))) ≡ eqb kind 1
    by true e = sym (ne_eqb kind 1 (λ y. let z = eqb-true kind 0 e in omega (arith, y, z)))
    by false e = second (eqb kind 1) refl

-- ---- the wavetables hold bytes
bytes-set : (w : List ℕ) (a v : ℕ) → EachByte w → v < 256 → EachByte (set w a v)
bytes-set w a v b h j = at (eqb j a) refl
  where
    at : (t : Bool) → eqb j a ≡ t → get_or (set w a v) j 0 < 256
    at true e =
        elim (dec_lt a (length w)) [
          | yes y ↦ subst (λ (x : ℕ). x < 256) (sym (ap (λ (k : ℕ). get_or (set w a v) k 0) (eqb-true j a e) ∙ get_or-set_same w a v 0 y)) h
          | no y ↦ subst (λ (l : List ℕ). get_or l j 0 < 256) (sym (set_out w a v (omega arith))) (b j)
        ]
    at false e = subst (λ (x : ℕ). x < 256) (sym (get_or-set_other w a j v 0 (eqb-false j a e))) (b j)

abbrev Bytes : Core → Type 0
Bytes k = EachByte k.wavetables

stored_bytes : (k : Core) (ch : ℕ) (c : Channel) (t : Bool) → EachByte k.wavetables → EachByte (stored_channel k ch c t).wavetables
unfolding stored_channel
stored_bytes k ch c t b = b

register-bytes : (version : SguVersion) (k : Core) (a v : ℕ) → EachByte k.wavetables → v < 256 → EachByte (write_register version k a v).wavetables
unfolding write_register write_wavetable write_block write_channel_control write_channel_pcm_reg
register-bytes version k a v b h =
    cond-by Bytes (ltb a wavetables_size) _ _ (λ e. bytes-set k.wavetables a v b h)
    (λ e. cond-by Bytes (ltb a registers_end) _ _
    (λ e. cond-by Bytes (is_control (offset_of a)) _ _ (λ e. cond-by Bytes (ltb (channel_of a) num_channels) _ _ (λ e. stored_bytes k _ _ _ b) (λ e. b)) (λ e. cond-by Bytes (ltb (channel_of a) num_channels) _ _ (λ e. stored_bytes k _ _ _ b) (λ e. b)))
    (λ e. b))

read-bytes : (k : Core) (a : ℕ) → EachByte k.wavetables → EachByte (after_read_register k a).wavetables
unfolding after_read_register after_read_channel
read-bytes k a b =
    cond-by Bytes (ltb a wavetables_size) _ _ (λ e. b)
    (λ e. cond-by Bytes (ltb a registers_end) _ _ (λ e. cond-by Bytes (ltb (channel_of a) num_channels) _ _ (λ e. stored_bytes k _ _ _ b) (λ e. b)) (λ e. b))

version-bytes : (k : Core) (version : SguVersion) → EachByte k.wavetables → EachByte (set_core_version k version).wavetables
unfolding set_core_version
version-bytes k version b = b

-- ---- a call of a list
module _ (kinds addresses : List ℕ) (first n i : ℕ) (now : Listed) where
  abbrev a : ℕ
  a = get_or addresses i 0

  abbrev made_as : Asked → Listed
  made_as t = call_as kinds addresses first n t i now

  -- `next` and `stop` turns from there on are what the call makes
  pub record Begins (next : Listed) (stop : ℕ) : Type 0 where
    pub ram : next.ram ≡ now.ram
    pub stems : next.stems ≡ now.stems
    pub ready : Ready next.version (length now.ram) next.core
    pub entries : length next.queues ≡ length now.queues
    pub long : length next.values ≡ length now.values
    pub made : clock_turns first n stop next ≡ call_as kinds addresses first n (asked_of (get_or kinds i 0)) i now
    pub count : 2 * stop ≡ stems_per_frame * clocked_by kinds addresses i

  pub begins-by : {next x : Listed} {stop t : ℕ} → x ≡ next → t ≡ stop → Begins next stop → Begins x t
  begins-by {next} {x} {stop} {t} e f b = subst (λ (y : Listed). Begins y t) (sym e) (subst (λ (k : ℕ). Begins next k) (sym f) b)

  at_once : (t : Asked) → asked_of (get_or kinds i 0) ≡ t → (next : Listed) → next ≡ made_as t → clock_turns first n 0 next ≡ made_as (asked_of (get_or kinds i 0))
  at_once t e next h = turns-none first n next ∙ h ∙ sym (ap made_as e)

  no-frame : (t : Asked) → asked_of (get_or kinds i 0) ≡ t → clocked_as t a ≡ 0 → 2 * 0 ≡ stems_per_frame * clocked_by kinds addresses i
  no-frame t e z = let q : clocked_by kinds addresses i ≡ 0 = ap (λ (x : Asked). clocked_as x a) e ∙ z in omega (arith, q)

  module _ (r : Ready now.version (length now.ram) now.core) where
    pub nothing-begins : asked_of (get_or kinds i 0) ≡ asks.Nothing → Begins now 0
    nothing-begins e = record { ram = refl; stems = refl; ready = r; entries = refl; long = refl; made = at_once asks.Nothing e now refl; count = no-frame asks.Nothing e refl }

    pub clock-begins : asked_of (get_or kinds i 0) ≡ asks.Clock → Begins now (8 * get_or addresses i 0)
    clock-begins e = record {
      ram = refl;
      stems = refl;
      ready = r;
      entries = refl;
      long = refl;
      made = sym (ap made_as e);
      count = let q : clocked_by kinds addresses i ≡ a = ap (λ (x : Asked). clocked_as x a) e in omega (arith, q);
    }

    pub store-none : {next : Listed} → asked_of (get_or kinds i 0) ≡ asks.WritePcmRam → eqb (get_or kinds i 0) write_pcm_ram_kind ≡ false → Begins next 0
    store-none e f = absurd (falsity (sym (ap is_store e) ∙ store-kind (get_or kinds i 0) ∙ f))
      where
        falsity : true ≡ false → ⊥
        falsity h = never h

    pub write-begins : asked_of (get_or kinds i 0) ≡ asks.WriteRegister → (x : Core) (l : List ℤ) → Wrote now.version now.core now.queues (get_or addresses i 0) (get_or now.values i 0) x l
        → get_or now.values i 0 < 256 → Begins (record { core = x; version = now.version; ram = now.ram; queues = l; values = now.values; stems = now.stems }) 0
    write-begins e x l w h =
        let v = get_or now.values i 0 in
        record {
          ram = refl;
          stems = refl;
          ready = subst (Ready now.version (length now.ram)) (sym w.core) (record { accepted = register-kept now.core now.version (length now.ram) r.accepted a v h; bytes = register-bytes now.version now.core a v r.bytes h });
          entries = ap length w.queues ∙ length-register-queues now.version now.core now.queues a v;
          long = refl;
          made = at_once asks.WriteRegister e _ (λ j. record { core = w.core j; version = now.version; ram = now.ram; queues = w.queues j; values = now.values; stems = now.stems });
          count = no-frame asks.WriteRegister e refl;
        }

    pub read-begins : asked_of (get_or kinds i 0) ≡ asks.Read → (x : Core) (byte : ℕ) → x ≡ after_read_register now.core (get_or addresses i 0) → byte ≡ peek_register now.version now.core (get_or addresses i 0)
        → Begins (record { core = x; version = now.version; ram = now.ram; queues = now.queues; values = set now.values i byte; stems = now.stems }) 0
    read-begins e x byte ec eb = record {
      ram = refl;
      stems = refl;
      ready = subst (Ready now.version (length now.ram)) (sym ec) (record { accepted = read-register-kept now.core now.version (length now.ram) r.accepted a; bytes = read-bytes now.core a r.bytes });
      entries = refl;
      long = length-set now.values i byte;
      made = at_once asks.Read e _ (λ j. record { core = ec j; version = now.version; ram = now.ram; queues = now.queues; values = set now.values i (eb j); stems = now.stems });
      count = no-frame asks.Read e refl;
    }

    pub peek-begins : asked_of (get_or kinds i 0) ≡ asks.Peek → (byte : ℕ) → byte ≡ peek_register now.version now.core (get_or addresses i 0)
        → Begins (record { core = now.core; version = now.version; ram = now.ram; queues = now.queues; values = set now.values i byte; stems = now.stems }) 0
    peek-begins e byte eb = record {
      ram = refl;
      stems = refl;
      ready = r;
      entries = refl;
      long = length-set now.values i byte;
      made = at_once asks.Peek e _ (λ j. record { core = now.core; version = now.version; ram = now.ram; queues = now.queues; values = set now.values i (eb j); stems = now.stems });
      count = no-frame asks.Peek e refl;
    }

    pub version-begins : asked_of (get_or kinds i 0) ≡ asks.SetVersion → (x : Core) (version : SguVersion) → version ≡ version_of (get_or addresses i 0) → x ≡ set_core_version now.core version
        → Begins (record { core = x; version = version; ram = now.ram; queues = now.queues; values = now.values; stems = now.stems }) 0
    version-begins e x version ev ec = record {
      ram = refl;
      stems = refl;
      ready = subst (Ready version (length now.ram)) (sym ec) (record { accepted = version-kept now.core now.version (length now.ram) r.accepted version (length now.ram); bytes = version-bytes now.core version r.bytes });
      entries = refl;
      long = refl;
      made = at_once asks.SetVersion e _ (λ j. record { core = (ec ∙ ap (set_core_version now.core) ev) j; version = ev j; ram = now.ram; queues = now.queues; values = now.values; stems = now.stems });
      count = no-frame asks.SetVersion e refl;
    }

-- ---- what a read makes of the core, and the byte that a look shows
module _ (k : Core) (address ch : ℕ) (here : ch ≡ channel_of address) where
  pub look-byte : (version : SguVersion) (byte : ℕ) → byte ≡ seen_at version (channel_at k ch) k.wavetables address → byte ≡ peek_register version k address
  look-byte version byte e = e ∙ ap (λ (c : ℕ). seen_at version (channel_at k c) k.wavetables address) here ∙ seen-peeked k address version

  pub read-emptied : (b : Bool) (c : Channel) (x : Core) → b ≡ read_empties address → b ≡ true → c ≡ after_read (channel_at k ch) 10 → x ≡ stored_channel k ch c true → x ≡ after_read_register k address
  read-emptied b c x e h d f =
      f ∙ ap (λ (y : Channel). stored_channel k ch y true) d ∙ ap (λ (j : ℕ). stored_channel k j (after_read (channel_at k j) 10) true) here
      ∙ ap (λ (t : Bool). cond t (emptied_at k address) k) (sym h ∙ e) ∙ read-as k address

  pub read-kept : (b : Bool) → b ≡ read_empties address → b ≡ false → k ≡ after_read_register k address
  read-kept b e h = ap (λ (t : Bool). cond t (emptied_at k address) k) (sym h ∙ e) ∙ read-as k address
