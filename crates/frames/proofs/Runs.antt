-- A list in runs: calls that write to the RAM, then calls that do not. Assumes nothing.
use Rattle.std.proofs.Common.{◌≡◌, ℕ, zero, suc, ◌+◌, ◌-◌, ◌*◌, ◌<◌, ◌≤◌, true, false, cond, eqb, ltb, List, [], ◌++◌, length, get_or, take, drop, set, ℤ, sym, refl, ap, ◌∙◌, subst, ap₂, append_assoc, append-nil, arith, length-append, length-drop, length-set, length-take, get_or-drop, get_or-take, eqb-true}
use native.Mathlib.Decide.{dec_lt}
use lib.Seq.{sets, length-sets}
use Rattle.sizes.specs.Sizes.{queue_buffer, stems_per_frame}
use Rattle.num.proofs.Choice.{cond-by, never}
use Rattle.num.proofs.Lists.{sets-append}
use Rattle.version.specs.declared.SguVersion.{SguVersion}
use Rattle.voices.specs.Accepted.{AcceptedCore}
use Rattle.voices.specs.Lists.{after_ram_writes}
use Rattle.voices.specs.Writes.{after_ram_write}
use Rattle.voices.specs.declared.Core.{Core}
use Rattle.voices.proofs.Accepting.{ram-kept}
use Rattle.frames.specs.declared.Asked.{Asked}
use Rattle.frames.specs.declared.Asked.TheVariants as variants
use Rattle.frames.specs.Turning.{turned}
use Rattle.frames.specs.Listing.{write_pcm_ram_kind, asked_of, Listed, lent_list, clock_turns, call_as, listed, clocked_as, frames_asked, EachAccepted, AllStore}
use Rattle.frames.specs.Stored.{calls_stored}
use Rattle.frames.proofs.Calling.{is_store, store-kind}
use Rattle.frames.proofs.Loop.{done-long}
use Rattle.frames.proofs.Counts.{zero-add, frames-parts}
use Rattle.frames.proofs.Playing.{turns-none, standing}

module _ (kinds addresses : List ℕ) where
  abbrev call : Asked → ℕ → Listed → Listed
  call = call_as kinds addresses 0 4

  abbrev some : ℕ → ℕ → Listed → Listed
  some = listed kinds addresses 0 4

  -- ---- the stems that were given before are kept in front
  abbrev pub behind_stems : List ℤ → Listed → Listed
  behind_stems g s = record { core = s.core; version = s.version; ram = s.ram; queues = s.queues; values = s.values; stems = g ++ s.stems }

  call-behind : (g : List ℤ) (t : Asked) (i : ℕ) (s : Listed) → call t i (behind_stems g s) ≡ behind_stems g (call t i s)
  call-behind g variants.WriteRegister i s = refl
  call-behind g variants.WritePcmRam i s = refl
  call-behind g variants.Read i s = refl
  call-behind g variants.Peek i s = refl
  call-behind g variants.Clock i s =
      let t = turned s.version s.ram s.queues 0 4 (8 * get_or addresses i 0) s.core in
      λ j. record { core = t.core; version = s.version; ram = s.ram; queues = s.queues; values = s.values; stems = append_assoc g s.stems t.stems j }
  call-behind g variants.SetVersion i s = refl
  call-behind g variants.Nothing i s = refl

  pub list-behind : (g : List ℤ) (from m : ℕ) (s : Listed) → listed kinds addresses 0 4 from m (behind_stems g s) ≡ behind_stems g (listed kinds addresses 0 4 from m s)
  unfolding listed
  list-behind g from zero s = refl
  list-behind g from (suc m) s =
      let t = asked_of (get_or kinds (from + m) 0) in
      ap (call t (from + m)) (list-behind g from m s) ∙ call-behind g t (from + m) (some from m s)

  -- ---- in two parts
  pub list-parts : (from m : ℕ) (s : Listed) → listed kinds addresses 0 4 0 (from + m) s ≡ listed kinds addresses 0 4 from m (listed kinds addresses 0 4 0 from s)
  unfolding listed
  list-parts from zero s = let e : from + 0 ≡ from = omega arith in ap (λ (k : ℕ). some 0 k s) e
  list-parts from (suc m) s =
      let e : from + suc m ≡ suc (from + m) = omega arith in
      ap (λ (k : ℕ). some 0 k s) e ∙ ap (λ (k : ℕ). call (asked_of (get_or kinds k 0)) k (some 0 (from + m) s)) (sym (zero-add (from + m)))
      ∙ ap (call (asked_of (get_or kinds (from + m) 0)) (from + m)) (list-parts from m s)

  -- ---- so many stems
  call_long : (t : Asked) (i : ℕ) (s : Listed) → length (call t i s).stems ≡ length s.stems + 16 * clocked_as t (get_or addresses i 0)
  call_long variants.WriteRegister i s = omega arith
  call_long variants.WritePcmRam i s = omega arith
  call_long variants.Read i s = omega arith
  call_long variants.Peek i s = omega arith
  call_long variants.Clock i s =
      let a = get_or addresses i 0 in
      let e = length-append s.stems (turned s.version s.ram s.queues 0 4 (8 * a) s.core).stems in
      let f = done-long s.version s.ram s.queues 0 4 s.core (8 * a) in
      e ∙ (omega (arith, f))
  call_long variants.SetVersion i s = omega arith
  call_long variants.Nothing i s = omega arith

  pub list-long : (from m : ℕ) (s : Listed) → length (listed kinds addresses 0 4 from m s).stems ≡ length s.stems + stems_per_frame * frames_asked kinds addresses from m
  unfolding listed frames_asked
  list-long from zero s = omega arith
  list-long from (suc m) s =
      let h = list-long from m s in
      let k = call_long (asked_of (get_or kinds (from + m) 0)) (from + m) (some from m s) in
      omega (arith, h, k)

  -- ---- calls that do not write to the RAM leave it as it is
  call-ram : (t : Asked) → is_store t ≡ false → (i : ℕ) (s : Listed) → (call t i s).ram ≡ s.ram
  call-ram variants.WriteRegister e i s = refl
  call-ram variants.WritePcmRam e i s = never e
  call-ram variants.Read e i s = refl
  call-ram variants.Peek e i s = refl
  call-ram variants.Clock e i s = refl
  call-ram variants.SetVersion e i s = refl
  call-ram variants.Nothing e i s = refl

  list-ram : (from to : ℕ) → AllStore kinds addresses false from to → (s : Listed) (m : ℕ) → m ≤ to - from → (some from m s).ram ≡ s.ram
  unfolding listed
  list-ram from to none s zero h = refl
  list-ram from to none s (suc m) h =
      call-ram (asked_of (get_or kinds (from + m) 0)) (store-kind (get_or kinds (from + m) 0) ∙ none (from + m) (omega arith) (omega arith)) (from + m) (some from m s) ∙ list-ram from to none s m (omega arith)

  -- ---- a run of calls that write to the RAM
  module _ (i e : ℕ) (s : Listed) (stores : AllStore kinds addresses true i e) (low : i ≤ e) (high : e ≤ length addresses) where
    abbrev slice : List ℕ
    slice = take (e - i) (drop i addresses)

    abbrev R : ℕ
    R = length s.ram

    stored-length : (m : ℕ) → length (calls_stored addresses s.values i m s.ram) ≡ length s.ram
    unfolding calls_stored
    stored-length zero = refl
    stored-length (suc m) = length-set (calls_stored addresses s.values i m s.ram) (get_or addresses (i + m) 0) (get_or s.values (i + m) 0) ∙ stored-length m

    -- m bytes stored
    abbrev stored_to : ℕ → Listed
    stored_to m = record { core = after_ram_writes R m slice s.core; version = s.version; ram = calls_stored addresses s.values i m s.ram; queues = s.queues; values = s.values; stems = s.stems }

    slice_at : (m : ℕ) → m < e - i → get_or slice m 0 ≡ get_or addresses (i + m) 0
    slice_at m h = get_or-take (e - i) (drop i addresses) m 0 h ∙ get_or-drop i addresses m 0

    asked-store : (m : ℕ) → m < e - i → asked_of (get_or kinds (i + m) 0) ≡ variants.WritePcmRam
    unfolding asked_of
    asked-store m h = ap asked_of (eqb-true (get_or kinds (i + m) 0) 1 (stores (i + m) (omega arith) (omega arith)))

    pub run-stored : (m : ℕ) → m ≤ e - i → listed kinds addresses 0 4 i m s ≡ stored_to m
    unfolding listed after_ram_writes calls_stored
    run-stored zero h = refl
    run-stored (suc m) h =
        let a = get_or addresses (i + m) 0 in
        let b = after_ram_writes R m slice s.core in
        ap (λ (t : Asked). call t (i + m) (some i m s)) (asked-store m (omega arith)) ∙ ap (call variants.WritePcmRam (i + m)) (run-stored m (omega arith))
        ∙ (λ j. record {
          core = (ap (λ (k : ℕ). cond (ltb a k) (after_ram_write b a) b) (stored-length m) ∙ ap (λ (x : ℕ). cond (ltb x R) (after_ram_write b x) b) (sym (slice_at m (omega arith)))) j;
          version = s.version;
          ram = set (calls_stored addresses s.values i m s.ram) a (get_or s.values (i + m) 0);
          queues = s.queues;
          values = s.values;
          stems = s.stems;
        })

    slice-long : length slice ≡ e - i
    slice-long = length-take (e - i) (drop i addresses) ∙ (let d = length-drop i addresses in omega (arith, d))

    -- as the code leaves it
    pub run-left : (core : Core) (ram : List ℕ) → ram ≡ calls_stored addresses s.values i (e - i) s.ram → core ≡ after_ram_writes (length ram) (length slice) slice s.core
        → listed kinds addresses 0 4 i (e - i) s ≡ standing ram core s.version s.queues s.values s.stems
    run-left core ram er ec =
        let l : length ram ≡ R = ap length er ∙ stored-length (e - i) in
        let c : core ≡ after_ram_writes R (e - i) slice s.core = ec ∙ ap₂ (λ (x y : ℕ). after_ram_writes x y slice s.core) l slice-long in
        run-stored (e - i) (omega arith) ∙ sym (λ j. standing (er j) (c j) s.version s.queues s.values s.stems)

    pub run_length : (ram : List ℕ) → ram ≡ calls_stored addresses s.values i (e - i) s.ram → length ram ≡ length s.ram
    run_length ram er = ap length er ∙ stored-length (e - i)

    module _ (ok : AcceptedCore s.core s.version R) where
      writes_kept : (m : ℕ) → AcceptedCore (after_ram_writes R m slice s.core) s.version R
      unfolding after_ram_writes
      writes_kept zero = ok
      writes_kept (suc m) =
          let b = after_ram_writes R m slice s.core in
          let a = get_or slice m 0 in
          cond-by (λ (x : Core). AcceptedCore x s.version R) (ltb a R) (after_ram_write b a) b (λ h. ram-kept b s.version R (writes_kept m) a) (λ h. writes_kept m)

      pub run-kept : (m : ℕ) → m ≤ e - i → AcceptedCore (listed kinds addresses 0 4 i m s).core (listed kinds addresses 0 4 i m s).version R
      run-kept m h = subst (λ (x : Listed). AcceptedCore x.core x.version R) (sym (run-stored m h)) (writes_kept m)

  -- ---- the bytes of a run are stored, and the caches that they empty are emptied; a run of no calls stores none
  pub record RunStored (values : List ℕ) (i e : ℕ) (ram : List ℕ) (core : Core) (ram1 : List ℕ) (core1 : Core) : Type 0 where
    pub bytes : ram1 ≡ calls_stored addresses values i (e - i) ram
    pub caches : core1 ≡ after_ram_writes (length ram1) (length (take (e - i) (drop i addresses))) (take (e - i) (drop i addresses)) core

  module _ (values : List ℕ) (i e : ℕ) (ram : List ℕ) (core : Core) where
    pub run-none : e ≤ i → RunStored values i e ram core ram core
    unfolding calls_stored after_ram_writes
    run-none h =
        let z : e - i ≡ 0 = omega arith in
        record {
          bytes = ap (λ (m : ℕ). calls_stored addresses values i m ram) (sym z);
          caches = ap (λ (m : ℕ). after_ram_writes (length ram) (length (take m (drop i addresses))) (take m (drop i addresses)) core) (sym z);
        }

    pub stored-by : (ram1 ram2 : List ℕ) (core1 core2 : Core) → ram2 ≡ ram1 → core2 ≡ core1 → RunStored values i e ram core ram1 core1 → RunStored values i e ram core ram2 core2
    stored-by ram1 ram2 core1 core2 r k s = subst (λ (x : List ℕ). RunStored values i e ram core x core2) (sym r) (subst (RunStored values i e ram core ram1) (sym k) s)

  -- ---- run after run
  module _ (count : ℕ) (s₀ : Listed) (stems₀ : List ℤ) (start : s₀.stems ≡ []) where
    abbrev pub done : ℕ → Listed
    done m = listed kinds addresses 0 4 0 m s₀

    abbrev pub DoneAccepted : ℕ → Type 0
    DoneAccepted j = AcceptedCore (done j).core (done j).version (length s₀.ram)

    -- before call i
    pub record Ran (core : Core) (version : SguVersion) (ram : List ℕ) (queues : List ℤ) (values : List ℕ) (stems : List ℤ) (i at : ℕ) : Type 0 where
      pub gave : List ℤ
      pub is : standing ram core version queues values gave ≡ done i
      pub within : i ≤ count
      pub accepted : AcceptedCore core version (length s₀.ram)
      pub bytes : length ram ≡ length s₀.ram
      pub entries : length queues ≡ queue_buffer
      pub long : length values ≡ length s₀.values
      pub filled : stems ≡ sets stems₀ 0 gave
      pub behind : at ≡ length gave
      pub before : (j : ℕ) → 0 ≤ j → j < i → DoneAccepted j

    pub ran-none : AcceptedCore s₀.core s₀.version (length s₀.ram) → length s₀.queues ≡ queue_buffer → Ran s₀.core s₀.version s₀.ram s₀.queues s₀.values stems₀ 0 0
    unfolding listed
    ran-none ok e = record {
      gave = [];
      is = sym (λ j. standing s₀.ram s₀.core s₀.version s₀.queues s₀.values (start j));
      within = omega arith;
      accepted = ok;
      bytes = refl;
      entries = e;
      long = refl;
      filled = refl;
      behind = refl;
      before = λ j g h. absurd (omega arith);
    }

    -- those that a run of the list makes accepted, one after the other
    both-parts : (i e t : ℕ) → i ≤ e → e ≤ t → ((j : ℕ) → 0 ≤ j → j < i → DoneAccepted j) → ((m : ℕ) → m ≤ e - i → DoneAccepted (i + m)) → ((m : ℕ) → m < t - e → DoneAccepted (e + m)) → (j : ℕ) → 0 ≤ j → j < t → DoneAccepted j
    both-parts i e t p q f g h j z l =
        elim (dec_lt j i) [
          | yes y ↦ f j z y
          | no y ↦ elim (dec_lt j e) [
            | yes x ↦ subst DoneAccepted (back i j y) (g (j - i) (omega arith))
            | no x ↦ subst DoneAccepted (back e j x) (h (j - e) (omega arith))
          ]
        ]
      where
        back : (i j : ℕ) → (j < i → ⊥) → i + (j - i) ≡ j
        back i j y = omega arith

    module _ (core : Core) (version : SguVersion) (ram : List ℕ) (queues : List ℤ) (values : List ℕ) (stems : List ℤ) (i at : ℕ) (g : Ran core version ram queues values stems i at)
        (e t : ℕ) (low : i ≤ e) (mid : e ≤ t) (top : t ≤ count) (high : count ≤ length addresses) (stores : AllStore kinds addresses true i e)
        (ram1 : List ℕ) (core1 : Core) (er : ram1 ≡ calls_stored addresses values i (e - i) ram) (ec : core1 ≡ after_ram_writes (length ram1) (length (take (e - i) (drop i addresses))) (take (e - i) (drop i addresses)) core) where
      abbrev now : Listed
      now = standing ram core version queues values g.gave

      abbrev lent : Listed
      lent = lent_list core1 version ram1 queues values

      pub stored-long : length ram1 ≡ length s₀.ram
      stored-long = run_length i e now stores low (omega arith) ram1 er ∙ g.bytes

      accepted-now : AcceptedCore core version (length ram)
      accepted-now = subst (λ (n : ℕ). AcceptedCore core version n) (sym g.bytes) g.accepted

      -- at call e
      stored_is : standing ram1 core1 version queues values g.gave ≡ done e
      stored_is =
          let p : i + (e - i) ≡ e = omega arith in
          sym (run-left i e now stores low (omega arith) core1 ram1 er ec) ∙ ap (some i (e - i)) g.is ∙ sym (list-parts i (e - i) s₀) ∙ ap done p

      pub stored-accepted : AcceptedCore core1 version (length ram1)
      stored-accepted =
          let k = run-kept i e now stores low (omega arith) accepted-now (e - i) (omega arith) in
          subst (λ (n : ℕ). AcceptedCore core1 version n) (sym (run_length i e now stores low (omega arith) ram1 er))
          (subst (λ (x : Listed). AcceptedCore x.core x.version (length ram)) (run-left i e now stores low (omega arith) core1 ram1 er ec) k)

      stored-before : (m : ℕ) → m ≤ e - i → DoneAccepted (i + m)
      stored-before m h =
          subst (λ (x : Listed). AcceptedCore x.core x.version (length s₀.ram)) (ap (some i m) g.is ∙ sym (list-parts i m s₀))
          (subst (λ (n : ℕ). AcceptedCore (some i m now).core (some i m now).version n) g.bytes (run-kept i e now stores low (omega arith) accepted-now m h))

      -- m calls more
      then_is : (m : ℕ) → behind_stems g.gave (some e m (clock_turns 0 4 0 lent)) ≡ done (e + m)
      then_is m =
          ap (λ (x : Listed). behind_stems g.gave (some e m x)) (turns-none 0 4 lent)
          ∙ sym (list-behind g.gave e m lent)
          ∙ ap (some e m) (λ j. standing ram1 core1 version queues values (append-nil g.gave j)) ∙ ap (some e m) stored_is ∙ sym (list-parts e m s₀)

      gave-long : length g.gave ≡ stems_per_frame * frames_asked kinds addresses 0 i
      gave-long =
          let l = list-long 0 i s₀ in
          let z : length s₀.stems ≡ 0 = ap length start in
          ap (λ (x : Listed). length x.stems) g.is ∙ omega (arith, l, z)

      -- there is room for the stems of the second run
      pub run_room : stems_per_frame * frames_asked kinds addresses 0 count ≤ length stems₀ → at + (2 * 0 + stems_per_frame * frames_asked kinds addresses e (t - e)) ≤ length stems
      run_room r =
          let l : length stems ≡ length stems₀ = ap length g.filled ∙ length-sets stems₀ 0 g.gave in
          let a = frames-parts kinds addresses i (e - i) in
          let p : i + (e - i) ≡ e = omega arith in
          let b = frames-parts kinds addresses e (t - e) in
          let q : e + (t - e) ≡ t = omega arith in
          let d = frames-parts kinds addresses t (count - t) in
          let u : t + (count - t) ≡ count = omega arith in
          let a1 : frames_asked kinds addresses 0 e ≡ frames_asked kinds addresses 0 i + frames_asked kinds addresses i (e - i) = ap (frames_asked kinds addresses 0) (sym p) ∙ a in
          let b1 : frames_asked kinds addresses 0 t ≡ frames_asked kinds addresses 0 e + frames_asked kinds addresses e (t - e) = ap (frames_asked kinds addresses 0) (sym q) ∙ b in
          let d1 : frames_asked kinds addresses 0 count ≡ frames_asked kinds addresses 0 t + frames_asked kinds addresses t (count - t) = ap (frames_asked kinds addresses 0) (sym u) ∙ d in
          room-sum _ _ _ _ _ _ _ _ _ _ l (g.behind ∙ gave-long) a1 b1 d1 r
        where
          room-sum : (at fi fe ft fc ie et tc sn s0 : ℕ) → sn ≡ s0 → at ≡ 16 * fi → fe ≡ fi + ie → ft ≡ fe + et → fc ≡ ft + tc → 16 * fc ≤ s0 → at + (2 * 0 + 16 * et) ≤ sn
          room-sum at fi fe ft fc ie et tc sn s0 a b c d e f = omega arith

      -- after it
      module _ (none : AllStore kinds addresses false e t) (core2 : Core) (version2 : SguVersion) (queues2 : List ℤ) (values2 : List ℕ) (stems2 : List ℤ) (at2 : ℕ) where
        abbrev X : Listed
        X = some e (t - e) (clock_turns 0 4 0 lent)

        abbrev x-long : length X.stems ≡ 0 + stems_per_frame * frames_asked kinds addresses e (t - e)
        x-long = list-long e (t - e) (clock_turns 0 4 0 lent) ∙ ap (λ (y : Listed). length y.stems + stems_per_frame * frames_asked kinds addresses e (t - e)) (turns-none 0 4 lent)

        pub run-made : core2 ≡ X.core → version2 ≡ X.version → queues2 ≡ X.queues → values2 ≡ X.values → stems2 ≡ sets stems at X.stems
            → at2 ≡ at + (2 * 0 + stems_per_frame * frames_asked kinds addresses e (t - e)) → AcceptedCore core2 version2 (length ram1) → EachAccepted kinds addresses 0 4 e (t - e) (clock_turns 0 4 0 lent)
            → length queues2 ≡ length queues → length values2 ≡ length values → Ran core2 version2 ram1 queues2 values2 stems2 t at2
        run-made k v q w st a ok each lq lv =
            let r : ram1 ≡ X.ram = sym (list-ram e t none (clock_turns 0 4 0 lent) (t - e) (omega arith)) in
            let p : e + (t - e) ≡ t = omega arith in
            record {
              gave = g.gave ++ X.stems;
              is = (λ j. standing (r j) (k j) (v j) (q j) (w j) (g.gave ++ X.stems)) ∙ then_is (t - e) ∙ ap done p;
              within = top;
              accepted = subst (λ (n : ℕ). AcceptedCore core2 version2 n) stored-long ok;
              bytes = stored-long;
              entries = lq ∙ g.entries;
              long = lv ∙ g.long;
              filled =
                  st ∙ ap₂ (λ (l : List ℤ) (n : ℕ). sets l n X.stems) g.filled (g.behind ∙ zero-add (length g.gave)) ∙ sym (sets-append g.gave X.stems stems₀ 0);
              behind = let z = length-append g.gave X.stems in omega (arith, z, a, x-long, g.behind);
              before = both-parts i e t low mid g.before stored-before (λ m h. subst (λ (y : Listed). AcceptedCore y.core y.version (length s₀.ram)) (then_is m) (subst (λ (n : ℕ). AcceptedCore (some e m (clock_turns 0 4 0 lent)).core (some e m (clock_turns 0 4 0 lent)).version n) stored-long (each m h)));
            }

    -- the last run is over
    pub ran-all : (core : Core) (version : SguVersion) (ram : List ℕ) (queues : List ℤ) (values : List ℕ) (stems : List ℤ) (i at : ℕ) (g : Ran core version ram queues values stems i at) → count ≤ i → standing ram core version queues values g.gave ≡ done count
    ran-all core version ram queues values stems i at g h = g.is ∙ ap done (omega (arith, h, g.within))

    pub all-before : (core : Core) (version : SguVersion) (ram : List ℕ) (queues : List ℤ) (values : List ℕ) (stems : List ℤ) (i at : ℕ) (g : Ran core version ram queues values stems i at) → count ≤ i → EachAccepted kinds addresses 0 4 0 count s₀
    all-before core version ram queues values stems i at g h j l = g.before j (omega arith) (omega (arith, h, l))

-- a turn of the loop plays a call at least
pub onward : (kinds : List ℕ) (i e t count : ℕ) → i < count → i ≤ e → e ≤ t → (e < count → eqb (get_or kinds e 0) write_pcm_ram_kind ≡ false) → (t < count → eqb (get_or kinds t 0) write_pcm_ram_kind ≡ true) → i < t
onward kinds i e t count h l m f g =
    elim (dec_lt i t) [
      | yes y ↦ y
      | no y ↦ never (sym (g (omega arith)) ∙ ap (λ (k : ℕ). eqb (get_or kinds k 0) write_pcm_ram_kind) (same i e t l m y) ∙ f (omega arith))
    ]
  where
    same : (i e t : ℕ) → i ≤ e → e ≤ t → (i < t → ⊥) → t ≡ e
    same i e t l m y = omega arith
