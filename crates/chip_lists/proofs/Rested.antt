-- A list of calls where core 1 is at rest: it gives zeros and does not move, so core 0's own list is all. Assumes nothing.
use mathlib.Core.Path.{◌≡◌, refl, sym, ap, ◌∙◌}
use mathlib.Core.Bool.{Bool, true, false, cond}
use mathlib.Core.List.{List, [], ◌∷◌, ◌++◌}
use Prim.Native.Nat.{ℕ, zero, suc, ◌+◌, ◌*◌, ◌≤◌, ◌<◌}
use native.Mathlib.Omega.{arith}
use lib.Dec.{ltb}
use lib.IntN.{ℤ, pos}
use lib.ListN.{length, length-set, length-replicate, get_or, take, drop, replicate, replicate-append-replicate}
use borrow.Author.Tests.{eq-eqb}
use Rattle.sizes.specs.Sizes.{queue_buffer, stems_per_frame}
use Rattle.cores.specs.Sizes.{num_cores}
use Rattle.num.proofs.Choice.{together}
use Rattle.tone.specs.Pcm.{is_ram_length}
use Rattle.version.specs.Versions.{version_of, core_count}
use Rattle.version.specs.declared.SguVersion.{SguVersion}
use Rattle.voices.specs.Accepted.{accepts_core, SizedCore}
use Rattle.voices.specs.declared.Core.{Core}
use Rattle.voices.proofs.Accepting.{core-accepted}
use Rattle.voices.proofs.Voices.{length-register-queues}
use Rattle.frames.specs.declared.Asked.{Asked}
use Rattle.frames.specs.declared.Asked.TheVariants as variants
use Rattle.frames.specs.Listing.{asked_of, Listed, after_list, LeftBy, AcceptedAfter, call_as, listed, clocked_as, clocked_by, frames_asked, call_count, EachAccepted, may_play, played_of}
use Rattle.frames.specs.declared.Played.{Played}
use Rattle.std.specs.Prelude.{Some}
use Rattle.std.proofs.lemmas.Option.{same_Some}
use Rattle.frames.specs.Turning.{Turns, frames, no_turn}
use Rattle.frames.proofs.Asks.{asked, may-play, opened}
use Rattle.frames.proofs.Counts.{zero-add}
use Rattle.frames.proofs.Runs.{list-long}
use Rattle.rest.specs.Rest.{rests}
use Rattle.rest.proofs.Resting.{rest-frames, rest-ram, rest-version, rest-accepted}
use Rattle.s3w2.specs.declared.Chip.{Chip}
use Rattle.s3w2.specs.Chips.{core_at}
use Rattle.chip_sound.specs.Sound.{silent_turns}
use Rattle.chip_lists.specs.Plays.{Playing, playing, call_played, calls_played, all_played}
use Rattle.chip_lists.specs.Second.{Lends, Leaves, second_called}
use Rattle.s3w2.proofs.Fits.{core-accepts}
use Rattle.chip_lists.proofs.Parts.{lower_long, upper_long}
use Rattle.chip_sound.proofs.Runs.{sets-all}
use Rattle.chip_lists.proofs.Plays.{as_playing, call-played}
use Rattle.chip_lists.proofs.Ones.{lent_first, playing-as}

-- ---- what a list keeps: the lengths of the RAM and of the queue entries
module _ (kinds addresses : List ℕ) where
  call-lengths : (t : Asked) (i : ℕ) (s : Listed) → (length (call_as kinds addresses 0 4 t i s).ram ≡ length s.ram) × (length (call_as kinds addresses 0 4 t i s).queues ≡ length s.queues)
  call-lengths variants.WriteRegister i s = (refl, length-register-queues s.version s.core s.queues (get_or addresses i 0) (get_or s.values i 0))
  call-lengths variants.WritePcmRam i s = (length-set s.ram (get_or addresses i 0) (get_or s.values i 0), refl)
  call-lengths variants.Read i s = (refl, refl)
  call-lengths variants.Peek i s = (refl, refl)
  call-lengths variants.Clock i s = (refl, refl)
  call-lengths variants.SetVersion i s = (refl, refl)
  call-lengths variants.Nothing i s = (refl, refl)

  list-lengths : (n : ℕ) (s : Listed) → (length (listed kinds addresses 0 4 0 n s).ram ≡ length s.ram) × (length (listed kinds addresses 0 4 0 n s).queues ≡ length s.queues)
  unfolding listed
  list-lengths zero s = (refl, refl)
  list-lengths (suc n) s =
      let h = list-lengths n s in
      let k = call-lengths (asked_of (get_or kinds (0 + n) 0)) (0 + n) (listed kinds addresses 0 4 0 n s) in
      (k.0 ∙ h.0, k.1 ∙ h.1)

abbrev zeros : ℕ → List ℤ
zeros n = replicate (stems_per_frame * n) (pos 0)

zeros-more : (n m : ℕ) → zeros n ++ zeros m ≡ zeros (n + m)
zeros-more n m =
    let e : stems_per_frame * n + stems_per_frame * m ≡ stems_per_frame * (n + m) = omega arith in
    replicate-append-replicate (stems_per_frame * n) (stems_per_frame * m) (pos 0) ∙ ap (λ (k : ℕ). replicate k (pos 0)) e

-- ---- core 1 after a call
module _ (b : Core) (r : rests b ≡ true) (z : SizedCore b) where
  either : (t : Bool) (x y : Turns) → x ≡ y → cond t x y ≡ y
  either true x y e = e
  either false x y e = refl

  same-core : (t : Bool) (k : Core) → k ≡ b → cond t k b ≡ b
  same-core true k e = e
  same-core false k e = refl

  second-rests : (version : SguVersion) (ram : List ℕ) (queues : List ℤ) (t : Asked) (a : ℕ) → second_called version ram queues t a b ≡ silent_turns (clocked_as t a) b
  second-rests version ram queues variants.WriteRegister a = refl
  second-rests version ram queues variants.WritePcmRam a = ap no_turn (same-core (ltb a (length ram)) _ (rest-ram b r a))
  second-rests version ram queues variants.Read a = refl
  second-rests version ram queues variants.Peek a = refl
  second-rests version ram queues variants.Clock a = either (ltb 1 (core_count version)) (frames version ram queues a b) (silent_turns a b) (rest-frames b r version ram queues a)
  second-rests version ram queues variants.SetVersion a = ap no_turn (rest-version b r z (version_of a))
  second-rests version ram queues variants.Nothing a = refl

  -- ---- all calls
  module _ (kinds addresses : List ℕ) (l : Listed) (stems others upper : List ℤ) (allowed : is_ram_length (length l.ram) ≡ true) (low : length l.queues ≡ queue_buffer) (high : length upper ≡ queue_buffer) (fresh : length l.stems ≡ 0)
      (count : ℕ) (each : EachAccepted kinds addresses 0 4 0 count l) where
    abbrev done : ℕ → Listed
    done n = listed kinds addresses 0 4 0 n l

    abbrev asks : ℕ → ℕ
    asks n = frames_asked kinds addresses 0 n

    fine : (n : ℕ) → n < count → accepts_core (done n).core (done n).version (length (done n).ram) ≡ true
    fine n h =
        let e = (list-lengths kinds addresses n l).0 in
        ap (accepts_core (done n).core (done n).version) e ∙ core-accepted (done n).core (done n).version (length l.ram) (each n h)

    pub list-rests : (n : ℕ) → n ≤ count → calls_played kinds addresses n (as_playing stems others upper l b [] 0) ≡ as_playing stems others upper (listed kinds addresses 0 4 0 n l) b (replicate (stems_per_frame * frames_asked kinds addresses 0 n) (pos 0)) (frames_asked kinds addresses 0 n)
    unfolding calls_played listed frames_asked
    list-rests zero h = refl
    list-rests (suc n) h =
        let x = done n in
        let k = list-lengths kinds addresses n l in
        let t = asked_of (get_or kinds n 0) in
        let a = get_or addresses n 0 in
        let long = list-long kinds addresses 0 n l in
        let ok = together (accepts_core x.core x.version (length x.ram)) (accepts_core b x.version (length x.ram)) (fine n (omega arith)) (rest-accepted b r z x.version (length x.ram)) in
        ap (call_played kinds addresses t n) (list-rests n (omega arith))
        ∙ call-played stems others upper x b (zeros (asks n)) (asks n) (ap is_ram_length k.0 ∙ allowed) (k.1 ∙ low) high ok (omega (arith, long, fresh)) (length-replicate (stems_per_frame * asks n) (pos 0)) kinds addresses t n
        ∙ ap (λ (u : Turns). as_playing stems others upper (call_as kinds addresses 0 4 t n x) u.core (zeros (asks n) ++ u.stems) (asks n + clocked_as t a)) (second-rests x.version x.ram upper t a)
        ∙ ap (λ (g : List ℤ). as_playing stems others upper (call_as kinds addresses 0 4 t n x) b g (asks n + clocked_as t a)) (zeros-more (asks n) (clocked_as t a))
        ∙ ap (λ (i : ℕ). as_playing stems others upper (call_as kinds addresses 0 4 (asked_of (get_or kinds i 0)) i x) b (zeros (asks n + clocked_by kinds addresses i)) (asks n + clocked_by kinds addresses i)) (zero-add n)

-- ---- the chip
module _ (kinds addresses : List ℕ) (chip : Chip) (ram : List ℕ) (queues : List ℤ) (values : List ℕ) (stems others : List ℤ) (two : length chip.cores ≡ num_cores) (g : Lends kinds addresses (playing chip ram queues values stems others))
    (r : rests (core_at chip 1) ≡ true) (z : SizedCore (core_at chip 1)) where
  abbrev b : Core
  b = core_at chip 1

  abbrev l : Listed
  l = lent_first chip ram queues values

  abbrev n : ℕ
  n = call_count kinds addresses values

  first-may : may_play kinds addresses (length stems) l ≡ true
  first-may =
      let low = lower_long queues g.lent in
      let may = sym (asked chip.version ram (take queue_buffer queues) 4 (core_at chip 0) low (omega arith) (omega arith)) ∙ core-accepts chip (length ram) g.accepted 0 (omega arith) in
      sym (may-play kinds addresses (length stems) l may) ∙ eq-eqb (length stems) (stems_per_frame * frames_asked kinds addresses 0 n) g.enough

  abbrev p : Listed
  p = played_of kinds addresses (length stems) l

  pub first-left : (may_play kinds addresses (length stems) (lent_first chip ram queues values) ≡ true → EachAccepted kinds addresses 0 4 0 (call_count kinds addresses values) (lent_first chip ram queues values))
      → (u : Played) (ram1 : List ℕ) (lower : List ℤ) (values1 : List ℕ) (stems1 others1 : List ℤ)
      → Some u ≡ after_list (played_of kinds addresses (length stems) (lent_first chip ram queues values))
      → LeftBy (played_of kinds addresses (length stems) (lent_first chip ram queues values)) 0 stems ram1 lower values1 stems1
      → others1 ≡ replicate (length others) (pos 0)
      → (accepts_core (core_at chip 0) chip.version (length ram) ≡ true → AcceptedAfter (played_of kinds addresses (length stems) (lent_first chip ram queues values)) (length ram))
      → Leaves (all_played kinds addresses (playing chip ram queues values stems others)) (record { version = u.version; cores = u.core ∷ core_at chip 1 ∷ [] }) ram1 (lower ++ drop queue_buffer queues) values1 stems1 others1
  first-left each u ram1 lower values1 stems1 others1 su left eo ok =
      let is : u ≡ record { core = p.core; version = p.version } = same_Some _ _ su in
      let f = frames_asked kinds addresses 0 n in
      let upper = drop queue_buffer queues in
      let low = lower_long queues g.lent in
      let high = upper_long queues g.lent in
      let e : listed kinds addresses 0 4 0 n l ≡ p = opened kinds addresses (length stems) l first-may n refl in
      let whole : as_playing stems others upper p b (zeros f) f ≡ all_played kinds addresses (playing chip ram queues values stems others) =
      sym (ap (calls_played kinds addresses n) (playing-as chip ram queues values stems others two)
      ∙ list-rests b r z kinds addresses l stems others upper g.allowed low high refl n (each first-may) n (omega arith)
      ∙ ap (λ (x : Listed). as_playing stems others upper x b (zeros f) f) e)
      in
      let long : length ram1 ≡ length ram = ap length (left.ram_is ∙ ap (λ (x : Listed). x.ram) (sym e)) ∙ (list-lengths kinds addresses n l).0 in
      let full : length others ≡ stems_per_frame * f = g.alike ∙ g.enough in
      record {
        chip-is = (λ j. record { version = (is j).version; cores = (is j).core ∷ b ∷ [] }) ∙ ap (λ (y : Playing). y.chip) whole;
        ram-is = left.ram_is ∙ ap (λ (y : Playing). y.ram) whole;
        queues-is = ap (λ (q : List ℤ). q ++ upper) left.queues_is ∙ ap (λ (y : Playing). y.queues) whole;
        values-is = left.values_is ∙ ap (λ (y : Playing). y.values) whole;
        stems-is = left.stems_is ∙ ap (λ (y : Playing). y.stems) whole;
        others-is = eo ∙ ap (λ (k : ℕ). replicate k (pos 0)) full ∙ sym (sets-all others (zeros f) (full ∙ sym (length-replicate (stems_per_frame * f) (pos 0)))) ∙ ap (λ (y : Playing). y.others) whole;
        accepted = together (accepts_core u.core u.version (length ram1)) (accepts_core b u.version (length ram1)) (ap (accepts_core u.core u.version) long ∙ ap (λ (x : Played). accepts_core x.core x.version (length ram)) is ∙ ok (core-accepts chip (length ram) g.accepted 0 (omega arith))) (rest-accepted b r z u.version (length ram1));
      }
