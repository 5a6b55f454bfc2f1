-- A list of one call as `frames` plays it, and as core 1 does. Assumes nothing.
use Rattle.std.specs.Prelude.{Some, None}
use Rattle.std.proofs.lemmas.Option.{same_Some}
use mathlib.Core.Path.{◌≡◌, refl, sym, ap, ◌∙◌, subst}
use mathlib.Core.Bool.{Bool, true, false, cond, ◌&&◌}
use mathlib.Core.List.{List}
use Prim.Native.Nat.{ℕ, ◌*◌}
use native.Mathlib.Omega.{arith}
use lib.Dec.{ltb}
use lib.IntN.{ℤ, pos}
use lib.ListN.{length, length-replicate, get_or, replicate}
use lib.Seq.{sets}
use borrow.Author.Tests.{eq-eqb, ltb-true, ltb-false, lt-ltb, le-ltb}
use Rattle.sizes.specs.Sizes.{queue_buffer, stems_per_frame}
use Rattle.num.proofs.Choice.{both, never}
use Rattle.version.specs.Versions.{core_count}
use Rattle.version.specs.declared.SguVersion.{SguVersion}
use Rattle.voices.specs.Accepted.{accepts_core}
use Rattle.voices.specs.declared.Core.{Core}
use denote.Enum.Bare.{sameb}
use Rattle.frames.specs.contracts.Asked.{the_type}
use Rattle.frames.specs.declared.Asked.{Asked}
use Rattle.frames.specs.declared.Asked.TheVariants as variants
use Rattle.frames.specs.Listing.{asked_of, Listed, lent_list, LeftBy, AcceptedAfter, call_as, listed, clocked_as, clocked_by, frames_asked, call_count, may_play, played_of, play_answer}
use Rattle.frames.specs.declared.Played.{Played}
use Rattle.frames.specs.Turning.{Turns, frames}
use Rattle.frames.proofs.Asks.{asked, may-play, opened, was-played, was-not}
use Rattle.frames.proofs.Counts.{zero-add}
use Rattle.frames.proofs.Framing.{frames-turns}
use Rattle.chip_sound.specs.Sound.{silent_turns}
use Rattle.chip_lists.specs.Second.{is_shared, is_clock, second_called, SecondLeaves}
use Rattle.chip_sound.proofs.Runs.{sets-all}

-- ---- what `frames` plays of it
module _ (kinds addresses : List ℕ) (stems : ℕ) (s : Listed) (one : length kinds ≡ 1) (at : length addresses ≡ 1) (with_value : length s.values ≡ 1) where
  one-count : 1 ≡ call_count kinds addresses s.values
  one-count = omega (arith, one, at, with_value)

  pub one-frames : frames_asked kinds addresses 0 (call_count kinds addresses s.values) ≡ clocked_by kinds addresses 0
  unfolding frames_asked
  one-frames = ap (frames_asked kinds addresses 0) (sym one-count) ∙ sym (zero-add (clocked_by kinds addresses 0))

  module _ (lent : length s.queues ≡ queue_buffer) (ok : accepts_core s.core s.version (length s.ram) ≡ true) (e : stems ≡ stems_per_frame * clocked_by kinds addresses 0) where
    pub one-may : may_play kinds addresses stems s ≡ true
    one-may =
        let may = sym (asked s.version s.ram s.queues 4 s.core lent (omega arith) (omega arith)) ∙ ok in
        let n = stems_per_frame * frames_asked kinds addresses 0 (call_count kinds addresses s.values) in
        sym (may-play kinds addresses stems s may) ∙ eq-eqb stems n (e ∙ ap (λ (k : ℕ). stems_per_frame * k) (sym one-frames))

    pub one-played : call_as kinds addresses 0 4 (asked_of (get_or kinds 0 0)) 0 s ≡ played_of kinds addresses stems s
    unfolding listed
    one-played = opened kinds addresses stems s one-may 1 one-count

    -- it is played
    pub one-there : {A : Type 0} → play_answer kinds addresses stems s ≡ None → A
    one-there h = never (sym one-may ∙ was-not kinds addresses stems s h)

    pub one-is : (p : Played) → play_answer kinds addresses stems s ≡ Some p → p ≡ record { core = (played_of kinds addresses stems s).core; version = (played_of kinds addresses stems s).version }
    one-is p h = same_Some _ _ (was-played kinds addresses stems s p h).1

-- ---- core 1
same-clock : (t : Asked) → sameb the_type t variants.Clock ≡ is_clock t
same-clock variants.WriteRegister = refl
same-clock variants.WritePcmRam = refl
same-clock variants.Read = refl
same-clock variants.Peek = refl
same-clock variants.Clock = refl
same-clock variants.SetVersion = refl
same-clock variants.Nothing = refl

pub clock-found : (b : Bool) (call t : Asked) → b ≡ sameb the_type call variants.Clock → call ≡ t → b ≡ is_clock t
clock-found b call t e h = e ∙ same-clock call ∙ ap is_clock h

-- a clock under a version of n cores
module _ (t : Asked) (n : ℕ) (version : SguVersion) (cores : n ≡ core_count version) where
  pub is-lacking : (is_clock t && ltb n 2) ≡ true → (is_clock t ≡ true) × (ltb 1 (core_count version) ≡ false)
  is-lacking e =
      let a = both (is_clock t) (ltb n 2) e in
      let l = ltb-true n 2 a.1 in
      (a.0, le-ltb 1 (core_count version) (omega (arith, l, cores)))

  pub is-there : (is_clock t && ltb n 2) ≡ false → is_clock t ≡ true → ltb 1 (core_count version) ≡ true
  is-there e h =
      let l = ltb-false n 2 (sym (ap (λ (b : Bool). b && ltb n 2) h) ∙ e) in
      lt-ltb 1 (core_count version) (omega (arith, l, cores))

module _ (kinds addresses : List ℕ) (core : Core) (version : SguVersion) (ram : List ℕ) (queues : List ℤ) (values : List ℕ) (others : List ℤ) (ok : accepts_core core version (length ram) ≡ true) where
  abbrev s : Listed
  s = lent_list core version ram queues values

  abbrev a : ℕ
  a = get_or addresses 0 0

  -- a call that is not its own
  pub unshared : (t : Asked) → is_shared t ≡ false → SecondLeaves kinds addresses t (lent_list core version ram queues values) others core ram queues values others
  unshared variants.WriteRegister h = record { core_is = refl; others-is = refl; ram-is = refl; queues-is = refl; values-is = refl; accepted = ok }
  unshared variants.WritePcmRam h = never h
  unshared variants.Read h = record { core_is = refl; others-is = refl; ram-is = refl; queues-is = refl; values-is = refl; accepted = ok }
  unshared variants.Peek h = record { core_is = refl; others-is = refl; ram-is = refl; queues-is = refl; values-is = refl; accepted = ok }
  unshared variants.Clock h = never h
  unshared variants.SetVersion h = never h
  unshared variants.Nothing h = record { core_is = refl; others-is = refl; ram-is = refl; queues-is = refl; values-is = refl; accepted = ok }

  abbrev F : Turns
  F = frames version ram queues a core

  -- frames under a version that lacks it
  pub lacking : (t : Asked) → is_clock t ≡ true → ltb 1 (core_count version) ≡ false → length others ≡ stems_per_frame * clocked_as t (get_or addresses 0 0) → (zeros : List ℤ) → zeros ≡ replicate (length others) (pos 0)
      → SecondLeaves kinds addresses t (lent_list core version ram queues values) others core ram queues values zeros
  lacking variants.WriteRegister e h g zeros z = never (sym e)
  lacking variants.WritePcmRam e h g zeros z = never (sym e)
  lacking variants.Read e h g zeros z = never (sym e)
  lacking variants.Peek e h g zeros z = never (sym e)
  lacking variants.Clock e h g zeros z = record {
    core_is = sym (ap (λ (b : Bool). (cond b F (silent_turns a core)).core) h);
    others-is =
        z ∙ sym (sets-all others (replicate (length others) (pos 0)) (sym (length-replicate (length others) (pos 0)))) ∙ ap (λ (n : ℕ). sets others 0 (replicate n (pos 0))) g
        ∙ sym (ap (λ (b : Bool). sets others 0 (cond b F (silent_turns a core)).stems) h);
    ram-is = refl;
    queues-is = refl;
    values-is = refl;
    accepted = ok;
  }
  lacking variants.SetVersion e h g zeros z = never (sym e)
  lacking variants.Nothing e h g zeros z = never (sym e)

  -- a call that it plays
  record Second (t : Asked) : Type 0 where
    core-played : (call_as kinds addresses 0 4 t 0 s).core ≡ (second_called version ram queues t a core).core
    others-played : sets others 0 (call_as kinds addresses 0 4 t 0 s).stems ≡ sets others 0 (second_called version ram queues t a core).stems
    queues-kept : (call_as kinds addresses 0 4 t 0 s).queues ≡ queues
    values-kept : (call_as kinds addresses 0 4 t 0 s).values ≡ values

  second-played : (t : Asked) → is_shared t ≡ true → (is_clock t ≡ true → ltb 1 (core_count version) ≡ true) → Second t
  second-played variants.WriteRegister h there = never (sym h)
  second-played variants.WritePcmRam h there = record { core-played = refl; others-played = refl; queues-kept = refl; values-kept = refl }
  second-played variants.Read h there = never (sym h)
  second-played variants.Peek h there = never (sym h)
  second-played variants.Clock h there =
      let e = frames-turns version ram queues core a in
      let g = there refl in
      record {
        core-played = ap (λ (t : Turns). t.core) e ∙ sym (ap (λ (b : Bool). (cond b F (silent_turns a core)).core) g);
        others-played = ap (λ (t : Turns). sets others 0 t.stems) e ∙ sym (ap (λ (b : Bool). sets others 0 (cond b F (silent_turns a core)).stems) g);
        queues-kept = refl;
        values-kept = refl;
      }
  second-played variants.SetVersion h there = record { core-played = refl; others-played = refl; queues-kept = refl; values-kept = refl }
  second-played variants.Nothing h there = never (sym h)

  pub shared : (t : Asked) → is_shared t ≡ true → (is_clock t ≡ true → ltb 1 (core_count version) ≡ true) → (p : Listed) → call_as kinds addresses 0 4 t 0 (lent_list core version ram queues values) ≡ p
      → (r : Core) (ram1 : List ℕ) (queues1 : List ℤ) (values1 : List ℕ) (others1 : List ℤ)
      → r ≡ p.core → LeftBy p 0 others ram1 queues1 values1 others1 → AcceptedAfter p (length ram)
      → SecondLeaves kinds addresses t (lent_list core version ram queues values) others r ram1 queues1 values1 others1
  shared t h there p e r ram1 queues1 values1 others1 er l fine =
      let g = second-played t h there in
      record {
        core_is = er ∙ ap (λ (x : Listed). x.core) (sym e) ∙ g.core-played;
        others-is = l.stems_is ∙ ap (λ (x : Listed). sets others 0 x.stems) (sym e) ∙ g.others-played;
        ram-is = l.ram_is ∙ ap (λ (x : Listed). x.ram) (sym e);
        queues-is = l.queues_is ∙ ap (λ (x : Listed). x.queues) (sym e) ∙ g.queues-kept;
        values-is = l.values_is ∙ ap (λ (x : Listed). x.values) (sym e) ∙ g.values-kept;
        accepted = ap (λ (x : Core). accepts_core x (call_as kinds addresses 0 4 t 0 s).version (length ram)) er ∙ subst (λ (x : Listed). accepts_core p.core x.version (length ram) ≡ true) (sym e) fine;
      }
