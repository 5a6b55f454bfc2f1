-- A list of calls where core 1 is at rest: played, or turned away. Assumes nothing.
use Rattle.std.specs.Prelude.{Ok, Err}
use mathlib.Core.Path.{◌≡◌, refl, sym, ap, ap₂, ◌∙◌, subst}
use mathlib.Core.Bool.{Bool, true, false, cond, ◌&&◌}
use mathlib.Core.List.{List}
use Prim.Native.Nat.{ℕ, ◌*◌}
use native.Mathlib.Omega.{arith}
use lib.Dec.{eqb}
use lib.IntN.{ℤ, pos}
use lib.ListN.{length, take, replicate}
use borrow.Author.Tests.{eqb-true, eq-eqb, ne_eqb}
use Rattle.sizes.specs.Sizes.{queue_buffer, stems_per_frame}
use Rattle.cores.specs.Sizes.{chip_queues}
use Rattle.num.proofs.Choice.{both, never, together}
use Rattle.tone.specs.Pcm.{is_ram_length}
use Rattle.voice.proofs.Tests.{fails, passes}
use Rattle.voices.specs.Accepted.{accepts_core, SizedCore}
use Rattle.voices.specs.declared.Core.{Core}
use Rattle.frames.specs.Listing.{Listed, frames_asked, call_count, may_play}
use Rattle.frames.specs.Turning.{may_run}
use Rattle.frames.proofs.Asks.{asked, may-play}
use Rattle.rest.specs.Rest.{rests}
use Rattle.rest.proofs.Resting.{rest-accepted}
use Rattle.s3w2.specs.declared.Returned.TheVariants.{Done}
use Rattle.s3w2.specs.declared.Refusal.{Refusal}
use Rattle.s3w2.specs.declared.Refusal.TheVariants.{StemBuffer}
use Rattle.s3w2.specs.declared.Called.{Called}
use Rattle.s3w2.specs.declared.Chip.{Chip}
use Rattle.s3w2.specs.Answers.{answered}
use Rattle.s3w2.specs.Chips.{core_at}
use Rattle.chip_lists.specs.Plays.{Playing, playing, all_played}
use Rattle.s3w2.specs.Refusals.{accepts_chip, refusal}
use Rattle.chip_lists.specs.Second.{is_alone, Lends, Leaves, Says}
use Rattle.s3w2.proofs.Fits.{core-accepts}
use Rattle.chip_lists.proofs.Listed.{turned-away, played}
use Rattle.chip_lists.proofs.Ones.{lent_first}
use Rattle.chip_lists.proofs.Parts.{lower_long}
use Rattle.s3w2.proofs.Refused.{nothing-amiss}

-- what the test says
pub record Alone (second : Core) (ram queues stems others : ℕ) : Type 0 where
  pub allowed : is_ram_length ram ≡ true
  pub lent : queues ≡ chip_queues
  pub alike : others ≡ stems
  pub still : rests second ≡ true

pub alone : (second : Core) (ram queues stems others : ℕ) → is_alone second ram queues stems others ≡ true → Alone second ram queues stems others
unfolding is_alone
alone second ram queues stems others e =
    let a = both (is_ram_length ram) _ e in
    let b = both (eqb queues chip_queues) _ a.1 in
    let d = both (eqb others stems) _ b.1 in
    record { allowed = a.0; lent = eqb-true _ _ b.0; alike = eqb-true _ _ d.0; still = d.1 }

module _ (second : Core) (ram queues stems others : ℕ) where
  pub no-ram : is_ram_length ram ≡ false → false ≡ is_alone second ram queues stems others
  unfolding is_alone
  no-ram e = fails _ _ e

  pub no-queues : is_ram_length ram ≡ true → (queues ≡ chip_queues → ⊥) → false ≡ is_alone second ram queues stems others
  unfolding is_alone
  no-queues a h = passes _ _ a (fails _ _ (ne_eqb queues chip_queues h))

  pub no-others : is_ram_length ram ≡ true → queues ≡ chip_queues → (others ≡ stems → ⊥) → false ≡ is_alone second ram queues stems others
  unfolding is_alone
  no-others a e h = passes _ _ a (passes _ _ (eq-eqb queues chip_queues e) (fails _ _ (ne_eqb others stems h)))

  pub by-rest : is_ram_length ram ≡ true → queues ≡ chip_queues → others ≡ stems → rests second ≡ is_alone second ram queues stems others
  unfolding is_alone
  by-rest a e h = passes _ _ a (passes _ _ (eq-eqb queues chip_queues e) (passes _ _ (eq-eqb others stems h) refl))

-- a state that is not accepted is told before a stem buffer that is too short
without-stems : (a l state stems : Bool) → (state ≡ true → stems ≡ false) → refusal a l state false ≡ refusal a l state stems
unfolding refusal
without-stems true true true stems h = ap (λ (b : Bool). cond b (Ok tt) (Err StemBuffer)) (sym (h refl))
without-stems true true false stems h = refl
without-stems true false state stems h = refl
without-stems false l state stems h = refl

-- a list that is not turned away, and is not core 0's own: core 1 is not at rest
pub restless : {A : Type 0} (kinds addresses : List ℕ) (s : Playing) → Lends kinds addresses s → is_alone (core_at s.chip 1) (length s.ram) (length s.queues) (length s.stems) (length s.others) ≡ false → rests (core_at s.chip 1) ≡ true → A
restless kinds addresses s g e r = never (sym r ∙ by-rest (core_at s.chip 1) (length s.ram) (length s.queues) (length s.stems) (length s.others) g.allowed g.lent g.alike ∙ e)

module _ (kinds addresses : List ℕ) (chip : Chip) (ram : List ℕ) (queues : List ℤ) (values : List ℕ) (stems others : List ℤ) (g : Alone (core_at chip 1) (length ram) (length queues) (length stems) (length others)) where
  abbrev l : Listed
  l = lent_first chip ram queues values

  abbrev s : Playing
  s = playing chip ram queues values stems others

  abbrev enough : Bool
  enough = eqb (length stems) (stems_per_frame * frames_asked kinds addresses 0 (call_count kinds addresses values))

  may-run : accepts_core (core_at chip 0) chip.version (length ram) ≡ may_run chip.version ram (take queue_buffer queues) 4 (core_at chip 0)
  may-run = asked chip.version ram (take queue_buffer queues) 4 (core_at chip 0) (lower_long queues g.lent) (omega arith) (omega arith)

  -- ---- turned away
  module _ (barred : may_play kinds addresses (length stems) (lent_first chip ram queues values) ≡ false) where
    too_short : accepts_chip chip (length ram) ≡ true → (enough && eqb (length others) (length stems)) ≡ false
    too_short ok =
        let m = sym may-run ∙ core-accepts chip (length ram) ok 0 (omega arith) in
        sym (fails enough (eqb (length others) (length stems)) (may-play kinds addresses (length stems) l m ∙ barred))

    pub first-away : (why : Refusal) (ram1 : List ℕ) (queues1 : List ℤ) (values1 : List ℕ) (stems1 : List ℤ) (u : Called)
        → Err why ≡ refusal (is_ram_length (length ram1)) (eqb (length queues1) chip_queues) (accepts_chip chip (length ram1)) false → u ≡ answered chip (Err why)
        → ram1 ≡ ram → queues1 ≡ queues → values1 ≡ values → stems1 ≡ stems
        → Says kinds addresses (playing chip ram queues values stems others) u ram1 queues1 values1 stems1 others
    first-away why ram1 queues1 values1 stems1 u e eu er eq ev es =
        let a = is_ram_length (length ram) in
        let k = eqb (length queues) chip_queues in
        let ok = accepts_chip chip (length ram) in
        let here : Err why ≡ refusal a k ok false = e ∙ ap₂ (λ (x : List ℕ) (y : List ℤ). refusal (is_ram_length (length x)) (eqb (length y) chip_queues) (accepts_chip chip (length x)) false) er eq in
        let said = turned-away kinds addresses s (Err why) enough refl (here ∙ without-stems a k ok (enough && eqb (length others) (length stems)) too_short) why refl u eu in
        subst (λ (x : List ℤ). Says kinds addresses s u ram1 queues1 values1 x others) (sym es)
        (subst (λ (x : List ℕ). Says kinds addresses s u ram1 queues1 x stems others) (sym ev)
        (subst (λ (x : List ℤ). Says kinds addresses s u ram1 x values stems others) (sym eq) (subst (λ (x : List ℕ). Says kinds addresses s u x queues values stems others) (sym er) said)))

  -- ---- played
  module _ (z : SizedCore (core_at chip 1)) (open' : may_play kinds addresses (length stems) (lent_first chip ram queues values) ≡ true) where
    ok : accepts_core (core_at chip 0) chip.version (length ram) ≡ true
    unfolding may_play
    ok = may-run ∙ (both (may_run chip.version ram (take queue_buffer queues) 4 (core_at chip 0)) enough open').0

    accepted : accepts_chip chip (length ram) ≡ true
    accepted = together (accepts_core (core_at chip 0) chip.version (length ram)) (accepts_core (core_at chip 1) chip.version (length ram)) ok (rest-accepted (core_at chip 1) g.still z chip.version (length ram))

    filled : enough ≡ true
    filled = may-play kinds addresses (length stems) l (sym may-run ∙ ok) ∙ open'

    pub first-lends : Lends kinds addresses (playing chip ram queues values stems others)
    first-lends = record {
      allowed = g.allowed;
      lent = g.lent;
      accepted = accepted;
      enough = eqb-true (length stems) (stems_per_frame * frames_asked kinds addresses 0 (call_count kinds addresses values)) filled;
      alike = g.alike;
    }

    pub first-played : (u : Called) (next : Chip) (ram1 : List ℕ) (queues1 : List ℤ) (values1 : List ℕ) (stems1 others1 : List ℤ) → u ≡ answered next (Ok Done)
        → Leaves (all_played kinds addresses (playing chip ram queues values stems others)) next ram1 queues1 values1 stems1 others1 → length ram1 ≡ length ram
        → others1 ≡ replicate (length others) (pos 0) → Says kinds addresses (playing chip ram queues values stems others) u ram1 queues1 values1 stems1 others1
    first-played u next ram1 queues1 values1 stems1 others1 eu leaves long cleared =
        let e = nothing-amiss (is_ram_length (length ram)) (eqb (length queues) chip_queues) (accepts_chip chip (length ram)) (enough && eqb (length others) (length stems))
        g.allowed (eq-eqb (length queues) chip_queues g.lent) accepted (together enough (eqb (length others) (length stems)) filled (eq-eqb (length others) (length stems) g.alike)) in
        played kinds addresses s (Ok tt) enough refl e refl u next ram1 queues1 values1 stems1 others1 eu leaves long (λ _. cleared)
