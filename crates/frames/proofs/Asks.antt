-- What turns ask for, test by test. Assumes nothing.
use Rattle.std.proofs.Common.{◌≡◌, ℕ, ◌*◌, ◌<◌, ◌≤◌, Bool, true, false, eqb, leb, Some, None, List, length, ℤ, sym, refl, ap, ◌∙◌, subst, eq-eqb, ne_eqb, eqb-true, le-leb, leb-true}
use lib.Seq.{sets}
use borrow.Author.Tests.{lt-leb}
use Rattle.std.proofs.lemmas.Option.{none-some}
use Rattle.sizes.specs.Sizes.{queue_buffer, stems_per_frame}
use Rattle.num.proofs.Choice.{both, never}
use Rattle.version.specs.declared.SguVersion.{SguVersion}
use Rattle.voice.proofs.Tests.{fails, passes, first-arm, second-arm}
use Rattle.voices.specs.Accepted.{accepts_core}
use Rattle.voices.specs.declared.Core.{Core}
use Rattle.frames.specs.Listing.{Listed, after_list, LeftBy, AcceptedAfter, listed, frames_asked, EachAccepted, call_count, may_play, played_of, play_answer}
use Rattle.frames.specs.declared.Played.{Played}
use Rattle.frames.specs.Turning.{no_turn, turned, may_run, run_of}

module _ (version : SguVersion) (ram : List ℕ) (queues : List ℤ) (n : ℕ) (core : Core) where
  pub no-queues : (length queues ≡ queue_buffer → ⊥) → false ≡ may_run version ram queues n core
  unfolding may_run
  no-queues h = fails _ _ (ne_eqb (length queues) queue_buffer h)

  pub no-ticks : length queues ≡ queue_buffer → n < 1 → false ≡ may_run version ram queues n core
  unfolding may_run
  no-ticks e h = passes _ _ (eq-eqb (length queues) queue_buffer e) (fails _ _ (lt-leb 1 n h))

  pub more-ticks : length queues ≡ queue_buffer → 1 ≤ n → 4 < n → false ≡ may_run version ram queues n core
  unfolding may_run
  more-ticks e l h = passes _ _ (eq-eqb (length queues) queue_buffer e) (passes _ _ (le-leb 1 n l) (fails _ _ (lt-leb n 4 h)))

  pub asked : length queues ≡ queue_buffer → 1 ≤ n → n ≤ 4 → accepts_core core version (length ram) ≡ may_run version ram queues n core
  unfolding may_run
  asked e l h = passes _ _ (eq-eqb (length queues) queue_buffer e) (passes _ _ (le-leb 1 n l) (passes _ _ (le-leb n 4 h) refl))

  -- what they say together
  pub record May : Type 0 where
    pub entries : length queues ≡ queue_buffer
    pub low : 1 ≤ n
    pub high : n ≤ 4
    pub accepted : accepts_core core version (length ram) ≡ true

  pub may : may_run version ram queues n core ≡ true → May
  unfolding may_run
  may e =
      let a = both (eqb (length queues) queue_buffer) _ e in
      let b = both (leb 1 n) _ a.1 in
      let d = both (leb n 4) _ b.1 in
      record { entries = eqb-true _ _ a.0; low = leb-true _ _ b.0; high = leb-true _ _ d.0; accepted = d.1 }

  pub ran : (first k : ℕ) → may_run version ram queues n core ≡ true → turned version ram queues first n k core ≡ run_of version ram queues first n k core
  unfolding run_of
  ran first k e = first-arm _ (turned version ram queues first n k core) (no_turn core) e

  pub refused : (first k : ℕ) → may_run version ram queues n core ≡ false → no_turn core ≡ run_of version ram queues first n k core
  unfolding run_of
  refused first k e = second-arm _ (turned version ram queues first n k core) (no_turn core) e

-- ---- what a list asks for
module _ (kinds addresses : List ℕ) (stems : ℕ) (s : Listed) where
  abbrev count : ℕ
  count = call_count kinds addresses s.values

  abbrev enough : Bool
  enough = eqb stems (stems_per_frame * frames_asked kinds addresses 0 (call_count kinds addresses s.values))

  pub may-play : may_run s.version s.ram s.queues 4 s.core ≡ true → eqb stems (stems_per_frame * frames_asked kinds addresses 0 (call_count kinds addresses s.values)) ≡ may_play kinds addresses stems s
  unfolding may_play
  may-play h = passes _ enough h refl

  pub may-not : may_run s.version s.ram s.queues 4 s.core ≡ false → false ≡ may_play kinds addresses stems s
  unfolding may_play
  may-not h = fails _ enough h

  pub opened : may_play kinds addresses stems s ≡ true → (n : ℕ) → n ≡ call_count kinds addresses s.values → listed kinds addresses 0 4 0 n s ≡ played_of kinds addresses stems s
  unfolding played_of
  opened h n e = ap (λ (k : ℕ). listed kinds addresses 0 4 0 k s) e ∙ first-arm _ (listed kinds addresses 0 4 0 count s) s h

  pub shut : may_play kinds addresses stems s ≡ false → s ≡ played_of kinds addresses stems s
  unfolding played_of
  shut h = second-arm _ (listed kinds addresses 0 4 0 count s) s h

  pub answered : may_play kinds addresses stems s ≡ true → after_list (played_of kinds addresses stems s) ≡ play_answer kinds addresses stems s
  unfolding play_answer
  answered h = first-arm _ (after_list (played_of kinds addresses stems s)) None h

  -- nothing is changed
  pub record Unplayed : Type 0 where
    pub none : None ≡ play_answer kinds addresses stems s
    pub left : (before : List ℤ) → LeftBy (played_of kinds addresses stems s) 0 before s.ram s.queues s.values (sets before 0 s.stems)
    pub kept : (ram : ℕ) → accepts_core s.core s.version ram ≡ true → AcceptedAfter (played_of kinds addresses stems s) ram

  pub unplayed : may_play kinds addresses stems s ≡ false → Unplayed
  unfolding play_answer
  unplayed h =
      let o = shut h in
      record {
        none = second-arm _ (after_list (played_of kinds addresses stems s)) None h;
        left = λ before. record { ram_is = ap (λ (x : Listed). x.ram) o; queues_is = ap (λ (x : Listed). x.queues) o; values_is = ap (λ (x : Listed). x.values) o; stems_is = ap (λ (x : Listed). sets before 0 x.stems) o };
        kept = λ ram z. subst (λ (x : Listed). AcceptedAfter x ram) o z;
      }

  -- what an answer tells
  pub was-played : (p : Played) → play_answer kinds addresses stems s ≡ Some p → (may_play kinds addresses stems s ≡ true) × (Some p ≡ after_list (played_of kinds addresses stems s))
  unfolding play_answer
  was-played p e = by (may_play kinds addresses stems s) refl
    where
      by : (t : Bool) → may_play kinds addresses stems s ≡ t → (may_play kinds addresses stems s ≡ true) × (Some p ≡ after_list (played_of kinds addresses stems s))
      by true h = (h, sym e ∙ sym (first-arm _ (after_list (played_of kinds addresses stems s)) None h))
      by false h = absurd (none-some p (second-arm _ (after_list (played_of kinds addresses stems s)) None h ∙ e))

  pub was-not : play_answer kinds addresses stems s ≡ None → may_play kinds addresses stems s ≡ false
  unfolding play_answer
  was-not e = by (may_play kinds addresses stems s) refl
    where
      by : (t : Bool) → may_play kinds addresses stems s ≡ t → may_play kinds addresses stems s ≡ false
      by true h = absurd (none-some _ (sym e ∙ sym (first-arm _ (after_list (played_of kinds addresses stems s)) None h)))
      by false h = h

  pub never-each : (n : ℕ) → may_play kinds addresses stems s ≡ false → may_play kinds addresses stems s ≡ true → EachAccepted kinds addresses 0 4 0 n s
  never-each n h g = never (sym g ∙ h)
