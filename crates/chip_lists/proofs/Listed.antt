-- A list of calls: turned away, or played. Assumes nothing.
use Rattle.std.specs.Prelude.{Err, Ok, is_ok}
use mathlib.Core.Path.{◌≡◌, refl, sym, ap, ◌∙◌, subst}
use mathlib.Core.Bool.{Bool, true, ◌&&◌}
use mathlib.Core.List.{List}
use Prim.Native.Nat.{ℕ, ◌*◌}
use lib.Dec.{eqb}
use lib.IntN.{ℤ, pos}
use lib.ListN.{length, replicate}
use borrow.Author.Tests.{eqb-true}
use Rattle.sizes.specs.Sizes.{stems_per_frame}
use Rattle.cores.specs.Sizes.{chip_queues}
use Rattle.num.proofs.Choice.{both, never}
use Rattle.tone.specs.Pcm.{is_ram_length}
use Rattle.frames.specs.Listing.{frames_asked, call_count}
use Rattle.rest.specs.Rest.{rests}
use Rattle.s3w2.specs.declared.Refusal.{Refusal}
use Rattle.s3w2.specs.declared.Returned.TheVariants.{Done}
use Rattle.s3w2.specs.declared.Called.{Called}
use Rattle.s3w2.specs.declared.Chip.{Chip}
use Rattle.s3w2.specs.Answers.{Checked, answered}
use Rattle.s3w2.specs.Chips.{core_at}
use Rattle.s3w2.specs.Refusals.{accepts_chip, refusal}
use Rattle.chip_lists.specs.Plays.{Playing, all_played, play_refusal, play_called, play_left}
use Rattle.chip_lists.specs.Second.{Lends, Leaves, Says}
use Rattle.s3w2.proofs.Cases.{all_there}
use Rattle.s3w2.proofs.Refused.{away, stays, goes-on, goes-called}

-- ---- `found` is the refusal as the code found it, `filled` whether the first stem buffer has the right length
module _ (kinds addresses : List ℕ) (s : Playing) (found : Checked) (filled : Bool) (fills : filled ≡ eqb (length s.stems) (stems_per_frame * frames_asked kinds addresses 0 (call_count kinds addresses s.values)))
    (e : found ≡ refusal (is_ram_length (length s.ram)) (eqb (length s.queues) chip_queues) (accepts_chip s.chip (length s.ram)) (filled && eqb (length s.others) (length s.stems))) where
  abbrev enough : Bool
  enough = eqb (length s.stems) (stems_per_frame * frames_asked kinds addresses 0 (call_count kinds addresses s.values))

  abbrev alike : Bool
  alike = eqb (length s.others) (length s.stems)

  is : found ≡ play_refusal kinds addresses s
  is = e ∙ ap (λ (t : Bool). refusal (is_ram_length (length s.ram)) (eqb (length s.queues) chip_queues) (accepts_chip s.chip (length s.ram)) (t && alike)) fills

  pub lends : is_ok found ≡ true → Lends kinds addresses s
  lends h =
      let t = all_there (is_ram_length (length s.ram)) (eqb (length s.queues) chip_queues) (accepts_chip s.chip (length s.ram)) (enough && alike) found is h in
      let b = both enough alike t.enough in
      record {
        allowed = t.allowed;
        lent = eqb-true (length s.queues) chip_queues t.lent;
        accepted = t.accepted;
        enough = eqb-true (length s.stems) (stems_per_frame * frames_asked kinds addresses 0 (call_count kinds addresses s.values)) b.0;
        alike = eqb-true (length s.others) (length s.stems) b.1;
      }

  says : (u : Called) (ram : List ℕ) (queues : List ℤ) (values : List ℕ) (stems others : List ℤ) (p : Playing) → u ≡ play_called kinds addresses s → p ≡ play_left kinds addresses s
      → ram ≡ p.ram → queues ≡ p.queues → values ≡ p.values → stems ≡ p.stems → others ≡ p.others → (accepts_chip s.chip (length s.ram) ≡ true → accepts_chip u.chip (length s.ram) ≡ true)
      → (rests (core_at s.chip 1) ≡ true → is_ok (play_refusal kinds addresses s) ≡ true → others ≡ replicate (length s.others) (pos 0)) → Says kinds addresses s u ram queues values stems others
  says u ram queues values stems others p eu ep er eq ev es eo ok quiet = record {
    called_is = eu;
    ram-is = er ∙ ap (λ (y : Playing). y.ram) ep;
    queues-is = eq ∙ ap (λ (y : Playing). y.queues) ep;
    values-is = ev ∙ ap (λ (y : Playing). y.values) ep;
    stems-is = es ∙ ap (λ (y : Playing). y.stems) ep;
    others-is = eo ∙ ap (λ (y : Playing). y.others) ep;
    accepted = ok;
    silent = quiet;
  }

  pub turned-away : (why : Refusal) → found ≡ Err why → (u : Called) → u ≡ answered s.chip (Err why) → Says kinds addresses s u s.ram s.queues s.values s.stems s.others
  unfolding play_called play_left
  turned-away why h u eu =
      says u s.ram s.queues s.values s.stems s.others s (eu ∙ away found (play_refusal kinds addresses s) is why h s.chip (answered (all_played kinds addresses s).chip (Ok Done)))
      (stays found (play_refusal kinds addresses s) is s (all_played kinds addresses s) (ap is_ok h)) refl refl refl refl refl (λ z. subst (λ (k : Called). accepts_chip k.chip (length s.ram) ≡ true) (sym eu) z)
      (λ _ d. never (sym d ∙ ap is_ok (sym is ∙ h)))

  pub played : is_ok found ≡ true → (u : Called) (chip : Chip) (ram : List ℕ) (queues : List ℤ) (values : List ℕ) (stems others : List ℤ) → u ≡ answered chip (Ok Done) → Leaves (all_played kinds addresses s) chip ram queues values stems others → length ram ≡ length s.ram
      → (rests (core_at s.chip 1) ≡ true → others ≡ replicate (length s.others) (pos 0)) → Says kinds addresses s u ram queues values stems others
  unfolding play_called play_left
  played h u chip ram queues values stems others eu l long quiet =
      let all = all_played kinds addresses s in
      says u ram queues values stems others all
      (goes-called found (play_refusal kinds addresses s) is s.chip (answered all.chip (Ok Done)) u h (eu ∙ ap (λ (k : Chip). answered k (Ok Done)) l.chip-is))
      (goes-on found (play_refusal kinds addresses s) is s all h) l.ram-is l.queues-is l.values-is l.stems-is l.others-is
      (λ z. subst (λ (k : Called). accepts_chip k.chip (length s.ram) ≡ true) (sym eu) (ap (accepts_chip chip) (sym long) ∙ l.accepted)) (λ r _. quiet r)

-- as `play`'s contract has it
pub in-turn : {kinds addresses : List ℕ} {s : Playing} {u : Called} {ram : List ℕ} {queues : List ℤ} {values : List ℕ} {stems others : List ℤ} → Says kinds addresses s u ram queues values stems others
    → (u ≡ play_called kinds addresses s)
    × ((ram ≡ (play_left kinds addresses s).ram)
    × ((queues ≡ (play_left kinds addresses s).queues)
    × ((values ≡ (play_left kinds addresses s).values)
    × ((stems ≡ (play_left kinds addresses s).stems)
    × ((others ≡ (play_left kinds addresses s).others)
    × ((accepts_chip s.chip (length s.ram) ≡ true → accepts_chip u.chip (length s.ram) ≡ true)
    × (rests (core_at s.chip 1) ≡ true → is_ok (play_refusal kinds addresses s) ≡ true → others ≡ replicate (length s.others) (pos 0))))))))
in-turn h = (h.called_is, (h.ram-is, (h.queues-is, (h.values-is, (h.stems-is, (h.others-is, (h.accepted, h.silent)))))))
