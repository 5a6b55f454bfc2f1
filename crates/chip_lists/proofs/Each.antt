-- Call after call: what the loop keeps. Assumes nothing.
use mathlib.Core.Path.{◌≡◌, refl, sym, ap, ◌∙◌, subst}
use mathlib.Core.Bool.{true}
use mathlib.Core.List.{List}
use Prim.Native.Nat.{ℕ, ◌+◌, ◌*◌, ◌-◌, ◌≤◌, ◌<◌}
use native.Mathlib.Numerals.{add-one}
use native.Mathlib.Omega.{arith}
use lib.IntN.{ℤ}
use lib.ListN.{length, get_or, take, drop}
use lib.Seq.{sets, length-sets}
use borrow.Rule.Slice.PartMut.{put_mid}
use Rattle.sizes.specs.Sizes.{stems_per_frame}
use Rattle.num.specs.Lists.{part}
use Rattle.tone.specs.Pcm.{is_ram_length}
use Rattle.voices.proofs.Parts.{put-part}
use Rattle.frames.specs.Listing.{asked_of, lent_list, clocked_as, clocked_by, frames_asked, call_count}
use Rattle.frames.proofs.Counts.{zero-add, frames-more, frames-within}
use Rattle.frames.proofs.Parts.{part_length}
use Rattle.s3w2.specs.declared.Chip.{Chip}
use Rattle.s3w2.specs.Refusals.{accepts_chip}
use Rattle.s3w2.specs.Chips.{core_at}
use Rattle.chip_lists.specs.Plays.{Playing, playing, call_played, calls_played, all_played}
use Rattle.chip_lists.specs.Second.{Lends, Leaves}
use Rattle.chip_lists.proofs.Parts.{one_at}
use Rattle.chip_lists.proofs.SecondCalls.{one-frames}
use Rattle.chip_lists.proofs.Slices.{parts, slice-played}

pub record Going (kinds addresses : List ℕ) (start : Playing) (chip : Chip) (ram : List ℕ) (queues : List ℤ) (values : List ℕ) (stems others : List ℤ) (at i : ℕ) : Type 0 where
  pub within : i ≤ call_count kinds addresses start.values
  pub is : record { chip = chip; ram = ram; queues = queues; values = values; stems = stems; others = others; frames = frames_asked kinds addresses 0 i } ≡ calls_played kinds addresses i start
  pub accepted : accepts_chip chip (length ram) ≡ true
  pub bytes : length ram ≡ length start.ram
  pub entries : length queues ≡ length start.queues
  pub long : length values ≡ length start.values
  pub given : length stems ≡ length start.stems
  pub alike : length others ≡ length start.others
  pub behind : at ≡ stems_per_frame * frames_asked kinds addresses 0 i

module _ (kinds addresses : List ℕ) (start : Playing) (l : Lends kinds addresses start) where
  pub going-none : start.frames ≡ 0 → Going kinds addresses start start.chip start.ram start.queues start.values start.stems start.others 0 0
  unfolding calls_played frames_asked
  going-none e = record {
    within = omega arith;
    is = λ j. record { chip = start.chip; ram = start.ram; queues = start.queues; values = start.values; stems = start.stems; others = start.others; frames = sym e j };
    accepted = l.accepted;
    bytes = refl;
    entries = refl;
    long = refl;
    given = refl;
    alike = refl;
    behind = refl;
  }

  module _ (chip : Chip) (ram : List ℕ) (queues : List ℤ) (values : List ℕ) (stems others : List ℤ) (at i : ℕ) (g : Going kinds addresses start chip ram queues values stems others at i) where
    pub going-all : call_count kinds addresses start.values ≤ i → Leaves (all_played kinds addresses start) chip ram queues values stems others
    going-all h =
        let e : i ≡ call_count kinds addresses start.values = omega (arith, h, g.within) in
        let whole = g.is ∙ ap (λ (k : ℕ). calls_played kinds addresses k start) e in
        record {
          chip-is = ap (λ (y : Playing). y.chip) whole;
          ram-is = ap (λ (y : Playing). y.ram) whole;
          queues-is = ap (λ (y : Playing). y.queues) whole;
          values-is = ap (λ (y : Playing). y.values) whole;
          stems-is = ap (λ (y : Playing). y.stems) whole;
          others-is = ap (λ (y : Playing). y.others) whole;
          accepted = g.accepted;
        }

    module _ (more : i < call_count kinds addresses start.values) (r : ℕ) (er : r ≡ clocked_as (asked_of (get_or kinds i 0)) (get_or addresses i 0)) where
      abbrev F : ℕ
      F = frames_asked kinds addresses 0 i

      abbrev to : ℕ
      to = at + stems_per_frame * r

      next-frames : frames_asked kinds addresses 0 (i + 1) ≡ F + clocked_by kinds addresses i
      next-frames = frames-more kinds addresses 0 i ∙ ap (λ (k : ℕ). F + clocked_by kinds addresses k) (sym (zero-add i))

      pub room : at + stems_per_frame * r ≤ length stems
      room =
          let w = frames-within kinds addresses 0 (i + 1) (call_count kinds addresses start.values) (omega (arith, more)) in
          omega (arith, w, er, next-frames, g.given, g.behind, l.enough)

      pub room-others : at + stems_per_frame * r ≤ length others
      room-others = let h = room in omega (arith, h, g.given, g.alike, l.alike)

      inside : i < length values
      inside = omega (arith, more, g.long)

      kind-there : i + 1 ≤ length kinds
      kind-there = omega (arith, more)

      address-there : i + 1 ≤ length addresses
      address-there = omega (arith, more)

      value_there : i + 1 ≤ length values
      value_there = omega (arith, inside)

      -- the numbers by which the parts are lent
      one : i + 1 - i ≡ 1
      one = omega arith

      stems-many : at + stems_per_frame * r - at ≡ stems_per_frame * r
      stems-many = omega arith

      pub one-long : (length (take (i + 1 - i) (drop i kinds)) ≡ 1) × (length (take (i + 1 - i) (drop i addresses)) ≡ 1) × (length (take (i + 1 - i) (drop i values)) ≡ 1)
      one-long = (
        ap (λ (k : ℕ). length (take k (drop i kinds))) one ∙ part_length kinds i 1 kind-there,
        ap (λ (k : ℕ). length (take k (drop i addresses))) one ∙ part_length addresses i 1 address-there,
        ap (λ (k : ℕ). length (take k (drop i values))) one ∙ part_length values i 1 value_there,
      )

      own-clocked : frames_asked (part kinds i 1) (part addresses i 1) 0 (call_count (part kinds i 1) (part addresses i 1) (part values i 1)) ≡ r
      own-clocked =
          one-frames (part kinds i 1) (part addresses i 1) 0 (lent_list (core_at chip 0) chip.version ram queues (part values i 1)) (part_length kinds i 1 kind-there) (part_length addresses i 1 address-there) (part_length values i 1 value_there)
          ∙ (λ j. clocked_as (asked_of (one_at kinds i j)) (one_at addresses i j)) ∙ sym er

      parts-lend : Lends (part kinds i 1) (part addresses i 1) (playing chip ram queues (part values i 1) (part stems at (stems_per_frame * r)) (part others at (stems_per_frame * r)))
      parts-lend = record {
        allowed = ap is_ram_length g.bytes ∙ l.allowed;
        lent = g.entries ∙ l.lent;
        accepted = g.accepted;
        enough = part_length stems at (stems_per_frame * r) room ∙ ap (λ (m : ℕ). stems_per_frame * m) (sym own-clocked);
        alike = part_length others at (stems_per_frame * r) room-others ∙ sym (part_length stems at (stems_per_frame * r) room);
      }

      pub one-lends : Lends (take (i + 1 - i) (drop i kinds)) (take (i + 1 - i) (drop i addresses)) (playing chip ram queues (take (i + 1 - i) (drop i values)) (take (at + stems_per_frame * r - at) (drop at stems)) (take (at + stems_per_frame * r - at) (drop at others)))
      one-lends =
          subst (λ (k : ℕ). Lends (take k (drop i kinds)) (take k (drop i addresses)) (playing chip ram queues (take k (drop i values)) (take (to - at) (drop at stems)) (take (to - at) (drop at others)))) (sym one)
          (subst (λ (m : ℕ). Lends (part kinds i 1) (part addresses i 1) (playing chip ram queues (part values i 1) (take m (drop at stems)) (take m (drop at others)))) (sym stems-many) parts-lend)

      abbrev s : Playing
      s = record { chip = chip; ram = ram; queues = queues; values = values; stems = stems; others = others; frames = F }

      -- by the place and the number of frames as the definitions say them
      as_said : playing chip ram queues (take (i + 1 - i) (drop i values)) (take (at + stems_per_frame * r - at) (drop at stems)) (take (at + stems_per_frame * r - at) (drop at others)) ≡ parts s i (clocked_by kinds addresses i)
      as_said =
          (λ j. playing chip ram queues (take (one j) (drop i values)) (take (stems-many j) (drop at stems)) (take (stems-many j) (drop at others)))
          ∙ (λ j. playing chip ram queues (part values i 1) (part stems (g.behind j) (stems_per_frame * er j)) (part others (g.behind j) (stems_per_frame * er j)))

      pub going_on : (chip1 : Chip) (ram1 : List ℕ) (queues1 : List ℤ) (values1 : List ℕ) (stems1 others1 : List ℤ)
          → Leaves (calls_played (take (i + 1 - i) (drop i kinds)) (take (i + 1 - i) (drop i addresses)) 1
          (playing chip ram queues (take (i + 1 - i) (drop i values)) (take (at + stems_per_frame * r - at) (drop at stems)) (take (at + stems_per_frame * r - at) (drop at others)))) chip1 ram1 queues1 values1 stems1 others1
          → length ram1 ≡ length ram → length queues1 ≡ length queues → length values1 ≡ length (take (i + 1 - i) (drop i values))
          → length stems1 ≡ length (take (at + stems_per_frame * r - at) (drop at stems)) → length others1 ≡ length (take (at + stems_per_frame * r - at) (drop at others))
          → Going kinds addresses start chip1 ram1 queues1 (put_mid i (i + 1 - i) values values1) (put_mid at (at + stems_per_frame * r - at) stems stems1) (put_mid at (at + stems_per_frame * r - at) others others1) (at + stems_per_frame * r) (i + 1)
      unfolding calls_played
      going_on chip1 ram1 queues1 values1 stems1 others1 d lr lq lv ls lo =
          let n = clocked_by kinds addresses i in
          let own = calls_played (part kinds i 1) (part addresses i 1) 1 (parts s i n) in
          let same : calls_played (take (i + 1 - i) (drop i kinds)) (take (i + 1 - i) (drop i addresses)) 1 (playing chip ram queues (take (i + 1 - i) (drop i values)) (take (to - at) (drop at stems)) (take (to - at) (drop at others))) ≡ own =
          λ j. calls_played (take (one j) (drop i kinds)) (take (one j) (drop i addresses)) 1 (as_said j)
          in
          let h = room in
          let k = room-others in
          let put-values : put_mid i (i + 1 - i) values values1 ≡ sets values i own.values =
          put-part values values1 i 1 value_there (lv ∙ one-long.2) ∙ ap (sets values i) (d.values-is ∙ ap (λ (y : Playing). y.values) same)
          in
          let long-stems = ap (λ (m : ℕ). length (take m (drop at stems))) stems-many ∙ part_length stems at (stems_per_frame * r) room in
          let long-others = ap (λ (m : ℕ). length (take m (drop at others))) stems-many ∙ part_length others at (stems_per_frame * r) room-others in
          let put-stems : put_mid at (to - at) stems stems1 ≡ sets stems (stems_per_frame * F) own.stems =
          put-part stems stems1 at (stems_per_frame * r) room (ls ∙ long-stems) ∙ (λ j. sets stems (g.behind j) ((d.stems-is ∙ ap (λ (y : Playing). y.stems) same) j))
          in
          let put-others : put_mid at (to - at) others others1 ≡ sets others (stems_per_frame * F) own.others =
          put-part others others1 at (stems_per_frame * r) room-others (lo ∙ long-others) ∙ (λ j. sets others (g.behind j) ((d.others-is ∙ ap (λ (y : Playing). y.others) same) j))
          in
          let chips = d.chip-is ∙ ap (λ (y : Playing). y.chip) same in
          let rams = d.ram-is ∙ ap (λ (y : Playing). y.ram) same in
          let entries = d.queues-is ∙ ap (λ (y : Playing). y.queues) same in
          record {
            within = omega (arith, more);
            is =
                (λ j. record { chip = chips j; ram = rams j; queues = entries j; values = put-values j; stems = put-stems j; others = put-others j; frames = next-frames j })
                ∙ slice-played s i inside kinds addresses (omega (arith, h, er, g.behind)) (omega (arith, k, er, g.behind))
                ∙ ap (call_played kinds addresses (asked_of (get_or kinds i 0)) i) g.is ∙ sym (ap (λ (m : ℕ). calls_played kinds addresses m start) (add-one i));
            accepted = d.accepted;
            bytes = lr ∙ g.bytes;
            entries = lq ∙ g.entries;
            long = ap length put-values ∙ length-sets values i own.values ∙ g.long;
            given = ap length put-stems ∙ length-sets stems (stems_per_frame * F) own.stems ∙ g.given;
            alike = ap length put-others ∙ length-sets others (stems_per_frame * F) own.others ∙ g.alike;
            behind = omega (arith, next-frames, er, g.behind);
          }
