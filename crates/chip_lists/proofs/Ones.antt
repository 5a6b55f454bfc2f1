-- A list of one call on the chip: core 0 plays it, and then core 1. Assumes nothing.
use mathlib.Core.Path.{◌≡◌, refl, sym, ap, ◌∙◌, subst}
use mathlib.Core.Bool.{true, cond}
use mathlib.Core.List.{List, [], ◌∷◌, ◌++◌}
use Prim.Native.Nat.{ℕ}
use native.Mathlib.Omega.{arith}
use lib.Dec.{ltb}
use lib.IntN.{ℤ}
use lib.ListN.{length, length-set, get_or, take, drop, take-append-drop}
use lib.Seq.{sets, set-set}
use Rattle.sizes.specs.Sizes.{queue_buffer}
use Rattle.cores.specs.Sizes.{num_cores}
use Rattle.num.proofs.Choice.{together}
use Rattle.version.specs.declared.SguVersion.{SguVersion}
use Rattle.voices.specs.Accepted.{accepts_core}
use Rattle.voices.specs.Writes.{after_ram_write}
use Rattle.voices.specs.declared.Core.{Core}
use Rattle.frames.specs.declared.Asked.{Asked}
use Rattle.frames.specs.declared.Asked.TheVariants as variants
use Rattle.frames.specs.Listing.{asked_of, Listed, lent_list, LeftBy, AcceptedAfter, call_as}
use Rattle.frames.specs.declared.Played.{Played}
use Rattle.frames.specs.Turning.{Turns, no_turn}
use Rattle.s3w2.specs.declared.Chip.{Chip}
use Rattle.s3w2.specs.Chips.{core_at, no_core}
use Rattle.chip_lists.specs.Plays.{Playing, playing, call_played, calls_played}
use Rattle.chip_lists.specs.Second.{Lends, Leaves, second_called, SecondLeaves}
use Rattle.chip_lists.proofs.Parts.{lower_long, upper_long}
use Rattle.chip_lists.proofs.Plays.{as_playing, call-played}

-- ---- the chip
two-cores : (l : List Core) → length l ≡ num_cores → l ≡ get_or l 0 no_core ∷ get_or l 1 no_core ∷ []
two-cores [] e = absurd (omega arith)
two-cores (x ∷ []) e = absurd (omega arith)
two-cores (x ∷ y ∷ []) e = refl
two-cores (x ∷ y ∷ z ∷ l) e = absurd (omega arith)

-- core 0 with its half of the queue buffer
abbrev pub lent_first : Chip → List ℕ → List ℤ → List ℕ → Listed
lent_first chip ram queues values = lent_list (core_at chip 0) chip.version ram (take queue_buffer queues) values

pub playing-as : (chip : Chip) (ram : List ℕ) (queues : List ℤ) (values : List ℕ) (stems others : List ℤ) → length chip.cores ≡ num_cores
    → playing chip ram queues values stems others ≡ as_playing stems others (drop queue_buffer queues) (lent_first chip ram queues values) (core_at chip 1) [] 0
playing-as chip ram queues values stems others two = λ j. record {
  chip = record { version = chip.version; cores = two-cores chip.cores two j };
  ram = ram;
  queues = sym (take-append-drop queue_buffer queues) j;
  values = values;
  stems = stems;
  others = others;
  frames = 0;
}

module _ (kinds addresses : List ℕ) (chip : Chip) (ram : List ℕ) (queues : List ℤ) (values : List ℕ) (stems others : List ℤ) (two : length chip.cores ≡ num_cores) (g : Lends kinds addresses (playing chip ram queues values stems others)) where
  abbrev first : Listed
  first = lent_first chip ram queues values

  abbrev b : Core
  b = core_at chip 1

  abbrev upper : List ℤ
  upper = drop queue_buffer queues

  -- core 1 plays the call over the RAM and the values that core 0 leaves
  abbrev again : Asked → Listed
  again t = lent_list b chip.version (call_as kinds addresses 0 4 t 0 first).ram upper (call_as kinds addresses 0 4 t 0 first).values

  abbrev second : List ℕ → Asked → Turns
  second r t = second_called chip.version r upper t (get_or addresses 0 0) b

  record Again (t : Asked) : Type 0 where
    same : second (call_as kinds addresses 0 4 t 0 first).ram t ≡ second ram t
    ram-same : (call_as kinds addresses 0 4 t 0 (again t)).ram ≡ (call_as kinds addresses 0 4 t 0 first).ram
    version-same : (call_as kinds addresses 0 4 t 0 (again t)).version ≡ (call_as kinds addresses 0 4 t 0 first).version
    long : length (call_as kinds addresses 0 4 t 0 first).ram ≡ length ram

  agains : (t : Asked) → Again t
  agains variants.WriteRegister = record { same = refl; ram-same = refl; version-same = refl; long = refl }
  agains variants.WritePcmRam =
      let a = get_or addresses 0 0 in
      let v = get_or values 0 0 in
      record {
        same = ap (λ (n : ℕ). no_turn (cond (ltb a n) (after_ram_write b a) b)) (length-set ram a v);
        ram-same = set-set ram a v v;
        version-same = refl;
        long = length-set ram a v;
      }
  agains variants.Read = record { same = refl; ram-same = refl; version-same = refl; long = refl }
  agains variants.Peek = record { same = refl; ram-same = refl; version-same = refl; long = refl }
  agains variants.Clock = record { same = refl; ram-same = refl; version-same = refl; long = refl }
  agains variants.SetVersion = record { same = refl; ram-same = refl; version-same = refl; long = refl }
  agains variants.Nothing = record { same = refl; ram-same = refl; version-same = refl; long = refl }

  abbrev t : Asked
  t = asked_of (get_or kinds 0 0)

  abbrev X : Listed
  X = call_as kinds addresses 0 4 t 0 first

  -- after core 0 and before core 1
  pub record First (p : Listed) (u : Played) (ram1 : List ℕ) (lower : List ℤ) (values1 : List ℕ) (stems1 : List ℤ) : Type 0 where
    pub is : call_as kinds addresses 0 4 (asked_of (get_or kinds 0 0)) 0 (lent_first chip ram queues values) ≡ p
    pub played-is : u ≡ record { core = p.core; version = p.version }
    pub left : LeftBy p 0 stems ram1 lower values1 stems1
    pub accepted : AcceptedAfter p (length ram)

  module _ (p : Listed) (u : Played) (ram1 : List ℕ) (lower : List ℤ) (values1 : List ℕ) (stems1 : List ℤ) (f : First p u ram1 lower values1 stems1) where
    ram-first : ram1 ≡ X.ram
    ram-first = f.left.ram_is ∙ ap (λ (x : Listed). x.ram) (sym f.is)

    values-first : values1 ≡ X.values
    values-first = f.left.values_is ∙ ap (λ (x : Listed). x.values) (sym f.is)

    pub one_left : (ends : List ℤ) → ends ≡ drop queue_buffer queues → (other : Core) (ram2 : List ℕ) (ends2 queues2 : List ℤ) (values2 : List ℕ) (others2 : List ℤ)
        → SecondLeaves kinds addresses (asked_of (get_or kinds 0 0)) (lent_list (core_at chip 1) chip.version ram1 ends values1) others other ram2 ends2 values2 others2
        → queues2 ≡ lower ++ ends2
        → Leaves (calls_played kinds addresses 1 (playing chip ram queues values stems others)) (record { version = u.version; cores = u.core ∷ other ∷ [] }) ram2 queues2 values2 stems1 others2
    unfolding calls_played
    one_left ends eu other ram2 ends2 queues2 values2 others2 l eq =
        let k : SecondLeaves kinds addresses t (again t) others other ram2 ends2 values2 others2 = subst (λ (y : Listed). SecondLeaves kinds addresses t y others other ram2 ends2 values2 others2) (λ j. lent_list b chip.version (ram-first j) (eu j) (values-first j)) l in
        let n = agains t in
        let same-core : other ≡ (second ram t).core = k.core_is ∙ ap (λ (u : Turns). u.core) n.same in
        let same-stems : others2 ≡ sets others 0 (second ram t).stems = k.others-is ∙ ap (λ (u : Turns). sets others 0 u.stems) n.same in
        let ram-last : ram2 ≡ X.ram = k.ram-is ∙ n.ram-same in
        let whole = sym (ap (call_played kinds addresses t 0) (playing-as chip ram queues values stems others two) ∙ call-played stems others upper first b [] 0 g.allowed (lower_long queues g.lent) (upper_long queues g.lent) g.accepted refl refl kinds addresses t 0) in
        let under-is : u.version ≡ X.version = ap (λ (x : Played). x.version) f.played-is ∙ ap (λ (x : Listed). x.version) (sym f.is) in
        let next-is : u.core ≡ X.core = ap (λ (x : Played). x.core) f.played-is ∙ ap (λ (x : Listed). x.core) (sym f.is) in
        let lower-is : lower ≡ X.queues = f.left.queues_is ∙ ap (λ (x : Listed). x.queues) (sym f.is) in
        let last : length ram2 ≡ length ram = ap length ram-last ∙ n.long in
        record {
          chip-is = (λ j. record { version = under-is j; cores = next-is j ∷ same-core j ∷ [] }) ∙ ap (λ (y : Playing). y.chip) whole;
          ram-is = ram-last ∙ ap (λ (y : Playing). y.ram) whole;
          queues-is = eq ∙ (λ j. lower-is j ++ k.queues-is j) ∙ ap (λ (y : Playing). y.queues) whole;
          values-is = k.values-is ∙ ap (λ (y : Playing). y.values) whole;
          stems-is = f.left.stems_is ∙ ap (λ (x : Listed). sets stems 0 x.stems) (sym f.is) ∙ ap (λ (y : Playing). y.stems) whole;
          others-is = same-stems ∙ ap (λ (y : Playing). y.others) whole;
          accepted = together (accepts_core u.core u.version (length ram2)) (accepts_core other u.version (length ram2)) (ap (accepts_core u.core u.version) last ∙ ap (λ (x : Played). accepts_core x.core x.version (length ram)) f.played-is ∙ f.accepted)
              (subst (λ (v : SguVersion). accepts_core other v (length ram2) ≡ true) (n.version-same ∙ sym under-is) (ap (accepts_core other (call_as kinds addresses 0 4 t 0 (again t)).version) (last ∙ sym n.long) ∙ k.accepted));
        }
