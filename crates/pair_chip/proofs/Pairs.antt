-- Each call on a chip of two cores over one model of voices, seen over another; a good chip stays good. Assumes nothing.
use mathlib.Core.Path.{◌≡◌, refl, sym, ap, ap₂, ◌∙◌, subst}
use mathlib.Core.Bool.{Bool, true, false, cond}
use mathlib.Core.List.{List, [], ◌∷◌, ◌++◌, map}
use Prim.Native.Nat.{ℕ, zero, suc, ◌<◌, ◌≤◌}
use native.Mathlib.Omega.{arith}
use lib.Dec.{ltb}
use lib.ListN.{length, get_or, set, length-map, length-set, get_or-map}
use borrow.Author.Tests.{ltb-true}
use Rattle.sizes.specs.Sizes.{registers_end, wavetables_size}
use Rattle.cores.specs.Sizes.{num_cores}
use Rattle.cores.specs.Stems.{paired}
use Rattle.num.proofs.Choice.{cond-by}
use Rattle.version.specs.Versions.{core_count}
use Rattle.version.specs.declared.SguVersion.{SguVersion}
use Rattle.version.specs.declared.SguVersion.TheVariants.{V1, V2, V2_1, V3, V3_1}
use Rattle.plain_chip.specs.Lists.{Every}
use Rattle.plain_chip.specs.Models.{Model}
use Rattle.plain_chip.specs.Frames.{ModelTurns, no_turn}
use Rattle.plain_chip.specs.Chips as chips
use Rattle.plain_chip.specs.Chips.{ModelChip, with_voices, offset_of, is_control}
use Rattle.plain_chip.specs.Good.{ChipOk}
use Rattle.plain_chip.proofs.Sims.{Sim}
use Rattle.plain_chip.proofs.Lists.{every-adjust, every_map, map-adjust, map-all, map-set}
use Rattle.plain_chip.proofs.Frames.{played_seen}
use Rattle.plain_chip.proofs.Calls as calls
use Rattle.plain_chip.proofs.Calls.{chip_seen}
use Rattle.pair_chip.specs.Pairs.{Pair, PairOk, core_of, with_cores, core_chip, on_core, of_core, on_all, turns_of, silent_turns, fields_at, core_tick, ticked, core_frames, framed, frames_stems, frames_values}

abbrev pub pair_seen : {A B : Type 0} → (A → B) → Pair A → Pair B
pair_seen g p = record { version = p.version; ram = p.ram; cores = map (map g) p.cores }

-- ---- a core's calls leave version and RAM
abbrev pub Within : {A : Type 0} → (ModelChip A → ModelChip A) → Type 0
Within {A} f = (c : ModelChip A) → f c ≡ with_voices c (f c).voices

within-cond : {A : Type 0} (c : ModelChip A) (t : Bool) (x y : ModelChip A) → x ≡ with_voices c x.voices → y ≡ with_voices c y.voices → cond t x y ≡ with_voices c (cond t x y).voices
within-cond c true x y e f = e
within-cond c false x y e f = f

module _ {A : Type 0} (m : Model A) where
  pub within-write-register : (address value : ℕ) → Within (chips.write_register m address value)
  unfolding chips.write_register chips.write_channel_wavetable chips.write_channel_control chips.write_channel_pcm_reg
  within-write-register address value c =
      within-cond c (ltb address wavetables_size) _ _ refl (within-cond c (ltb address registers_end) _ _ (within-cond c (is_control (offset_of address)) _ _ refl refl) refl)

  pub within-after-register : (address : ℕ) → Within (chips.after_read_register m address)
  unfolding chips.after_read_register chips.after_read_channel
  within-after-register address c = within-cond c (ltb address wavetables_size) _ _ refl (within-cond c (ltb address registers_end) _ _ refl refl)

-- ---- calls on both cores make the same of version and RAM whatever the voices
abbrev pub Alike : {A : Type 0} → (ModelChip A → ModelChip A) → Type 0
Alike {A} f = (c : ModelChip A) → f c ≡ record { version = (f (with_voices c [])).version; ram = (f (with_voices c [])).ram; voices = (f c).voices }

alike-cond : {A : Type 0} (t : Bool) (c x z : ModelChip A) → x ≡ record { version = z.version; ram = z.ram; voices = x.voices } → cond t x c ≡ record { version = (cond t z (with_voices c [])).version; ram = (cond t z (with_voices c [])).ram; voices = (cond t x c).voices }
alike-cond true c x z e = e
alike-cond false c x z e = refl

module _ {A : Type 0} (m : Model A) where
  pub alike-reset : Alike (chips.reset m)
  unfolding chips.reset
  alike-reset c = refl

  pub alike-set-version : (version : SguVersion) → Alike (chips.set_version m version)
  unfolding chips.set_version
  alike-set-version version c = refl

  pub alike-write-ram : (address value : ℕ) → Alike (chips.write_pcm_ram m address value)
  unfolding chips.write_pcm_ram
  alike-write-ram address value c = alike-cond (ltb address (length c.ram)) c _ _ refl

-- ---- the cores of a chip
pub count-two : (version : SguVersion) → core_count version ≤ num_cores
count-two V1 = omega arith
count-two V2 = omega arith
count-two V2_1 = omega arith
count-two V3 = omega arith
count-two V3_1 = omega arith

pub core-seen : {A B : Type 0} (g : A → B) (p : Pair A) (i : ℕ) → map g (core_of p i) ≡ core_of (pair_seen g p) i
core-seen g p i = sym (get_or-map (map g) p.cores i [])

module _ {A : Type 0} (P : A → Type 0) where
  every-at : (d : A) (l : List A) (i : ℕ) → Every P l → i < length l → P (get_or l i d)
  every-at d [] i p h = absurd (omega (arith, h))
  every-at d (x ∷ l) zero p h = p.0
  every-at d (x ∷ l) (suc i) p h = every-at d l i p.1 (omega (arith, h))

  every-put : (x : A) (l : List A) (i : ℕ) → (i < length l → P x) → Every P l → Every P (set l i x)
  every-put x [] i h p = tt
  every-put x (y ∷ l) zero h p = (h (omega arith), p.1)
  every-put x (y ∷ l) (suc i) h p = (p.0, every-put x l i (λ k. h (omega arith)) p.1)

module _ {A B : Type 0} {g : A → B} {P : SguVersion → List ℕ → A → Type 0} {a : Model A} {b : Model B} (sim : Sim g P a b) (p : Pair A) where
  abbrev seen : Pair B
  seen = pair_seen g p

  -- ---- what is told of a core
  pub same_of : {C : Type 0} (i : ℕ) (none : C) (f : ModelChip A → C) (f' : ModelChip B → C) → ((c : ModelChip A) → f c ≡ f' (chip_seen g c)) → of_core i none f p ≡ of_core i none f' seen
  same_of {C} i none f f' h = ap (λ (x : C). cond (ltb i num_cores) x none) (h (core_chip p (core_of p i)) ∙ ap (λ (l : List B). f' (core_chip seen l)) (core-seen g p i))

  pub same-fields : (i ch : ℕ) → fields_at a p i ch ≡ fields_at b seen i ch
  same-fields i ch = calls.same-voice sim (core_chip p (core_of p i)) ch ∙ ap (λ (l : List B). chips.fields_at b (core_chip seen l) ch) (core-seen g p i)

  module _ (ok : PairOk P p) where
    abbrev pub Ok : List A → Type 0
    Ok l = ChipOk P (core_chip p l)

    pub ok-core : (i : ℕ) → i < num_cores → Ok (core_of p i)
    ok-core i h = every-at Ok [] p.cores i ok.cores (let e = ok.two in omega (arith, e))

    -- ---- a call on one core, seen, and what it leaves
    abbrev pub SameCall : (ModelChip A → ModelChip A) → (ModelChip B → ModelChip B) → Type 0
    SameCall f f' = (l : List A) → Ok l → chip_seen g (f (core_chip p l)) ≡ f' (core_chip seen (map g l))

    pub same-on : (i : ℕ) (f : ModelChip A → ModelChip A) (f' : ModelChip B → ModelChip B) → SameCall f f' → pair_seen g (on_core i f p) ≡ on_core i f' seen
    same-on i f f' h =
        ap (with_cores seen) (map-adjust (map g) Ok [] [] (λ l. (f (core_chip p l)).voices) (λ l. (f' (core_chip seen l)).voices) (λ l k. ap (λ (c : ModelChip B). c.voices) (h l k)) p.cores i ok.cores)

    pub ok-on : (i : ℕ) (f : ModelChip A → ModelChip A) → ((l : List A) → Ok l → Ok (f (core_chip p l)).voices) → PairOk P (on_core i f p)
    ok-on i f h = record {
      cores = every-adjust Ok [] (λ l. (f (core_chip p l)).voices) h p.cores i ok.cores;
      two = length-set p.cores i _ ∙ ok.two;
    }

    pub ok-within : (f : ModelChip A → ModelChip A) → Within f → ((l : List A) → Ok l → ChipOk P (f (core_chip p l))) → (l : List A) → Ok l → Ok (f (core_chip p l)).voices
    ok-within f w h l k = subst (ChipOk P) (w (core_chip p l)) (h l k)

    -- ---- a call on both
    pub same-all : (f : ModelChip A → ModelChip A) (f' : ModelChip B → ModelChip B) → Alike f → Alike f' → SameCall f f' → pair_seen g (on_all f p) ≡ on_all f' seen
    same-all f f' u v h =
        let c : ModelChip A = core_chip p (core_of p 0) in
        let k = h (core_of p 0) (ok-core 0 (omega arith)) ∙ v (chip_seen g c) in
        let e : (f (core_chip p [])).version ≡ (f' (core_chip seen [])).version = sym (ap (λ (x : ModelChip A). x.version) (u c)) ∙ ap (λ (x : ModelChip B). x.version) k in
        let r : (f (core_chip p [])).ram ≡ (f' (core_chip seen [])).ram = sym (ap (λ (x : ModelChip A). x.ram) (u c)) ∙ ap (λ (x : ModelChip B). x.ram) k in
        let l = map-all (map g) Ok (λ l. (f (core_chip p l)).voices) (λ l. (f' (core_chip seen l)).voices) (λ l q. ap (λ (x : ModelChip B). x.voices) (h l q)) p.cores ok.cores in
        λ i. record { version = e i; ram = r i; cores = l i }

    pub ok-all : (f : ModelChip A → ModelChip A) → Alike f → ((l : List A) → Ok l → ChipOk P (f (core_chip p l))) → PairOk P (on_all f p)
    ok-all f u h = record {
      cores = every_map Ok (λ (l : List A). ChipOk P (core_chip (on_all f p) l)) (λ l. (f (core_chip p l)).voices) (λ l k. subst (ChipOk P) (u (core_chip p l)) (h l k)) p.cores ok.cores;
      two = length-map p.cores (λ l. (f (core_chip p l)).voices) ∙ ok.two;
    }

    -- ---- turns of a core
    ticks : (i : ℕ) → ltb i (core_count p.version) ≡ true → i < num_cores
    ticks i e = let h = count-two p.version in omega (arith, ltb-true i (core_count p.version) e)

    module _ (i : ℕ) (f : ModelChip A → ModelTurns A) (f' : ModelChip B → ModelTurns B) (still : List A → ModelTurns A) (still' : List B → ModelTurns B)
        (h : (c : ModelChip A) → ChipOk P c → played_seen g (f c) ≡ f' (chip_seen g c)) (s : (l : List A) → played_seen g (still l) ≡ still' (map g l)) where
      same-turns : played_seen g (turns_of i f still p) ≡ turns_of i f' still' seen
      same-turns = go (ltb i (core_count p.version)) refl
        where
          go : (t : Bool) → ltb i (core_count p.version) ≡ t → played_seen g (cond t (f (core_chip p (core_of p i))) (still (core_of p i))) ≡ cond t (f' (core_chip seen (core_of seen i))) (still' (core_of seen i))
          go true e = h (core_chip p (core_of p i)) (ok-core i (ticks i e)) ∙ ap (λ (l : List B). f' (core_chip seen l)) (core-seen g p i)
          go false e = s (core_of p i) ∙ ap still' (core-seen g p i)

    ok-turns : (i : ℕ) (f : ModelChip A → ModelTurns A) (still : List A → ModelTurns A) → ((c : ModelChip A) → ChipOk P c → ChipOk P (with_voices c (f c).voices)) → ((l : List A) → (still l).voices ≡ l) → i < num_cores → Ok (turns_of i f still p).voices
    ok-turns i f still h s k =
        cond-by (λ (r : ModelTurns A). Ok r.voices) (ltb i (core_count p.version)) _ _ (λ e. h (core_chip p (core_of p i)) (ok-core i k)) (λ e. subst Ok (sym (s (core_of p i))) (ok-core i k))

    -- ---- one tick of one voice
    pub same-tick : (ch i : ℕ) → played_seen g (core_tick a ch i p) ≡ core_tick b ch i seen
    same-tick ch i = same-turns i (chips.generated a ch) (chips.generated b ch) no_turn no_turn (λ c k. calls.same-generated sim c k ch) (λ l. refl)

    pub same-ticked : (ch i : ℕ) → pair_seen g (ticked a ch i p) ≡ ticked b ch i seen
    same-ticked ch i = ap (with_cores seen) (map-set (map g) (core_tick a ch i p).voices p.cores i ∙ ap (λ (r : ModelTurns B). set seen.cores i r.voices) (same-tick ch i))

    pub ok-ticked : (ch i : ℕ) → PairOk P (ticked a ch i p)
    ok-ticked ch i = record {
      cores = every-put Ok (core_tick a ch i p).voices p.cores i (λ h. ok-turns i (chips.generated a ch) no_turn (λ c k. calls.ok-generated sim c k ch) (λ l. refl) (let e = ok.two in omega (arith, h, e))) ok.cores;
      two = length-set p.cores i _ ∙ ok.two;
    }

    -- ---- frames
    pub same-core : (n i : ℕ) → played_seen g (core_frames a n i p) ≡ core_frames b n i seen
    same-core n i = same-turns i (chips.clocked a n) (chips.clocked b n) (silent_turns n) (silent_turns n) (λ c k. calls.same-clocked sim c k n) (λ l. refl)

    pub same-framed : (n : ℕ) → pair_seen g (framed a n p) ≡ framed b n seen
    same-framed n = ap₂ (λ (x y : ModelTurns B). with_cores seen (x.voices ∷ y.voices ∷ [])) (same-core n 0) (same-core n 1)

    pub same-stems : (n : ℕ) → frames_stems a n p ≡ frames_stems b n seen
    same-stems n = ap₂ (λ (x y : ModelTurns B). paired n x.stems y.stems) (same-core n 0) (same-core n 1)

    pub same-values : (n : ℕ) → frames_values a n p ≡ frames_values b n seen
    same-values n = ap₂ (λ (x y : ModelTurns B). x.values ++ y.values) (same-core n 0) (same-core n 1)

    pub ok-framed : (n : ℕ) → PairOk P (framed a n p)
    ok-framed n = record { cores = (core 0 (omega arith), (core 1 (omega arith), tt)); two = refl }
      where
        core : (i : ℕ) → i < num_cores → Ok (core_frames a n i p).voices
        core i h = ok-turns i (chips.clocked a n) (silent_turns n) (λ c k. calls.ok-clocked sim c k n) (λ l. refl) h
