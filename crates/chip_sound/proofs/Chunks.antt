-- Frames some at a time: voices, stems, and the stems of both cores paired or added to a side. Assumes nothing.
use mathlib.Core.Path.{◌≡◌, refl, sym, ap, ◌∙◌}
use mathlib.Core.Bool.{Bool, true, false, cond}
use mathlib.Core.List.{List, [], ◌∷◌, ◌++◌, append-nil, append_assoc}
use Prim.Native.Nat.{ℕ, zero, suc, ◌+◌, ◌*◌, ◌≤◌}
use native.Mathlib.Omega.{arith}
use lib.IntN.{ℤ, pos}
use lib.ListN.{length, take, drop, replicate, length-append, length-take, length-drop, length-replicate}
use lib.Seq.{take-append-le, drop-append-le}
use Rattle.sizes.specs.Sizes.{stems_per_frame}
use Rattle.cores.specs.Sizes.{chip_stems}
use Rattle.cores.specs.Stems.{paired}
use Rattle.version.specs.declared.SguVersion.{SguVersion}
use Rattle.voices.specs.declared.Core.{Core}
use Rattle.sides.specs.Sides.{added}
use Rattle.sides.proofs.Frames.{added-append, added-silent}
use Rattle.frames.specs.Turning.{frame, frames}

pub no_more : {A : Type 0} (l : List A) → length l ≡ 0 → l ≡ []
no_more [] h = refl
no_more (x ∷ l) h = absurd (omega (arith, h))

-- ---- k frames, and c more of the core that they leave
module _ (version : SguVersion) (ram : List ℕ) (queues : List ℤ) (core : Core) (k : ℕ) where
  abbrev left : Core
  left = (frames version ram queues k core).core

  pub more-core : (c : ℕ) → (frames version ram queues (k + c) core).core ≡ (frames version ram queues c left).core
  unfolding frames
  more-core zero =
      let e : k + 0 ≡ k = omega arith in
      ap (λ (m : ℕ). (frames version ram queues m core).core) e
  more-core (suc c) =
      let e : k + suc c ≡ suc (k + c) = omega arith in
      ap (λ (m : ℕ). (frames version ram queues m core).core) e ∙ ap (λ (x : Core). (frame version ram queues x).core) (more-core c)

  pub more-stems : (c : ℕ) → (frames version ram queues (k + c) core).stems ≡ (frames version ram queues k core).stems ++ (frames version ram queues c left).stems
  unfolding frames
  more-stems zero =
      let e : k + 0 ≡ k = omega arith in
      ap (λ (m : ℕ). (frames version ram queues m core).stems) e ∙ sym (append-nil (frames version ram queues k core).stems)
  more-stems (suc c) =
      let e : k + suc c ≡ suc (k + c) = omega arith in
      let last : Core → List ℤ = λ (x : Core). (frame version ram queues x).stems in
      ap (λ (m : ℕ). (frames version ram queues m core).stems) e
      ∙ ap (λ (l : List ℤ). l ++ last (frames version ram queues (k + c) core).core) (more-stems c)
      ∙ ap (λ (x : Core). ((frames version ram queues k core).stems ++ (frames version ram queues c left).stems) ++ last x) (more-core c)
      ∙ append_assoc (frames version ram queues k core).stems (frames version ram queues c left).stems (last (frames version ram queues c left).core)

-- ---- stems of both cores
pub paired-append : (a b : List ℤ) (c k : ℕ) (x y : List ℤ) → length x ≡ stems_per_frame * k → length y ≡ stems_per_frame * k → paired (k + c) (x ++ a) (y ++ b) ≡ paired k x y ++ paired c a b
unfolding paired
paired-append a b c zero x y ex ey =
    let e : 0 + c ≡ c = omega arith in
    rw (no_more x (omega (arith, ex)), no_more y (omega (arith, ey)), e) refl
paired-append a b c (suc k) x y ex ey =
    let e : suc k + c ≡ suc (k + c) = omega arith in
    let lx : length (drop 16 x) ≡ 16 * k = length-drop 16 x ∙ omega (arith, ex) in
    let ly : length (drop 16 y) ≡ 16 * k = length-drop 16 y ∙ omega (arith, ey) in
    ap (λ (m : ℕ). paired m (x ++ a) (y ++ b)) e
    ∙ rw (take-append-le 16 x a (omega (arith, ex)), take-append-le 16 y b (omega (arith, ey)), drop-append-le 16 x a (omega (arith, ex)), drop-append-le 16 y b (omega (arith, ey)), paired-append a b c k (drop 16 x) (drop 16 y) lx ly) refl
    ∙ sym (append_assoc (take 16 x) (take 16 y ++ paired k (drop 16 x) (drop 16 y)) (paired c a b) ∙ ap (λ (l : List ℤ). take 16 x ++ l) (append_assoc (take 16 y) (paired k (drop 16 x) (drop 16 y)) (paired c a b)))

pub paired-length : (n : ℕ) (a b : List ℤ) → length a ≡ stems_per_frame * n → length b ≡ stems_per_frame * n → length (paired n a b) ≡ chip_stems * n
unfolding paired
paired-length zero a b ea eb = refl
paired-length (suc n) a b ea eb =
    let la : length (drop 16 a) ≡ 16 * n = length-drop 16 a ∙ omega (arith, ea) in
    let lb : length (drop 16 b) ≡ 16 * n = length-drop 16 b ∙ omega (arith, eb) in
    let p = paired n (drop 16 a) (drop 16 b) in
    length-append (take 16 a) (take 16 b ++ p) ∙ rw (length-append (take 16 b) p, length-take 16 a, length-take 16 b, paired-length n (drop 16 a) (drop 16 b) la lb) (omega (arith, ea, eb))

-- ---- on a side: k frames and then c, where the second core has all of them, or none
module _ {A : Type 0} (silent : A) (plus : A → ℤ → A) (hand first k c : ℕ) (one : hand ≤ 1) (side : List A) (a more : List ℤ) (ea : length a ≡ stems_per_frame * k) where
  abbrev Parts : List ℤ → List ℤ → Type 0
  Parts b others = added silent plus (k + c) (a ++ more) (b ++ others) hand first side ≡ added silent plus c more others hand (first + k) (added silent plus k a b hand first side)

  alone : Parts [] []
  alone =
      let zeros = replicate (stems_per_frame * k) (pos 0) in
      sym (ap (λ (l : List ℤ). added silent plus (k + c) (a ++ more) l hand first side) (append-nil zeros) ∙ added-silent silent plus (a ++ more) hand first side (k + c) (stems_per_frame * k))
      ∙ added-append a more zeros [] hand k one ea (length-replicate (stems_per_frame * k) (pos 0)) silent plus first side c
      ∙ ap (added silent plus c more [] hand (first + k)) (added-silent silent plus a hand first side k (stems_per_frame * k))

  pub added-parts : (sounds : Bool) (b others : List ℤ) → length b ≡ stems_per_frame * cond sounds k 0 → length others ≡ stems_per_frame * cond sounds c 0 → Parts b others
  added-parts true b others eb eo = added-append a more b others hand k one ea eb silent plus first side c
  added-parts false b others eb eo = rw (no_more b eb, no_more others eo) alone
