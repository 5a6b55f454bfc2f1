-- Frames of both cores added to two sides some at a time, and sides that are cleared first. Assumes nothing.
use mathlib.Core.Path.{◌≡◌, refl, sym, ap, ap₂, ◌∙◌}
use mathlib.Core.Bool.{Bool, cond}
use mathlib.Core.List.{List, ◌++◌}
use Prim.Native.Nat.{ℕ, ◌+◌, ◌*◌, ◌-◌, ◌≤◌, ◌<◌, min}
use native.Mathlib.Omega.{arith}
use lib.IntN.{ℤ, pos}
use lib.ListN.{length, take, drop, replicate, length-take, length-replicate}
use lib.Seq.{sets-eq, length-sets}
use Rattle.sizes.specs.Sizes.{stems_per_frame}
use Rattle.voices.specs.declared.Core.{Core}
use Rattle.sides.specs.Sides.{frames_in, added, saturating}
use Rattle.sides.proofs.Added.{added-long}
use Rattle.frames.specs.Turning.{Turns}
use Rattle.frames.proofs.Framing.{frames-long}
use Rattle.s3w2.specs.declared.Chip.{Chip}
use Rattle.s3w2.specs.Chips.{core_at, with_cores, core_queues}
use Rattle.chip_sound.specs.Sound.{core_frames, framed}
use Rattle.chip_sound.specs.Both.{second_sounds}
use Rattle.chip_sound.specs.Mixing.{cleared_to, mixed_called, mixed_in, mixed_left, mixed_right}
use Rattle.chip_sound.proofs.Chunks.{added-parts}
use Rattle.chip_sound.proofs.Seconds.{first-frames, second-side}
use Rattle.chip_sound.proofs.Loops.{Ran, one, two, Going, Went, went, mine-read, its-read, going-over}

-- ---- frames added to two sides
module _ {A : Type 0} (silent : A) (plus : A → ℤ → A) (ram : List ℕ) (queues : List ℤ) (sounds : Bool) (start : Chip) where
  -- a side after k frames
  abbrev on_side : ℕ → ℕ → List A → List A
  on_side hand k side = added silent plus k (one ram queues sounds start k).stems (two ram queues sounds start k).stems hand 0 side

  side-turn : (n k count : ℕ) (c d : Core) (ys zs : List ℤ) → Went ram queues sounds start n k count c d ys zs → (hand : ℕ) (side₀ side heard : List A) → hand ≤ 1 → side ≡ on_side hand k side₀
      → heard ≡ added silent plus count ys zs hand k side → heard ≡ on_side hand (k + count) side₀
  side-turn n k count c d ys zs w hand side₀ side heard h es eh =
      let z : k ≡ 0 + k = omega arith in
      eh
      ∙ ap₂ (λ (f : ℕ) (l : List A). added silent plus count ys zs hand f l) z es
      ∙ sym (added-parts silent plus hand 0 k count h side₀ (one ram queues sounds start k).stems ys (frames-long start.version ram (core_queues 0 queues) (core_at start 0) k) sounds (two ram queues sounds start k).stems zs
      (frames-long start.version ram (core_queues 1 queues) (core_at start 1) (cond sounds k 0)) w.long_two)
      ∙ ap₂ (λ (a b : List ℤ). added silent plus (k + count) a b hand 0 side₀) w.stems_one w.stems_two

  side-over : sounds ≡ second_sounds start → (n m : ℕ) (hand : ℕ) (side : List A) → n ≡ m → on_side hand n side ≡ mixed_in silent plus start ram queues m hand side
  side-over e n m hand side q =
      second-side start ram queues n sounds e silent plus (one ram queues sounds start n).stems hand 0 side
      ∙ sym (ap (λ (t : Turns). added silent plus n t.stems (second n) hand 0 side) (first-frames start ram queues n))
      ∙ ap (λ (m : ℕ). added silent plus m (first m) (second m) hand 0 side) q
    where
      first : ℕ → List ℤ
      first m = (core_frames start ram queues m 0).stems

      second : ℕ → List ℤ
      second m = (core_frames start ram queues m 1).stems

  module _ (left₀ right₀ : List A) (n : ℕ) where
    pub record Mixing (k : ℕ) (a b : Core) (left right : List A) : Type 0 where
      pub going : Going ram queues sounds start n k a b
      pub on_left : left ≡ on_side 0 k left₀
      pub on_right : right ≡ on_side 1 k right₀
      pub long : n ≡ min (length left₀) (length right₀)

    pub mixing-begin : (a b : Core) → Going ram queues sounds start n 0 a b → n ≡ min (length left₀) (length right₀) → Mixing 0 a b left₀ right₀
    unfolding added
    mixing-begin a b g e = record { going = g; on_left = refl; on_right = refl; long = e }

    module _ (k : ℕ) (a b : Core) (left right : List A) (m : Mixing k a b left right) where
      pub left-length : length left ≡ length left₀
      left-length = ap length m.on_left ∙ added-long silent plus _ _ 0 0 left₀ k

      pub right-length : length right ≡ length right₀
      right-length = ap length m.on_right ∙ added-long silent plus _ _ 1 0 right₀ k

      -- one more turn, from what `run_core` and the adding say
      module _ (more : k < n) (count : ℕ) (ec : count ≡ min (n - k) 256) (stems others : List ℤ) (es : length stems ≡ 4096) (eo : length others ≡ 4096) (room : ℕ) (er : room ≡ cond sounds (stems_per_frame * count) 0)
          (q p : List ℤ) (eq : q ≡ queues) (ep : p ≡ queues) (c d : Core) (ys zs : List ℤ)
          (ry : Ran start.version ram q 0 a c (take (stems_per_frame * count) stems) ys) (rz : Ran start.version ram p 1 b d (take room others) zs) where
        abbrev w : Went ram queues sounds start n k count c d ys zs
        w = went ram queues sounds start n k a b m.going more count ec stems others es eo room er q p eq ep c d ys zs ry rz

        -- what the adding is lent
        abbrev firsts : List ℤ
        firsts = take (stems_per_frame * count) (ys ++ drop (stems_per_frame * count) stems)

        abbrev seconds : List ℤ
        seconds = take room (zs ++ drop room others)

        heard-is : (hand : ℕ) (side : List A) → added silent plus (frames_in (length firsts) (length left) (length right) k) firsts seconds hand k side ≡ added silent plus count ys zs hand k side
        unfolding frames_in
        heard-is hand side =
            let places : frames_in (length ys) (length left) (length right) k ≡ count = omega (arith, ec, w.long_one, more, left-length, right-length, m.long) in
            ap₂ (λ (x y : List ℤ). added silent plus (frames_in (length x) (length left) (length right) k) x y hand k side)
            (mine-read ram queues sounds start n k a b m.going more count ec stems others es eo room er q p eq ep c d ys zs ry rz)
            (its-read ram queues sounds start n k a b m.going more count ec stems others es eo room er q p eq ep c d ys zs ry rz)
            ∙ ap (λ (f : ℕ). added silent plus f ys zs hand k side) places

        pub mixing-turn : (l r : List A) → l ≡ added silent plus (frames_in (length firsts) (length left) (length right) k) firsts seconds 0 k left
            → r ≡ added silent plus (frames_in (length firsts) (length left) (length right) k) firsts seconds 1 k right → Mixing (k + count) c d l r
        mixing-turn l r el er = record {
          going = w.going;
          on_left = side-turn n k count c d ys zs w 0 left₀ left l (omega arith) m.on_left (el ∙ heard-is 0 left);
          on_right = side-turn n k count c d ys zs w 1 right₀ right r (omega arith) m.on_right (er ∙ heard-is 1 right);
          long = m.long;
        }

      -- after the last frame
      module _ (e : sounds ≡ second_sounds start) (h : n ≤ k) where
        abbrev last : k ≡ n
        last = omega (arith, h, m.going.within)

        pub chip-over : (next : Chip) → next ≡ with_cores start a b → next ≡ framed start ram queues (min (length left₀) (length right₀))
        chip-over next en = going-over ram queues sounds start n k a b next e m.going h en ∙ ap (λ (j : ℕ). framed start ram queues j) m.long

        pub left-over : left ≡ mixed_in silent plus start ram queues (min (length left₀) (length right₀)) 0 left₀
        left-over = m.on_left ∙ ap (λ (j : ℕ). on_side 0 j left₀) last ∙ side-over e n (min (length left₀) (length right₀)) 0 left₀ m.long

        pub right-over : right ≡ mixed_in silent plus start ram queues (min (length left₀) (length right₀)) 1 right₀
        right-over = m.on_right ∙ ap (λ (j : ℕ). on_side 1 j right₀) last ∙ side-over e n (min (length left₀) (length right₀)) 1 right₀ m.long

-- the first entries of a side, zeros
pub cleared-is : (n k : ℕ) (side zeros : List ℤ) → k ≡ min n (length side) → zeros ≡ replicate (length (take k side)) (pos 0) → zeros ++ drop k side ≡ cleared_to n side
cleared-is n k side zeros e z =
    let m : length (take k side) ≡ min n (length side) = length-take k side ∙ omega arith in
    let q : zeros ≡ replicate (min n (length side)) (pos 0) = z ∙ ap (λ (j : ℕ). replicate j (pos 0)) m in
    let d : 0 + length (replicate (min n (length side)) (pos 0)) ≡ min n (length side) = simp length-replicate (omega arith) in
    rw (q, e) (ap (λ (j : ℕ). replicate (min n (length side)) (pos 0) ++ drop j side) (sym d) ∙ sym (sets-eq (replicate (min n (length side)) (pos 0)) side 0 (omega (arith, d))))

pub cleared-length : (n : ℕ) (side : List ℤ) → length (cleared_to n side) ≡ length side
cleared-length n side = length-sets side 0 (replicate (min n (length side)) (pos 0))

-- sides that were cleared first
module _ (chip : Chip) (ram : List ℕ) (queues left right : List ℤ) (n : ℕ) (l r : List ℤ) where
  abbrev L : List ℤ
  L = cleared_to (min (length left) (length right)) left

  abbrev Rt : List ℤ
  Rt = cleared_to (min (length left) (length right)) right

  pub record MixedCleared : Type 0 where
    pub called : mixed_called chip ram queues l r ≡ mixed_called chip ram queues L Rt
    pub on_left : mixed_left saturating chip ram queues l r ≡ mixed_left saturating chip ram queues L Rt
    pub on_right : mixed_right saturating chip ram queues l r ≡ mixed_right saturating chip ram queues L Rt

  pub mixed-cleared : n ≡ min (length left) (length right) → l ≡ cleared_to n left → r ≡ cleared_to n right → MixedCleared
  mixed-cleared e el er =
      let fl : l ≡ L = el ∙ ap (λ (k : ℕ). cleared_to k left) e in
      let fr : r ≡ Rt = er ∙ ap (λ (k : ℕ). cleared_to k right) e in
      record {
        called = ap (λ (x : List ℤ). mixed_called chip ram queues x r) fl ∙ ap (mixed_called chip ram queues L) fr;
        on_left = ap (λ (x : List ℤ). mixed_left saturating chip ram queues x r) fl ∙ ap (mixed_left saturating chip ram queues L) fr;
        on_right = ap (λ (x : List ℤ). mixed_right saturating chip ram queues x r) fl ∙ ap (mixed_right saturating chip ram queues L) fr;
      }
