-- The stems of both cores paired some frames at a time: what the loop of `clock` keeps. Assumes nothing.
use mathlib.Core.Path.{◌≡◌, refl, sym, ap, ap₂, ◌∙◌}
use mathlib.Core.Bool.{Bool, true, false, cond}
use mathlib.Core.List.{List, ◌∷◌, ◌++◌, append_assoc}
use Prim.Native.Nat.{ℕ, zero, suc, ◌+◌, ◌*◌, ◌-◌, ◌/◌, ◌≤◌, ◌<◌, min}
use native.Mathlib.Omega.{arith}
use lib.IntN.{ℤ, pos}
use lib.ListN.{length, take, drop, replicate, length-take, length-replicate, replicate-append-replicate}
use lib.Seq.{sets, sets-eq, length-sets, take_at, drop-drop}
use borrow.Rule.Slice.PartMut.{put_mid}
use Rattle.sizes.specs.Sizes.{stems_per_frame}
use Rattle.cores.specs.Sizes.{chip_stems}
use Rattle.cores.specs.Stems.{paired}
use Rattle.num.proofs.Lists.{sets-append}
use Rattle.voices.specs.declared.Core.{Core}
use Rattle.frames.specs.Turning.{Turns}
use Rattle.frames.proofs.Framing.{frames-long}
use Rattle.s3w2.specs.declared.Chip.{Chip}
use Rattle.s3w2.specs.Chips.{core_at, with_cores, core_queues}
use Rattle.chip_sound.specs.Sound.{core_frames, framed}
use Rattle.chip_sound.specs.Both.{second_sounds}
use Rattle.chip_sound.proofs.Runs.{sets-all}
use Rattle.chip_sound.proofs.Chunks.{no_more, paired-append, paired-length}
use Rattle.chip_sound.proofs.Seconds.{first-frames, second-frames, silent-second}
use Rattle.chip_sound.proofs.Loops.{room_most, Ran, ran-long, one, two, Going, Went, went, mine-read, going-over}

take-zeros : (n m : ℕ) → n ≤ m → take n (replicate m (pos 0)) ≡ replicate n (pos 0)
take-zeros zero m h = refl
take-zeros (suc n) zero h = absurd (omega (arith, h))
take-zeros (suc n) (suc m) h = ap (λ (l : List ℤ). pos 0 ∷ l) (take-zeros n m (omega (arith, h)))

-- a part that is put back
pub put-sets : (a k : ℕ) (l ys : List ℤ) → length ys ≡ k → a + k ≤ length l → put_mid a k l ys ≡ sets l a ys
put-sets a k l ys e h =
    sym (sets-eq ys l a (omega (arith, e, h)) ∙ ap (λ (r : List ℤ). (take a l ++ ys) ++ r) (ap (λ (m : ℕ). drop (a + m) l) e ∙ sym (drop-drop k a l)) ∙ append_assoc (take a l) ys (drop k (drop a l)))

module _ (ram : List ℕ) (queues : List ℤ) (sounds : Bool) (start : Chip) where
  -- core 1's stems: zeros where it does not sound
  abbrev pub heard : ℕ → List ℤ
  heard k = cond sounds (two ram queues sounds start k).stems (replicate (stems_per_frame * k) (pos 0))

  heard-long : (k : ℕ) → length (heard k) ≡ stems_per_frame * k
  heard-long k = go sounds
    where
      go : (b : Bool) → length (cond b (two ram queues b start k).stems (replicate (stems_per_frame * k) (pos 0))) ≡ stems_per_frame * k
      go true = frames-long start.version ram (core_queues 1 queues) (core_at start 1) k
      go false = length-replicate (stems_per_frame * k) (pos 0)

  -- ---- core 1's buffer after a turn: zeros where it does not sound
  module _ (k count room : ℕ) (second zs : List ℤ) (er : room ≡ cond sounds (stems_per_frame * count) 0) (quiet : sounds ≡ false → second ≡ replicate 4096 (pos 0))
      (ez : length zs ≡ stems_per_frame * cond sounds count 0) where
    heard-more : stems_per_frame * count ≤ 4096 → (two ram queues sounds start k).stems ++ zs ≡ (two ram queues sounds start (k + count)).stems → heard k ++ take (stems_per_frame * count) (zs ++ drop room second) ≡ heard (k + count)
    heard-more h e = go sounds er quiet ez e
      where
        go : (b : Bool) → room ≡ cond b (stems_per_frame * count) 0 → (b ≡ false → second ≡ replicate 4096 (pos 0)) → length zs ≡ stems_per_frame * cond b count 0
            → (two ram queues b start k).stems ++ zs ≡ (two ram queues b start (k + count)).stems
            → cond b (two ram queues b start k).stems (replicate (stems_per_frame * k) (pos 0)) ++ take (stems_per_frame * count) (zs ++ drop room second)
            ≡ cond b (two ram queues b start (k + count)).stems (replicate (stems_per_frame * (k + count)) (pos 0))
        go true r q z p = ap (λ (l : List ℤ). (two ram queues true start k).stems ++ l) (take_at zs (drop room second) (stems_per_frame * count) z) ∙ p
        go false r q z p =
            let s : stems_per_frame * k + stems_per_frame * count ≡ stems_per_frame * (k + count) = omega arith in
            ap (λ (l : List ℤ). replicate (stems_per_frame * k) (pos 0) ++ l)
            (ap₂ (λ (l : List ℤ) (m : ℕ). take (stems_per_frame * count) (l ++ drop m second)) (no_more zs z) r ∙ ap (take (stems_per_frame * count)) (q refl) ∙ take-zeros (stems_per_frame * count) 4096 h)
            ∙ replicate-append-replicate (stems_per_frame * k) (stems_per_frame * count) (pos 0) ∙ ap (λ (m : ℕ). replicate m (pos 0)) s

    quiet-stays : sounds ≡ false → zs ++ drop room second ≡ replicate 4096 (pos 0)
    quiet-stays s =
        let none : room ≡ 0 = er ∙ ap (λ (b : Bool). cond b (stems_per_frame * count) 0) s in
        ap₂ (λ (l : List ℤ) (m : ℕ). l ++ drop m second) (no_more zs (ez ∙ ap (λ (b : Bool). stems_per_frame * cond b count 0) s)) none ∙ quiet s

  -- ---- what the loop keeps
  module _ (stems₀ : List ℤ) (n : ℕ) where
    pub record Clocking (k : ℕ) (a b : Core) (stems second : List ℤ) : Type 0 where
      pub going : Going ram queues sounds start n k a b
      pub is : stems ≡ sets stems₀ 0 (paired k (one ram queues sounds start k).stems (heard k))
      pub quiet : sounds ≡ false → second ≡ replicate 4096 (pos 0)
      pub long : length stems₀ ≡ chip_stems * n

    pub clocking-begin : (a b : Core) → Going ram queues sounds start n 0 a b → length stems₀ ≡ chip_stems * n → Clocking 0 a b stems₀ (replicate 4096 (pos 0))
    unfolding paired
    clocking-begin a b g e = record { going = g; is = refl; quiet = λ _. refl; long = e }

    module _ (k : ℕ) (a b : Core) (stems second : List ℤ) (c : Clocking k a b stems second) where
      pub stems-length : length stems ≡ length stems₀
      stems-length = ap length c.is ∙ length-sets stems₀ 0 (paired k (one ram queues sounds start k).stems (heard k))

      -- the frames so far, and some more
      so_far : (count : ℕ) (x y : List ℤ) → (one ram queues sounds start k).stems ++ x ≡ (one ram queues sounds start (k + count)).stems → heard k ++ y ≡ heard (k + count)
          → sets stems (chip_stems * k) (paired count x y) ≡ sets stems₀ 0 (paired (k + count) (one ram queues sounds start (k + count)).stems (heard (k + count)))
      so_far count x y ex ey =
          let l = (one ram queues sounds start k).stems in
          let p = paired k l (heard k) in
          let ll = frames-long start.version ram (core_queues 0 queues) (core_at start 0) k in
          let e : chip_stems * k ≡ 0 + length p = omega (arith, paired-length k l (heard k) ll (heard-long k)) in
          ap₂ (λ (s : List ℤ) (i : ℕ). sets s i (paired count x y)) c.is e
          ∙ sym (sets-append p (paired count x y) stems₀ 0)
          ∙ ap (sets stems₀ 0) (sym (paired-append x y count k l (heard k) ll (heard-long k)) ∙ ap₂ (paired (k + count)) ex ey)

      -- after the last frame
      module _ (e : sounds ≡ second_sounds start) (h : n ≤ k) where
        pub clock-over : (next : Chip) → next ≡ with_cores start a b → next ≡ framed start ram queues n
        clock-over next en = going-over ram queues sounds start n k a b next e c.going h en

        heard-over : heard n ≡ (core_frames start ram queues n 1).stems
        heard-over = go sounds e
          where
            go : (b : Bool) → b ≡ second_sounds start → cond b (two ram queues b start n).stems (replicate (stems_per_frame * n) (pos 0)) ≡ (core_frames start ram queues n 1).stems
            go true q = sym (ap (λ (t : Turns). t.stems) (second-frames start ram queues n (sym q)))
            go false q = sym (ap (λ (t : Turns). t.stems) (silent-second start ram queues n (sym q)))

        pub stems-over : stems ≡ paired n (core_frames start ram queues n 0).stems (core_frames start ram queues n 1).stems
        stems-over =
            let m : k ≡ n = omega (arith, h, c.going.within) in
            let a = (one ram queues sounds start n).stems in
            let la = frames-long start.version ram (core_queues 0 queues) (core_at start 0) n in
            c.is ∙ ap (λ (j : ℕ). sets stems₀ 0 (paired j (one ram queues sounds start j).stems (heard j))) m
            ∙ sets-all stems₀ (paired n a (heard n)) (c.long ∙ sym (paired-length n a (heard n) la (heard-long n)))
            ∙ ap₂ (paired n) (sym (ap (λ (t : Turns). t.stems) (first-frames start ram queues n))) heard-over

      -- ---- one more turn, from what `run_core` and `pair` say
      module _ (more : k < n) (count : ℕ) (ec : count ≡ min (n - k) 256) (first : List ℤ) (ef : length first ≡ 4096) (es : length second ≡ 4096) (room : ℕ) (er : room ≡ cond sounds (stems_per_frame * count) 0)
          (q p : List ℤ) (eq : q ≡ queues) (ep : p ≡ queues) (d f : Core) (ys zs : List ℤ)
          (ry : Ran start.version ram q 0 a d (take (stems_per_frame * count) first) ys) (rz : Ran start.version ram p 1 b f (take room second) zs) where
        abbrev w : Went ram queues sounds start n k count d f ys zs
        w = went ram queues sounds start n k a b c.going more count ec first second ef es room er q p eq ep d f ys zs ry rz

        -- what `pair` is lent
        abbrev firsts : List ℤ
        firsts = take (stems_per_frame * count) (ys ++ drop (stems_per_frame * count) first)

        abbrev seconds : List ℤ
        seconds = take (stems_per_frame * count) (zs ++ drop room second)

        firsts-are : firsts ≡ ys
        firsts-are = mine-read ram queues sounds start n k a b c.going more count ec first second ef es room er q p eq ep d f ys zs ry rz

        firsts-long : length firsts ≡ stems_per_frame * count
        firsts-long = ap length firsts-are ∙ w.long_one

        seconds-long : length seconds ≡ stems_per_frame * count
        seconds-long =
            length-take (stems_per_frame * count) (zs ++ drop room second)
            ∙ rw (ran-long start.version ram p 1 b f room second zs rz es (omega (arith, ec, room_most sounds (stems_per_frame * count) room er))) (omega (arith, ec))

        pub clocking-turn : (ws out : List ℤ) → ws ≡ paired (length firsts / stems_per_frame) firsts seconds → out ≡ put_mid (chip_stems * k) (chip_stems * count) stems ws
            → Clocking (k + count) d f out (zs ++ drop room second)
        clocking-turn ws out ew eo =
            let j : length firsts / stems_per_frame ≡ count = omega (arith, firsts-long) in
            let z : ws ≡ paired count firsts seconds = ew ∙ ap (λ (m : ℕ). paired m firsts seconds) j in
            let l : length ws ≡ chip_stems * count = ap length z ∙ paired-length count firsts seconds firsts-long seconds-long in
            record {
              going = w.going;
              is = eo ∙ put-sets (chip_stems * k) (chip_stems * count) stems ws l (omega (arith, ec, more, c.long, stems-length)) ∙ ap (sets stems (chip_stems * k)) z
                  ∙ so_far count firsts seconds (ap (λ (s : List ℤ). (one ram queues sounds start k).stems ++ s) firsts-are ∙ w.stems_one) (heard-more k count room second zs er c.quiet w.long_two (omega (arith, ec)) w.stems_two);
              quiet = quiet-stays k count room second zs er c.quiet w.long_two;
              long = c.long;
            }
