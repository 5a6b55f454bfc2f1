-- Frames of both cores some at a time: what the loops keep. Core 1 is clocked for all the frames, or, where it does not sound, for none. Assumes nothing.
use mathlib.Core.Path.{◌≡◌, refl, sym, ap, ap₂, ◌∙◌, subst}
use mathlib.Core.Bool.{Bool, true, false, cond}
use mathlib.Core.List.{List, ◌++◌}
use Prim.Native.Nat.{ℕ, ◌+◌, ◌*◌, ◌-◌, ◌≤◌, ◌<◌, min}
use native.Mathlib.Omega.{arith}
use lib.IntN.{ℤ}
use lib.ListN.{length, take, drop, length-append, length-take, length-drop}
use lib.Seq.{sets, length-sets, take_at}
use Rattle.sizes.specs.Sizes.{queue_buffer, stems_per_frame}
use Rattle.cores.specs.Sizes.{chip_queues}
use Rattle.version.specs.declared.SguVersion.{SguVersion}
use Rattle.voices.specs.declared.Core.{Core}
use Rattle.voices.specs.Accepted.{accepts_core}
use Rattle.frames.specs.Turning.{Turns, frames}
use Rattle.s3w2.specs.declared.Chip.{Chip}
use Rattle.s3w2.specs.Chips.{core_at, with_cores, core_queues}
use Rattle.s3w2.specs.Refusals.{accepts_chip}
use Rattle.chip_sound.specs.Sound.{framed}
use Rattle.chip_sound.specs.Both.{second_sounds, ran_of}
use Rattle.s3w2.proofs.Fits.{core-accepts}
use Rattle.chip_sound.proofs.Runs.{queues-long, ran-frames, ran-stems}
use Rattle.chip_sound.proofs.Chunks.{more-core, more-stems}
use Rattle.chip_sound.proofs.Seconds.{first-frames, second-core}

pub prefix-length : (k : ℕ) (l : List ℤ) → k ≤ length l → k ≡ length (take k l)
prefix-length k l h = sym (length-take k l ∙ omega arith)

room-parts : (sounds : Bool) (k c : ℕ) → cond sounds k 0 + cond sounds c 0 ≡ cond sounds (k + c) 0
room-parts true k c = refl
room-parts false k c = refl

pub room_most : (sounds : Bool) (end room : ℕ) → room ≡ cond sounds end 0 → room ≤ end
room_most true end room e = omega (arith, e)
room_most false end room e = omega (arith, e)

room-stems : (sounds : Bool) (count : ℕ) → cond sounds (stems_per_frame * count) 0 ≡ stems_per_frame * cond sounds count 0
room-stems true count = refl
room-stems false count = refl

-- ---- core i: k frames of it, and then some more
module _ (version : SguVersion) (ram : List ℕ) (queues : List ℤ) (i : ℕ) where
  -- what a call of `run_core` says
  pub record Ran (core next : Core) (stems out : List ℤ) : Type 0 where
    pub result : next ≡ (ran_of version ram queues i (length stems) core).core
    pub given : out ≡ sets stems 0 (ran_of version ram queues i (length stems) core).stems
    pub accepted : accepts_core core version (length ram) ≡ true → accepts_core next version (length ram) ≡ true

  -- a buffer, after a part of it was lent to that call
  pub ran-long : (core next : Core) (m : ℕ) (l out : List ℤ) → Ran core next (take m l) out → length l ≡ 4096 → m ≤ 4096 → length (out ++ drop m l) ≡ 4096
  ran-long core next m l out r e h =
      let same : length out ≡ m = ap length r.given ∙ length-sets (take m l) 0 (ran_of version ram queues i (length (take m l)) core).stems ∙ sym (prefix-length m l (omega (arith, e, h))) in
      length-append out (drop m l) ∙ rw (same, length-drop m l, e) (omega (arith, h))

  module _ (start : Core) where
    pub record After (k : ℕ) (core : Core) : Type 0 where
      pub is : core ≡ (frames version ram (core_queues i queues) k start).core
      pub accepted : accepts_core core version (length ram) ≡ true

    pub record Turn (k count : ℕ) (next : Core) (out : List ℤ) : Type 0 where
      pub after : After (k + count) next
      pub stems : (frames version ram (core_queues i queues) k start).stems ++ out ≡ (frames version ram (core_queues i queues) (k + count) start).stems
      pub long : length out ≡ stems_per_frame * count

    after_none : accepts_core start version (length ram) ≡ true → After 0 start
    unfolding frames
    after_none ok = record { is = refl; accepted = ok }

    turn : length (core_queues i queues) ≡ queue_buffer → (k count : ℕ) (core next : Core) (buffer out : List ℤ) → After k core → length buffer ≡ stems_per_frame * count
        → Ran core next buffer out → Turn k count next out
    turn lent k count core next buffer out h es r =
        let q = core_queues i queues in
        record {
          after = record {
            is = r.result ∙ ap (λ (t : Turns). t.core) (ran-frames version ram q core lent h.accepted count (length buffer) es) ∙ ap (λ (c : Core). (frames version ram q count c).core) h.is
                ∙ sym (more-core version ram q start k count);
            accepted = r.accepted h.accepted;
          };
          stems = ap (λ (l : List ℤ). (frames version ram q k start).stems ++ l)
              (r.given ∙ ran-stems version ram q core lent h.accepted count (length buffer) es buffer refl ∙ ap (λ (c : Core). (frames version ram q count c).stems) h.is)
              ∙ sym (more-stems version ram q start k count);
          long = ap length r.given ∙ length-sets buffer 0 (ran_of version ram queues i (length buffer) core).stems ∙ es;
        }

module _ (ram : List ℕ) (queues : List ℤ) (sounds : Bool) (start : Chip) where
  -- core 0 and core 1 after k frames
  abbrev pub one : ℕ → Turns
  one k = frames start.version ram (core_queues 0 queues) k (core_at start 0)

  abbrev pub two : ℕ → Turns
  two k = frames start.version ram (core_queues 1 queues) (cond sounds k 0) (core_at start 1)

  pub record Going (n k : ℕ) (first second : Core) : Type 0 where
    pub within : k ≤ n
    pub is_one : After start.version ram queues 0 (core_at start 0) k first
    pub is_two : After start.version ram queues 1 (core_at start 1) (cond sounds k 0) second
    pub lent : length queues ≡ chip_queues

  begun : (n : ℕ) → accepts_chip start (length ram) ≡ true → length queues ≡ chip_queues → Going n 0 (core_at start 0) (core_at start 1)
  begun n ok lent = record {
    within = omega arith;
    is_one = after_none start.version ram queues 0 (core_at start 0) (core-accepts start (length ram) ok 0 (omega arith));
    is_two = subst (λ (k : ℕ). After start.version ram queues 1 (core_at start 1) k (core_at start 1)) (none sounds) (after_none start.version ram queues 1 (core_at start 1) (core-accepts start (length ram) ok 1 (omega arith)));
    lent = lent;
  }
    where
      none : (b : Bool) → ◌≡◌ {A = ℕ} 0 (cond b 0 0)
      none true = refl
      none false = refl

  -- with the two cores as the code takes them out
  pub begin : (n : ℕ) → accepts_chip start (length ram) ≡ true → length queues ≡ chip_queues → (a b : Core) → a ≡ core_at start 0 → b ≡ core_at start 1 → Going n 0 a b
  begin n ok lent a b e f = subst (λ (x : Core). Going n 0 x b) (sym e) (subst (λ (y : Core). Going n 0 (core_at start 0) y) (sym f) (begun n ok lent))

  -- ---- one more turn of the loop: count frames, as many as the parts of the stem buffers have room for
  pub record Went (n k count : ℕ) (first second : Core) (ys zs : List ℤ) : Type 0 where
    pub going : Going n (k + count) first second
    pub stems_one : (one k).stems ++ ys ≡ (one (k + count)).stems
    pub stems_two : (two k).stems ++ zs ≡ (two (k + count)).stems
    pub long_one : length ys ≡ stems_per_frame * count
    pub long_two : length zs ≡ stems_per_frame * cond sounds count 0

  module _ (n k : ℕ) (a b : Core) (g : Going n k a b) (more : k < n) (count : ℕ) (ec : count ≡ min (n - k) 256) (stems others : List ℤ) (es : length stems ≡ 4096) (eo : length others ≡ 4096)
      (room : ℕ) (er : room ≡ cond sounds (stems_per_frame * count) 0) where
    end-in : stems_per_frame * count ≤ length stems
    end-in = omega (arith, ec, es)

    room_in : room ≤ length others
    room_in = omega (arith, ec, eo, room_most sounds (stems_per_frame * count) room er)

    -- the parts that the cores are lent
    abbrev mine : List ℤ
    mine = take (stems_per_frame * count) stems

    abbrev its : List ℤ
    its = take room others

    module _ (q p : List ℤ) (eq : q ≡ queues) (ep : p ≡ queues) (c d : Core) (ys zs : List ℤ) (ry : Ran start.version ram q 0 a c mine ys) (rz : Ran start.version ram p 1 b d its zs) where
      pub went : Went n k count c d ys zs
      went =
          let t = turn start.version ram queues 0 (core_at start 0) (queues-long 0 queues (omega arith) g.lent) k count a c mine ys g.is_one (sym (prefix-length (stems_per_frame * count) stems end-in))
          (subst (λ (l : List ℤ). Ran start.version ram l 0 a c mine ys) eq ry) in
          let u = turn start.version ram queues 1 (core_at start 1) (queues-long 1 queues (omega arith) g.lent) (cond sounds k 0) (cond sounds count 0) b d its zs g.is_two (sym (prefix-length room others room_in) ∙ er ∙ room-stems sounds count)
          (subst (λ (l : List ℤ). Ran start.version ram l 1 b d its zs) ep rz) in
          record {
            going = record {
              within = omega (arith, ec, more);
              is_one = t.after;
              is_two = subst (λ (m : ℕ). After start.version ram queues 1 (core_at start 1) m d) (room-parts sounds k count) u.after;
              lent = g.lent;
            };
            stems_one = t.stems;
            stems_two = u.stems ∙ ap (λ (m : ℕ). (frames start.version ram (core_queues 1 queues) m (core_at start 1)).stems) (room-parts sounds k count);
            long_one = t.long;
            long_two = u.long;
          }

      -- they are read back
      pub mine-read : take (stems_per_frame * count) (ys ++ drop (stems_per_frame * count) stems) ≡ ys
      mine-read = take_at ys (drop (stems_per_frame * count) stems) (stems_per_frame * count) went.long_one

      pub its-read : take room (zs ++ drop room others) ≡ zs
      its-read = take_at zs (drop room others) room (went.long_two ∙ sym (er ∙ room-stems sounds count))

  -- ---- after the last frame
  pub going-over : (n k : ℕ) (a b : Core) (next : Chip) → sounds ≡ second_sounds start → Going n k a b → n ≤ k → next ≡ with_cores start a b → next ≡ framed start ram queues n
  going-over n k a b next e g h en =
      let m : k ≡ n = omega (arith, h, g.within) in
      en ∙ ap₂ (with_cores start) g.is_one.is g.is_two.is ∙ ap (λ (j : ℕ). with_cores start (one j).core (two j).core) m
      ∙ ap₂ (with_cores start) (sym (ap (λ (t : Turns). t.core) (first-frames start ram queues n))) (second-core start ram queues n sounds e)
