-- Frames in one `C` line or in two: they print the same, and leave the same. Assumes a chip that lines can reach.
use Rattle.std.specs.Prelude.{Ok, Result}
use mathlib.Core.Path.{◌≡◌, refl, sym, ap, ap₂, ◌∙◌, subst}
use mathlib.Core.Bool.{Bool, true, false, cond}
use mathlib.Core.List.{List, [], ◌∷◌, ◌++◌, append-nil, append_assoc}
use Prim.Native.Nat.{ℕ, zero, suc, ◌+◌, ◌*◌, ◌≤◌, ◌<◌, min, max}
use native.Mathlib.Omega.{arith}
use lib.Dec.{ltb}
use lib.IntN.{ℤ, pos, nat_abs}
use lib.ListN.{length, get_or, set, replicate, length-replicate, replicate-append-replicate, get_or-append}
use lib.Seq.{set-append_left, get_or-append-add}
use Rattle.sizes.specs.Sizes.{stems_per_frame}
use Rattle.version.specs.declared.SguVersion.{SguVersion}
use Rattle.version.specs.Versions.{core_count}
use Rattle.voices.specs.declared.Core.{Core}
use Rattle.frames.specs.Turning.{Turns, frames}
use Rattle.frames.proofs.Framing.{frames-long}
use Rattle.sides.specs.Sides.{side_of, added, added_to, wrapping}
use Rattle.sides.proofs.Added.{added-length}
use Rattle.sides.proofs.Frames.{added-append}
use Rattle.s3w2.specs.declared.Chip.{Chip}
use Rattle.s3w2.specs.Answers.{Answer, Checked, unless, answered, called}
use Rattle.s3w2.specs.Chips.{core_at, with_cores, core_queues}
use Rattle.s3w2.specs.Refusals.{sound_refusal}
use Rattle.chip_sound.specs.Sound.{silent_turns, core_frames, framed}
use Rattle.chip_sound.specs.Mixing.{served, mixed_side, mixed_answered, mixed_left, mixed_right, mixed_i32_called}
use Rattle.chip_sound.proofs.Chunks.{more-core, more-stems}
use Rattle.log_lines.specs.declared.Line.{Line}
use Rattle.log_lines.specs.declared.LineFault.{LineFault}
use Rattle.log_lines.specs.declared.Line.TheVariants.{Clock}
use Rattle.log_lines.specs.Lines.{is_bad}
use Rattle.log_lines.specs.Texts.{frame_line, frame_lines, peak_of}
use Rattle.log_player.specs.Worlds.{World, world}
use Rattle.log_player.specs.Applied.{left_side, right_side, clocked_text, clocked_player, silent, effect_of, after_line, printed}
use Rattle.chip_calls.proofs.Accepting.{sound_none}
use Rattle.resume.proofs.Steps.{HeldMachine}
use Rattle.log_resume.specs.Cuts.{machine_of}
use Rattle.log_resume.proofs.Cuts.{held-line}
use Rattle.timed_log.specs.Unrolled.{clock_most, clock_line}
use Rattle.timed_as_plain.proofs.Lines.{clock-line}

-- ---- a side in two parts
abbrev zeros : ℕ → List ℤ
zeros n = replicate n (pos 0)

set-second : {A : Type 0} (l m : List A) (i : ℕ) (x : A) → set (l ++ m) (length l + i) x ≡ l ++ set m i x
set-second [] m i x = ap (λ (k : ℕ). set m k x) (let e : 0 + i ≡ i = omega arith in e)
set-second (y ∷ l) m i x =
    let e : suc (length l) + i ≡ suc (length l + i) = omega arith in
    ap (λ (k : ℕ). set (y ∷ (l ++ m)) k x) e ∙ ap (λ (r : List _). y ∷ r) (set-second l m i x)

module _ (plus : ℤ → ℤ → ℤ) (stems others : List ℤ) (hand : ℕ) (l m : List ℤ) where
  -- frames added to the first
  added-first : (n : ℕ) → n ≤ length l → added_to plus n stems others hand 0 (l ++ m) ≡ added_to plus n stems others hand 0 l ++ m
  unfolding added
  added-first zero h = refl
  added-first (suc n) h =
      let x = added_to plus n stems others hand 0 l in
      let here : 0 + n < length x = omega (arith, added-length plus stems others hand 0 l n) in
      ap (λ (y : List ℤ). set y (0 + n) (plus (get_or y (0 + n) (pos 0)) (side_of n hand stems others))) (added-first n (omega arith))
      ∙ ap (λ (z : ℤ). set (x ++ m) (0 + n) (plus z (side_of n hand stems others))) (get_or-append x m (pos 0) (0 + n) here)
      ∙ set-append_left x m (0 + n) _ here

  -- and to the second
  added-second : (n : ℕ) → added_to plus n stems others hand (length l) (l ++ m) ≡ l ++ added_to plus n stems others hand 0 m
  unfolding added
  added-second zero = refl
  added-second (suc n) =
      let x = added_to plus n stems others hand 0 m in
      let e : 0 + n ≡ n = omega arith in
      ap (λ (y : List ℤ). set y (length l + n) (plus (get_or y (length l + n) (pos 0)) (side_of n hand stems others))) (added-second n)
      ∙ ap (λ (z : ℤ). set (l ++ x) (length l + n) (plus z (side_of n hand stems others))) (get_or-append-add l x n (pos 0))
      ∙ set-second l x n _
      ∙ ap (λ (k : ℕ). l ++ set x k (plus (get_or x k (pos 0)) (side_of n hand stems others))) (sym e)

-- ---- a core that a version has or lacks: a frames, and b more of what they leave
module _ (here : Bool) (version : SguVersion) (ram : List ℕ) (queues : List ℤ) where
  abbrev turns : ℕ → Core → Turns
  turns n core = cond here (frames version ram queues n core) (silent_turns n core)

  turns-long : (n : ℕ) (core : Core) → length (turns n core).stems ≡ stems_per_frame * n
  turns-long n core = go here
    where
      go : (t : Bool) → length (cond t (frames version ram queues n core) (silent_turns n core)).stems ≡ stems_per_frame * n
      go true = frames-long version ram queues core n
      go false = length-replicate (stems_per_frame * n) (pos 0)

  turns-core : (a b : ℕ) (core : Core) → (turns (a + b) core).core ≡ (turns b (turns a core).core).core
  turns-core a b core = go here
    where
      go : (t : Bool) → (cond t (frames version ram queues (a + b) core) (silent_turns (a + b) core)).core
          ≡ (cond t (frames version ram queues b (cond t (frames version ram queues a core) (silent_turns a core)).core) (silent_turns b (cond t (frames version ram queues a core) (silent_turns a core)).core)).core
      go true = more-core version ram queues core a b
      go false = refl

  turns-stems : (a b : ℕ) (core : Core) → (turns (a + b) core).stems ≡ (turns a core).stems ++ (turns b (turns a core).core).stems
  turns-stems a b core = go here
    where
      go : (t : Bool) → (cond t (frames version ram queues (a + b) core) (silent_turns (a + b) core)).stems
          ≡ (cond t (frames version ram queues a core) (silent_turns a core)).stems ++ (cond t (frames version ram queues b (cond t (frames version ram queues a core) (silent_turns a core)).core) (silent_turns b (cond t (frames version ram queues a core) (silent_turns a core)).core)).stems
      go true = more-stems version ram queues core a b
      go false =
          let e : stems_per_frame * (a + b) ≡ stems_per_frame * a + stems_per_frame * b = omega arith in
          ap zeros e ∙ sym (replicate-append-replicate (stems_per_frame * a) (stems_per_frame * b) (pos 0))

-- ---- both cores
module _ (ram : List ℕ) (queues : List ℤ) where
  abbrev side_by : Chip → ℕ → ℕ → List ℤ
  side_by chip hand n = added_to wrapping n (core_frames chip ram queues n 0).stems (core_frames chip ram queues n 1).stems hand 0 (zeros n)

  side-long : (chip : Chip) (hand n : ℕ) → length (side_by chip hand n) ≡ n
  side-long chip hand n = added-length wrapping _ _ hand 0 (zeros n) n ∙ length-replicate n (pos 0)

  module _ (chip : Chip) (a b : ℕ) where
    abbrev has : ℕ → Bool
    has k = ltb k (core_count chip.version)

    abbrev next : Chip
    next = framed chip ram queues a

    framed-more : framed chip ram queues (a + b) ≡ framed next ram queues b
    framed-more = ap₂ (with_cores chip) (turns-core (has 0) chip.version ram (core_queues 0 queues) a b (core_at chip 0)) (turns-core (has 1) chip.version ram (core_queues 1 queues) a b (core_at chip 1))

    side-more : (hand : ℕ) → hand ≤ 1 → side_by chip hand (a + b) ≡ side_by chip hand a ++ side_by next hand b
    side-more hand one =
        let s = (core_frames chip ram queues a 0).stems in
        let o = (core_frames chip ram queues a 1).stems in
        let t = (core_frames next ram queues b 0).stems in
        let u = (core_frames next ram queues b 1).stems in
        let x = side_by chip hand a in
        let z = length-replicate a (pos 0) in
        let e : 0 + a ≡ length x = omega (arith, side-long chip hand a) in
        ap₂ (λ (p q : List ℤ). added_to wrapping (a + b) p q hand 0 (zeros (a + b))) (turns-stems (has 0) chip.version ram (core_queues 0 queues) a b (core_at chip 0)) (turns-stems (has 1) chip.version ram (core_queues 1 queues) a b (core_at chip 1))
        ∙ added-append s t o u hand a one (turns-long (has 0) chip.version ram (core_queues 0 queues) a (core_at chip 0)) (turns-long (has 1) chip.version ram (core_queues 1 queues) a (core_at chip 1)) (pos 0) wrapping 0 (zeros (a + b)) b
        ∙ ap (λ (l : List ℤ). added_to wrapping b t u hand (0 + a) (added_to wrapping a s o hand 0 l)) (sym (replicate-append-replicate a b (pos 0)))
        ∙ ap (added_to wrapping b t u hand (0 + a)) (added-first wrapping s o hand (zeros a) (zeros b) a (omega arith))
        ∙ ap (λ (k : ℕ). added_to wrapping b t u hand k (x ++ zeros b)) e
        ∙ added-second wrapping t u hand x (zeros b) b

-- ---- what they print
lines-first : (a b c d : List ℤ) (n : ℕ) → n ≤ length a → n ≤ length b → frame_lines (a ++ c) (b ++ d) n ≡ frame_lines a b n
unfolding frame_lines
lines-first a b c d zero h k = refl
lines-first a b c d (suc n) h k =
    ap₂ (λ (x y : List ℕ). x ++ y) (lines-first a b c d n (omega arith) (omega arith))
    (ap₂ frame_line (get_or-append a c (pos 0) n (omega arith)) (get_or-append b d (pos 0) n (omega arith)))

peak-first : (a c : List ℤ) (before n : ℕ) → n ≤ length a → peak_of before (a ++ c) n ≡ peak_of before a n
unfolding peak_of
peak-first a c before zero h = refl
peak-first a c before (suc n) h = ap₂ (λ (x : ℕ) (z : ℤ). max x (nat_abs z)) (peak-first a c before n (omega arith)) (get_or-append a c (pos 0) n (omega arith))

there : (l m : List ℤ) (n i : ℕ) → length l ≡ n → get_or (l ++ m) (n + i) (pos 0) ≡ get_or m i (pos 0)
there l m n i e = ap (λ (k : ℕ). get_or (l ++ m) (k + i) (pos 0)) (sym e) ∙ get_or-append-add l m i (pos 0)

-- behind n frames
module _ (n : ℕ) (a c : List ℤ) (h : length a ≡ n) where
  lines_more : (b d : List ℤ) → length b ≡ n → (m : ℕ) → frame_lines (a ++ c) (b ++ d) (n + m) ≡ frame_lines a b n ++ frame_lines c d m
  unfolding frame_lines
  lines_more b d k zero =
      let e : n + 0 ≡ n = omega arith in
      ap (frame_lines (a ++ c) (b ++ d)) e ∙ lines-first a b c d n (omega arith) (omega arith) ∙ sym (append-nil (frame_lines a b n))
  lines_more b d k (suc m) =
      let e : n + suc m ≡ suc (n + m) = omega arith in
      ap (frame_lines (a ++ c) (b ++ d)) e
      ∙ ap₂ (λ (x y : List ℕ). x ++ y) (lines_more b d k m) (ap₂ frame_line (there a c n m h) (there b d n m k))
      ∙ append_assoc (frame_lines a b n) (frame_lines c d m) (frame_line (get_or c m (pos 0)) (get_or d m (pos 0)))

  peak-more : (before m : ℕ) → peak_of before (a ++ c) (n + m) ≡ peak_of (peak_of before a n) c m
  unfolding peak_of
  peak-more before zero =
      let e : n + 0 ≡ n = omega arith in
      ap (peak_of before (a ++ c)) e ∙ peak-first a c before n (omega arith)
  peak-more before (suc m) =
      let e : n + suc m ≡ suc (n + m) = omega arith in
      ap (peak_of before (a ++ c)) e ∙ ap₂ (λ (i : ℕ) (z : ℤ). max i (nat_abs z)) (peak-more before m) (there a c n m h)

-- ---- a `C` line by the frames that it sounds
abbrev Accepts : World → Type 0
Accepts w = sound_refusal w.player.chip (length w.ram) (length w.queues) ≡ Ok tt

abbrev side_on : World → ℕ → ℕ → List ℤ
side_on w hand n = side_by w.ram w.queues w.player.chip hand n

abbrev sounds : World → ℕ → World
sounds w n =
    world
    (record {
      chip = framed w.player.chip w.ram w.queues n;
      left = peak_of w.player.left (side_on w 0 n) n;
      right = peak_of w.player.right (side_on w 1 n) n;
    }) w.ram w.queues

called-chip : (r : Checked) (chip c : Chip) (a : Answer) → r ≡ Ok tt → (called r chip (answered c a)).chip ≡ c
called-chip r chip c a e = ap (λ (x : Checked). (called x chip (answered c a)).chip) e

module _ (w : World) (n : ℕ) (h : n ≤ 1000) (ok : Accepts w) where
  abbrev chip : Chip
  chip = w.player.chip

  silent-is : silent n ≡ zeros n
  silent-is = ap zeros (let e : min n 1000 ≡ n = omega arith in e)

  all-served : served (silent n) (silent n) ≡ n
  all-served = omega (arith, length-replicate (min n 1000) (pos 0))

  side-is : (hand : ℕ) → mixed_side wrapping chip w.ram w.queues (silent n) (silent n) hand (silent n) ≡ side_on w hand n
  side-is hand =
      ap₂ (λ (k : ℕ) (l : List ℤ). added_to wrapping k (core_frames chip w.ram w.queues k 0).stems (core_frames chip w.ram w.queues k 1).stems hand 0 l) all-served silent-is

  left_is : left_side chip w.ram w.queues (silent n) (silent n) ≡ side_on w 0 n
  unfolding mixed_left
  left_is = ap (λ (r : Checked). unless r (silent n) (mixed_side wrapping chip w.ram w.queues (silent n) (silent n) 0 (silent n))) ok ∙ side-is 0

  right_is : right_side chip w.ram w.queues (silent n) (silent n) ≡ side_on w 1 n
  unfolding mixed_right
  right_is = ap (λ (r : Checked). unless r (silent n) (mixed_side wrapping chip w.ram w.queues (silent n) (silent n) 1 (silent n))) ok ∙ side-is 1

  chip-is : (mixed_i32_called chip w.ram w.queues (silent n) (silent n)).chip ≡ framed chip w.ram w.queues n
  unfolding mixed_answered
  chip-is = called-chip _ chip _ _ ok ∙ ap (framed chip w.ram w.queues) all-served

  peak-is : (before hand : ℕ) (side : List ℤ) → side ≡ side_on w hand n → peak_of before side (length side) ≡ peak_of before (side_on w hand n) n
  peak-is before hand side e = ap (λ (x : List ℤ). peak_of before x (length x)) e ∙ ap (peak_of before (side_on w hand n)) (side-long w.ram w.queues chip hand n)

  after_is : after_line w (Ok (Clock n)) ≡ sounds w n
  unfolding effect_of clocked_player
  after_is = λ i. world (record { chip = chip-is i; left = peak-is w.player.left 0 _ left_is i; right = peak-is w.player.right 1 _ right_is i }) w.ram w.queues

  printed-is : printed w (Ok (Clock n)) ≡ frame_lines (side_on w 0 n) (side_on w 1 n) n
  unfolding effect_of clocked_text
  printed-is =
      let e : min (length (side_on w 0 n)) (length (side_on w 1 n)) ≡ n = omega (arith, side-long w.ram w.queues chip 0 n, side-long w.ram w.queues chip 1 n) in
      ap₂ (λ (a b : List ℤ). frame_lines a b (min (length a) (length b))) left_is right_is ∙ ap (frame_lines (side_on w 0 n) (side_on w 1 n)) e

-- ---- a frames and then b
pub record Splits (w : World) (a b : ℕ) : Type 0 where
  pub after : after_line w (Ok (Clock (a + b))) ≡ after_line (after_line w (Ok (Clock a))) (Ok (Clock b))
  pub text : printed w (Ok (Clock (a + b))) ≡ printed w (Ok (Clock a)) ++ printed (after_line w (Ok (Clock a))) (Ok (Clock b))

module _ (w : World) (a b : ℕ) (h : a + b ≤ 1000) (ok : Accepts w) (next : Accepts (after_line w (Ok (Clock a)))) where
  abbrev v : World
  v = sounds w a

  is-v : after_line w (Ok (Clock a)) ≡ v
  is-v = after_is w a (omega arith) ok

  ok-v : Accepts v
  ok-v = subst Accepts is-v next

  side-joins : (hand : ℕ) → hand ≤ 1 → side_on w hand (a + b) ≡ side_on w hand a ++ side_on v hand b
  side-joins = side-more w.ram w.queues w.player.chip a b

  long : (hand : ℕ) → length (side_on w hand a) ≡ a
  long hand = side-long w.ram w.queues w.player.chip hand a

  peak-joins : (before hand : ℕ) → hand ≤ 1 → peak_of before (side_on w hand (a + b)) (a + b) ≡ peak_of (peak_of before (side_on w hand a) a) (side_on v hand b) b
  peak-joins before hand one = ap (λ (l : List ℤ). peak_of before l (a + b)) (side-joins hand one) ∙ peak-more a (side_on w hand a) (side_on v hand b) (long hand) before b

  world-joins : sounds w (a + b) ≡ sounds v b
  world-joins = λ i. world (record { chip = framed-more w.ram w.queues w.player.chip a b i; left = peak-joins w.player.left 0 (omega arith) i; right = peak-joins w.player.right 1 (omega arith) i }) w.ram w.queues

  text-joins : frame_lines (side_on w 0 (a + b)) (side_on w 1 (a + b)) (a + b) ≡ frame_lines (side_on w 0 a) (side_on w 1 a) a ++ frame_lines (side_on v 0 b) (side_on v 1 b) b
  text-joins =
      ap₂ (λ (x y : List ℤ). frame_lines x y (a + b)) (side-joins 0 (omega arith)) (side-joins 1 (omega arith))
      ∙ lines_more a (side_on w 0 a) (side_on v 0 b) (long 0) (side_on w 1 a) (side_on v 1 b) (long 1) b

  splits : Splits w a b
  splits = record {
    after = after_is w (a + b) h ok ∙ world-joins ∙ sym (ap (λ (u : World). after_line u (Ok (Clock b))) is-v ∙ after_is v b (omega arith) ok-v);
    text =
        printed-is w (a + b) h ok ∙ text-joins
        ∙ sym (ap₂ (λ (x y : List ℕ). x ++ y) (printed-is w a (omega arith) ok) (ap (λ (u : World). printed u (Ok (Clock b))) is-v ∙ printed-is v b (omega arith) ok-v));
  }

-- ---- THE SPLIT, of worlds that lines can reach: so many frames in one line or in two
abbrev Held : World → Type 0
Held w = HeldMachine (machine_of w)

accepts : (w : World) → Held w → Accepts w
accepts w h = sound_none w.player.chip w.ram w.queues h

pub held-clock : (w : World) (n : ℕ) → 1 ≤ n → n ≤ clock_most → Held w → Held (after_line w (Ok (Clock n)))
held-clock w n low high h =
    let e = clock-line n low high in
    subst (λ (l : Result Line LineFault). Held (after_line w l)) e (held-line (clock_line n) w h (ap is_bad e))

pub clock-splits : (b : ℕ) (w : World) (a : ℕ) → 1 ≤ a → 1 ≤ b → a + b ≤ clock_most → Held w → Splits w a b
clock-splits b w a low some high h = splits w a b high (accepts w h) (accepts (after_line w (Ok (Clock a))) (held-clock w a low (omega arith) h))
