-- A list of calls is its lines, one after the other: the chip, the RAM and the queue buffer are theirs, and so are the bytes that it has read and the sides that the stems of both cores add up to.
-- Assumes nothing.
use Rattle.std.specs.Prelude.{Ok, is_ok}
use mathlib.Core.Path.{◌≡◌, refl, sym, ap, ◌∙◌}
use mathlib.Core.Bool.{Bool, true, false, cond}
use mathlib.Core.List.{List}
use Prim.Native.Nat.{ℕ, ◌+◌, ◌*◌, ◌≤◌, ◌<◌, min}
use native.Mathlib.Decide.{dec_lt}
use native.Mathlib.Omega.{arith}
use lib.Dec.{eqb, ltb}
use lib.IntN.{ℤ, pos}
use lib.ListN.{length, length-set, length-replicate, get_or, get_or-eq_default}
use lib.Seq.{sets, length-sets, get_or-set_other}
use borrow.Author.Tests.{eq-eqb}
use Rattle.sizes.specs.Sizes.{stems_per_frame}
use Rattle.cores.specs.Sizes.{chip_queues, chip_stems}
use Rattle.num.specs.Lists.{part}
use Rattle.tone.specs.Pcm.{is_ram_length}
use Rattle.version.specs.Versions.{core_count}
use Rattle.sides.specs.Sides.{side_of, added_to, wrapping}
use Rattle.sides.proofs.Added.{added-length}
use Rattle.frames.specs.declared.Asked.{Asked}
use Rattle.frames.specs.declared.Asked.TheVariants as asked
use Rattle.frames.specs.Listing.{clocked_as}
use Rattle.frames.specs.Turning.{frames}
use Rattle.frames.proofs.Framing.{frames-long}
use Rattle.s3w2.specs.declared.Returned.TheVariants.{Ended}
use Rattle.s3w2.specs.declared.Called.{Called}
use Rattle.s3w2.specs.declared.Chip.{Chip}
use Rattle.s3w2.specs.Answers.{Answer, Checked, done_unless, unless, answered, byte_answered}
use Rattle.s3w2.specs.Refusals.{refusal, accepts_chip, sound_refusal, clock_refusal}
use Rattle.s3w2.specs.Chips.{core_at, core_queues}
use Rattle.s3w2.specs.Registers.{read_register_called, peek_register_answer}
use Rattle.chip_sound.specs.Sound.{silent_turns, core_frames, framed, framed_ended, clock_called}
use Rattle.chip_sound.specs.Mixing.{served, mixed_side, mixed_answered, mixed_left, mixed_right, mixed_i32_called}
use Rattle.chip_lists.specs.Plays.{Playing, shown_by, clock_played, call_played}
use Rattle.log_lines.specs.declared.Line.TheVariants.{Write, WriteRam, Read, Peek, Clock}
use Rattle.log_lines.specs.Texts.{frame_lines, read_back_line, peak_of}
use Rattle.log_player.specs.Worlds.{World, world}
use Rattle.log_player.specs.Applied.{left_side, right_side, clocked_text, clocked_player, silent, Effect, effect_of}
use Rattle.log_player.specs.Batches.{line_as, shown_as}
use Rattle.log_player.proofs.Places.{sets_below, sets-above, zeros, part-long, part-at, side-none, added-zeros}
use Rattle.log_player.proofs.Overs.{wraps-not}

-- ---- core 1, or core 0: its number, and its stem buffer
abbrev pub core_of : Bool → ℕ
core_of true = 1
core_of false = 0

abbrev pub buffer_of : Bool → Playing → List ℤ
buffer_of true p = p.others
buffer_of false p = p.stems

-- ---- one clock, of n frames
module _ (chip : Chip) (ram : List ℕ) (queues : List ℤ) (n : ℕ) (few : n ≤ 1000) where
  abbrev z : List ℤ
  z = silent n

  abbrev done : Bool
  done = is_ok (sound_refusal chip (length ram) (length queues))

  as_many : length z ≡ n
  as_many = length-replicate (min n 1000) (pos 0) ∙ omega arith

  all-served : served z z ≡ n
  all-served = omega (arith, as_many)

  -- the stems of a core over what its buffer held
  abbrev pub given_by : Bool → List ℤ → List ℤ
  given_by second own = unless (sound_refusal chip (length ram) (length queues)) own (core_frames chip ram queues n (core_of second)).stems

  core-long : (k : ℕ) → length (core_frames chip ram queues n k).stems ≡ stems_per_frame * n
  core-long k = go (ltb k (core_count chip.version))
    where
      go : (b : Bool) → length (cond b (frames chip.version ram (core_queues k queues) n (core_at chip k)) (silent_turns n (core_at chip k))).stems ≡ stems_per_frame * n
      go true = frames-long chip.version ram (core_queues k queues) (core_at chip k) n
      go false = length-replicate (stems_per_frame * n) (pos 0)

  pub given-long : (second : Bool) (own : List ℤ) → length own ≡ stems_per_frame * n → length (given_by second own) ≡ stems_per_frame * n
  given-long second own e = go done
    where
      go : (b : Bool) → length (cond b (core_frames chip ram queues n (core_of second)).stems own) ≡ stems_per_frame * n
      go true = core-long (core_of second)
      go false = e

  same-refusal : clock_refusal chip (length ram) (length queues) n (chip_stems * n) ≡ sound_refusal chip (length ram) (length queues)
  same-refusal = ap (refusal (is_ram_length (length ram)) (eqb (length queues) chip_queues) (accepts_chip chip (length ram))) (eq-eqb (chip_stems * n) (chip_stems * n) refl)

  either-chip : (b : Bool) (x y : Called) (r t : Answer) → x.chip ≡ y.chip → (cond b x (answered chip r)).chip ≡ (cond b y (answered chip t)).chip
  either-chip true x y r t e = e
  either-chip false x y r t e = refl

  pub clock-chip : (clock_called chip ram queues n (chip_stems * n)).chip ≡ (mixed_i32_called chip ram queues (silent n) (silent n)).chip
  unfolding clock_called mixed_answered
  clock-chip =
      let no = sound_refusal chip (length ram) (length queues) in
      let given : Answer = Ok (Ended (framed_ended chip ram queues n)) in
      let heard : Answer = Ok (Ended (framed_ended chip ram queues (served z z))) in
      ap (λ (r : Checked). (unless r (answered chip (done_unless r)) (answered (framed chip ram queues n) given)).chip) same-refusal
      ∙ either-chip done (answered (framed chip ram queues n) given) (answered (framed chip ram queues (served z z)) heard) (done_unless no) (done_unless no) (ap (framed chip ram queues) (sym all-served))

  -- the left side (hand 0), or the right one (hand 1)
  abbrev pub heard_side : ℕ → List ℤ
  heard_side hand = unless (sound_refusal chip (length ram) (length queues)) (silent n) (mixed_side wrapping chip ram queues (silent n) (silent n) hand (silent n))

  pub heard-left : left_side chip ram queues (silent n) (silent n) ≡ heard_side 0
  unfolding mixed_left
  heard-left = refl

  pub heard-right : right_side chip ram queues (silent n) (silent n) ≡ heard_side 1
  unfolding mixed_right
  heard-right = refl

  module _ (hand : ℕ) where
    abbrev sides : ℕ → List ℤ
    sides m = added_to wrapping m (core_frames chip ram queues m 0).stems (core_frames chip ram queues m 1).stems hand 0 z

    pub heard-long : length (heard_side hand) ≡ n
    heard-long = go done
      where
        go : (b : Bool) → length (cond b (sides (served z z)) z) ≡ n
        go true = added-length wrapping _ _ hand 0 z (served z z) ∙ as_many
        go false = as_many

    -- each frame's sum, over nothing; the buffers held zeros
    pub heard-at : (own other : List ℤ) → ((k : ℕ) → get_or own k (pos 0) ≡ pos 0) → ((k : ℕ) → get_or other k (pos 0) ≡ pos 0) → (i : ℕ) → i < n
        → get_or (heard_side hand) i (pos 0) ≡ wrapping (pos 0) (side_of i hand (given_by false own) (given_by true other))
    heard-at own other so st i h = go done
      where
        a : List ℤ
        a = (core_frames chip ram queues n 0).stems

        b : List ℤ
        b = (core_frames chip ram queues n 1).stems

        go : (t : Bool) → get_or (cond t (sides (served z z)) z) i (pos 0) ≡ wrapping (pos 0) (side_of i hand (cond t a own) (cond t b other))
        go true = ap (λ (m : ℕ). get_or (sides m) i (pos 0)) all-served ∙ added-zeros wrapping a b hand n (min n 1000) i h (omega arith)
        go false = zeros (min n 1000) i ∙ sym (ap (wrapping (pos 0)) (side-none own other so st i hand) ∙ wraps-not (pos 0) (omega arith))

-- ---- what a call of a list changes: c frames more, its own value, its own stems
pub record Moves (c i : ℕ) (p q : Playing) : Type 0 where
  pub frames : q.frames ≡ p.frames + c
  pub many : length q.values ≡ length p.values
  pub long : (second : Bool) → length (buffer_of second q) ≡ length (buffer_of second p)
  pub values : (j : ℕ) → (j ≡ i → ⊥) → get_or q.values j 0 ≡ get_or p.values j 0
  pub below : (second : Bool) (k : ℕ) → k < stems_per_frame * p.frames → get_or (buffer_of second q) k (pos 0) ≡ get_or (buffer_of second p) k (pos 0)
  pub above : (second : Bool) (k : ℕ) → stems_per_frame * (p.frames + c) ≤ k → get_or (buffer_of second q) k (pos 0) ≡ get_or (buffer_of second p) k (pos 0)

module _ (kinds addresses : List ℕ) where
  -- stems for the frames that are clocked, all of them zeros
  pub record Roomy (c : ℕ) (p : Playing) : Type 0 where
    pub few : c ≤ 1000
    pub room : (second : Bool) → stems_per_frame * (p.frames + c) ≤ length (buffer_of second p)
    pub ahead : (second : Bool) (k : ℕ) → stems_per_frame * p.frames ≤ k → get_or (buffer_of second p) k (pos 0) ≡ pos 0

  module _ (p : Playing) (n : ℕ) (r : Roomy n p) (second : Bool) where
    abbrev own : List ℤ
    own = part (buffer_of second p) (stems_per_frame * p.frames) (stems_per_frame * n)

    own-long : length own ≡ stems_per_frame * n
    own-long = part-long (buffer_of second p) (stems_per_frame * p.frames) (stems_per_frame * n) (omega (arith, r.room second))

    pub own-silent : (k : ℕ) → get_or (part (buffer_of second p) (stems_per_frame * p.frames) (stems_per_frame * n)) k (pos 0) ≡ pos 0
    own-silent k =
        elim (dec_lt k (stems_per_frame * n)) [
          | yes y ↦ part-at (buffer_of second p) (stems_per_frame * p.frames) (stems_per_frame * n) k y ∙ r.ahead second (stems_per_frame * p.frames + k) (omega arith)
          | no y ↦ get_or-eq_default own (pos 0) (past k y)
        ]
      where
        past : (k : ℕ) → (k < stems_per_frame * n → ⊥) → length own ≤ k
        past k y = omega (arith, own-long)

    -- the stems that it puts there
    abbrev pub stems_made : List ℤ
    stems_made = given_by p.chip p.ram p.queues n r.few second (part (buffer_of second p) (stems_per_frame * p.frames) (stems_per_frame * n))

    pub stems-made : length stems_made ≡ stems_per_frame * n
    stems-made = given-long p.chip p.ram p.queues n r.few second own own-long

  pub stems-put : (p : Playing) (n : ℕ) (r : Roomy n p) (second : Bool) → buffer_of second (clock_played p n) ≡ sets (buffer_of second p) (stems_per_frame * p.frames) (stems_made p n r second)
  stems-put p n r true = refl
  stems-put p n r false = refl

  -- a read's answer, and a peek's
  abbrev pub read_at : ℕ → Playing → Called
  read_at i p = read_register_called p.chip 0 (get_or addresses i 0)

  abbrev pub peeked_at : ℕ → Playing → Called
  peeked_at i p = answered p.chip (peek_register_answer p.chip 0 (get_or addresses i 0))

  moves-still : (i : ℕ) (p q : Playing) → q.frames ≡ p.frames → q.values ≡ p.values → ((second : Bool) → buffer_of second q ≡ buffer_of second p) → Moves 0 i p q
  moves-still i p q f v s = record {
    frames = omega (arith, f);
    many = ap length v;
    long = λ b. ap length (s b);
    values = λ j h. ap (λ (l : List ℕ). get_or l j 0) v;
    below = λ b k h. ap (λ (l : List ℤ). get_or l k (pos 0)) (s b);
    above = λ b k h. ap (λ (l : List ℤ). get_or l k (pos 0)) (s b);
  }

  -- the same stems
  stays : (p q : Playing) → q.stems ≡ p.stems → q.others ≡ p.others → (second : Bool) → buffer_of second q ≡ buffer_of second p
  stays p q s o true = o
  stays p q s o false = s

  -- a byte shown in the place of a call's value
  moves-shown : (i : ℕ) (p : Playing) (x : Called) → Moves 0 i p (shown_by p i x)
  moves-shown i p x =
      let s = stays p (shown_by p i x) refl refl in
      record {
        frames = omega arith;
        many = length-set p.values i (byte_answered x.answer);
        long = λ b. ap length (s b);
        values = λ j h. get_or-set_other p.values i j (byte_answered x.answer) 0 h;
        below = λ b k h. ap (λ (l : List ℤ). get_or l k (pos 0)) (s b);
        above = λ b k h. ap (λ (l : List ℤ). get_or l k (pos 0)) (s b);
      }

  pub moves : (t : Asked) (i : ℕ) (p : Playing) → Roomy (clocked_as t (get_or addresses i 0)) p → Moves (clocked_as t (get_or addresses i 0)) i p (call_played kinds addresses t i p)
  moves asked.WriteRegister i p r = let q = call_played kinds addresses asked.WriteRegister i p in moves-still i p q refl refl (stays p q refl refl)
  moves asked.WritePcmRam i p r = let q = call_played kinds addresses asked.WritePcmRam i p in moves-still i p q refl refl (stays p q refl refl)
  moves asked.SetVersion i p r = let q = call_played kinds addresses asked.SetVersion i p in moves-still i p q refl refl (stays p q refl refl)
  moves asked.Nothing i p r = moves-still i p p refl refl (λ b. refl)
  moves asked.Read i p r = moves-shown i p (read_at i p)
  moves asked.Peek i p r = moves-shown i p (peeked_at i p)
  moves asked.Clock i p r =
      let n = get_or addresses i 0 in
      let put = stems-put p n r in
      let made = stems_made p n r in
      let at = stems_per_frame * p.frames in
      record {
        frames = refl;
        many = refl;
        long = λ b. ap length (put b) ∙ length-sets (buffer_of b p) at (made b);
        values = λ j h. refl;
        below = λ b k h. ap (λ (l : List ℤ). get_or l k (pos 0)) (put b) ∙ sets_below (pos 0) (made b) (buffer_of b p) at k h;
        above = λ b k h. ap (λ (l : List ℤ). get_or l k (pos 0)) (put b) ∙ sets-above (pos 0) (made b) (buffer_of b p) at k (omega (arith, stems-made p n r b, h));
      }

  -- ---- a call that is made is its line
  abbrev pub world_of : Playing → ℕ → ℕ → World
  world_of p left right = world (record { chip = p.chip; left = left; right = right }) p.ram p.queues

  -- the sides of its own frames, and the byte that it shows
  pub record Own (t : Asked) (i : ℕ) (p : Playing) (xl xr : List ℤ) (byte : ℕ) : Type 0 where
    pub reads : t ≡ asked.Read → byte ≡ byte_answered (read_at i p).answer
    pub peeks : t ≡ asked.Peek → byte ≡ byte_answered (peeked_at i p).answer
    pub lefts : t ≡ asked.Clock → xl ≡ left_side p.chip p.ram p.queues (silent (get_or addresses i 0)) (silent (get_or addresses i 0))
    pub rights : t ≡ asked.Clock → xr ≡ right_side p.chip p.ram p.queues (silent (get_or addresses i 0)) (silent (get_or addresses i 0))

  module _ (i : ℕ) (p : Playing) (l r v byte : ℕ) (xl xr : List ℤ) where
    abbrev a : ℕ
    a = get_or addresses i 0

    abbrev heard : Asked → Effect
    heard t = record {
      after = world_of (call_played kinds addresses t i p) (peak_of l xl (clocked_as t a)) (peak_of r xr (clocked_as t a));
      text = shown_as t a byte xl xr;
    }

    read-line : (x : Called) → x ≡ read_at i p → byte ≡ byte_answered x.answer → effect_of (world_of p l r) (Ok (Read a)) ≡ record { after = world_of (shown_by p i x) l r; text = read_back_line 82 a byte }
    unfolding effect_of
    read-line x e b =
        (λ j. record { after = world_of (shown_by p i (sym e j)) l r; text = read_back_line 82 a (byte_answered (sym e j).answer) })
        ∙ ap (λ (k : ℕ). record { after = world_of (shown_by p i x) l r; text = read_back_line 82 a k }) (sym b)

    peek-line : (x : Called) → x ≡ peeked_at i p → byte ≡ byte_answered x.answer → effect_of (world_of p l r) (Ok (Peek a)) ≡ record { after = world_of (shown_by p i x) l r; text = read_back_line 80 a byte }
    unfolding effect_of
    peek-line x e b =
        (λ j. record { after = world_of (shown_by p i (sym e j)) l r; text = read_back_line 80 a (byte_answered (sym e j).answer) })
        ∙ ap (λ (k : ℕ). record { after = world_of (shown_by p i x) l r; text = read_back_line 80 a k }) (sym b)

    clock-line : Roomy a p → xl ≡ left_side p.chip p.ram p.queues (silent a) (silent a) → xr ≡ right_side p.chip p.ram p.queues (silent a) (silent a)
        → effect_of (world_of p l r) (Ok (Clock a)) ≡ record { after = world_of (clock_played p a) (peak_of l xl a) (peak_of r xr a); text = frame_lines xl xr (min (length xl) (length xr)) }
    unfolding effect_of clocked_player clocked_text
    clock-line q el er =
        let c = sym (clock-chip p.chip p.ram p.queues a q.few) in
        let nl = ap length (heard-left p.chip p.ram p.queues a q.few) ∙ heard-long p.chip p.ram p.queues a q.few 0 in
        let nr = ap length (heard-right p.chip p.ram p.queues a q.few) ∙ heard-long p.chip p.ram p.queues a q.few 1 in
        (λ j. record {
          after = world (record {
            chip = c j;
            left = (ap (peak_of l (left_side p.chip p.ram p.queues (silent a) (silent a))) nl ∙ ap (λ (x : List ℤ). peak_of l x a) (sym el)) j;
            right = (ap (peak_of r (right_side p.chip p.ram p.queues (silent a) (silent a))) nr ∙ ap (λ (x : List ℤ). peak_of r x a) (sym er)) j;
          }) p.ram p.queues;
          text = frame_lines (sym el j) (sym er j) (min (length (sym el j)) (length (sym er j)));
        })

    pub one_line : (t : Asked) → Roomy (clocked_as t a) p → get_or p.values i 0 ≡ v → Own t i p xl xr byte → effect_of (world_of p l r) (line_as t a v) ≡ heard t
    unfolding effect_of peak_of
    one_line asked.WriteRegister q e o = ap (λ (k : ℕ). effect_of (world_of p l r) (Ok (Write a k))) (sym e)
    one_line asked.WritePcmRam q e o = ap (λ (k : ℕ). effect_of (world_of p l r) (Ok (WriteRam a k))) (sym e)
    one_line asked.Read q e o = read-line (read_at i p) refl (o.reads refl)
    one_line asked.Peek q e o = peek-line (peeked_at i p) refl (o.peeks refl)
    one_line asked.Clock q e o = clock-line q (o.lefts refl) (o.rights refl)
    one_line asked.SetVersion q e o = refl
    one_line asked.Nothing q e o = refl
