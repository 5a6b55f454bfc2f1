-- Lines written out into a buffer, one more at a time. Assumes nothing.
use Rattle.std.specs.Prelude.{Ok, Some, None, Err}
use mathlib.Core.Path.{◌≡◌, refl, sym, ap, ◌∙◌, subst}
use mathlib.Core.Bool.{Bool, true, false, cond}
use mathlib.Core.List.{List, [], ◌∷◌, ◌++◌}
use Prim.Native.Nat.{ℕ, zero, suc, ◌+◌, ◌-◌, ◌≤◌, ◌<◌, ◌^◌}
use native.Mathlib.Numerals.{add-one}
use native.Mathlib.Omega.{arith}
use lib.Dec.{eqb, leb, ltb}
use lib.ListN.{length, drop, length-append}
use lib.Seq.{sets}
use borrow.Author.Tests.{lt-ltb, le-ltb, ltb-false, lt-leb}
use Rattle.num.specs.Lists.{part}
use Rattle.num.proofs.Choice.{cond-by}
use Rattle.output.specs.declared.Output.{Output}
use Rattle.output.specs.Output.{Puts}
use Rattle.output.proofs.Writing.{puts-append, puts-none, put-long}
use Rattle.decimal.specs.Written.{decimal}
use Rattle.decimal.proofs.Writing.{width-below}
use Rattle.log_lines.specs.declared.LineFault.{LineFault}
use Rattle.timed_log.specs.declared.Clockwork.{Clockwork}
use Rattle.timed_log.specs.declared.Unrolled.{Unrolled}
use Rattle.timed_log.specs.Lines.{line_ahead, Ahead, next_due}
use Rattle.timed_log.specs.Unrolled.{clock_most, clock_line, clock_text, clockwork, applied}
use Rattle.timed_log.specs.Unrolls.{line_room, has_place, Reach, reach, gap_text, reach_behind, ahead_of, on_line, unroll_on, unroll_from, unrolled_as, unrolled_to}
use Rattle.timed_log.proofs.Found.{Found, found-is, due-short, part_length}
use Rattle.log_player.specs.Runs.{has_room_of}
use Rattle.log_player.proofs.Rooms.{room-is, room-there}

-- ---- how long it gets
clock-length : (n : ℕ) → n ≤ clock_most → length (clock_text n) ≤ 7
unfolding clock_line
clock-length n h = rw (length-append (67 ∷ 44 ∷ decimal n) (10 ∷ [])) (omega (arith, width-below 3 n (omega arith)))

clock-some : (n : ℕ) → 0 < length (clock_text n)
unfolding clock_line
clock-some n = omega arith

gap_length : (n : ℕ) → n ≤ clock_most → length (gap_text n) ≤ 7
unfolding gap_text
gap_length n h = cond-by (λ (t : List ℕ). length t ≤ 7) (eqb n 0) _ _ (λ e. omega arith) (λ e. clock-length n h)

-- no line stands there
abbrev pub NoLine : Ahead → Type 0
NoLine a = (stamp from to : ℕ) → a ≡ Ok (Some (line_ahead stamp from to)) → ⊥

pub rest-none : (a : Ahead) → Ok None ≡ a → NoLine a
rest-none a e stamp from to q = let z : ◌≡◌ {A = Ahead} (Ok None) (Ok (Some (line_ahead stamp from to))) = e ∙ q in let y : ◌≡◌ {A = ℕ} 0 1 = cc in omega arith

pub bad-none : (a : Ahead) (why : LineFault) → a ≡ Err why → NoLine a
bad-none a why e stamp from to q = let z : ◌≡◌ {A = Ahead} (Err why) (Ok (Some (line_ahead stamp from to))) = sym e ∙ q in let y : ◌≡◌ {A = ℕ} 0 1 = cc in omega arith

module _ (room : ℕ) (input : List ℕ) where
  -- what a line adds
  pub record Adds (s t : Reach) : Type 0 where
    pub more : length s.text < length t.text
    pub few : length t.text ≤ length s.text + 24

  adds : (s : Reach) (stamp from to : ℕ) → ahead_of input s ≡ Ok (Some (line_ahead stamp from to)) → Adds s (reach_behind input s stamp from to)
  unfolding reach_behind
  adds s stamp from to e =
      let f = found-is s.clock (drop s.from input) s.from stamp from to e in
      cond-by (Adds s) (ltb clock_most (stamp - s.clock.frames)) _ _
      (λ a. record { more = rw (length-append s.text (clock_text clock_most)) (omega (arith, clock-some clock_most)); few = rw (length-append s.text (clock_text clock_most)) (omega (arith, clock-length clock_most (omega arith))) })
      (λ a. line f (ltb-false clock_most (stamp - s.clock.frames) a))
    where
      line : Found s.clock (drop s.from input) s.from stamp from to → stamp - s.clock.frames ≤ clock_most
          → Adds s (reach (applied s.clock stamp) (suc s.number) to (s.text ++ (gap_text (stamp - s.clock.frames) ++ part input from (to - from))))
      line f h =
          let long = length-append s.text (gap_text (stamp - s.clock.frames) ++ part input from (to - from)) in
          let both = length-append (gap_text (stamp - s.clock.frames)) (part input from (to - from)) in
          let own = part_length s.clock input s.from stamp from to f in
          record {
            more = omega (arith, long, both, own);
            few = omega (arith, long, both, own, due-short s.clock input s.from stamp from to f, gap_length (stamp - s.clock.frames) h);
          }

  -- a buffer that is full takes no line
  full : (n : ℕ) (s : Reach) → room ≤ length s.text → unroll_on room input (suc n) s ≡ s
  unfolding unroll_on has_room_of
  full n s h = go (eqb s.number 18446744073709551615)
    where
      go : (t : Bool) → cond (cond t false (leb (length s.text + line_room) room)) (on_line input s (unroll_on room input n) (ahead_of input s)) s ≡ s
      go true = refl
      go false = rw (lt-leb (length s.text + line_room) room (omega arith))

  -- ---- more turns than are needed change nothing
  enough : (n m : ℕ) (s : Reach) → room ≤ length s.text + n → room ≤ length s.text + m → unroll_on room input n s ≡ unroll_on room input m s
  unfolding unroll_on
  enough zero zero s a b = refl
  enough zero (suc m) s a b = sym (full m s (omega arith))
  enough (suc n) zero s a b = full n s (omega arith)
  enough (suc n) (suc m) s a b = go (has_place room (length s.text) s.number) (λ t. enough n m t)
    where
      Next : Type 0
      Next = (t : Reach) → room ≤ length t.text + n → room ≤ length t.text + m → unroll_on room input n t ≡ unroll_on room input m t

      goes : (x : Ahead) → ahead_of input s ≡ x → Next → on_line input s (unroll_on room input n) x ≡ on_line input s (unroll_on room input m) x
      goes (Ok (Some due)) e ih =
          let more = (adds s due.stamp due.from due.to e).more in
          ih (reach_behind input s due.stamp due.from due.to) (omega arith) (omega arith)
      goes (Ok None) e ih = refl
      goes (Err why) e ih = refl

      go : (t : Bool) → Next → cond t (on_line input s (unroll_on room input n) (ahead_of input s)) s ≡ cond t (on_line input s (unroll_on room input m) (ahead_of input s)) s
      go true ih = goes (ahead_of input s) refl ih
      go false ih = refl

  -- ---- it stays within the buffer
  bounded : (n : ℕ) (s : Reach) → length s.text ≤ room → length (unroll_on room input n s).text ≤ room
  unfolding unroll_on
  bounded zero s h = h
  bounded (suc n) s h =
      cond-by (λ (r : Reach). length r.text ≤ room) (has_place room (length s.text) s.number) _ _
      (λ p. go (ahead_of input s) refl (room-there true line_room room (length s.text) s.number (sym p) refl) (λ t. bounded n t)) (λ p. h)
    where
      go : (x : Ahead) → ahead_of input s ≡ x → length s.text + line_room ≤ room → ((t : Reach) → length t.text ≤ room → length (unroll_on room input n t).text ≤ room)
          → length (on_line input s (unroll_on room input n) x).text ≤ room
      go (Ok (Some due)) e p ih = ih (reach_behind input s due.stamp due.from due.to) (omega (arith, (adds s due.stamp due.from due.to e).few))
      go (Ok None) e p ih = h
      go (Err why) e p ih = h

  pub unroll-within : (s : Reach) → length s.text ≤ room → length (unroll_from room input s).text ≤ room
  unfolding unroll_from
  unroll-within s h = bounded room s h

  -- ---- from a place on
  once : (s : Reach) (stamp from to : ℕ) → has_place room (length s.text) s.number ≡ true → ahead_of input s ≡ Ok (Some (line_ahead stamp from to))
      → unroll_on room input (suc room) s ≡ unroll_on room input room (reach_behind input s stamp from to)
  unfolding unroll_on
  once s stamp from to h e = rw (h, e)

  pub unroll_line : (s : Reach) (stamp from to : ℕ) → has_place room (length s.text) s.number ≡ true → length s.text + line_room ≤ room → ahead_of input s ≡ Ok (Some (line_ahead stamp from to))
      → unroll_from room input s ≡ unroll_from room input (reach_behind input s stamp from to)
  unfolding unroll_from
  unroll_line s stamp from to h r e =
      enough room (suc room) s (omega arith) (omega arith)
      ∙ once s stamp from to h e
      ∙ refl

  unroll-zero : (s : Reach) → unroll_on room input zero s ≡ s
  unfolding unroll_on
  unroll-zero s = refl

  unroll-none : (n : ℕ) (s : Reach) → has_place room (length s.text) s.number ≡ false → unroll_on room input (suc n) s ≡ s
  unfolding unroll_on
  unroll-none n s h = rw h

  -- where there is no room, or no line
  pub unroll-full : (s : Reach) → has_place room (length s.text) s.number ≡ false → unroll_from room input s ≡ s
  unfolding unroll_from
  unroll-full s h = none room
    where
      none : (n : ℕ) → unroll_on room input n s ≡ s
      none zero = unroll-zero s
      none (suc n) = unroll-none n s h

  stays : (n : ℕ) (s : Reach) (a : Ahead) → NoLine a → ahead_of input s ≡ a → unroll_on room input (suc n) s ≡ s
  unfolding unroll_on
  stays n s (Ok (Some due)) t e = absurd (t due.stamp due.from due.to refl)
  stays n s (Ok None) t e = rw e (go (has_place room (length s.text) s.number))
    where
      go : (b : Bool) → cond b s s ≡ s
      go true = refl
      go false = refl
  stays n s (Err why) t e = rw e (go (has_place room (length s.text) s.number))
    where
      go : (b : Bool) → cond b s s ≡ s
      go true = refl
      go false = refl

  pub unroll-stays : (s : Reach) (a : Ahead) → NoLine a → ahead_of input s ≡ a → unroll_from room input s ≡ s
  unfolding unroll_from
  unroll-stays s a t e = none room
    where
      none : (n : ℕ) → unroll_on room input n s ≡ s
      none zero = unroll-zero s
      none (suc n) = stays n s a t e

-- ---- a run that stands at a line: its text is put whole at the front of a buffer, and it ends where the run from the beginning ends
pub record Unrolling (input : List ℕ) (run : Reach) (k : Clockwork) (line place : ℕ) (out mid : Output) : Type 0 where
  pub text : List ℕ
  pub put : Puts out mid text
  pub whole : mid.at ≡ length text
  pub ahead : unroll_from (length out.buffer.now) input (reach k line place text) ≡ run

pub unrolling-none : (input : List ℕ) (k : Clockwork) (number place : ℕ) (out : Output) → out.at ≡ 0 → Unrolling input (unroll_from (length out.buffer.now) input (reach k number place [])) k number place out out
unrolling-none input k number place out h = record { text = []; put = puts-none out (omega arith); whole = h; ahead = refl }

-- what `unroll` promises of its answer
abbrev pub Promised : Reach → List ℕ → List ℕ → Unrolled → Type 0
Promised run out now r = (r ≡ unrolled_to run) × ((now ≡ sets out 0 run.text) × (length run.text ≤ length out))

module _ (input : List ℕ) (run : Reach) (k : Clockwork) (line place : ℕ) (out mid : Output) (front : out.at ≡ 0) (u : Unrolling input run k line place out mid) where
  abbrev here : Reach
  here = reach k line place u.text

  -- where it ends
  pub unrolling-long : length mid.buffer.now ≡ length out.buffer.now
  unrolling-long = put-long _ _ _ _ u.text u.put.put

  pub unrolling-done : unroll_from (length out.buffer.now) input here ≡ here → Promised run out.buffer.now mid.buffer.now (unrolled_as k place line mid.at)
  unrolling-done e =
      let is : run ≡ here = sym u.ahead ∙ e in
      subst (λ (s : Reach). Promised s out.buffer.now mid.buffer.now (unrolled_as k place line mid.at)) (sym is)
      (ap (unrolled_as k place line) u.whole, (u.put.put.1 ∙ ap (λ (i : ℕ). sets out.buffer.now i u.text) front, omega (arith, u.whole, u.put.put.0)))

  pub unrolling-full : has_place (length out.buffer.now) mid.at line ≡ false → Promised run out.buffer.now mid.buffer.now (unrolled_as k place line mid.at)
  unrolling-full e = unrolling-done (unroll-full (length out.buffer.now) input here (ap (λ (n : ℕ). has_place (length out.buffer.now) n line) (sym u.whole) ∙ e))

  pub unrolling-stays : (a : Ahead) → NoLine a → a ≡ next_due k (drop place input) place → Promised run out.buffer.now mid.buffer.now (unrolled_as k place line mid.at)
  unrolling-stays a t e = unrolling-done (unroll-stays (length out.buffer.now) input here a t (sym e))

  -- and where it goes on
  module _ (stamp from to : ℕ) (now : Output) (room : mid.at + line_room ≤ length out.buffer.now) (more : line + 1 < 2 ^ 64) (found : next_due k (drop place input) place ≡ Ok (Some (line_ahead stamp from to))) where
    abbrev f : Found k (drop place input) place stamp from to
    f = found-is k (drop place input) place stamp from to found

    step : unroll_from (length out.buffer.now) input (reach_behind input here stamp from to) ≡ run
    step =
        sym (unroll_line (length out.buffer.now) input here stamp from to (room-is line_room (length out.buffer.now) (length u.text) line (omega arith) (omega (arith, u.whole))) (omega (arith, u.whole)) found)
        ∙ u.ahead

    -- a text of at most 24 bytes is put whole
    all-put : (added : List ℕ) → length added ≤ 24 → Puts mid now added → (now.at ≡ length (u.text ++ added)) × (now.at ≡ mid.at + length added)
    all-put added short p = (omega (arith, length-append u.text added, u.whole, p.put.0, unrolling-long), omega (arith, p.put.0, unrolling-long))

    behind : (added : List ℕ) (k' : Clockwork) (line' place' : ℕ) → length added ≤ 24 → Puts mid now added → reach_behind input here stamp from to ≡ reach k' line' place' (u.text ++ added)
        → Unrolling input run k' line' place' out now
    behind added k' line' place' short p is = record {
      text = u.text ++ added;
      put = puts-append out mid now u.text added u.put p;
      whole = (all-put added short p).0;
      ahead = ap (unroll_from (length out.buffer.now) input) (sym is) ∙ step;
    }

    abbrev gap : ℕ
    gap = stamp - k.frames

    thousand : clock_most < gap → reach_behind input here stamp from to ≡ reach (clockwork (k.frames + clock_most) 0) line place (u.text ++ clock_text clock_most)
    unfolding reach_behind
    thousand h = rw (lt-ltb clock_most gap h)

    pub unrolling-clock : clock_most < gap → Puts mid now (clock_text clock_most) → Unrolling input run (clockwork (k.frames + clock_most) 0) line place out now × (mid.at < now.at) × (k.frames + clock_most < 2 ^ 32)
    unrolling-clock h p = (
      behind (clock_text clock_most) _ _ _ (omega (arith, clock-length clock_most (omega arith))) p (thousand h),
      omega (arith, (all-put (clock_text clock_most) (omega (arith, clock-length clock_most (omega arith))) p).1, clock-some clock_most),
      omega (arith, f.due.low),
    )

    lined : gap ≤ clock_most → reach_behind input here stamp from to ≡ reach (applied k stamp) (line + 1) to (u.text ++ (gap_text gap ++ part input from (to - from)))
    unfolding reach_behind
    lined h = rw (le-ltb clock_most gap h, add-one line)

    pub unrolling-line : gap ≤ clock_most → Puts mid now (gap_text gap ++ part input from (to - from)) → Unrolling input run (applied k stamp) (line + 1) to out now × (mid.at < now.at)
    unrolling-line h p =
        let added : List ℕ = gap_text gap ++ part input from (to - from) in
        let both = length-append (gap_text gap) (part input from (to - from)) in
        let own = part_length k input place stamp from to f in
        let short : length added ≤ 24 = omega (arith, both, own, due-short k input place stamp from to f, gap_length gap h) in
        (behind added _ _ _ short p (lined h), omega (arith, (all-put added short p).1, both, own))
