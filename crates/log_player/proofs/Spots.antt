-- A run's lines, one after the other. Assumes nothing.
use Rattle.std.specs.Prelude.{Result, Ok, Some, None, Err}
use mathlib.Core.Path.{◌≡◌, refl, sym, ap, ◌∙◌}
use mathlib.Core.Bool.{Bool, true, false, cond}
use mathlib.Core.List.{List}
use Prim.Native.Nat.{ℕ, zero, suc, ◌+◌, ◌≤◌, ◌<◌}
use native.Mathlib.Omega.{arith}
use lib.Dec.{eqb, leb}
use lib.ListN.{length, drop}
use borrow.Author.Tests.{eqb-false}
use Rattle.num.proofs.Choice.{never}
use Rattle.log_lines.specs.declared.Line as lines
use Rattle.log_lines.specs.declared.LineFault.{LineFault}
use Rattle.log_lines.specs.declared.LineFault.TheVariants.{Malformed}
use Rattle.log_lines.specs.Lines.{parsed_line, is_bad}
use Rattle.log_player.specs.declared.Stop.TheVariants.{Bad, Refused}
use Rattle.log_player.specs.Steps.{Next, line_found, first_line, next_of}
use Rattle.log_player.specs.Runs.{has_room, Spot, spot_behind, is_line, found_by, plays_line, lines_played, Run, stops_at, run_from}
use Rattle.log_player.proofs.Stops.{first_short, next_past}

-- a line that may be played ends within what it is the first line of
pub line-within : (rest : List ℕ) (at : ℕ) → is_line (next_of rest at) ≡ true → length (first_line rest) < length rest
unfolding next_of
line-within rest at e = go (eqb (length (first_line rest)) (length rest)) refl
  where
    none : (b : Bool) → is_line (cond b (Ok None) (Err (Bad Malformed))) ≡ true → length (first_line rest) < length rest
    none true h = never (sym h)
    none false h = never (sym h)

    go : (b : Bool) → eqb (length (first_line rest)) (length rest) ≡ b → length (first_line rest) < length rest
    go true t = none (leb (length rest) 16) (rw t at e)
    go false t =
        let n : length (first_line rest) ≡ length rest → ⊥ = eqb-false (length (first_line rest)) (length rest) t in
        less n (first_short rest)
      where
        less : {a b : ℕ} → (a ≡ b → ⊥) → a ≤ b → a < b
        less n h = omega arith

-- and is not bad
pub good-line : (rest : List ℕ) (at : ℕ) → is_line (next_of rest at) ≡ true → is_bad (parsed_line (first_line rest)) ≡ false
unfolding next_of
good-line rest at e = go (eqb (length (first_line rest)) (length rest)) (leb (length rest) 16) (parsed_line (first_line rest)) e
  where
    go : (a b : Bool) (p : Result lines.Line LineFault) → is_line (cond a (cond b (Ok None) (Err (Bad Malformed))) (line_found (at + length (first_line rest) + 1) p)) ≡ true → is_bad p ≡ false
    go true true p h = never (sym h)
    go true false p h = never (sym h)
    go false b (Err why) h = never (sym h)
    go false b (Ok line) h = refl

-- a line by its place
pub line_at : (next : Next) → is_line next ≡ true → (P : Next → Type 0) → ((place : ℕ) → next ≡ Ok (Some place) → P (Ok (Some place))) → P next
line_at (Ok (Some place)) e P f = f place refl
line_at (Ok None) e P f = never (sym e)
line_at (Err (Bad why)) e P f = never (sym e)
line_at (Err (Refused why)) e P f = never (sym e)

module _ (room : ℕ) (input : List ℕ) where
  abbrev holds : Spot → Next
  holds s = next_of (drop s.from input) s.from

  abbrev room_at : Spot → Bool
  room_at s = has_room room (length s.text) s.number

  -- ---- what a run does at a spot
  pub plays-line : (s : Spot) → room_at s ≡ true → is_line (holds s) ≡ true → plays_line room input s ≡ true
  unfolding plays_line
  plays-line s r e = rw r e

  pub plays-none : (s : Spot) → is_line (holds s) ≡ false → plays_line room input s ≡ false
  unfolding plays_line
  plays-none s e = go (room_at s)
    where
      go : (b : Bool) → cond b (is_line (holds s)) false ≡ false
      go true = e
      go false = refl

  pub plays-full : (s : Spot) → room_at s ≡ false → plays_line room input s ≡ false
  unfolding plays_line
  plays-full s r = rw r

  pub played-line : (s : Spot) → plays_line room input s ≡ true → is_line (holds s) ≡ true
  unfolding plays_line
  played-line s e = go (room_at s) e
    where
      go : (b : Bool) → cond b (is_line (holds s)) false ≡ true → is_line (holds s) ≡ true
      go true h = h
      go false h = never (sym h)

  pub found-there : (s : Spot) → room_at s ≡ true → found_by room input s ≡ holds s
  unfolding found_by
  found-there s r = rw r

  pub found-full : (s : Spot) → room_at s ≡ false → found_by room input s ≡ Ok (Some s.from)
  unfolding found_by
  found-full s r = rw r

  -- ---- how many lines there may be
  none-past : (s : Spot) → length input ≤ s.from → plays_line room input s ≡ false
  none-past s h = plays-none s (ap is_line (next_past input s.from h))

  lines-stop : (n : ℕ) (s : Spot) → plays_line room input s ≡ false → lines_played room input n s ≡ s
  unfolding lines_played
  lines-stop zero s e = refl
  lines-stop (suc n) s e = rw e

  enough : (n m : ℕ) (s : Spot) → length input ≤ s.from + n → length input ≤ s.from + m → lines_played room input n s ≡ lines_played room input m s
  unfolding lines_played
  enough zero m s h k = sym (lines-stop m s (none-past s (omega arith)))
  enough (suc n) zero s h k = lines-stop (suc n) s (none-past s (omega arith))
  enough (suc n) (suc m) s h k = ap (λ (t : Spot). cond (plays_line room input s) t s) (enough n m (spot_behind input s) (omega arith) (omega arith))

  lines_next : (n : ℕ) (s : Spot) → length input ≤ n → plays_line room input s ≡ true → lines_played room input n s ≡ lines_played room input n (spot_behind input s)
  unfolding lines_played
  lines_next zero s h e = never (sym e ∙ none-past s (omega arith))
  lines_next (suc n) s h e =
      ap (λ (b : Bool). cond b (lines_played room input n (spot_behind input s)) s) e
      ∙ enough n (suc n) (spot_behind input s) (omega arith) (omega arith)

  -- ---- a run goes on, or stops
  abbrev ends : Spot → Run
  ends s = stops_at s (found_by room input s)

  pub run-next : (s : Spot) → plays_line room input s ≡ true → run_from room input s ≡ run_from room input (spot_behind input s)
  unfolding run_from
  run-next s e = ap ends (lines_next (length input) s (omega arith) e)

  pub run-stops : (s : Spot) → plays_line room input s ≡ false → run_from room input s ≡ stops_at s (found_by room input s)
  unfolding run_from
  run-stops s e = ap ends (lines-stop (length input) s e)
