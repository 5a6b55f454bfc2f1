-- However an input is read in parts, the runs and the closing line print its log, where no run is refused. Assumes that much of some worlds.
use Rattle.std.specs.Prelude.{Result, Ok, Some, None, Err, is_ok}
use mathlib.Core.Path.{◌≡◌, refl, sym, ap, ◌∙◌, subst}
use mathlib.Core.Bool.{Bool, true, false, cond}
use mathlib.Core.List.{List, [], ◌∷◌, ◌++◌, append_assoc, append-nil}
use Prim.Native.Nat.{ℕ, zero, suc, ◌+◌, ◌≤◌, ◌<◌}
use native.Mathlib.Omega.{arith}
use lib.Dec.{eqb, leb}
use lib.IntN.{pos}
use lib.ListN.{length, drop, replicate, length-append, length-drop}
use lib.Seq.{drop-drop}
use Rattle.num.proofs.Choice.{never, cond-by}
use Rattle.cores.specs.Sizes.{chip_queues}
use Rattle.tone.specs.Pcm.{is_ram_length}
use Rattle.s3w2.specs.Refusals.{refusal}
use Rattle.s3w2.specs.Fresh.{made_refusal, made_ram}
use Rattle.log_lines.specs.declared.Line as lines
use Rattle.log_lines.specs.declared.LineFault.{LineFault}
use Rattle.log_lines.specs.declared.LineFault.TheVariants.{Malformed}
use Rattle.log_lines.specs.Lines.{parsed_line, is_bad}
use Rattle.s3w2.specs.declared.Refusal.{Refusal}
use Rattle.log_player.specs.declared.Stop.TheVariants.{Bad, Refused}
use Rattle.log_player.specs.Worlds.{World, world, fresh_player, fresh_world}
use Rattle.log_player.specs.Applied.{after_line, printed}
use Rattle.log_player.specs.Logs.{rest_text, log_text}
use Rattle.log_player.specs.Steps.{Next, line_found, first_line, next_of}
use Rattle.log_player.specs.Runs.{has_room, Spot, spot, spot_behind, is_line, found_by, plays_line, lines_played, Run, stop_text, run_from, refused_by}
use Rattle.log_player.specs.Parts.{followed, runs_over, unless_bad, parts_printed, joined}
use Rattle.log_player.proofs.Stops.{next_past}
use Rattle.log_player.proofs.Whole.{step_line, step-bad, step_end}
use Rattle.log_player.proofs.Running.{goes}
use Rattle.log_player.proofs.Rooms.{room-is}
use Rattle.log_player.proofs.Spots.{line-within, good-line, line_at, played-line, plays-line, found-there, run-next, run-stops}

-- what follows a run; nothing behind a bad line
abbrev left_text : World → ℕ → Next → List ℕ → List ℕ
left_text w number (Ok (Some place)) rest = rest_text w number [] rest
left_text w number (Ok None) rest = rest_text w number [] rest
left_text w number (Err (Bad why)) rest = []
left_text w number (Err (Refused why)) rest = []

-- ---- what an input holds, wherever it begins
rest-anywhere : (rest : List ℕ) (at other : ℕ) → next_of rest at ≡ Ok None → next_of rest other ≡ Ok None
unfolding next_of
rest-anywhere rest at other e = go (eqb (length (first_line rest)) (length rest)) (cond (leb (length rest) 16) (Ok None) (Err (Bad Malformed))) (parsed_line (first_line rest)) e
  where
    go : (b : Bool) (x : Next) (p : Result lines.Line LineFault) → cond b x (line_found (at + length (first_line rest) + 1) p) ≡ Ok None → cond b x (line_found (other + length (first_line rest) + 1) p) ≡ Ok None
    go true x p h = h
    go false x (Err why) h = h
    go false x (Ok line) h = absurd (let z : ◌≡◌ {A = ℕ} 0 1 = cc in omega arith)

-- no line is a refusal
no-refusal : (rest : List ℕ) (at : ℕ) (why : Refusal) → next_of rest at ≡ Err (Refused why) → ⊥
unfolding next_of
no-refusal rest at why e = go (eqb (length (first_line rest)) (length rest)) (leb (length rest) 16) (parsed_line (first_line rest)) e
  where
    go : (a b : Bool) (p : Result lines.Line LineFault) → cond a (cond b (Ok None) (Err (Bad Malformed))) (line_found (at + length (first_line rest) + 1) p) ≡ Err (Refused why) → ⊥
    go true true p h = let z : ◌≡◌ {A = ℕ} 0 1 = cc in omega arith
    go true false p h = let z : ◌≡◌ {A = ℕ} 0 1 = cc in omega arith
    go false b (Err fault) h = let z : ◌≡◌ {A = ℕ} 0 1 = cc in omega arith
    go false b (Ok line) h = let z : ◌≡◌ {A = ℕ} 0 1 = cc in omega arith

-- ---- places and numbers only grow, by at most a line for each byte
pub record Forward (input : List ℕ) (from number behind line : ℕ) : Type 0 where
  pub on : from ≤ behind
  pub count : line + from ≤ number + behind
  pub within : from ≤ length input → behind ≤ length input

forward-none : (input : List ℕ) (from number : ℕ) → Forward input from number from number
forward-none input from number = record { on = omega arith; count = omega arith; within = λ h. h }

forward-both : (input : List ℕ) (a m b n c o : ℕ) → Forward input a m b n → Forward input b n c o → Forward input a m c o
forward-both input a m b n c o f g = record {
  on = omega (arith, f.on, g.on);
  count = omega (arith, f.count, g.count);
  within = λ h. g.within (f.within h);
}

module _ (room : ℕ) (input : List ℕ) where
  forward-line : (s : Spot) → plays_line room input s ≡ true → Forward input s.from s.number (spot_behind input s).from (spot_behind input s).number
  forward-line s e =
      let short = line-within (drop s.from input) s.from (played-line room input s e) in
      record { on = omega arith; count = omega arith; within = λ h. omega (arith, short, length-drop s.from input) }

  lines-forward : (n : ℕ) (s : Spot) → Forward input s.from s.number (lines_played room input n s).from (lines_played room input n s).number
  unfolding lines_played
  lines-forward zero s = forward-none input s.from s.number
  lines-forward (suc n) s =
      cond-by (λ (t : Spot). Forward input s.from s.number t.from t.number) (plays_line room input s) _ _
      (λ e. forward-both input _ _ _ _ _ _ (forward-line s e) (lines-forward n (spot_behind input s))) (λ e. forward-none input s.from s.number)

  pub run-forward : (s : Spot) → Forward input s.from s.number (run_from room input s).from (run_from room input s).number
  unfolding run_from
  run-forward s = lines-forward (length input) s

  -- ---- the text
  text-line : (s : Spot) (more : List ℕ) → plays_line room input s ≡ true
      → s.text ++ rest_text s.world s.number [] (drop s.from input ++ more) ≡ (spot_behind input s).text ++ rest_text (spot_behind input s).world (suc s.number) [] (drop (spot_behind input s).from input ++ more)
  text-line s more e = line_at (next_of rest s.from) (played-line room input s e) (λ (x : Next). goal) (λ place h. go place h)
    where
      rest : List ℕ
      rest = drop s.from input

      out : List ℕ
      out = printed s.world (parsed_line (first_line rest))

      after : World
      after = after_line s.world (parsed_line (first_line rest))

      goal : Type 0
      goal = s.text ++ rest_text s.world s.number [] (rest ++ more) ≡ (s.text ++ out) ++ rest_text after (suc s.number) [] (drop (s.from + length (first_line rest) + 1) input ++ more)

      there : drop (suc (length (first_line rest))) rest ≡ drop (s.from + length (first_line rest) + 1) input
      there =
          let k : s.from + suc (length (first_line rest)) ≡ s.from + length (first_line rest) + 1 = omega arith in
          drop-drop (suc (length (first_line rest))) s.from input ∙ ap (λ (k : ℕ). drop k input) k

      go : (place : ℕ) → next_of rest s.from ≡ Ok (Some place) → goal
      go place h =
          ap (λ (t : List ℕ). s.text ++ t) (step_line s.world s.number rest s.from place more h ∙ ap (λ (l : List ℕ). out ++ rest_text after (suc s.number) [] (l ++ more)) there)
          ∙ sym (append_assoc s.text out (rest_text after (suc s.number) [] (drop (s.from + length (first_line rest) + 1) input ++ more)))

  lines-text : (n : ℕ) (s : Spot) (more : List ℕ) → s.text ++ rest_text s.world s.number [] (drop s.from input ++ more)
      ≡ (lines_played room input n s).text ++ rest_text (lines_played room input n s).world (lines_played room input n s).number [] (drop (lines_played room input n s).from input ++ more)
  unfolding lines_played
  lines-text zero s more = refl
  lines-text (suc n) s more =
      cond-by (λ (t : Spot). s.text ++ rest_text s.world s.number [] (drop s.from input ++ more) ≡ t.text ++ rest_text t.world t.number [] (drop t.from input ++ more)) (plays_line room input s) _ _
      (λ e. text-line s more e ∙ lines-text n (spot_behind input s) more) (λ e. refl)

  -- what a run finds is there
  found-is : (s : Spot) (next : Next) → is_line next ≡ false → found_by room input s ≡ next → next_of (drop s.from input) s.from ≡ next
  unfolding found_by
  found-is s next k e = go (has_room room (length s.text) s.number) e
    where
      go : (b : Bool) → cond b (next_of (drop s.from input) s.from) (Ok (Some s.from)) ≡ next → next_of (drop s.from input) s.from ≡ next
      go true h = h
      go false h = never (ap is_line h ∙ k)

  stop-text : (s : Spot) (next : Next) → found_by room input s ≡ next → (more : List ℕ) → s.text ++ rest_text s.world s.number [] (drop s.from input ++ more)
      ≡ (s.text ++ stop_text s.number next) ++ left_text s.world s.number next (drop s.from input ++ more)
  stop-text s (Ok (Some place)) e more = ap (λ (t : List ℕ). t ++ rest_text s.world s.number [] (drop s.from input ++ more)) (sym (append-nil s.text))
  stop-text s (Ok None) e more = ap (λ (t : List ℕ). t ++ rest_text s.world s.number [] (drop s.from input ++ more)) (sym (append-nil s.text))
  stop-text s (Err (Bad why)) e more =
      ap (λ (t : List ℕ). s.text ++ t) (step-bad s.world s.number (drop s.from input) s.from why more (found-is s (Err (Bad why)) refl e))
      ∙ sym (append-nil (s.text ++ stop_text s.number (Err (Bad why))))
  stop-text s (Err (Refused why)) e more = absurd (no-refusal (drop s.from input) s.from why (found-is s (Err (Refused why)) refl e))

  pub run-text : (s : Spot) (more : List ℕ) → s.text ++ rest_text s.world s.number [] (drop s.from input ++ more)
      ≡ (run_from room input s).text ++ left_text (run_from room input s).world (run_from room input s).number (run_from room input s).next (drop (run_from room input s).from input ++ more)
  unfolding run_from
  run-text s more =
      let last = lines_played room input (length input) s in
      lines-text (length input) s more ∙ stop-text last (found_by room input last) refl more

  pub run-rest : (s : Spot) → (run_from room input s).next ≡ Ok None → next_of (drop (run_from room input s).from input) (run_from room input s).from ≡ Ok None
  unfolding run_from
  run-rest s e = found-is (lines_played room input (length input) s) (Ok None) refl e

  -- a run that has room at its beginning and none at its end has played a line
  pub run_on : (s : Spot) → has_room room (length s.text) s.number ≡ true → is_line (run_from room input s).next ≡ true → s.from < (run_from room input s).from
  run_on s r e = go (plays_line room input s) refl
    where
      go : (b : Bool) → plays_line room input s ≡ b → s.from < (run_from room input s).from
      go true t = subst (λ (x : Run). s.from < x.from) (sym (run-next room input s t)) (omega (arith, (run-forward (spot_behind input s)).on))
      go false t =
          let stays : is_line (next_of (drop s.from input) s.from) ≡ true = ap is_line (sym (found-there room input s r)) ∙ sym (ap (λ (x : Run). is_line x.next) (run-stops room input s t)) ∙ e in
          never (sym (plays-line room input s r stays) ∙ t)

  -- ---- worlds over which no run is refused, whatever lines they play
  module _ (P : World → Type 0) (next-kept : (w : World) (line : List ℕ) → P w → is_bad (parsed_line line) ≡ false → P (after_line w (parsed_line line))) where
    line_kept : (s : Spot) → P s.world → plays_line room input s ≡ true → P (spot_behind input s).world
    line_kept s h e = next-kept s.world (first_line (drop s.from input)) h (good-line (drop s.from input) s.from (played-line room input s e))

    lines-kept : (n : ℕ) (s : Spot) → P s.world → P (lines_played room input n s).world
    unfolding lines_played
    lines-kept zero s h = h
    lines-kept (suc n) s h =
        cond-by (λ (t : Spot). P t.world) (plays_line room input s) _ _ (λ e. lines-kept n (spot_behind input s) (line_kept s h e)) (λ e. h)

    pub run-kept : (s : Spot) → P s.world → P (run_from room input s).world
    unfolding run_from
    run-kept s h = lines-kept (length input) s h

  -- ---- runs one after the other
  pub record Ends (w : World) (number from : ℕ) (r : Run) : Type 0 where
    pub stops : is_line r.next ≡ false
    pub rest : r.next ≡ Ok None → next_of (drop r.from input) r.from ≡ Ok None
    pub forward : Forward input from number r.from r.number
    pub left : (more : List ℕ) → rest_text w number [] (drop from input ++ more) ≡ r.text ++ left_text r.world r.number r.next (drop r.from input ++ more)

  abbrev one : World → ℕ → ℕ → Run
  one w number from = run_from room input (spot w number from [])

  ends-one : (w : World) (number from : ℕ) → is_line (one w number from).next ≡ false → Ends w number from (one w number from)
  ends-one w number from k = record { stops = k; rest = run-rest (spot w number from []); forward = run-forward (spot w number from []); left = run-text (spot w number from []) }

  module _ (large : 16384 ≤ room) where
    module _ (w : World) (number from : ℕ) (inside : from ≤ length input) (few : number + length input < 18446744073709551615 + from) where
      abbrev r : Run
      r = one w number from

      forward : Forward input from number r.from r.number
      forward = run-forward (spot w number from [])

      on : is_line r.next ≡ true → from < r.from
      on = run_on (spot w number from []) (room-is 16384 room 0 number (omega arith) large)

      last : length input ≤ from → Ends w number from r
      last h = ends-one w number from (go (is_line r.next) refl)
        where
          go : (b : Bool) → is_line r.next ≡ b → is_line r.next ≡ false
          go true e = absurd (omega (arith, on e, forward.within inside))
          go false e = e

      -- another run behind it
      ends_more : (more : Run) (next : Next) → r.next ≡ next → (is_line r.next ≡ true → Ends r.world r.number r.from more) → Ends w number from (followed next r more)
      ends_more more (Ok None) e ih = ends-one w number from (ap is_line e)
      ends_more more (Err (Bad why)) e ih = ends-one w number from (ap is_line e)
      ends_more more (Err (Refused why)) e ih = ends-one w number from (ap is_line e)
      ends_more more (Ok (Some place)) e ih =
          let k = ih (ap is_line e) in
          record {
            stops = k.stops;
            rest = k.rest;
            forward = forward-both input _ _ _ _ _ _ forward k.forward;
            left = λ next.
                run-text (spot w number from []) next
                ∙ ap (λ (x : Next). r.text ++ left_text r.world r.number x (drop r.from input ++ next)) e
                ∙ ap (λ (t : List ℕ). r.text ++ t) (k.left next)
                ∙ sym (append_assoc r.text more.text (left_text more.world more.number more.next (drop more.from input ++ next)));
          }

    module _ (P : World → Type 0) (next-kept : (w : World) (line : List ℕ) → P w → is_bad (parsed_line line) ≡ false → P (after_line w (parsed_line line))) (accepted : (w : World) → P w → refused_by w ≡ 0) where
      pub record Kept (w : World) (number from : ℕ) (r : Run) : Type 0 where
        pub ends : Ends w number from r
        pub kept : P r.world

      kept_more : (w : World) (number from : ℕ) (inside : from ≤ length input) (few : number + length input < 18446744073709551615 + from) → P w → (more : Run) (next : Next) → (one w number from).next ≡ next
          → (is_line (one w number from).next ≡ true → Kept (one w number from).world (one w number from).number (one w number from).from more) → Kept w number from (followed next (one w number from) more)
      kept_more w number from inside few h more next e ih = record { ends = ends_more w number from inside few more next e (λ k. (ih k).ends); kept = go next e }
        where
          here : P (one w number from).world
          here = run-kept P next-kept (spot w number from []) h

          go : (next : Next) → (one w number from).next ≡ next → P (followed next (one w number from) more).world
          go (Ok None) e = here
          go (Err (Bad why)) e = here
          go (Err (Refused why)) e = here
          go (Ok (Some place)) e = (ih (ap is_line e)).kept

      pub runs-end : (n : ℕ) (w : World) (number from : ℕ) → P w → length input ≤ from + n → from ≤ length input → number + length input < 18446744073709551615 + from → Kept w number from (runs_over room input n w number from)
      unfolding runs_over
      runs-end zero w number from h enough inside few =
          subst (Kept w number from) (sym (goes room input (spot w number from []) (accepted w h)))
          (record { ends = last w number from inside few (omega arith); kept = run-kept P next-kept (spot w number from []) h })
      runs-end (suc n) w number from h enough inside few =
          let x = one w number from in
          let f = forward w number from inside few in
          subst (λ (y : Run). Kept w number from (followed y.next y (runs_over room input n y.world y.number y.from))) (sym (goes room input (spot w number from []) (accepted w h)))
          (kept_more w number from inside few h (runs_over room input n x.world x.number x.from) x.next refl
          (λ e. runs-end n x.world x.number x.from (run-kept P next-kept (spot w number from []) h) (omega (arith, enough, on w number from inside few e)) (f.within inside) (omega (arith, few, f.count))))

-- ---- THE LOG IN PARTS
module _ (room : ℕ) (large : 16384 ≤ room) (P : World → Type 0) (next-kept : (w : World) (line : List ℕ) → P w → is_bad (parsed_line line) ≡ false → P (after_line w (parsed_line line))) (accepted : (w : World) → P w → refused_by w ≡ 0) where
  printed-on : (parts : List (List ℕ)) (w : World) (number : ℕ) (rest : List ℕ) → P w → next_of rest 0 ≡ Ok None → number + length rest + length (joined parts) < 18446744073709551615
      → parts_printed room w number rest parts ≡ rest_text w number [] (rest ++ joined parts)
  unfolding parts_printed
  printed-on [] w number rest p e few = sym (ap (rest_text w number []) (append-nil rest) ∙ step_end w number rest 0 e)
  printed-on (part ∷ parts) w number rest p e few =
      go r.next refl (λ e few. printed-on parts r.world r.number behind kept.kept e few)
      ∙ sym (ends.left (joined parts))
      ∙ ap (rest_text w number []) (append_assoc rest part (joined parts))
    where
      input : List ℕ
      input = rest ++ part

      r : Run
      r = runs_over room input (length input) w number 0

      kept : Kept room input large P next-kept accepted w number 0 r
      kept = runs-end room input large P next-kept accepted (length input) w number 0 p (omega arith) (omega arith) (omega (arith, few, length-append rest part, length-append part (joined parts)))

      ends : Ends room input w number 0 r
      ends = kept.ends

      behind : List ℕ
      behind = drop r.from input

      fewer : r.number + length behind + length (joined parts) < 18446744073709551615
      fewer = omega (arith, few, length-append rest part, length-append part (joined parts), length-drop r.from input, ends.forward.count, ends.forward.within (omega arith))

      goal : Type 0
      goal = next_of behind 0 ≡ Ok None → r.number + length behind + length (joined parts) < 18446744073709551615 → parts_printed room r.world r.number behind parts ≡ rest_text r.world r.number [] (behind ++ joined parts)

      go : (next : Next) → r.next ≡ next → goal → r.text ++ unless_bad next (parts_printed room r.world r.number behind parts) ≡ r.text ++ left_text r.world r.number next (behind ++ joined parts)
      go (Ok (Some place)) h ih = never (sym (ap is_line h) ∙ ends.stops)
      go (Ok None) h ih = ap (λ (t : List ℕ). r.text ++ t) (ih (rest-anywhere behind r.from 0 (ends.rest h)) fewer)
      go (Err (Bad why)) h ih = refl
      go (Err (Refused why)) h ih = refl

  -- from a fresh player, an input in parts of any lengths prints its log
  pub log-in-parts : (parts : List (List ℕ)) → P fresh_world → length (joined parts) + 1 < 18446744073709551615 → parts_printed room fresh_world 1 [] parts ≡ log_text (joined parts)
  log-in-parts parts p few = printed-on parts fresh_world 1 [] p (next_past [] 0 (omega arith)) (omega arith)

-- ---- the fresh player: whatever a RAM of 65,536 bytes held, it begins in the fresh world
allowed : is_ram_length 65536 ≡ true
unfolding is_ram_length
allowed = refl

zeroed : (ram : List ℕ) → length ram ≡ 65536 → made_ram ram ≡ replicate 65536 0
unfolding made_ram refusal
zeroed ram e =
    ap (λ (n : ℕ). cond (is_ok (made_refusal n)) (replicate n 0) ram) e
    ∙ ap (λ (b : Bool). cond (is_ok (refusal b true true true)) (replicate 65536 0) ram) allowed

pub begins-fresh : (ram : List ℕ) → length ram ≡ 65536 → world (fresh_player (length ram)) (made_ram ram) (replicate chip_queues (pos 0)) ≡ fresh_world
begins-fresh ram e = λ i. world (fresh_player (e i)) (zeroed ram e i) (replicate chip_queues (pos 0))
