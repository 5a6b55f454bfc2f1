-- A turn of a timed log, and its end. Assumes nothing.
use Rattle.std.specs.Prelude.{Ok, Some, None, Err}
use mathlib.Core.Path.{◌≡◌, refl, sym, ap, ◌∙◌, subst}
use mathlib.Core.Bool.{Bool, true, false, cond}
use mathlib.Core.List.{List, [], ◌∷◌}
use Prim.Native.Nat.{ℕ, ◌+◌, ◌-◌, ◌≤◌, ◌<◌, min}
use native.Mathlib.Omega.{arith}
use lib.Dec.{eqb, ltb}
use lib.IntN.{ℤ}
use lib.ListN.{length, drop}
use lib.Seq.{sets}
use borrow.Author.Tests.{eq-eqb, ne_eqb, lt-ltb, le-ltb}
use Rattle.num.specs.Lists.{part}
use Rattle.output.specs.Output.{Put}
use Rattle.output.proofs.Writing.{put-append, puts-none}
use Rattle.output.specs.declared.Output.{Output}
use Rattle.output.specs.Output.{Puts}
use Rattle.log_player.specs.Steps.{Next}
use Rattle.log_player.specs.declared.Stop.TheVariants.{Bad, Refused}
use Rattle.log_player.specs.declared.Made.{Made}
use Rattle.log_player.specs.declared.Ran.{Ran}
use Rattle.log_player.specs.Worlds.{World, world, made_player}
use Rattle.log_player.specs.Runs.{spot, Run, log_run, stop_text, ran_to}
use Rattle.timed_log.specs.declared.Clockwork.{Clockwork}
use Rattle.timed_log.specs.declared.Unrolled.{Unrolled}
use Rattle.timed_log.specs.declared.Timed.{Timed}
use Rattle.timed_log.specs.declared.TimedRan.{TimedRan}
use Rattle.timed_log.specs.Lines.{Ahead, next_due}
use Rattle.timed_log.specs.Unrolled.{no_frames}
use Rattle.timed_log.specs.Unrolls.{Reach, reach, unroll_from, unrolled_to}
use Rattle.timed_log.specs.Turns.{Stand, Turn, turn, left_of, goes_on, played_as, played_on, next_at, told_as, told, stands_at, written_out, turn_over, standing, timed_to, made_timed}
use Rattle.timed_log.specs.Ends.{last_text, sounds_last, run_none, last_run, told_last, last_told}

-- ---- what was written out is played
abbrev pub Plays : ℕ → List ℕ → Turn → TimedRan → List ℕ → List ℤ → List ℕ → Type 0
Plays room out t r ram queues now = (r ≡ timed_to room t) × ((ram ≡ t.stand.world.ram) × ((queues ≡ t.stand.world.queues) × (now ≡ sets out 0 t.text)))

module _ (room : ℕ) (s : Stand) (text : List ℕ) (t : text ≡ part s.plain 0 (s.end - 0)) where
  abbrev ran : Run
  ran = log_run room text (spot s.world 1 s.from [])

  played-is : played_as s ran ≡ played_on room s
  unfolding played_on
  played-is = ap (λ (l : List ℕ). played_as s (log_run room l (spot s.world 1 s.from []))) t

  pub plays : (r : Ran) (left : ℕ) (next : Next) (ram : List ℕ) (queues : List ℤ) (out now : List ℕ) → (r ≡ ran_to ran) × ((ram ≡ ran.world.ram) × ((queues ≡ ran.world.queues) × ((now ≡ sets out 0 ran.text) × (length ran.text ≤ room))))
      → left ≡ left_of s.end r.from r.next → next ≡ goes_on s.place r.next
      → Plays room out (played_on room s) (record { timed = record { player = r.player; clock = s.clock; from = left; end = s.end }; next = next; from = s.place; number = s.number; end = r.end }) ram queues now
  plays r left next ram queues out now e l n =
      subst (λ (x : Turn). Plays room out x (record { timed = record { player = r.player; clock = s.clock; from = left; end = s.end }; next = next; from = s.place; number = s.number; end = r.end }) ram queues now) played-is (
        (λ i. record {
          timed = record { player = (e.0 i).player; clock = s.clock; from = from i; end = s.end };
          next = comes i;
          from = s.place;
          number = s.number;
          end = end i;
        }),
        (e.1.0, (e.1.1.0, e.1.1.1.0)),
      )
    where
      from : left ≡ left_of s.end ran.from ran.next
      from = l ∙ ap (λ (x : Ran). left_of s.end x.from x.next) e.0

      comes : next ≡ goes_on s.place ran.next
      comes = n ∙ ap (λ (x : Ran). goes_on s.place x.next) e.0

      end : r.end ≡ min (length ran.text) room
      end =
          let k : length ran.text ≡ min (length ran.text) room = omega (arith, e.1.1.1.1) in
          ap (λ (x : Ran). x.end) e.0 ∙ k

-- ---- where no line is written out, it is told why
abbrev pub Tells : List ℕ → Turn → TimedRan → List ℕ → Type 0
Tells out t r now = (r ≡ timed_to (length out) t) × (now ≡ sets out 0 t.text)

told_is : (input : List ℕ) (s : Stand) → told_as s (next_at s.place (next_due s.clock (drop s.place input) s.place)) ≡ told input s
unfolding told
told_is input s = refl

told-plain : (input : List ℕ) (s : Stand) → s.plain ≡ (told input s).stand.plain
unfolding told
told-plain input s = refl

module _ (input : List ℕ) (s : Stand) where
  pub tells : (found : Ahead) (next : Next) (end : ℕ) (out now : List ℕ) → found ≡ next_due s.clock (drop s.place input) s.place → next ≡ next_at s.place found → Put out now 0 (stop_text s.number (next_at s.place found)) end
      → Tells out (told input s) (record { timed = record { player = s.world.player; clock = s.clock; from = 0; end = 0 }; next = next; from = s.place; number = s.number; end = end }) now
  tells found next end out now e n p =
      subst (λ (x : Turn). Tells out x (record { timed = record { player = s.world.player; clock = s.clock; from = 0; end = 0 }; next = next; from = s.place; number = s.number; end = end }) now) is
      ((λ i. record { timed = record { player = s.world.player; clock = s.clock; from = 0; end = 0 }; next = n i; from = s.place; number = s.number; end = at i }), p.1)
    where
      is : told_as s (next_at s.place found) ≡ told input s
      is = ap (λ (a : Ahead). told_as s (next_at s.place a)) e ∙ told_is input s

      at : end ≡ min (length (stop_text s.number (next_at s.place found))) (length out)
      at = omega (arith, p.0)

  -- ---- lines are written out
  abbrev out-to : Reach
  out-to = unroll_from (length s.plain) input (reach s.clock s.number s.place [])

  written_none : length out-to.text ≡ 0 → written_out input s ≡ told input s
  unfolding written_out
  written_none e = rw (eq-eqb (length out-to.text) 0 e)

  written-some : (length out-to.text ≡ 0 → ⊥) → written_out input s ≡ turn (stands_at s out-to) (Ok (Some out-to.from)) []
  unfolding written_out
  written-some e = rw (ne_eqb (length out-to.text) 0 e)

  abbrev pub Writes : Turn → TimedRan → List ℕ → List ℕ → List ℕ → Type 0
  Writes t r plain out now = (r ≡ timed_to (length out) t) × ((plain ≡ t.stand.plain) × (now ≡ sets out 0 t.text))

  none-text : (text : List ℕ) → length text ≡ 0 → text ≡ []
  none-text [] e = refl
  none-text (c ∷ cs) e = absurd (omega arith)

  -- none: it is told, whatever stands in the buffer
  pub writes-none : (u : Unrolled) (r : TimedRan) (plain out now : List ℕ) → u ≡ unrolled_to out-to → plain ≡ sets s.plain 0 out-to.text → u.end ≡ 0
      → Tells out (told input s) r now → Writes (written_out input s) r plain out now
  writes-none u r plain out now e p z t =
      let none : length out-to.text ≡ 0 = sym (ap (λ (x : Unrolled). x.end) e) ∙ z in
      let same : plain ≡ s.plain = p ∙ ap (sets s.plain 0) (none-text out-to.text none) in
      subst (λ (x : Turn). Writes x r plain out now) (sym (written_none none)) (t.0, (same ∙ told-plain input s, t.1))

  pub writes-some : (u : Unrolled) (plain out : List ℕ) → u ≡ unrolled_to out-to → plain ≡ sets s.plain 0 out-to.text → (u.end ≡ 0 → ⊥)
      → Writes (written_out input s) (record { timed = record { player = s.world.player; clock = u.clock; from = 0; end = u.end }; next = Ok (Some u.from); from = u.from; number = u.number; end = 0 }) plain out out
  writes-some u plain out e p z =
      subst (λ (x : Turn). Writes x (record { timed = record { player = s.world.player; clock = u.clock; from = 0; end = u.end }; next = Ok (Some u.from); from = u.from; number = u.number; end = 0 }) plain out out)
      (sym (written-some (λ n. z (ap (λ (x : Unrolled). x.end) e ∙ n))))
      ((λ i. record { timed = record { player = s.world.player; clock = (e i).clock; from = 0; end = (e i).end }; next = Ok (Some (e i).from); from = (e i).from; number = (e i).number; end = zero i }), (p, refl))
    where
      zero : 0 ≡ min 0 (length out)
      zero = omega arith

-- ---- neither depends on the RAM and the queues, nor does a line that is told on the buffer
told-anywhere : (input : List ℕ) (t : Timed) (ram : List ℕ) (queues : List ℤ) (plain : List ℕ) (place number : ℕ) (out now : List ℕ) (r : TimedRan)
    → Tells out (told input (standing t [] [] [] place number)) r now → Tells out (told input (standing t ram queues plain place number)) r now
unfolding told
told-anywhere input t ram queues plain place number out now r e = e

pub tells-anywhere : (input : List ℕ) (t : Timed) (plain : List ℕ) (place number : ℕ) (out now : List ℕ) (r : TimedRan)
    → Tells out (told input (standing t [] [] [] place number)) r now → Tells out (told input (standing t [] [] plain place number)) r now
tells-anywhere input t plain place number out now r e = told-anywhere input t [] [] plain place number out now r e

turn-plays : (room : ℕ) (input : List ℕ) (s : Stand) → s.from < s.end → turn_over room input s ≡ played_on room s
unfolding turn_over
turn-plays room input s h = rw (lt-ltb s.from s.end h)

turn-writes : (room : ℕ) (input : List ℕ) (s : Stand) → s.end ≤ s.from → turn_over room input s ≡ written_out input s
unfolding turn_over
turn-writes room input s h = rw (le-ltb s.from s.end h)

-- what `run` promises
abbrev pub Runs : Turn → TimedRan → List ℕ → List ℕ → List ℤ → List ℕ → List ℕ → Type 0
Runs t r plain ram queues out now =
    (r ≡ timed_to (length out) t) × ((plain ≡ t.stand.plain) × ((ram ≡ t.stand.world.ram) × ((queues ≡ t.stand.world.queues) × (now ≡ sets out 0 t.text))))

module _ (input : List ℕ) (t : Timed) (ram : List ℕ) (queues : List ℤ) (plain : List ℕ) (place number : ℕ) where
  abbrev here : Stand
  here = standing t ram queues plain place number

  written-anywhere : (r : TimedRan) (p out now : List ℕ) → Writes input here (written_out input (standing t [] [] plain place number)) r p out now → Runs (written_out input here) r p ram queues out now
  unfolding written_out told
  written-anywhere r p out now w = go (eqb (length (unroll_from (length plain) input (reach t.clock number place [])).text) 0) w
    where
      u : Reach
      u = unroll_from (length plain) input (reach t.clock number place [])

      at : Stand → Bool → Turn
      at s b = cond b (told_as s (next_at place (next_due t.clock (drop place input) place))) (turn (stands_at s u) (Ok (Some u.from)) [])

      go : (b : Bool) → Writes input here (at (standing t [] [] plain place number) b) r p out now → Runs (at here b) r p ram queues out now
      go true w = (w.0, (w.1.0, (refl, (refl, w.1.1))))
      go false w = (w.0, (w.1.0, (refl, (refl, w.1.1))))

  -- ---- a turn
  played-plain : (room : ℕ) → plain ≡ (played_on room here).stand.plain
  unfolding played_on
  played-plain room = refl

  pub runs_on : (r : TimedRan) (ram' : List ℕ) (queues' : List ℤ) (out now : List ℕ) → t.from < t.end → Plays (length out) out (played_on (length out) here) r ram' queues' now
      → Runs (turn_over (length out) input here) r plain ram' queues' out now
  runs_on r ram' queues' out now h e =
      subst (λ (x : Turn). Runs x r plain ram' queues' out now) (sym (turn-plays (length out) input here h)) (e.0, (played-plain (length out), e.1))

  pub runs-out : (r : TimedRan) (p out now : List ℕ) → t.end ≤ t.from → Writes input here (written_out input (standing t [] [] plain place number)) r p out now
      → Runs (turn_over (length out) input here) r p ram queues out now
  runs-out r p out now h e =
      subst (λ (x : Turn). Runs x r p ram queues out now) (sym (turn-writes (length out) input here h)) (written-anywhere r p out now e)

-- ---- the end
pub last-there : (k : Clockwork) (rest : ℕ) → rest ≡ 0 → ltb 0 k.lines ≡ sounds_last k rest
unfolding sounds_last
last-there k rest e = rw (eq-eqb rest 0 e)

pub last_none : (k : Clockwork) (rest : ℕ) → (rest ≡ 0 → ⊥) → false ≡ sounds_last k rest
unfolding sounds_last
last_none k rest e = rw (ne_eqb rest 0 e)

abbrev pub Lasts : Run → List ℕ → Ran → List ℕ → List ℤ → List ℕ → Type 0
Lasts run out r ram queues now =
    (r ≡ ran_to run) × ((ram ≡ run.world.ram) × ((queues ≡ run.world.queues) × ((now ≡ sets out 0 run.text) × (length run.text ≤ length out))))

module _ (w : World) (k : Clockwork) (rest : ℕ) (out : List ℕ) (t : Bool) (s : t ≡ sounds_last k rest) where
  pub lasts : (r : Ran) (ram : List ℕ) (queues : List ℤ) (now : List ℕ) → t ≡ true → Lasts (log_run (length out) last_text (spot w 1 0 [])) out r ram queues now → Lasts (last_run (length out) w k rest) out r ram queues now
  unfolding last_run
  lasts r ram queues now e l = rw (sym s ∙ e) l

  pub lasts-none : t ≡ false → Lasts (last_run (length out) w k rest) out (ran_to (run_none w)) w.ram w.queues out
  unfolding last_run
  lasts-none e = rw (sym s ∙ e) (refl, (refl, (refl, (refl, omega arith))))

-- the last line behind it
pub puts_as : (s t : Output) (x y : List ℕ) → x ≡ y → Puts s t y → Puts s t x
puts_as s t x y e p = rw e p

pub told_none : (s : Output) (text : List ℕ) → s.at ≤ length s.buffer.now → text ≡ [] → Puts s s text
told_none s text h e = rw e (puts-none s h)

told-world : (w : World) (number rest : ℕ) (next : Next) → told_last (world w.player [] []) number rest next ≡ told_last w number rest next
told-world w number rest (Ok (Some place)) = refl
told-world w number rest (Ok None) = refl
told-world w number rest (Err (Bad why)) = refl
told-world w number rest (Err (Refused why)) = refl

pub finishes : (run : Run) (number rest : ℕ) (r : Ran) (ram : List ℕ) (queues : List ℤ) (out mid now : List ℕ) (end : ℕ) → Lasts run out r ram queues mid → Put mid now r.end (told_last (world r.player [] []) number rest r.next) end
    → Put out now 0 (last_told number rest run) end
finishes run number rest r ram queues out mid now end l p =
    put-append out mid now 0 r.end end run.text (told_last run.world number rest run.next) (at, l.1.1.1.0)
    (subst (λ (x : List ℕ). Put mid now r.end x end) (ap (λ (x : Ran). told_last (world x.player [] []) number rest x.next) l.0 ∙ told-world run.world number rest run.next) p)
  where
    at : r.end ≡ min (0 + length run.text) (length out)
    at =
        let k : length run.text ≡ min (0 + length run.text) (length out) = omega (arith, l.1.1.1.1) in
        ap (λ (x : Ran). x.end) l.0 ∙ k

-- ---- the beginning
pub makes : (m : Made) (k : Clockwork) (ram : ℕ) → m ≡ made_player ram → k ≡ no_frames → record { timed = record { player = m.player; clock = k; from = 0; end = 0 }; answer = m.answer } ≡ made_timed ram
unfolding made_timed made_player
makes m k ram e f = λ i. record { timed = record { player = (e i).player; clock = f i; from = 0; end = 0 }; answer = (e i).answer }
