-- However an input is read in parts, the turns and the end print its timed log. Assumes nothing.
use Rattle.std.specs.Prelude.{Ok, Some, None, Err}
use mathlib.Core.Path.{◌≡◌, refl, sym, ap, ap₂, ◌∙◌, subst}
use mathlib.Core.Bool.{Bool, true, false, cond}
use mathlib.Core.List.{List, [], ◌∷◌, ◌++◌, append_assoc, append-nil}
use Prim.Native.Nat.{ℕ}
use native.Mathlib.Omega.{arith}
use lib.Dec.{eqb, ltb}
use lib.ListN.{length}
use borrow.Author.Tests.{eqb-true, eqb-false, ne_eqb}
use Rattle.num.proofs.Choice.{never}
use Rattle.decimal.specs.Written.{digits_in, decimal}
use Rattle.log_lines.specs.Texts.{bad_line, peak_line}
use Rattle.log_player.specs.Steps.{Next}
use Rattle.log_player.specs.declared.Stop.TheVariants.{Bad}
use Rattle.log_player.specs.Worlds.{World, fresh_world}
use Rattle.log_player.specs.Logs.{end_text}
use Rattle.s3w2.specs.Answers.{Checked}
use Rattle.log_player.specs.Runs.{Spot, spot, is_line, Run, run_from, refusal_in, unless_refused, log_run}
use Rattle.log_player.specs.Parts.{joined}
use Rattle.log_resume.specs.Cuts.{half, played}
use Rattle.log_lines.specs.declared.LineFault.TheVariants.{Malformed}
use Rattle.log_lines.specs.Lines.{number_of}
use Rattle.timed_log.specs.declared.Clockwork.{Clockwork}
use Rattle.timed_log.specs.Unrolled.{clock_line, no_frames}
use Rattle.timed_log.specs.Turns.{Stand, stand, Turn, turn_over}
use Rattle.timed_log.specs.Ends.{last_text, sounds_last, run_none, last_run, told_last, last_told}
use Rattle.timed_as_plain.specs.Scores.{over, stop, ends, scored, sounded, closing, left_text, timed_text}
use Rattle.timed_as_plain.specs.Prints.{rest_of, refilled, Prints, again, more, last, bad}
use Rattle.timed_as_plain.proofs.Lines.{clock-playable}
use Rattle.timed_as_plain.proofs.Scored.{score-open, open-all}
use Rattle.timed_as_plain.proofs.Plays.{Where, all, some, Stopped, stops}
use Rattle.timed_as_plain.proofs.Turned.{Waits, left_over, Goes, Rests, After, turn-after}

-- ---- the end
last-text : half (clock_line 1 ∷ []) ≡ last_text
unfolding clock_line decimal digits_in
last-text = refl

-- the frame of the last stamp
sounds-one : (room : ℕ) (w : World) → (log_run room last_text (spot w 1 0 [])).next ≡ Ok None
    → ((log_run room last_text (spot w 1 0 [])).world ≡ played w (clock_line 1 ∷ [])) × ((log_run room last_text (spot w 1 0 [])).text ≡ sounded w (clock_line 1 ∷ []))
unfolding log_run
sounds-one room w = go (refusal_in w)
  where
    here : Spot
    here = spot w 1 0 []

    run : Run
    run = run_from room last_text here

    whole : (r : Run) → Stopped w 0 [] (clock_line 1 ∷ []) r → r.next ≡ Ok None → (r.world ≡ played w (clock_line 1 ∷ [])) × (r.text ≡ sounded w (clock_line 1 ∷ []))
    whole r t n = go t.next
      where
        go : Where t.left r.next → (r.world ≡ played w (clock_line 1 ∷ [])) × (r.text ≡ sounded w (clock_line 1 ∷ []))
        go (some place q) = never (sym (ap is_line (sym n ∙ q)))
        go (all l q) =
            let is : t.done ≡ clock_line 1 ∷ [] = sym (t.split ∙ ap (λ (x : List (List ℕ)). t.done ++ x) l ∙ append-nil t.done) in
            (t.world ∙ ap (played w) is, t.printed ∙ ap (sounded w) is)

    go : (c : Checked) → (unless_refused c here run).next ≡ Ok None → ((unless_refused c here run).world ≡ played w (clock_line 1 ∷ [])) × ((unless_refused c here run).text ≡ sounded w (clock_line 1 ∷ []))
    go (Ok x) n = whole run (stops room last_text (clock_line 1 ∷ []) w 1 0 [] (clock-playable 1 (omega arith) (omega arith), tt) (sym last-text)) n
    go (Err why) n = absurd (let z : ◌≡◌ {A = ℕ} 0 1 = cc in omega arith)

module _ (room : ℕ) (w : World) (k : Clockwork) (number : ℕ) where
  over-told : (last_run room w k 0).next ≡ Ok None → last_told number 0 (last_run room w k 0) ≡ closing w k over
  unfolding last_run sounds_last
  over-told = go (ltb 0 k.lines)
    where
      lines : Bool → List (List ℕ)
      lines b = cond b (clock_line 1 ∷ []) []

      go : (b : Bool) → (cond b (log_run room last_text (spot w 1 0 [])) (run_none w)).next ≡ Ok None
          → last_told number 0 (cond b (log_run room last_text (spot w 1 0 [])) (run_none w)) ≡ sounded w (lines b) ++ end_text (played w (lines b)).player 0 0
      go false e = refl
      go true e =
          let o = sounds-one room w e in
          ap₂ (λ (x y : List ℕ). x ++ y) o.1 (ap₂ (λ (v : World) (n : Next). told_last v number 0 n) o.0 e)

  stop-told : (rest : ℕ) → (rest ≡ 0 → ⊥) → last_told number rest (last_run room w k rest) ≡ closing w k (stop number (number_of Malformed))
  unfolding last_run sounds_last
  stop-told rest n = rw (ne_eqb rest 0 n) (ap (λ (b : Bool). cond b (peak_line w.player.left w.player.right) (bad_line number (number_of Malformed))) (ne_eqb rest 0 n))

  ends-told : (rest : ℕ) → (last_run room w k rest).next ≡ Ok None → last_told number rest (last_run room w k rest) ≡ closing w k (cond (eqb rest 0) over (stop number (number_of Malformed)))
  ends-told rest e = go (eqb rest 0) refl
    where
      go : (b : Bool) → eqb rest 0 ≡ b → last_told number rest (last_run room w k rest) ≡ closing w k (cond b over (stop number (number_of Malformed)))
      go true t =
          let z : rest ≡ 0 = eqb-true rest 0 t in
          ap (λ (i : ℕ). last_told number i (last_run room w k i)) z ∙ over-told (ap (λ (i : ℕ). (last_run room w k i).next) (sym z) ∙ e)
      go false t = stop-told rest (eqb-false rest 0 t)

-- ---- THE LOG IN PARTS
after-by : (s : Stand) (lines : List (List ℕ)) (input : List ℕ) (t : Turn) (next : Next) → t.next ≡ next → After s lines input t t.next → After s lines input t next
after-by s lines input t next e a = subst (After s lines input t) e a

pub prints : (room : ℕ) (s : Stand) (input : List ℕ) (parts : List (List ℕ)) (text : List ℕ) → Prints room s input parts text → (lines : List (List ℕ)) → Waits s lines → text ≡ left_over s lines input (joined parts)
prints room _ _ _ _ (again s input parts place text' e p) lines h =
    let t = turn_over room input s in
    let g : Goes s lines input t = after-by s lines input t (Ok (Some place)) e (turn-after room input s lines h) in
    ap (λ (x : List ℕ). t.text ++ x) (prints room t.stand input parts text' p g.waiting g.waits) ∙ sym (g.left (joined parts))
prints room _ _ _ _ (more s input part parts' text' e p) lines h =
    let t = turn_over room input s in
    let r : Rests s lines input t = after-by s lines input t (Ok None) e (turn-after room input s lines h) in
    let g = r.goes in
    let w = g.waits in
    let v : Waits (refilled t.stand) g.waiting = record { front = w.front; is = w.is; at = w.at; within = w.within; playable = w.playable } in
    let rest : List ℕ = rest_of t.stand input in
    ap (λ (x : List ℕ). t.text ++ x)
    (prints room (refilled t.stand) (rest ++ part) parts' text' p g.waiting v
    ∙ ap (λ (l : List ℕ). left_text t.stand.world g.waiting t.stand.clock.frames (scored t.stand.clock t.stand.number [] l)) (append_assoc rest part (joined parts')))
    ∙ sym (g.left (part ++ joined parts'))
prints room _ _ _ _ (last s input e n) lines h =
    let t = turn_over room input s in
    let r : Rests s lines input t = after-by s lines input t (Ok None) e (turn-after room input s lines h) in
    let g = r.goes in
    let a = t.stand in
    let rest : List ℕ = rest_of a input in
    let open-end : scored a.clock a.number [] (rest ++ []) ≡ ends a.clock (cond (eqb (length rest) 0) over (stop a.number (number_of Malformed))) =
    ap (scored a.clock a.number []) (append-nil rest) ∙ score-open rest a.clock a.number (open-all rest r.unended) in
    ap (λ (x : List ℕ). t.text ++ x)
    (ends-told room a.world a.clock a.number (length rest) n
    ∙ sym (ap (λ (l : List (List ℕ)). left_text a.world l a.clock.frames (scored a.clock a.number [] (rest ++ []))) r.none ∙ ap (left_text a.world [] a.clock.frames) open-end))
    ∙ sym (g.left [])
prints room _ _ _ _ (bad s input parts why e) lines h =
    sym (after-by s lines input (turn_over room input s) (Err (Bad why)) e (turn-after room input s lines h) (joined parts))

-- from a fresh player, whatever the buffers hold
pub timed-in-parts : (room : ℕ) (plain : List ℕ) (parts : List (List ℕ)) (text : List ℕ) → Prints room (stand fresh_world no_frames plain 0 0 0 1) [] parts text → text ≡ timed_text (joined parts)
timed-in-parts room plain parts text p =
    prints room (stand fresh_world no_frames plain 0 0 0 1) [] parts text p [] (record { front = []; is = refl; at = refl; within = omega arith; playable = tt })
