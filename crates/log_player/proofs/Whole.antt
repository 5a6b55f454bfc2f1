-- A log line by line: what a step prints, and what is left to print, are what the log prints. Assumes nothing.
use Rattle.std.specs.Prelude.{Result, Ok, Some, None, Err}
use mathlib.Core.Path.{◌≡◌, refl, ap, ◌∙◌}
use mathlib.Core.Bool.{Bool, true, false, cond}
use mathlib.Core.List.{List, [], ◌∷◌, ◌++◌, append_assoc, append-nil}
use Prim.Native.Nat.{ℕ, suc, ◌+◌, ◌≤◌, ◌<◌}
use native.Mathlib.Omega.{arith}
use lib.Dec.{eqb, leb}
use lib.ListN.{length, drop, length-append}
use lib.Seq.{drop-append-le}
use borrow.Author.Tests.{eqb-true, eqb-false, leb-false, ne_eqb}
use Rattle.log_lines.specs.declared.Line.{Line}
use Rattle.log_lines.specs.declared.LineFault.{LineFault}
use Rattle.log_lines.specs.declared.LineFault.TheVariants.{Malformed}
use Rattle.log_lines.specs.Lines.{parsed_line, number_of, bad_number, is_bad}
use Rattle.log_lines.specs.Texts.{bad_line}
use Rattle.log_lines.proofs.Long.{long-line}
use Rattle.log_player.specs.declared.Stop.TheVariants.{Bad}
use Rattle.log_player.specs.Worlds.{World}
use Rattle.log_player.specs.Applied.{after_line, printed}
use Rattle.log_player.specs.Logs.{end_text, rest_text}
use Rattle.log_player.specs.Steps.{first_line, next_of}
use Rattle.log_player.proofs.Stops.{first_short}

-- what a line and those behind it print
abbrev pub line_text : World → ℕ → List ℕ → List ℕ → List ℕ
line_text w number line rest =
    cond (is_bad (parsed_line line)) (bad_line number (bad_number (parsed_line line))) (printed w (parsed_line line) ++ rest_text (after_line w (parsed_line line)) (suc number) [] rest)

-- ---- an input that begins with a whole line
whole : (l : List ℕ) (w : World) (number : ℕ) (pre : List ℕ) → length (first_line l) < length l → rest_text w number pre l ≡ line_text w number (pre ++ first_line l) (drop (suc (length (first_line l))) l)
unfolding rest_text first_line
whole [] w number pre h = absurd (omega arith)
whole (c ∷ cs) w number pre h = go (eqb c 10) refl (whole cs w number (pre ++ (c ∷ [])))
  where
    go : (b : Bool) → eqb c 10 ≡ b → (length (first_line cs) < length cs → rest_text w number (pre ++ (c ∷ [])) cs ≡ line_text w number ((pre ++ (c ∷ [])) ++ first_line cs) (drop (suc (length (first_line cs))) cs)) → rest_text w number pre (c ∷ cs) ≡ line_text w number (pre ++ first_line (c ∷ cs)) (drop (suc (length (first_line (c ∷ cs)))) (c ∷ cs))
    go true e ih = rw (e, append-nil pre)
    go false e ih =
        let k : length (first_line cs) < length cs = (let z : suc (length (first_line cs)) < suc (length cs) = rw e at h in omega arith) in
        rw e (ih k ∙ ap (λ (line : List ℕ). line_text w number line (drop (suc (length (first_line cs))) cs)) (append_assoc pre (c ∷ []) (first_line cs)))

first-kept : (l more : List ℕ) → length (first_line l) < length l → first_line (l ++ more) ≡ first_line l
unfolding first_line
first-kept [] more h = absurd (omega arith)
first-kept (c ∷ cs) more h = go (eqb c 10) refl (first-kept cs more)
  where
    go : (b : Bool) → eqb c 10 ≡ b → (length (first_line cs) < length cs → first_line (cs ++ more) ≡ first_line cs) → first_line ((c ∷ cs) ++ more) ≡ first_line (c ∷ cs)
    go true e ih = rw e
    go false e ih =
        let k : length (first_line cs) < length cs = (let z : suc (length (first_line cs)) < suc (length cs) = rw e at h in omega arith) in
        rw e (ap (λ (l : List ℕ). c ∷ l) (ih k))

-- ---- an input whose first line is too long, or may be
too_long : (l : List ℕ) (w : World) (number : ℕ) (pre : List ℕ) → 16 < length pre + length (first_line l) → rest_text w number pre l ≡ bad_line number (number_of Malformed)
unfolding rest_text first_line
too_long [] w number pre h = rw (ne_eqb (length pre) 0 (λ e. absurd (omega arith)))
too_long (c ∷ cs) w number pre h = go (eqb c 10) refl (too_long cs w number (pre ++ (c ∷ [])))
  where
    go : (b : Bool) → eqb c 10 ≡ b → (16 < length (pre ++ (c ∷ [])) + length (first_line cs) → rest_text w number (pre ++ (c ∷ [])) cs ≡ bad_line number (number_of Malformed)) → rest_text w number pre (c ∷ cs) ≡ bad_line number (number_of Malformed)
    go true e ih =
        let k : 16 < length pre = (let z : 16 < length pre + 0 = rw e at h in omega arith) in
        rw (e, long-line pre k)
    go false e ih =
        let k : 16 < length pre + suc (length (first_line cs)) = rw e at h in
        rw e (ih (rw (length-append pre (c ∷ [])) (omega arith)))

first-longer : (l more : List ℕ) → length (first_line l) ≡ length l → length l ≤ length (first_line (l ++ more))
unfolding first_line
first-longer [] more h = omega arith
first-longer (c ∷ cs) more h = go (eqb c 10) refl (first-longer cs more)
  where
    go : (b : Bool) → eqb c 10 ≡ b → (length (first_line cs) ≡ length cs → length cs ≤ length (first_line (cs ++ more))) → length (c ∷ cs) ≤ length (first_line ((c ∷ cs) ++ more))
    go true e ih = absurd (let z : 0 ≡ suc (length cs) = rw e at h in omega arith)
    go false e ih =
        let k : length (first_line cs) ≡ length cs = (let z : suc (length (first_line cs)) ≡ suc (length cs) = rw e at h in omega arith) in
        rw e (omega (arith, ih k))

-- an input without byte 10 is at its end
no-line : (l : List ℕ) (w : World) (number : ℕ) (pre : List ℕ) → length (first_line l) ≡ length l → rest_text w number pre l ≡ end_text w.player number (length pre + length l)
unfolding rest_text first_line
no-line [] w number pre h =
    let k : length pre ≡ length pre + 0 = omega arith in
    ap (λ (n : ℕ). end_text w.player number n) k
no-line (c ∷ cs) w number pre h = go (eqb c 10) refl (no-line cs w number (pre ++ (c ∷ [])))
  where
    go : (b : Bool) → eqb c 10 ≡ b → (length (first_line cs) ≡ length cs → rest_text w number (pre ++ (c ∷ [])) cs ≡ end_text w.player number (length (pre ++ (c ∷ [])) + length cs)) → rest_text w number pre (c ∷ cs) ≡ end_text w.player number (length pre + length (c ∷ cs))
    go true e ih = absurd (let z : 0 ≡ suc (length cs) = rw e at h in omega arith)
    go false e ih =
        let k : length (first_line cs) ≡ length cs = (let z : suc (length (first_line cs)) ≡ suc (length cs) = rw e at h in omega arith) in
        let n : length (pre ++ (c ∷ [])) + length cs ≡ length pre + suc (length cs) = rw (length-append pre (c ∷ [])) (omega arith) in
        rw e (ih k ∙ ap (λ (n : ℕ). end_text w.player number n) n)

-- ---- THE STEPS: whatever follows what was read
module _ (w : World) (number : ℕ) (rest : List ℕ) (from : ℕ) where
  -- a line that is played prints its part, and the log goes on behind it
  pub step_line : (place : ℕ) (more : List ℕ) → next_of rest from ≡ Ok (Some place) → rest_text w number [] (rest ++ more) ≡ printed w (parsed_line (first_line rest)) ++ rest_text (after_line w (parsed_line (first_line rest))) (suc number) [] (drop (suc (length (first_line rest))) rest ++ more)
  unfolding next_of
  step_line place more e = go (eqb (length (first_line rest)) (length rest)) refl
    where
      far : cond (leb (length rest) 16) (Ok None) (Err (Bad Malformed)) ≡ Ok (Some place) → (b : Bool) → leb (length rest) 16 ≡ b → ⊥
      far q true t = let z : Ok None ≡ Ok (Some place) = rw t at q in let y : ◌≡◌ {A = ℕ} 0 1 = cc in omega arith
      far q false t = let z : Err (Bad Malformed) ≡ Ok (Some place) = rw t at q in let y : ◌≡◌ {A = ℕ} 0 1 = cc in omega arith

      played : length (first_line rest) < length rest → (p : Result Line LineFault) → parsed_line (first_line rest) ≡ p → eqb (length (first_line rest)) (length rest) ≡ false → rest_text w number [] (rest ++ more) ≡ printed w (parsed_line (first_line rest)) ++ rest_text (after_line w (parsed_line (first_line rest))) (suc number) [] (drop (suc (length (first_line rest))) rest ++ more)
      played h (Err why) m t = absurd (let z : Err (Bad why) ≡ Ok (Some place) = rw (t, m) at e in let y : ◌≡◌ {A = ℕ} 0 1 = cc in omega arith)
      played h (Ok line) m t =
          whole (rest ++ more) w number [] (rw (first-kept rest more h, length-append rest more) (omega arith))
          ∙ rw (first-kept rest more h, m, drop-append-le (suc (length (first_line rest))) rest more (omega arith))

      go : (b : Bool) → eqb (length (first_line rest)) (length rest) ≡ b → rest_text w number [] (rest ++ more) ≡ printed w (parsed_line (first_line rest)) ++ rest_text (after_line w (parsed_line (first_line rest))) (suc number) [] (drop (suc (length (first_line rest))) rest ++ more)
      go true t = absurd (far (rw t at e) (leb (length rest) 16) refl)
      go false t = played (less (eqb-false (length (first_line rest)) (length rest) t) (first_short rest)) (parsed_line (first_line rest)) refl t
        where
          less : {a b : ℕ} → (a ≡ b → ⊥) → a ≤ b → a < b
          less n h = omega arith

  -- a bad line ends it
  pub step-bad : (why : LineFault) (more : List ℕ) → next_of rest from ≡ Err (Bad why) → rest_text w number [] (rest ++ more) ≡ bad_line number (number_of why)
  unfolding next_of
  step-bad why more e = go (eqb (length (first_line rest)) (length rest)) refl
    where
      open-line : length (first_line rest) ≡ length rest → (b : Bool) → leb (length rest) 16 ≡ b → eqb (length (first_line rest)) (length rest) ≡ true → rest_text w number [] (rest ++ more) ≡ bad_line number (number_of why)
      open-line h true s t = absurd (let z : Ok None ≡ Err (Bad why) = rw (t, s) at e in let y : ◌≡◌ {A = ℕ} 0 1 = cc in omega arith)
      open-line h false s t =
          let z : Err (Bad Malformed) ≡ Err (Bad why) = rw (t, s) at e in
          let y : Malformed ≡ why = cc in
          too_long (rest ++ more) w number [] (omega (arith, first-longer rest more h, leb-false (length rest) 16 s)) ∙ ap (λ (f : LineFault). bad_line number (number_of f)) y

      closed : length (first_line rest) < length rest → (p : Result Line LineFault) → parsed_line (first_line rest) ≡ p → eqb (length (first_line rest)) (length rest) ≡ false → rest_text w number [] (rest ++ more) ≡ bad_line number (number_of why)
      closed h (Err fault) m t =
          let z : Err (Bad fault) ≡ Err (Bad why) = rw (t, m) at e in
          let y : fault ≡ why = cc in
          whole (rest ++ more) w number [] (rw (first-kept rest more h, length-append rest more) (omega arith)) ∙ rw (first-kept rest more h, m) (ap (λ (f : LineFault). bad_line number (number_of f)) y)
      closed h (Ok line) m t = absurd (let z : Ok (Some (from + length (first_line rest) + 1)) ≡ Err (Bad why) = rw (t, m) at e in let y : ◌≡◌ {A = ℕ} 0 1 = cc in omega arith)

      go : (b : Bool) → eqb (length (first_line rest)) (length rest) ≡ b → rest_text w number [] (rest ++ more) ≡ bad_line number (number_of why)
      go true t = open-line (eqb-true (length (first_line rest)) (length rest) t) (leb (length rest) 16) refl t
      go false t = closed (less (eqb-false (length (first_line rest)) (length rest) t) (first_short rest)) (parsed_line (first_line rest)) refl t
        where
          less : {a b : ℕ} → (a ≡ b → ⊥) → a ≤ b → a < b
          less n h = omega arith

  -- where no whole line is left and nothing follows, the log ends
  pub step_end : next_of rest from ≡ Ok None → rest_text w number [] rest ≡ end_text w.player number (length rest)
  unfolding next_of
  step_end e = go (eqb (length (first_line rest)) (length rest)) refl
    where
      go : (b : Bool) → eqb (length (first_line rest)) (length rest) ≡ b → rest_text w number [] rest ≡ end_text w.player number (length rest)
      go true t =
          let k : 0 + length rest ≡ length rest = omega arith in
          no-line rest w number [] (eqb-true (length (first_line rest)) (length rest) t) ∙ ap (λ (n : ℕ). end_text w.player number n) k
      go false t = tell (parsed_line (first_line rest)) refl
        where
          tell : (p : Result Line LineFault) → parsed_line (first_line rest) ≡ p → rest_text w number [] rest ≡ end_text w.player number (length rest)
          tell (Err why) m = absurd (let z : Err (Bad why) ≡ Ok None = rw (t, m) at e in let y : ◌≡◌ {A = ℕ} 0 1 = cc in omega arith)
          tell (Ok line) m = absurd (let z : Ok (Some (from + length (first_line rest) + 1)) ≡ Ok None = rw (t, m) at e in let y : ◌≡◌ {A = ℕ} 0 1 = cc in omega arith)
