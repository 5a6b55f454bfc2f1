-- A log cut between two of its lines: the second half, played from the state that the first half leaves, prints what it prints in the
-- whole log. Assumes nothing.
use mathlib.Core.Path.{◌≡◌, refl, sym, ap, ap₂, ◌∙◌, subst}
use mathlib.Core.Bool.{Bool, true, false, cond}
use mathlib.Core.List.{List, [], ◌∷◌, ◌++◌, append_assoc, append-nil}
use Prim.Native.Nat.{ℕ, suc}
use lib.Dec.{eqb}
use Rattle.num.proofs.Choice.{never}
use Rattle.log_lines.specs.Lines.{parsed_line, bad_number, is_bad}
use Rattle.log_lines.specs.Texts.{bad_line}
use Rattle.log_lines.proofs.Bytes.{line-fits}
use Rattle.plain_chip.specs.Lists.{Every}
use Rattle.log_player.specs.Worlds.{World, fresh_world}
use Rattle.log_player.specs.Applied.{after_line, printed}
use Rattle.log_player.specs.Logs.{rest_text}
use Rattle.chip_calls.proofs.Every.{tied}
use Rattle.resume.proofs.Steps.{HeldMachine}
use Rattle.resume.proofs.Alike.{Alike, resumed-alike}
use Rattle.log_resume.specs.Cuts.{sounds_of, last_of, no_end, Playable, half, played, machine_of, fresh, loaded}
use Rattle.log_resume.proofs.Lines.{call_of, call_fits, next-same, alike-printed, alike-after}
use Rattle.log_resume.proofs.Fresh.{fresh-held, fresh-second}

-- ---- a log prints these lines and then the last one
module _ (sounds sounds' last last' bad : List ℕ) where
  -- of a line that is ended, bad or not, and of one that goes on
  either : (ends wrong : Bool) (out rest rest' : List ℕ) → rest ≡ sounds ++ last → rest' ≡ sounds' ++ last'
      → cond ends (cond wrong bad (out ++ rest)) rest' ≡ cond ends (cond wrong [] (out ++ sounds)) sounds' ++ cond ends (cond wrong bad last) last'
  either true true out rest rest' e f = refl
  either true false out rest rest' e f = ap (λ (l : List ℕ). out ++ l) e ∙ sym (append_assoc out sounds last)
  either false wrong out rest rest' e f = f

pub sounds-and-last : (input : List ℕ) (w : World) (number : ℕ) (line : List ℕ) → rest_text w number line input ≡ sounds_of w line input ++ last_of w number line input
unfolding rest_text sounds_of last_of
sounds-and-last [] w number line = refl
sounds-and-last (c ∷ cs) w number line =
    either _ _ _ _ (bad_line number (bad_number (parsed_line line))) (eqb c 10) (is_bad (parsed_line line)) (printed w (parsed_line line)) _ _ (sounds-and-last cs (after_line w (parsed_line line)) (suc number) []) (sounds-and-last cs w number (line ++ (c ∷ [])))

-- ---- players that are alike print alike
alike-either : (ends wrong : Bool) (x y x' y' : List ℕ) → (wrong ≡ false → x ≡ y) → x' ≡ y' → cond ends (cond wrong [] x) x' ≡ cond ends (cond wrong [] y) y'
alike-either true true x y x' y' e f = refl
alike-either true false x y x' y' e f = e refl
alike-either false wrong x y x' y' e f = f

sounds-alike : (input : List ℕ) (v w : World) → Alike (machine_of v) (machine_of w) → (line : List ℕ) → sounds_of v line input ≡ sounds_of w line input
unfolding sounds_of
sounds-alike [] v w a line = refl
sounds-alike (c ∷ cs) v w a line =
    alike-either (eqb c 10) (is_bad (parsed_line line)) _ _ _ _
    (λ e. ap₂ (λ (x y : List ℕ). x ++ y) (alike-printed v w a (parsed_line line) (line-fits line)) (sounds-alike cs (after_line v (parsed_line line)) (after_line w (parsed_line line)) (alike-after v w a (parsed_line line) (line-fits line) e) []))
    (sounds-alike cs v w a (line ++ (c ∷ [])))

-- ---- the first half
-- a whole line and what follows it
sounds-line : (l : List ℕ) (w : World) (pre rest : List ℕ) → no_end l ≡ true → is_bad (parsed_line (pre ++ l)) ≡ false
    → sounds_of w pre (l ++ (10 ∷ rest)) ≡ printed w (parsed_line (pre ++ l)) ++ sounds_of (after_line w (parsed_line (pre ++ l))) [] rest
unfolding sounds_of
sounds-line [] w pre rest h e =
    let n = append-nil pre in
    ap (λ (b : Bool). cond b [] (printed w (parsed_line pre) ++ sounds_of (after_line w (parsed_line pre)) [] rest)) (ap (λ (l : List ℕ). is_bad (parsed_line l)) (sym n) ∙ e)
    ∙ ap (λ (l : List ℕ). printed w (parsed_line l) ++ sounds_of (after_line w (parsed_line l)) [] rest) (sym n)
sounds-line (c ∷ l) w pre rest h e = go (eqb c 10) refl (sounds-line l w (pre ++ (c ∷ [])) rest)
  where
    joined : (pre ++ (c ∷ [])) ++ l ≡ pre ++ (c ∷ l)
    joined = append_assoc pre (c ∷ []) l

    ended : List ℕ
    ended = cond (is_bad (parsed_line pre)) [] (printed w (parsed_line pre) ++ sounds_of (after_line w (parsed_line pre)) [] (l ++ (10 ∷ rest)))

    part : List ℕ → List ℕ
    part x = printed w (parsed_line x) ++ sounds_of (after_line w (parsed_line x)) [] rest

    go : (b : Bool) → eqb c 10 ≡ b → (no_end l ≡ true → is_bad (parsed_line ((pre ++ (c ∷ [])) ++ l)) ≡ false → sounds_of w (pre ++ (c ∷ [])) (l ++ (10 ∷ rest)) ≡ part ((pre ++ (c ∷ [])) ++ l))
        → cond (eqb c 10) ended (sounds_of w (pre ++ (c ∷ [])) (l ++ (10 ∷ rest))) ≡ part (pre ++ (c ∷ l))
    go true t ih = never (sym (sym (ap (λ (b : Bool). cond b false (no_end l)) t) ∙ h))
    go false t ih =
        ap (λ (b : Bool). cond b ended (sounds_of w (pre ++ (c ∷ [])) (l ++ (10 ∷ rest)))) t
        ∙ ih (sym (ap (λ (b : Bool). cond b false (no_end l)) t) ∙ h) (ap (λ (x : List ℕ). is_bad (parsed_line x)) joined ∙ e)
        ∙ ap part joined

no-half : (w : World) (rest : List ℕ) → sounds_of w [] rest ≡ sounds_of w [] [] ++ sounds_of w [] rest
unfolding sounds_of
no-half w rest = refl

pub halves : (lines : List (List ℕ)) (w : World) (rest : List ℕ) → Every Playable lines → sounds_of w [] (half lines ++ rest) ≡ sounds_of w [] (half lines) ++ sounds_of (played w lines) [] rest
halves [] w rest f = no-half w rest
halves (line ∷ lines) w rest f =
    let out = printed w (parsed_line line) in
    let next = after_line w (parsed_line line) in
    ap (sounds_of w []) (append_assoc line (10 ∷ half lines) rest)
    ∙ sounds-line line w [] (half lines ++ rest) f.0.one f.0.played
    ∙ ap (λ (l : List ℕ). out ++ l) (halves lines next rest f.1)
    ∙ sym (append_assoc out (sounds_of next [] (half lines)) (sounds_of (played next lines) [] rest))
    ∙ ap (λ (l : List ℕ). l ++ sounds_of (played next lines) [] rest) (sym (sounds-line line w [] (half lines) f.0.one f.0.played))

-- a line leaves a chip that calls can reach
pub held-line : (line : List ℕ) (w : World) → HeldMachine (machine_of w) → is_bad (parsed_line line) ≡ false → HeldMachine (machine_of (after_line w (parsed_line line)))
held-line line w h e =
    let l = parsed_line line in
    subst HeldMachine (sym (next-same w l e)) (tied (machine_of w) h (call_of l) (call_fits l (line-fits line))).held

pub held-played : (lines : List (List ℕ)) (w : World) → HeldMachine (machine_of w) → Every Playable lines → HeldMachine (machine_of (played w lines))
held-played [] w h f = h
held-played (line ∷ lines) w h f =
    held-played lines (after_line w (parsed_line line)) (held-line line w h f.0.played) f.1

-- THE CUT: a log of lines that are not bad and whatever follows them prints the lines of its first half, and then those that the second half prints
-- when it is played from the state that the first half leaves.
pub cut : (first : List (List ℕ)) (second : List ℕ) → Every Playable first
    → sounds_of fresh_world [] (half first ++ second) ≡ sounds_of fresh_world [] (half first) ++ sounds_of (loaded (played fresh_world first)) [] second
cut first second f =
    let w = played fresh_world first in
    let h : HeldMachine (machine_of w) = held-played first fresh_world fresh-held f in
    halves first fresh_world second f
    ∙ ap (λ (l : List ℕ). sounds_of fresh_world [] (half first) ++ l) (sounds-alike second w (loaded w) (resumed-alike (machine_of w) (fresh w.ram) h (fresh-second (machine_of w) h)) [])
