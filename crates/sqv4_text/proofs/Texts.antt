-- The texts of numbers and samples, one more at a time. Assumes nothing.
use Rattle.std.proofs.Common.{◌≡◌, ℕ, ◌+◌, ◌<◌, min, List, [], ◌∷◌, ◌++◌, length, get_or, take, ℤ, pos, arith, ◌≤◌}
use Rattle.decimal.specs.Written.{decimal, render}
use Rattle.decimal.proofs.Writing.{puts-each}
use Rattle.output.specs.declared.Output.{Output}
use Rattle.output.specs.Output.{Put, Puts}
use Rattle.output.proofs.Writing.{puts-append, put-none, put-long}
use Rattle.sqv4_text.specs.Lines.{fields, lines}

pub fields-none : (l vs : List ℕ) (at e : ℕ) → e ≡ min at (length l) → Put l l at (fields (take 0 vs)) e
unfolding fields
fields-none l vs at e h = put-none l at e h

pub fields-next : (s t u v : Output) (vs : List ℕ) (i : ℕ) → i < length vs → Puts s t (fields (take i vs)) → Puts t u (44 ∷ []) → Puts u v (decimal (get_or vs i 0)) → Puts s v (fields (take (i + 1) vs))
unfolding fields
fields-next s t u v vs i h p q r = puts-each (λ (x : ℕ). 44 ∷ decimal x) 0 s t v vs i h p (puts-append t u v (44 ∷ []) (decimal (get_or vs i 0)) q r)

pub lines_none : (l : List ℕ) (zs : List ℤ) (at e : ℕ) → e ≡ min at (length l) → Put l l at (lines (take 0 zs)) e
unfolding lines
lines_none l zs at e h = put-none l at e h

pub lines_next : (s t u v : Output) (zs : List ℤ) (i : ℕ) → i < length zs → Puts s t (lines (take i zs)) → Puts t u (render (get_or zs i (pos 0))) → Puts u v (10 ∷ []) → Puts s v (lines (take (i + 1) zs))
unfolding lines
lines_next s t u v zs i h p q r = puts-each (λ (z : ℤ). render z ++ (10 ∷ [])) (pos 0) s t v zs i h p (puts-append t u v (render (get_or zs i (pos 0))) (10 ∷ []) q r)

-- what is written ends within the buffer
pub puts-inside : (s t : Output) (text : List ℕ) → Puts s t text → t.at ≤ length t.buffer.now
puts-inside s t text p = omega (arith, p.put.0, put-long s.buffer.now t.buffer.now s.at t.at text p.put)
