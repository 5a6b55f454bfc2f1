-- Runs of a machine over a list of calls.
use Rattle.std.specs.Prelude.{List, [], ◌∷◌}

-- what a call leaves and answers
pub record Outcome (M A : Type 0) : Type 0 where
  pub next : M
  pub answer : A

module _ {M C A : Type 0} (run : M → C → Outcome M A) where
  -- the machine after a list of calls
  abbrev pub after : M → List C → M
  after m [] = m
  after m (c ∷ cs) = after (run m c).next cs

  -- what is seen: each call's answer, and what `show` tells of the machine after it
  abbrev pub trace : {T : Type 0} → (M → T) → M → List C → List (Outcome T A)
  trace show m [] = []
  trace show m (c ∷ cs) = record { next = show (run m c).next; answer = (run m c).answer } ∷ trace show (run m c).next cs
