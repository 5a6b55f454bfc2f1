-- The queue as a plain list, oldest first, with no head.
use Rattle.std.specs.Prelude.{◌≡◌, cond, List, [], ◌∷◌, ◌++◌, ℕ, ◌+◌, ◌-◌, ◌%◌, eqb, ltb, ℤ, pos, length, get_or}
use Rattle.std.specs.Int.{w16}
use Rattle.std.proofs.Common.{SFits}
use Rattle.sizes.specs.Sizes.{fifo_capacity}

pub record PlainQueue : Type 0 where
  pub samples : List ℤ
  pub held : ℤ
  pub hold : ℕ
  pub sub : ℕ
  pub latch : ℕ

-- a push goes to the end, unless the list holds 2,048
abbrev pub append : List ℤ → ℤ → List ℤ
append l x = cond (ltb (length l) fifo_capacity) (l ++ (x ∷ [])) l

unfoldable pub plain_pushed : PlainQueue → ℤ → PlainQueue
plain_pushed p x = record { samples = append p.samples x; held = p.held; hold = p.hold; sub = p.sub; latch = p.latch }

-- a pop takes the first, if there is one
abbrev pub pop_first : List ℤ → PlainQueue → ℕ → PlainQueue
pop_first [] p frequency = p
pop_first (x ∷ l) p frequency = record { samples = l; held = x; hold = frequency; sub = p.sub; latch = p.latch }

unfoldable pub plain_popped : PlainQueue → ℕ → PlainQueue
plain_popped p frequency = pop_first p.samples p frequency

abbrev pub plain_hold : PlainQueue → ℕ → PlainQueue
plain_hold p x = record { samples = p.samples; held = p.held; hold = x; sub = p.sub; latch = p.latch }

abbrev pub plain_sub : PlainQueue → ℕ → PlainQueue
plain_sub p x = record { samples = p.samples; held = p.held; hold = p.hold; sub = x; latch = p.latch }

unfoldable pub plain_advanced : PlainQueue → ℕ → PlainQueue
plain_advanced p frequency = cond (eqb p.hold 0) (plain_popped p frequency) (plain_hold p (p.hold - 1))

unfoldable pub plain_ticked : PlainQueue → ℕ → PlainQueue
plain_ticked p frequency = plain_sub (cond (eqb p.sub 0) (plain_advanced p frequency) p) ((p.sub + 1) % 4)

-- nothing was pushed, held or latched
pub record QuietQueue (p : PlainQueue) : Type 0 where
  pub samples : p.samples ≡ []
  pub held : p.held ≡ pos 0
  pub hold : p.hold ≡ 0
  pub sub : p.sub ≡ 0
  pub latch : p.latch ≡ 0

-- ---- the ranges of the samples: entries of a ring, or of the list
pub record FitEntries (q : List ℤ) : Type 0 where
  pub each : (i : ℕ) → SFits w16 (get_or q i (pos 0))
