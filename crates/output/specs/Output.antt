-- What is written into a buffer.
use Rattle.std.specs.Prelude.{◌≡◌, List, ℕ, ◌+◌, min, length}
use Rattle.std.proofs.lemmas.List.Edits.{sets}
use Rattle.output.specs.declared.Output.{Output}

-- `after` is the buffer `before` with the bytes from `at` on, as far as there is room; `r` is the place behind them, at most the buffer's end
abbrev pub Put : List ℕ → List ℕ → ℕ → List ℕ → ℕ → Type 0
Put before after at bytes r = (r ≡ min (at + length bytes) (length before)) × (after ≡ sets before at bytes)

-- `after` is `before` with the bytes behind what was written, in the same buffer
pub record Puts (before after : Output) (bytes : List ℕ) : Type 0 where
  pub same : after.buffer.ghost_name ≡ before.buffer.ghost_name
  pub put : Put before.buffer.now after.buffer.now before.at bytes after.at
