-- Which register an offset names, where a definition's arm serves more than one offset. Assumes nothing.
use mathlib.Core.Path.{◌≡◌}
use Prim.Native.Nat.{ℕ, ◌-◌, ◌≤◌, ◌<◌}
use native.Mathlib.Omega.{arith}
use lib.Dec.{eqb}
use borrow.Author.Tests.{le-leb, lt-leb, ne_eqb}
use Rattle.num.specs.Bits.{byte_of, with_byte}
use Rattle.registers.specs.Control.{set_frequency, set_param1, set_param2, write_registers, read_registers}
use Rattle.registers.specs.Pcm.{set_start, set_end, set_loop, write_pcm, read_pcm}
use Rattle.registers.specs.declared.Registers.{Registers}
use Rattle.registers.specs.declared.PcmRegisters.{PcmRegisters}
use mathlib.Core.Bool.{false}

past : (o k : ℕ) → k < o → eqb o k ≡ false
past o k h = ne_eqb o k (λ e. omega arith)

module _ (r : Registers) (o : ℕ) where
  pub write-frequency : (v : ℕ) → o ≤ 1 → set_frequency r (with_byte (1 - o) v r.frequency) ≡ write_registers r o v
  unfolding write_registers
  write-frequency v h = simp (le-leb o 1 h)

  pub write-param-1 : (v : ℕ) → 5 < o → o ≤ 7 → set_param1 r (with_byte (7 - o) v r.modulation_param_1) ≡ write_registers r o v
  unfolding write_registers
  write-param-1 v l h = simp (lt-leb o 1 (omega arith), past o 2 (omega arith), past o 3 (omega arith), past o 4 (omega arith), past o 5 l, le-leb o 7 h)

  pub write-param-2 : (v : ℕ) → 7 < o → o ≤ 9 → set_param2 r (with_byte (9 - o) v r.modulation_param_2) ≡ write_registers r o v
  unfolding write_registers
  write-param-2 v l h = simp (lt-leb o 1 (omega arith), past o 2 (omega arith), past o 3 (omega arith), past o 4 (omega arith), past o 5 (omega arith), lt-leb o 7 l, le-leb o 9 h)

  pub write-other : (v : ℕ) → 9 < o → (o ≡ 11 → ⊥) → r ≡ write_registers r o v
  unfolding write_registers
  write-other v l h = simp (lt-leb o 1 (omega arith), past o 2 (omega arith), past o 3 (omega arith), past o 4 (omega arith), past o 5 (omega arith), lt-leb o 7 (omega arith), lt-leb o 9 l, ne_eqb o 11 h)

  pub read-frequency : o ≤ 1 → byte_of (1 - o) r.frequency ≡ read_registers r o
  unfolding read_registers
  read-frequency h = simp (le-leb o 1 h)

  pub read-param-1 : 5 < o → o ≤ 7 → byte_of (7 - o) r.modulation_param_1 ≡ read_registers r o
  unfolding read_registers
  read-param-1 l h = simp (lt-leb o 1 (omega arith), past o 2 (omega arith), past o 3 (omega arith), past o 4 (omega arith), past o 5 l, le-leb o 7 h)

  pub read-param-2 : 7 < o → o ≤ 9 → byte_of (9 - o) r.modulation_param_2 ≡ read_registers r o
  unfolding read_registers
  read-param-2 l h = simp (lt-leb o 1 (omega arith), past o 2 (omega arith), past o 3 (omega arith), past o 4 (omega arith), past o 5 (omega arith), lt-leb o 7 l, le-leb o 9 h)

  pub read-other : 9 < o → (o ≡ 11 → ⊥) → 0 ≡ read_registers r o
  unfolding read_registers
  read-other l h = simp (lt-leb o 1 (omega arith), past o 2 (omega arith), past o 3 (omega arith), past o 4 (omega arith), past o 5 (omega arith), lt-leb o 7 (omega arith), lt-leb o 9 l, ne_eqb o 11 h)

module _ (p : PcmRegisters) (o : ℕ) where
  pub write-start : (v : ℕ) → o ≤ 2 → set_start p (with_byte (2 - o) v p.start_addr) ≡ write_pcm p o v
  unfolding write_pcm
  write-start v h = simp (le-leb o 2 h)

  pub write-end : (v : ℕ) → 2 < o → o ≤ 5 → set_end p (with_byte (5 - o) v p.end_addr) ≡ write_pcm p o v
  unfolding write_pcm
  write-end v l h = simp (lt-leb o 2 l, le-leb o 5 h)

  pub write-loop : (v : ℕ) → 5 < o → o ≤ 8 → set_loop p (with_byte (8 - o) v p.loop_addr) ≡ write_pcm p o v
  unfolding write_pcm
  write-loop v l h = simp (lt-leb o 2 (omega arith), lt-leb o 5 l, le-leb o 8 h)

  pub write-none : (v : ℕ) → 9 < o → p ≡ write_pcm p o v
  unfolding write_pcm
  write-none v l = simp (lt-leb o 2 (omega arith), lt-leb o 5 (omega arith), lt-leb o 8 (omega arith), past o 9 l)

  pub read-start : o ≤ 2 → byte_of (2 - o) p.start_addr ≡ read_pcm p o
  unfolding read_pcm
  read-start h = simp (le-leb o 2 h)

  pub read-end : 2 < o → o ≤ 5 → byte_of (5 - o) p.end_addr ≡ read_pcm p o
  unfolding read_pcm
  read-end l h = simp (lt-leb o 2 l, le-leb o 5 h)

  pub read-loop : 5 < o → o ≤ 8 → byte_of (8 - o) p.loop_addr ≡ read_pcm p o
  unfolding read_pcm
  read-loop l h = simp (lt-leb o 2 (omega arith), lt-leb o 5 l, le-leb o 8 h)

  pub read_none : 9 < o → 0 ≡ read_pcm p o
  unfolding read_pcm
  read_none l = simp (lt-leb o 2 (omega arith), lt-leb o 5 (omega arith), lt-leb o 8 (omega arith), past o 9 l)
