-- A byte that is written is read back. Assumes nothing.
use mathlib.Core.Path.{◌≡◌, refl, sym, ap, ◌∙◌, subst}
use Prim.Native.Nat.{ℕ, ◌*◌, ◌-◌, ◌≤◌, ◌<◌}
use native.Mathlib.Omega.{arith}
use native.Mathlib.Decide.{dec_le}
use Rattle.num.specs.Bits.{byte_of}
use Rattle.num.proofs.Bits.{field-with}
use Rattle.registers.specs.Control.{write_registers, read_registers}
use Rattle.registers.specs.Pcm.{write_pcm, read_pcm}
use Rattle.registers.specs.declared.Registers.{Registers}
use Rattle.registers.specs.declared.PcmRegisters.{PcmRegisters}
use Rattle.registers.proofs.Offsets.{write-frequency, write-param-1, write-param-2, read-frequency, read-param-1, read-param-2, write-start, write-end, write-loop, read-start, read-end, read-loop}

module _ (p : PcmRegisters) (v : ℕ) (h : v < 256) where
  control : read_pcm (write_pcm p 9 v) 9 ≡ v
  unfolding read_pcm write_pcm
  control = refl

  pub read-pcm-written : (o : ℕ) → o ≤ 9 → read_pcm (write_pcm p o v) o ≡ v
  read-pcm-written o l =
      elim (dec_le o 2) [
        | yes a ↦ sym (read-start (write_pcm p o v) o a) ∙ ap (λ (x : PcmRegisters). byte_of (2 - o) x.start_addr) (sym (write-start p o v a)) ∙ field-with (8 * (2 - o)) 8 v p.start_addr h
        | no a ↦ elim (dec_le o 5) [
          | yes b ↦ sym (read-end (write_pcm p o v) o (over a) b) ∙ ap (λ (x : PcmRegisters). byte_of (5 - o) x.end_addr) (sym (write-end p o v (over a) b)) ∙ field-with (8 * (5 - o)) 8 v p.end_addr h
          | no b ↦ elim (dec_le o 8) [
            | yes d ↦ sym (read-loop (write_pcm p o v) o (over b) d) ∙ ap (λ (x : PcmRegisters). byte_of (8 - o) x.loop_addr) (sym (write-loop p o v (over b) d)) ∙ field-with (8 * (8 - o)) 8 v p.loop_addr h
            | no d ↦ subst (λ (k : ℕ). read_pcm (write_pcm p k v) k ≡ v) (nine d) control
          ]
        ]
      ]
    where
      over : {k : ℕ} → (o ≤ k → ⊥) → k < o
      over n = omega arith

      nine : (o ≤ 8 → ⊥) → 9 ≡ o
      nine n = omega arith

module _ (r : Registers) (v : ℕ) (h : v < 256) where
  volume : read_registers (write_registers r 3 v) 3 ≡ v
  unfolding read_registers write_registers
  volume = refl

  panpot : read_registers (write_registers r 4 v) 4 ≡ v
  unfolding read_registers write_registers
  panpot = refl

  -- offset 2 is the channel's, and 5 keeps the modulations that there are
  pub read-written : (o : ℕ) → o ≤ 9 → (o ≡ 2 → ⊥) → (o ≡ 5 → ⊥) → read_registers (write_registers r o v) o ≡ v
  read-written o l two five =
      elim (dec_le o 1) [
        | yes a ↦ sym (read-frequency (write_registers r o v) o a) ∙ ap (λ (x : Registers). byte_of (1 - o) x.frequency) (sym (write-frequency r o v a)) ∙ field-with (8 * (1 - o)) 8 v r.frequency h
        | no a ↦ elim (dec_le o 3) [
          | yes b ↦ subst (λ (k : ℕ). read_registers (write_registers r k v) k ≡ v) (three a b) volume
          | no b ↦ elim (dec_le o 4) [
            | yes d ↦ subst (λ (k : ℕ). read_registers (write_registers r k v) k ≡ v) (four b d) panpot
            | no d ↦ elim (dec_le o 7) [
              | yes e ↦ sym (read-param-1 (write_registers r o v) o (six d) e) ∙ ap (λ (x : Registers). byte_of (7 - o) x.modulation_param_1) (sym (write-param-1 r o v (six d) e)) ∙ field-with (8 * (7 - o)) 8 v r.modulation_param_1 h
              | no e ↦ sym (read-param-2 (write_registers r o v) o (eight e) l) ∙ ap (λ (x : Registers). byte_of (9 - o) x.modulation_param_2) (sym (write-param-2 r o v (eight e) l)) ∙ field-with (8 * (9 - o)) 8 v r.modulation_param_2 h
            ]
          ]
        ]
      ]
    where
      three : (o ≤ 1 → ⊥) → o ≤ 3 → 3 ≡ o
      three a b = omega arith

      four : (o ≤ 3 → ⊥) → o ≤ 4 → 4 ≡ o
      four a b = omega arith

      six : (o ≤ 4 → ⊥) → 5 < o
      six a = omega arith

      eight : (o ≤ 7 → ⊥) → 7 < o
      eight a = omega arith
