-- What an offset names. Assumes nothing.
use Rattle.std.proofs.Common.{◌≡◌, ℕ, ◌-◌, ◌<◌, ◌≤◌, List, ℤ, sym, ◌∙◌, arith, ne_eqb, le-leb}
use borrow.Author.Tests.{lt-leb}
use Rattle.registers.specs.Control.{write_registers, read_registers}
use Rattle.registers.specs.Pcm.{read_pcm}
use Rattle.version.specs.declared.SguVersion.{SguVersion}
use Rattle.registers.proofs.Offsets.{read-other}
use Rattle.voice.specs.Channel.{set_registers}
use Rattle.voice.specs.Writes.{waveform_written, restarted, latch_written, sample_written, sample_entries, sample_control_written, write_control, write_control_entries}
use Rattle.voice.specs.Reads.{read_queue, read_sample_control, read_control}
use Rattle.voice.specs.declared.Channel.{Channel}

module _ (version : SguVersion) (c : Channel) (o : ℕ) where
  module _ (value : ℕ) where
    pub write-waveform : o ≡ 2 → waveform_written version c value ≡ write_control version c o value
    unfolding write_control
    write-waveform e = rw e

    pub write-restart : o ≡ 10 → restarted c ≡ write_control version c o value
    unfolding write_control
    write-restart e = rw e

    pub write-latch : o ≡ 12 → latch_written version c value ≡ write_control version c o value
    unfolding write_control
    write-latch e = rw e

    pub write-sample : o ≡ 13 → sample_written version c ≡ write_control version c o value
    unfolding write_control
    write-sample e = rw e

    pub write-sample-control : o ≡ 26 → sample_control_written version c value ≡ write_control version c o value
    unfolding write_control
    write-sample-control e = rw e

    pub write-rest : (o ≡ 2 → ⊥) → (o ≡ 10 → ⊥) → (o ≡ 12 → ⊥) → (o ≡ 13 → ⊥) → (o ≡ 26 → ⊥) → set_registers c (write_registers c.registers o value) ≡ write_control version c o value
    unfolding write_control
    write-rest d e f g h = simp (ne_eqb o 2 d, ne_eqb o 10 e, ne_eqb o 12 f, ne_eqb o 13 g, ne_eqb o 26 h)

    pub entries-pushed : (q : List ℤ) → o ≡ 13 → sample_entries version c q value ≡ write_control_entries version c q o value
    unfolding write_control_entries
    entries-pushed q e = rw e

    pub entries-kept : (q : List ℤ) → (o ≡ 13 → ⊥) → q ≡ write_control_entries version c q o value
    unfolding write_control_entries
    entries-kept q h = simp (ne_eqb o 13 h)

  pub read_count : 13 < o → o ≤ 15 → read_queue version c o ≡ read_control version c o
  unfolding read_control
  read_count l h = simp (lt-leb o 13 l, le-leb o 15 h)

  pub read-stream : 15 < o → o ≤ 25 → read_pcm c.pcm (o - 16) ≡ read_control version c o
  unfolding read_control
  read-stream l h = simp (lt-leb o 13 (omega arith), lt-leb o 15 l, le-leb o 25 h)

  pub read-control : o ≡ 26 → read_sample_control version c ≡ read_control version c o
  unfolding read_control
  read-control e = rw e

  pub read_low : o ≤ 13 → read_registers c.registers o ≡ read_control version c o
  unfolding read_control
  read_low h = simp (le-leb o 13 h)

  none : 26 < o → 0 ≡ read_control version c o
  unfolding read_control
  none l = simp (lt-leb o 13 (omega arith), lt-leb o 15 (omega arith), lt-leb o 25 (omega arith), ne_eqb o 26 (λ e. omega arith))

  pub read-high : 26 < o → read_registers c.registers o ≡ read_control version c o
  read-high l = sym (read-other c.registers o (omega arith) (λ e. omega arith)) ∙ none l
