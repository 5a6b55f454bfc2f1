-- The turns of stem buffers with room for some frames are these frames. Assumes nothing.
use mathlib.Core.Path.{◌≡◌, refl, sym, ap, ◌∙◌}
use mathlib.Core.Bool.{Bool, true, false, cond}
use mathlib.Core.List.{List, append-nil}
use Prim.Native.Nat.{ℕ, ◌+◌, ◌*◌, ◌/◌, ◌≤◌, ◌<◌}
use native.Mathlib.Omega.{arith}
use lib.IntN.{ℤ}
use lib.ListN.{length, drop_of_length-le}
use lib.Seq.{sets, sets-eq}
use Rattle.sizes.specs.Sizes.{queue_buffer, stems_per_frame}
use Rattle.cores.specs.Sizes.{num_cores, chip_queues}
use Rattle.version.specs.declared.SguVersion.{SguVersion}
use Rattle.voices.specs.declared.Core.{Core}
use Rattle.voices.specs.Accepted.{accepts_core}
use Rattle.frames.specs.Turning.{Turns, no_turn, turned, frames, may_run, run_of}
use Rattle.frames.proofs.Asks.{asked, ran}
use Rattle.frames.proofs.Framing.{frames-turns, frames-long}
use Rattle.frames.proofs.Parts.{part_length}
use Rattle.s3w2.specs.Chips.{core_queues}

-- a buffer overwritten from its start to its end
pub sets-all : (s l : List ℤ) → length s ≡ length l → sets s 0 l ≡ l
sets-all s l e = sets-eq l s 0 (omega arith) ∙ rw (drop_of_length-le s {i = 0 + length l} (omega arith)) (append-nil l)

-- each core has 16,384 queue entries
pub queues-long : (k : ℕ) (queues : List ℤ) → k < num_cores → length queues ≡ chip_queues → length (core_queues k queues) ≡ queue_buffer
queues-long k queues h e = part_length queues (k * queue_buffer) queue_buffer (omega (arith, h, e))

-- a buffer without room is not turned for
pub run-none : (version : SguVersion) (ram : List ℕ) (queues : List ℤ) (core : Core) (stems : ℕ) → stems ≡ 0 → no_turn core ≡ run_of version ram queues 0 4 (stems / 2) core
unfolding run_of turned
run-none version ram queues core stems e =
    let z : 0 ≡ stems / 2 = omega (arith, e) in
    same (may_run version ram queues 4 core) ∙ ap (λ (k : ℕ). run_of version ram queues 0 4 k core) z
  where
    same : (b : Bool) → no_turn core ≡ cond b (no_turn core) (no_turn core)
    same true = refl
    same false = refl

-- ---- one core
module _ (version : SguVersion) (ram : List ℕ) (queues : List ℤ) (core : Core) (lent : length queues ≡ queue_buffer) (ok : accepts_core core version (length ram) ≡ true) where
  -- one to four ticks each
  pub run-open : (first n k : ℕ) → 1 ≤ n → n ≤ 4 → run_of version ram queues first n k core ≡ turned version ram queues first n k core
  run-open first n k low high = sym (ran version ram queues n core first k (sym (asked version ram queues n core lent low high) ∙ ok))

  module _ (count stems : ℕ) (es : stems ≡ stems_per_frame * count) where
    pub ran-frames : run_of version ram queues 0 4 (stems / 2) core ≡ frames version ram queues count core
    ran-frames =
        let e : stems / 2 ≡ 8 * count = omega arith in
        ap (λ (k : ℕ). run_of version ram queues 0 4 k core) e ∙ run-open 0 4 (8 * count) (omega arith) (omega arith) ∙ frames-turns version ram queues core count

    pub ran-stems : (buffer : List ℤ) → length buffer ≡ stems → sets buffer 0 (run_of version ram queues 0 4 (stems / 2) core).stems ≡ (frames version ram queues count core).stems
    ran-stems buffer e =
        ap (λ (t : Turns). sets buffer 0 t.stems) ran-frames
        ∙ sets-all buffer (frames version ram queues count core).stems (e ∙ es ∙ sym (frames-long version ram queues core count))
