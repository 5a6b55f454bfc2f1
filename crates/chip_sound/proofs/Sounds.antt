-- A tick of one voice, from what the call of the tick says. Assumes nothing.
use Rattle.std.specs.Prelude.{Ok}
use mathlib.Core.Path.{◌≡◌, sym, ap, ap₂, ◌∙◌}
use mathlib.Core.Bool.{Bool, false, cond, ◌&&◌}
use mathlib.Core.List.{List}
use Prim.Native.Nat.{ℕ, ◌*◌, ◌-◌, ◌+◌, ◌≤◌, ◌<◌}
use native.Mathlib.Omega.{arith}
use lib.Dec.{ltb}
use lib.IntN.{ℤ, pos}
use lib.ListN.{length}
use borrow.Author.Tests.{eq-eqb, lt-ltb, le-ltb}
use borrow.Rule.Slice.PartMut.{put_mid, put_same}
use Rattle.sizes.specs.Sizes.{num_channels, queue_buffer}
use Rattle.cores.specs.Sizes.{num_cores, chip_queues}
use Rattle.version.specs.declared.SguVersion.{SguVersion}
use Rattle.version.specs.declared.SguVersion.TheVariants.{V1, V2, V2_1, V3, V3_1}
use Rattle.version.specs.Versions.{core_count}
use Rattle.voices.specs.Core.{channel_at}
use Rattle.voices.specs.declared.Core.{Core}
use Rattle.frames.specs.Turning.{Turns, no_turn, turned, single_tick, after_turns}
use Rattle.frame_reports.specs.Ending.{turned_off}
use Rattle.frames.specs.declared.Turned.{Turned}
use Rattle.s3w2.specs.declared.Chip.{Chip}
use Rattle.s3w2.specs.declared.Called.{Called}
use Rattle.s3w2.specs.declared.Returned.TheVariants.{Sample}
use Rattle.s3w2.specs.Answers.{answered}
use Rattle.s3w2.specs.Chips.{core_at, with_core_at, core_queues}
use Rattle.chip_sound.specs.Sound.{one_tick, one_tick_ends}
use Rattle.s3w2.proofs.Queues.{lent, lent_is, lent_length}
use Rattle.chip_sound.proofs.Endings.{tick-ended}

most-cores : (version : SguVersion) → core_count version ≤ num_cores
most-cores V1 = omega arith
most-cores V2 = omega arith
most-cores V2_1 = omega arith
most-cores V3 = omega arith
most-cores V3_1 = omega arith

pub in-chip : (version : SguVersion) (count k : ℕ) → count ≡ core_count version → k < count → k < num_cores
in-chip version count k e h = omega (arith, e, h, most-cores version)

-- the core's entries are put back as they were
pub lent_back : (queues : List ℤ) (k : ℕ) (ys : List ℤ) → ys ≡ lent queues k → put_mid (k * queue_buffer) (k * queue_buffer + queue_buffer - k * queue_buffer) queues ys ≡ queues
lent_back queues k ys e =
    ap (put_mid (k * queue_buffer) (k * queue_buffer + queue_buffer - k * queue_buffer) queues) e ∙ put_same (k * queue_buffer) (k * queue_buffer + queue_buffer - k * queue_buffer) queues

module _ (chip : Chip) (ram : List ℕ) (queues : List ℤ) (k ch : ℕ) where
  abbrev given : Called
  given = answered (with_core_at chip k (one_tick chip ram queues k ch).core) (Ok (Sample (one_tick chip ram queues k ch).sample (one_tick_ends chip ram queues k ch)))

  abbrev nothing : Called
  nothing = answered chip (Ok (Sample (pos 0) false))

  abbrev chosen : Bool → Bool → Called
  chosen there voice = cond (there && voice) given nothing

  pub core-none : core_count chip.version ≤ k → nothing ≡ chosen (ltb k (core_count chip.version)) (ltb ch num_channels)
  core-none h = sym (ap (λ (t : Bool). chosen t (ltb ch num_channels)) (le-ltb k (core_count chip.version) h))

  module _ (there : k < core_count chip.version) where
    pub sample-none : 7 < ch → nothing ≡ chosen (ltb k (core_count chip.version)) (ltb ch num_channels)
    sample-none h = sym (ap₂ chosen (lt-ltb k (core_count chip.version) there) (le-ltb ch num_channels h))

    single-open : length queues ≡ chip_queues → single_tick chip.version ram (lent queues k) ch (core_at chip k) ≡ one_tick chip ram queues k ch
    unfolding single_tick
    single-open all =
        let h : k ≤ 1 = omega (arith, there, most-cores chip.version) in
        let tick : List ℤ → Turns = λ q. turned chip.version ram q ch 1 1 (core_at chip k) in
        ap (λ (b : Bool). cond b (tick (lent queues k)) (no_turn (core_at chip k))) (eq-eqb (length (lent queues k)) queue_buffer (lent_length queues k h all)) ∙ ap tick (lent_is queues k h all)

    pub sample-some : (core : Core) (sample : ℤ) (ended : Bool) → ch ≤ 7 → length queues ≡ chip_queues
        → record { core = core; sample = sample } ≡ after_turns (single_tick chip.version ram (lent queues k) ch (core_at chip k)) → ended ≡ turned_off (channel_at (core_at chip k) ch) (channel_at core ch)
        → answered (with_core_at chip k core) (Ok (Sample sample ended)) ≡ chosen (ltb k (core_count chip.version)) (ltb ch num_channels)
    sample-some core sample ended h q e f =
        let r : ◌≡◌ {A = Turned} (record { core = core; sample = sample }) (after_turns (one_tick chip ram queues k ch)) = e ∙ ap after_turns (single-open q) in
        let t : ended ≡ one_tick_ends chip ram queues k ch = f ∙ tick-ended chip.version ram (core_queues k queues) (core_at chip k) core ch h (ap (λ (t : Turned). t.core) r) in
        ap₂ (λ (t : Turned) (b : Bool). answered (with_core_at chip k t.core) (Ok (Sample t.sample b))) r t
        ∙ sym (ap₂ chosen (lt-ltb k (core_count chip.version) there) (lt-ltb ch num_channels (omega (arith, h))))
