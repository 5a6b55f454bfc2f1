-- The part of the queue buffer that a core is lent. Assumes nothing.
use mathlib.Core.Path.{◌≡◌, ap, ◌∙◌}
use mathlib.Core.Bool.{Bool, cond}
use mathlib.Core.List.{List}
use Prim.Native.Nat.{ℕ, ◌+◌, ◌-◌, ◌*◌, ◌≤◌}
use native.Mathlib.Omega.{arith}
use lib.IntN.{ℤ}
use lib.ListN.{length, take, drop, length-take, length-drop}
use lib.Seq.{sets}
use borrow.Author.Tests.{eq-eqb}
use borrow.Rule.Slice.PartMut.{put_mid}
use Rattle.sizes.specs.Sizes.{queue_buffer}
use Rattle.cores.specs.Sizes.{chip_queues}
use Rattle.voices.specs.Writes.{with_queues}
use Rattle.voices.proofs.Parts.{put-part}
use Rattle.s3w2.specs.Chips.{core_queues, on_queues}
use Rattle.s3w2.proofs.Cases.{one-core}

module _ (q : List ℤ) (k : ℕ) where
  -- as the code takes it out
  abbrev pub lent : List ℤ
  lent = take (k * queue_buffer + queue_buffer - k * queue_buffer) (drop (k * queue_buffer) q)

  module _ (h : k ≤ 1) (n : length q ≡ chip_queues) where
    part_in : k * queue_buffer + queue_buffer ≤ length q
    part_in = omega arith

    pub lent_is : lent ≡ core_queues k q
    lent_is = let w : k * queue_buffer + queue_buffer - k * queue_buffer ≡ queue_buffer = omega arith in ap (λ (m : ℕ). take m (drop (k * queue_buffer) q)) w

    pub lent_length : length lent ≡ queue_buffer
    lent_length = simp (length-take, length-drop) (omega arith)

    -- it has the length that a core's calls ask for
    pub lent-enough : {A : Type 0} (after before : A) → with_queues lent after before ≡ after
    lent-enough after before = ap (λ (t : Bool). cond t after before) (eq-eqb (length lent) queue_buffer lent_length)

    -- put back as a call left it
    pub put_back : (f : List ℤ → List ℤ) → ((own : List ℤ) → length (f own) ≡ length own) → (ys : List ℤ) → ys ≡ with_queues lent (f lent) lent
        → put_mid (k * queue_buffer) (k * queue_buffer + queue_buffer - k * queue_buffer) q ys ≡ on_queues k f q
    put_back f m ys e =
        let z : ys ≡ f lent = e ∙ lent-enough (f lent) lent in
        put-part q ys (k * queue_buffer) queue_buffer part_in (ap length z ∙ m lent ∙ lent_length)
        ∙ one-core k (sets q (k * queue_buffer) (f (core_queues k q))) q _ h (ap (sets q (k * queue_buffer)) (z ∙ ap f lent_is))
