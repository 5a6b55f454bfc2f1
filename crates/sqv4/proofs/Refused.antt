-- Two channels have as many samples each; a file of one, and of two. Assumes nothing.
use mathlib.Core.Path.{◌≡◌, refl, sym, ap, ap₂, ◌∙◌}
use mathlib.Core.Bool.{Bool, cond}
use mathlib.Core.List.{List}
use Prim.Native.Nat.{ℕ, zero, suc, ◌+◌}
use native.Mathlib.Omega.{arith}
use lib.ListN.{length, length-append}
use lib.Seq.{sets}
use lib.IntN.{ℤ}
use borrow.Author.Tests.{eq-eqb, ne_eqb}
use Rattle.sqv4.specs.declared.Header.{Header}
use Rattle.sqv4.specs.Decoding.{strided}
use Rattle.sqv4.specs.Whole.{samples_from, state_from, state_after, piece, pieces, channel_whole, interleaved, whole_of}
use Rattle.sqv4.proofs.Strided.{strided-sets, strided-two}
use Rattle.sqv4.proofs.Wholes.{length_from}

-- the number of a channel's samples does not depend on the channel
module _ (d : List ℕ) (h : Header) (a b : ℕ) where
  same-pieces : (m : ℕ) → length (pieces (samples_from d h a) (state_from d h a) m) ≡ length (pieces (samples_from d h b) (state_from d h b) m)
  same-pieces zero = refl
  same-pieces (suc m) =
      length-append (pieces (samples_from d h a) (state_from d h a) m) (piece (samples_from d h a) (state_from d h a) m)
      ∙ ap₂ (λ (x y : ℕ). x + y) (same-pieces m)
      (length_from d h a (state_after (samples_from d h a) (state_from d h a) m) m ∙ sym (length_from d h b (state_after (samples_from d h b) (state_from d h b) m) m))
      ∙ sym (length-append (pieces (samples_from d h b) (state_from d h b) m) (piece (samples_from d h b) (state_from d h b) m))

  same_length : length (channel_whole d h a) ≡ length (channel_whole d h b)
  unfolding channel_whole
  same_length = same-pieces h.frame_count

-- one channel, and two
pub one : (out out₁ : List ℤ) (d : List ℕ) (h : Header) → h.channels ≡ 1 → out₁ ≡ strided out 0 h.channels (channel_whole d h 0) → out₁ ≡ sets out 0 (whole_of d h)
unfolding whole_of
one out out₁ d h e p =
    p ∙ ap (λ (n : ℕ). strided out 0 n (channel_whole d h 0)) e ∙ strided-sets out 0 (channel_whole d h 0)
    ∙ ap (λ (b : Bool). sets out 0 (cond b (interleaved (channel_whole d h 0) (channel_whole d h 1)) (channel_whole d h 0))) (sym (ne_eqb h.channels 2 (not-two e)))
  where
    not-two : h.channels ≡ 1 → h.channels ≡ 2 → ⊥
    not-two e q = omega arith

pub two : (out out₁ out₂ : List ℤ) (d : List ℕ) (h : Header) → h.channels ≡ 2 → out₁ ≡ strided out 0 h.channels (channel_whole d h 0) → out₂ ≡ strided out₁ 1 h.channels (channel_whole d h 1) → out₂ ≡ sets out 0 (whole_of d h)
unfolding whole_of
two out out₁ out₂ d h e p q =
    q ∙ ap₂ (λ (o : List ℤ) (n : ℕ). strided o 1 n (channel_whole d h 1)) (p ∙ ap (λ (n : ℕ). strided out 0 n (channel_whole d h 0)) e) e
    ∙ strided-two (channel_whole d h 0) (channel_whole d h 1) (same_length d h 0 1) out 0
    ∙ ap (λ (b : Bool). sets out 0 (cond b (interleaved (channel_whole d h 0) (channel_whole d h 1)) (channel_whole d h 0))) (sym (eq-eqb h.channels 2 e))
