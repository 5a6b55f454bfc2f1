-- Each fragment's samples are their part of the whole. Assumes nothing.
use mathlib.Core.Path.{◌≡◌, refl, sym, ap, ◌∙◌, subst}
use mathlib.Core.List.{List, ◌++◌}
use Prim.Native.Nat.{ℕ, zero, suc, ◌+◌, ◌-◌, ◌*◌, ◌/◌, ◌%◌, ◌≤◌, ◌<◌, min}
use native.Mathlib.Omega.{arith}
use native.Mathlib.Decide.{dec_le}
use native.Mathlib.Nat as N
use lib.Dec.{eqb}
use lib.ListN.{length, get_or, take, drop, length-append, length-drop}
use lib.Seq.{take_all, take-append-le, drop-append-le, drop_at, get_or-take, get_or-drop}
use lib.IntN.{ℤ, pos}
use Rattle.num.specs.Lists.{part}
use Rattle.num.proofs.Choice.{cond-by}
use Rattle.adpcm.specs.declared.Variant.{Variant}
use Rattle.adpcm.specs.declared.State.{State}
use Rattle.sqv4.specs.declared.Header.{Header}
use Rattle.sqv4.specs.Files.{frame_samples_of, frame_count_of, frame_length, fragment_at}
use Rattle.sqv4.specs.Decoding.{samples_of, state_of, zero_state}
use Rattle.sqv4.specs.Whole.{samples_from, state_from, state_after, piece, pieces, channel_whole, channel_state}
use Rattle.sqv4.proofs.Accepted.{Says}
use Rattle.sqv4.proofs.Wholes.{length_from}

-- ---- pieces of a decoder: n samples, `per` a piece
module _ (from : State → ℕ → List ℤ) (next : State → ℕ → State) (n per : ℕ) (lens : (s : State) (f : ℕ) → length (from s f) ≡ min (n - f * per) per) where
  length-pieces : (m : ℕ) → length (pieces from next m) ≡ min n (m * per)
  length-pieces zero = omega arith
  length-pieces (suc m) =
      length-append (pieces from next m) (piece from next m)
      ∙ omega (arith, length-pieces m, lens (state_after from next m) m, N.suc-mul m per)

  -- piece f is the part of the whole from f * per on
  pub piece-part : (m f : ℕ) → f < m → f * per ≤ n → part (pieces from next m) (f * per) (min (n - f * per) per) ≡ piece from next f
  piece-part zero f h l = absurd (omega arith)
  piece-part (suc m) f h l =
      elim (dec_le m f) [
        | yes e ↦ last (omega arith)
        | no e ↦ before (omega arith) (piece-part m f (omega arith) l)
      ]
    where
      before : f < m → part (pieces from next m) (f * per) (min (n - f * per) per) ≡ piece from next f → part (pieces from next m ++ piece from next m) (f * per) (min (n - f * per) per) ≡ piece from next f
      before g ih =
          let more = N.mul-le-mul_right per g in
          ap (take (min (n - f * per) per)) (drop-append-le (f * per) (pieces from next m) (piece from next m) (omega (arith, length-pieces m, N.suc-mul f per)))
          ∙ take-append-le (min (n - f * per) per) (drop (f * per) (pieces from next m)) (piece from next m) (simp length-drop (omega (arith, length-pieces m, N.suc-mul f per)))
          ∙ ih

      last : f ≡ m → part (pieces from next m ++ piece from next m) (f * per) (min (n - f * per) per) ≡ piece from next f
      last e =
          let q : f * per ≡ m * per = ap (λ (x : ℕ). x * per) e in
          ap (take (min (n - f * per) per)) (drop_at (pieces from next m) (piece from next m) (f * per) (omega (arith, length-pieces m)))
          ∙ take_all (min (n - f * per) per) (piece from next m) (omega (arith, lens (state_after from next m) m))
          ∙ ap (piece from next) (sym e)

-- ---- of an accepted file
-- the first sample of a fragment that there is, and the fragment of a sample that there is
pub first_below : (f per n : ℕ) → 0 < per → f < frame_count_of per n → f * per < n
first_below f per n p h = omega (arith, (N.le-div_iff_mul-le p).0 h, N.suc-mul f per)

pub frame_below : (i per n : ℕ) → 0 < per → i < n → i / per < frame_count_of per n
frame_below i per n p h = (N.le-div_iff_mul-le p).1 (omega (arith, N.div-mul-le_self i per, N.suc-mul (i / per) per))

some-samples : (version : ℕ) → 0 < frame_samples_of version
some-samples version = cond-by (λ (x : ℕ). 0 < x) (eqb version 3) 63 64 (λ e. omega arith) (λ e. omega arith)

-- version 3 starts anew, whatever state the fragment before ended in
any-state : (k : Variant) (s t : State) (b : List ℕ) (n : ℕ) → samples_of 3 k s b n ≡ samples_of 3 k t b n
unfolding samples_of
any-state k s t b n = refl

module _ (d : List ℕ) (h : Header) (says : Says d h) where
  pub per-some : 0 < h.frame_samples
  per-some = subst (λ (x : ℕ). 0 < x) (sym says.samples) (some-samples h.version)

  -- fragment f of a channel, decoded from the state after the fragments before it, is its part of the whole
  pub part-of-whole : (c f : ℕ) → f < h.frame_count → part (channel_whole d h c) (f * h.frame_samples) (frame_length h f) ≡ samples_of h.version h.variant (channel_state d h c f) (fragment_at d h (f * h.channels + c)) (frame_length h f)
  unfolding channel_whole channel_state samples_from
  part-of-whole c f l =
      piece-part (samples_from d h c) (state_from d h c) h.samples_per_channel h.frame_samples (length_from d h c) h.frame_count f l
      (N.le_of_lt (first_below f h.frame_samples h.samples_per_channel per-some (subst (λ (x : ℕ). f < x) says.count l)))

  -- the state after one more fragment
  pub state-after : (c f : ℕ) → channel_state d h c (suc f) ≡ state_of h.version h.variant (channel_state d h c f) (fragment_at d h (f * h.channels + c)) (frame_length h f)
  unfolding channel_state state_from
  state-after c f = refl

  -- a version 3 fragment decoded alone is its part of the whole
  pub alone : (c f : ℕ) → h.version ≡ 3 → f < h.frame_count → part (channel_whole d h c) (f * h.frame_samples) (frame_length h f) ≡ samples_of 3 h.variant zero_state (fragment_at d h (f * h.channels + c)) (frame_length h f)
  alone c f e l =
      part-of-whole c f l
      ∙ ap (λ (v : ℕ). samples_of v h.variant (channel_state d h c f) (fragment_at d h (f * h.channels + c)) (frame_length h f)) e
      ∙ any-state h.variant (channel_state d h c f) zero_state (fragment_at d h (f * h.channels + c)) (frame_length h f)

  -- sample i of a channel is sample i % per of its fragment
  pub sample-of-whole : (c i : ℕ) → i < h.samples_per_channel → get_or (channel_whole d h c) i (pos 0) ≡ get_or (samples_from d h c (channel_state d h c (i / h.frame_samples)) (i / h.frame_samples)) (i % h.frame_samples) (pos 0)
  unfolding samples_from
  sample-of-whole c i l =
      let per = h.frame_samples in
      let f = i / per in
      let below = frame_below i per h.samples_per_channel per-some l in
      let within : i % per < frame_length h f = omega (arith, N.mod-lt i per-some, N.div-add-mod' i per) in
      ap (λ (x : ℕ). get_or (channel_whole d h c) x (pos 0)) (sym (N.div-add-mod' i per))
      ∙ sym (get_or-drop (f * per) (channel_whole d h c) (i % per) (pos 0))
      ∙ sym (get_or-take (frame_length h f) (drop (f * per) (channel_whole d h c)) (i % per) (pos 0) within)
      ∙ ap (λ (xs : List ℤ). get_or xs (i % per) (pos 0)) (part-of-whole c f (subst (λ (x : ℕ). f < x) (sym says.count) below))
