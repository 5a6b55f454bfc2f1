-- A channel decoded fragment after fragment: the loop's invariant, its start, a turn and its end. Assumes nothing.
use mathlib.Core.Path.{◌≡◌, refl, sym, ap, ap₂, ◌∙◌}
use mathlib.Core.List.{List, [], ◌∷◌}
use Prim.Native.Nat.{ℕ, zero, suc, ◌+◌, ◌-◌, ◌*◌, ◌^◌, ◌≤◌, ◌<◌}
use native.Mathlib.Nat as N
use native.Mathlib.Numerals.{add-one}
use native.Mathlib.Omega.{arith}
use lib.ListN.{length, take, drop, length-append}
use lib.IntN.{ℤ}
use Rattle.adpcm.specs.declared.Variant.{Variant}
use Rattle.adpcm.specs.declared.State.{State}
use Rattle.sqv4.specs.declared.Header.{Header}
use Rattle.sqv4.specs.Files.{Fills, fragment_at, frame_length}
use Rattle.adpcm.specs.Codes.{decode_code}
use Rattle.sqv4.specs.Decoding.{codes_from, sounds, samples_of, state_of, strided, zero_state}
use Rattle.sqv4.specs.Whole.{samples_from, state_from, state_after, piece, pieces, channel_whole}
use Rattle.sqv4.proofs.Checks.{room}
use Rattle.sqv4.proofs.Strided.{strided-append, length-strided}

-- ---- a fragment has as many samples as are asked for
length-codes : (k : Variant) (payload : List ℕ) (i n : ℕ) → length (codes_from k payload i n) ≡ n
unfolding codes_from
length-codes k payload i zero = refl
length-codes k payload i (suc n) = ap suc (length-codes k payload (suc i) n)

length-sounds : (v : ℕ) (k : Variant) (volume : ℕ) (s : State) (codes : List ℕ) → length (sounds v k volume s codes) ≡ length codes
unfolding sounds
length-sounds v k volume s [] = refl
length-sounds v k volume s (code ∷ codes) = ap suc (length-sounds v k volume (decode_code v k s code) codes)

pub length-samples : (v : ℕ) (k : Variant) (s : State) (b : List ℕ) (n : ℕ) → length (samples_of v k s b n) ≡ n
unfolding samples_of
length-samples v k s b n = length-sounds v k _ _ _ ∙ length-codes k _ 0 n

pub length_from : (d : List ℕ) (h : Header) (c : ℕ) (s : State) (f : ℕ) → length (samples_from d h c s f) ≡ frame_length h f
unfolding samples_from
length_from d h c s f = length-samples h.version h.variant s (fragment_at d h (f * h.channels + c)) (frame_length h f)

module _ (d : List ℕ) (h : Header) (c : ℕ) where
  abbrev pub done : ℕ → List ℤ
  done f = pieces (samples_from d h c) (state_from d h c) f

  abbrev pub reached : ℕ → State
  reached f = state_after (samples_from d h c) (state_from d h c) f

  -- before fragment `frame`
  pub record Going (out₀ out : List ℤ) (state : State) (frame from at : ℕ) : Type 0 where
    pub within : frame ≤ h.frame_count
    pub first : from ≡ 16 + (frame * h.channels + c) * h.frame_size
    pub place : at ≡ c + length (done frame) * h.channels
    pub low : at ≤ c + frame * 128
    pub same : length out ≡ length out₀
    pub carried : state ≡ reached frame
    pub placed : out ≡ strided out₀ c h.channels (done frame)

  pub start : (out : List ℤ) → Going out out zero_state 0 (16 + c * h.frame_size) c
  unfolding strided
  start out = record { within = omega arith; first = rw (N.zero-mul h.channels, N.zero-add c); place = omega arith; low = omega arith; same = refl; carried = refl; placed = refl }

  -- a file is not so long that a sum could overflow
  pub not-long : Fills d h → length d ≤ 2 ^ 33 * 34 + 16
  not-long f =
      let a : h.frame_count * h.channels ≤ 2 ^ 33 = N.mul-le-mul {n₂ = 2 ^ 32} {m₂ = 2} (omega (arith, f.count)) f.few.1 in
      omega (arith, f.long, N.mul-le-mul {n₁ = h.frame_count * h.channels} {m₁ = h.frame_size} {n₂ = 2 ^ 33} {m₂ = 34} a f.size.1)

  -- its position in the file
  position : (f : ℕ) → f < h.frame_count → c < h.channels → f * h.channels + c < h.frame_count * h.channels
  position f l k = omega (arith, N.mul-le-mul_right h.channels l, N.suc-mul f h.channels)

  pub fragment-room : (f from : ℕ) → Fills d h → f < h.frame_count → c < h.channels → from ≡ 16 + (f * h.channels + c) * h.frame_size → from + h.frame_size ≤ length d
  fragment-room f from fills l k e = omega (arith, e, room d h (f * h.channels + c) fills (position f l k))

  pub turn : (out₀ out out₁ : List ℤ) (s s₁ : State) (f from at n : ℕ) → Fills d h → f < h.frame_count → n ≤ 64 → n ≡ frame_length h f
      → out₁ ≡ strided out at h.channels (samples_of h.version h.variant s (take (from + h.frame_size - from) (drop from d)) n)
      → s₁ ≡ state_of h.version h.variant s (take (from + h.frame_size - from) (drop from d)) n
      → Going out₀ out s f from at → Going out₀ out₁ s₁ (f + 1) (from + h.frame_size * h.channels) (at + n * h.channels)
  unfolding samples_from state_from
  turn out₀ out out₁ s s₁ f from at n fills l small en eo es g =
      let m : from + h.frame_size - from ≡ h.frame_size = omega arith in
      let b : take (from + h.frame_size - from) (drop from d) ≡ fragment_at d h (f * h.channels + c) = rw (m, g.first) in
      let p : out₁ ≡ strided out at h.channels (piece (samples_from d h c) (state_from d h c) f) = rw (b, en, g.carried) at eo in
      let ln : length (piece (samples_from d h c) (state_from d h c) f) ≡ n = length_from d h c (reached f) f ∙ sym en in
      record {
        within = omega arith;
        first = g-first g.first;
        place = rw (add-one f, length-append (done f) (piece (samples_from d h c) (state_from d h c) f), ln) (g-place (length (done f)) g.place);
        low = omega (arith, g.low, N.mul-le-mul small fills.few.1);
        same = ap length p ∙ length-strided (piece (samples_from d h c) (state_from d h c) f) out at h.channels ∙ g.same;
        carried = rw (add-one f) (rw (b, en, g.carried) at es);
        placed = rw (add-one f)
            (p ∙ ap₂ (λ (o : List ℤ) (a : ℕ). strided o a h.channels (piece (samples_from d h c) (state_from d h c) f)) g.placed g.place
            ∙ sym (strided-append (done f) (piece (samples_from d h c) (state_from d h c) f) out₀ c h.channels));
      }
    where
      g-first : from ≡ 16 + (f * h.channels + c) * h.frame_size → from + h.frame_size * h.channels ≡ 16 + ((f + 1) * h.channels + c) * h.frame_size
      g-first e = rw (e, N.add-mul, N.add-mul, N.add-mul, N.one-mul, N.mul_comm h.frame_size h.channels) (omega arith)

      g-place : (m : ℕ) → at ≡ c + m * h.channels → at + n * h.channels ≡ c + (m + n) * h.channels
      g-place m e = rw (e, N.add-mul) (omega arith)

  pub ended : (out₀ out : List ℤ) (s : State) (f from at : ℕ) → h.frame_count ≤ f → Going out₀ out s f from at → out ≡ strided out₀ c h.channels (channel_whole d h c)
  unfolding channel_whole
  ended out₀ out s f from at l g = rw (whole g.within) at g.placed
    where
      whole : f ≤ h.frame_count → f ≡ h.frame_count
      whole k = omega arith
