-- A decoder's index stays at most 88. Assumes nothing.
use Rattle.std.proofs.Common.{ℕ, ◌≤◌, min, eqb, List, [], ◌∷◌, get_or, ℤ, pos, ◌+ℤ◌, arith}
use Rattle.num.specs.Integers.{clamp}
use Rattle.num.proofs.Choice.{cond-by}
use Rattle.num.proofs.Integers.{abs_is}
use Rattle.num.proofs.Fit.{clamp-range}
use Rattle.adpcm.specs.declared.Variant.{Variant}
use Rattle.adpcm.specs.declared.Variant.TheVariants.{H, L, LPlus}
use Rattle.adpcm.specs.declared.State.{State}
use Rattle.adpcm.specs.Ima.{index_after, ima_code}
use Rattle.adpcm.specs.Codes.{decode_code}
use Rattle.sqv4.specs.Decoding.{ends, state_of, begins, start_of}
use Rattle.stream.specs.declared.Info.{Info}
use Rattle.stream.specs.Cache.{fragment_state, bytes_at}

after_small : (i : ℕ) (a : ℤ) → index_after i a ≤ 88
unfolding index_after
after_small i a =
    let z = clamp (pos (min i 88) +ℤ a) (pos 0) (pos 88) in
    omega (arith, abs_is z, clamp-range (pos (min i 88) +ℤ a) 88)

code-small : (version : ℕ) (k : Variant) (s : State) (code : ℕ) → (decode_code version k s code).index ≤ 88
unfolding decode_code ima_code
code-small version H s code = after_small _ _
code-small version L s code = after_small _ _
code-small version LPlus s code = after_small _ _

ends-small : (version : ℕ) (k : Variant) (s : State) (codes : List ℕ) → s.index ≤ 88 → (ends version k s codes).index ≤ 88
unfolding ends
ends-small version k s [] h = h
ends-small version k s (code ∷ codes) h = ends-small version k (decode_code version k s code) codes (code-small version k s code)

pub index-small : (d : List ℕ) (k : Variant) (i : Info) (s : State) (f : ℕ) → s.index ≤ 88 → (fragment_state d k i s f).index ≤ 88
unfolding fragment_state state_of
index-small d k i s f h =
    ends-small i.version k (begins i.version s (bytes_at d i f)) _
    (cond-by (λ (x : State). x.index ≤ 88) (eqb i.version 3) (start_of (get_or (bytes_at d i f) 1 0)) s (λ e. omega arith) (λ e. h))
