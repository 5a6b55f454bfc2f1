-- A run of codes and a fragment: the samples, and the decoder's state after them.
use Rattle.std.specs.Prelude.{cond, List, [], ◌∷◌, ℕ, zero, suc, ◌+◌, ◌-◌, ◌*◌, ◌/◌, min, eqb, length, get_or, drop, set, ℤ, pos}
use Rattle.std.proofs.lemmas.List.Edits.{sets}
use Rattle.adpcm.specs.declared.Variant.{Variant}
use Rattle.adpcm.specs.declared.State.{State}
use Rattle.adpcm.specs.Codes.{bits_of, decode_code, applied_volume, legacy_volume, code_at}
use Rattle.sqv4.specs.Files.{prefix_of}

-- ---- a run of codes
-- the n codes from sample i on
unfoldable pub codes_from : Variant → List ℕ → ℕ → ℕ → List ℕ
codes_from k payload i zero = []
codes_from k payload i (suc n) = code_at payload i (bits_of k) ∷ codes_from k payload (suc i) n

-- a predictor at a volume
abbrev pub sound_of : ℕ → ℤ → ℕ → ℤ
sound_of version p volume = cond (eqb version 3) (applied_volume p volume) (legacy_volume p volume)

unfoldable pub sounds : ℕ → Variant → ℕ → State → List ℕ → List ℤ
sounds version k volume s [] = []
sounds version k volume s (code ∷ codes) =
    let next = decode_code version k s code in
    sound_of version next.predictor volume ∷ sounds version k volume next codes

unfoldable pub ends : ℕ → Variant → State → List ℕ → State
ends version k s [] = s
ends version k s (code ∷ codes) = ends version k (decode_code version k s code) codes

-- ---- a fragment, where the one before it ended in state s
abbrev pub zero_state : State
zero_state = record { predictor = pos 0; index = 0 }

abbrev pub start_of : ℕ → State
start_of i = record { predictor = pos 0; index = min i 88 }

-- version 3 starts anew at the fragment's own step index; the older versions go on
abbrev pub begins : ℕ → State → List ℕ → State
begins version s b = cond (eqb version 3) (start_of (get_or b 1 0)) s

abbrev pub codes_of : ℕ → Variant → List ℕ → ℕ → List ℕ
codes_of version k b n = codes_from k (drop (prefix_of version) b) 0 n

-- its first n samples, and the state after them
unfoldable pub samples_of : ℕ → Variant → State → List ℕ → ℕ → List ℤ
samples_of version k s b n = sounds version k (get_or b 0 0) (begins version s b) (codes_of version k b n)

unfoldable pub state_of : ℕ → Variant → State → List ℕ → ℕ → State
state_of version k s b n = ends version k (begins version s b) (codes_of version k b n)

-- of n samples those whose codes lie whole in the fragment
abbrev pub reached : ℕ → Variant → List ℕ → ℕ → ℕ
reached version k b n = min n (8 * (length b - prefix_of version) / bits_of k)

-- a buffer that a fragment is decoded into, as far as its codes reach, and the state after that
abbrev pub fragment_into : List ℤ → ℕ → Variant → State → List ℕ → List ℤ
fragment_into out version k s b = sets out 0 (samples_of version k s b (reached version k b (length out)))

abbrev pub state_behind : List ℤ → ℕ → Variant → State → List ℕ → State
state_behind out version k s b = state_of version k s b (reached version k b (length out))

-- of the versions before 3, 1 has levels of its own, and any other is as 2
abbrev pub legacy_version : ℕ → ℕ
legacy_version version = cond (eqb version 1) 1 2

-- ---- samples into a buffer, at every step-th place from `at` on, as far as it reaches
unfoldable pub strided : List ℤ → ℕ → ℕ → List ℤ → List ℤ
strided out at step [] = out
strided out at step (x ∷ xs) = strided (set out at x) (at + step) step xs
