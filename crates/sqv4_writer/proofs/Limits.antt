-- What a call that is not turned away has: a rate, a volume, a step index of at most 88, samples that a header can count. Assumes nothing.
use Rattle.std.specs.Prelude.{Ok, Err}
use mathlib.Core.Path.{◌≡◌, refl}
use mathlib.Core.Bool.{Bool, true, false, cond}
use Prim.Native.Nat.{ℕ, ◌≤◌, ◌<◌}
use native.Mathlib.Omega.{arith}
use lib.Dec.{eqb, ltb}
use borrow.Author.Tests.{eqb-false, ltb-false}
use Rattle.num.proofs.Choice.{never}
use Rattle.adpcm.specs.declared.Variant.{Variant}
use Rattle.sqv4_writer.specs.declared.StreamError.TheVariants.{OutOfTerms, OutputBuffer}
use Rattle.sqv4_writer.specs.Streams.{out_of_terms, answer_for, length_for, max_step_index, max_samples}

pub record InTerms (n rate volume index : ℕ) : Type 0 where
  pub some-rate : 0 < rate
  pub some-volume : 0 < volume
  pub low : index ≤ max_step_index
  pub few : n ≤ max_samples

pub in-terms : (n rate volume index : ℕ) → out_of_terms n rate volume index ≡ false → InTerms n rate volume index
unfolding out_of_terms
in-terms n rate volume index e = go (eqb rate 0) refl (eqb volume 0) refl (ltb max_step_index index) refl e
  where
    some : (x : ℕ) → eqb x 0 ≡ false → 0 < x
    some x h = let g = eqb-false x 0 h in omega arith

    go : (a : Bool) → eqb rate 0 ≡ a → (b : Bool) → eqb volume 0 ≡ b → (d : Bool) → ltb max_step_index index ≡ d → cond a true (cond b true (cond d true (ltb max_samples n))) ≡ false → InTerms n rate volume index
    go true p b q d r h = never h
    go false p true q d r h = never h
    go false p false q true r h = never h
    go false p false q false r h = record { some-rate = some rate p; some-volume = some volume q; low = ltb-false max_step_index index r; few = ltb-false max_samples n h }

-- a call that wrote a file was one of them, and there was room for it
pub record Wrote (n : ℕ) (k : Variant) (rate volume index room m : ℕ) : Type 0 where
  pub terms : InTerms n rate volume index
  pub long : m ≡ length_for k n
  pub room_for : length_for k n ≤ room

pub wrote : (n : ℕ) (k : Variant) (rate volume index room m : ℕ) → answer_for n k rate volume index room ≡ Ok m → Wrote n k rate volume index room m
unfolding answer_for
wrote n k rate volume index room m e = go (out_of_terms n rate volume index) refl (ltb room (length_for k n)) refl e
  where
    go : (a : Bool) → out_of_terms n rate volume index ≡ a → (b : Bool) → ltb room (length_for k n) ≡ b → cond a (Err OutOfTerms) (cond b (Err OutputBuffer) (Ok (length_for k n))) ≡ Ok m → Wrote n k rate volume index room m
    go true p b q h = let z : ◌≡◌ {A = ℕ} 0 1 = cc in absurd (omega arith)
    go false p true q h = let z : ◌≡◌ {A = ℕ} 0 1 = cc in absurd (omega arith)
    go false p false q h = record { terms = in-terms n rate volume index p; long = cc; room_for = ltb-false room (length_for k n) q }
