-- The buffers: a file that has room leaves room for its samples; a whole input has a line. Assumes nothing.
use Rattle.std.proofs.Common.{◌≡◌, ℕ, ◌≤◌, Bool, true, false, cond, eqb, ltb, List, length, take, ℤ, sym, ap₂, arith, length-take-le, ltb-true, Ok}
use Rattle.num.proofs.Choice.{never}
use Rattle.adpcm.specs.declared.Variant.{Variant}
use Rattle.adpcm.specs.declared.Variant.TheVariants.{H, L, LPlus}
use Rattle.sqv4_writer.specs.Streams.{length_for, answer_for}
use Rattle.sqv4_writer.proofs.Limits.{wrote}
use Rattle.sqv4_make.specs.declared.Progress.{Progress}
use Rattle.sqv4_make.specs.Making.{most_bytes, most_samples, is_whole}

fit : (k : Variant) (n : ℕ) → length_for k n ≤ most_bytes → n ≤ most_samples
unfolding length_for
fit H n h = omega arith
fit L n h = omega arith
fit LPlus n h = omega arith

pub samples-fit : (n : ℕ) (k : Variant) (rate volume index m : ℕ) → answer_for n k rate volume index most_bytes ≡ Ok m → n ≤ most_samples
samples-fit n k rate volume index m e = fit k n (wrote n k rate volume index most_bytes m e).room_for

-- what the writer answers to the first n of some samples
pub taken-answer : (n : ℕ) (xs : List ℤ) (k : Variant) (rate volume index : ℕ) (file : List ℕ) → n ≤ length xs → length file ≡ most_bytes → answer_for (length (take n xs)) k rate volume index (length file) ≡ answer_for n k rate volume index most_bytes
taken-answer n xs k rate volume index file h e = ap₂ (λ (a b : ℕ). answer_for a k rate volume index b) (length-take-le n xs h) e

pub some-lines : (m : Progress) → is_whole m ≡ true → 1 ≤ m.lines
unfolding is_whole
some-lines m e = go m.good (eqb m.filled 0) e
  where
    go : (a b : Bool) → cond a (cond b (ltb 0 m.lines) false) false ≡ true → 1 ≤ m.lines
    go true true h = ltb-true 0 m.lines h
    go true false h = never (sym h)
    go false b h = never (sym h)
