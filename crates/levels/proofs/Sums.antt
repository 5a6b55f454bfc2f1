-- Sums and largest values, one value more. Assumes nothing.
use Rattle.std.proofs.Common.{◌≡◌, ℕ, ◌+◌, ◌*◌, ◌/◌, ◌%◌, ◌^◌, ◌<◌, ◌≤◌, max, Bool, List, length, get_or, ℤ, pos, nat_abs, refl, add-one, arith, le-leb}
use borrow.Author.Tests.{lt-leb}
use Rattle.levels.specs.Levels.{measure_of, sum_with, stem_peak, voice_peak}

pub sum-none : (overs : Bool) (before : ℕ) (side : List ℤ) → before ≡ sum_with overs before side 0
unfolding sum_with
sum-none overs before side = refl

pub sum-next : (overs : Bool) (before now more r i : ℕ) (side : List ℤ) → more ≡ measure_of overs (get_or side i (pos 0)) → now ≡ sum_with overs before side i → r ≡ (now + more) % 2 ^ 64 → r ≡ sum_with overs before side (i + 1)
unfolding sum_with
sum-next overs before now more r i side m e h = rw (add-one i, ← e, ← m) h

pub peak-none : (before : ℕ) (stems : List ℤ) (channel : ℕ) → before ≡ stem_peak before stems channel 0
unfolding stem_peak
peak-none before stems channel = refl

pub peak-next : (before now next r a b channel i : ℕ) (stems : List ℤ) → a ≡ nat_abs (get_or stems (16 * i + 2 * channel) (pos 0)) → b ≡ nat_abs (get_or stems (16 * i + 2 * channel + 1) (pos 0)) → now ≡ stem_peak before stems channel i → next ≡ max now a → r ≡ max next b → r ≡ stem_peak before stems channel (i + 1)
unfolding stem_peak
peak-next before now next r a b channel i stems p q e h k = rw (add-one i, ← e, ← p, ← q, ← h) k

pub no-voice : (before channel : ℕ) (stems : List ℤ) → 7 < channel → before ≡ voice_peak before stems channel
unfolding voice_peak
no-voice before channel stems h = rw (le-leb 8 channel h)

pub a-voice : (before channel r : ℕ) (stems : List ℤ) → channel ≤ 7 → r ≡ stem_peak before stems channel (length stems / 16) → r ≡ voice_peak before stems channel
unfolding voice_peak
a-voice before channel r stems h e = rw (lt-leb 8 channel (omega arith)) e
