-- The stems of two cores as one list.
use Rattle.std.specs.Prelude.{List, [], ◌++◌, ℕ, zero, suc, ℤ, take, drop}
use Rattle.sizes.specs.Sizes.{stems_per_frame}

-- n frames: each frame's 16 of core 0, then its 16 of core 1
unfoldable pub paired : ℕ → List ℤ → List ℤ → List ℤ
paired zero a b = []
paired (suc n) a b = take stems_per_frame a ++ (take stems_per_frame b ++ paired n (drop stems_per_frame a) (drop stems_per_frame b))
