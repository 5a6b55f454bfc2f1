-- Some texts and the versions that they name, computed from the definition. Assumes nothing.
use mathlib.Core.Path.{◌≡◌, refl}
use mathlib.Core.List.{List, [], ◌∷◌}
use Prim.Native.Nat.{ℕ}
use Rattle.std.specs.Prelude.{Option, Some, None}
use Rattle.version.specs.declared.SguVersion.{SguVersion}
use Rattle.version.specs.declared.SguVersion.TheVariants.{V1, V2_1, V3, V3_1}
use Rattle.version.specs.Spaces.{among, space_width, leading, trailing, trim_start_in, trim_end_in}
use Rattle.version.specs.Names.{drop_v, same_text, named_version, parse_version}

abbrev parsed : List (List ℕ) → List (Option SguVersion)
parsed [] = []
parsed (t ∷ ts) = parse_version t ∷ parsed ts

-- "1.0"; " v2.1" and a line's end; U+3000, "vV3", U+00A0; "3.1", U+2003, U+0085
-- "1.1"; "v 1"; a zero byte and a space ahead of "1"; the bytes E0 80 A0 ahead of "1", which are no UTF-8; nothing
pub examples : parsed
    ((49 ∷ (46 ∷ (48 ∷ [])))
    ∷ ((32 ∷ (118 ∷ (50 ∷ (46 ∷ (49 ∷ (10 ∷ []))))))
    ∷ ((227 ∷ (128 ∷ (128 ∷ (118 ∷ (86 ∷ (51 ∷ (194 ∷ (160 ∷ []))))))))
    ∷ ((51 ∷ (46 ∷ (49 ∷ (226 ∷ (128 ∷ (131 ∷ (194 ∷ (133 ∷ []))))))))
    ∷ ((49 ∷ (46 ∷ (49 ∷ [])))
    ∷ ((118 ∷ (32 ∷ (49 ∷ [])))
    ∷ ((0 ∷ (32 ∷ (49 ∷ [])))
    ∷ ((224 ∷ (128 ∷ (160 ∷ (49 ∷ []))))
    ∷ ([] ∷ [])))))))))
    ≡ Some V1 ∷ (Some V2_1 ∷ (Some V3 ∷ (Some V3_1 ∷ (None ∷ (None ∷ (None ∷ (None ∷ (None ∷ []))))))))
unfolding parse_version named_version same_text drop_v trim_start_in trim_end_in leading trailing space_width among
examples = refl
