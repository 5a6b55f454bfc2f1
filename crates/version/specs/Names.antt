-- The version that a text names.
use Rattle.std.specs.Prelude.{Bool, true, false, cond, ◌||◌, List, [], ◌∷◌, ℕ, ◌+◌, eqb, Option, Some, None}
use Rattle.version.specs.declared.SguVersion.{SguVersion}
use Rattle.version.specs.declared.SguVersion.TheVariants.{V1, V2, V2_1, V3, V3_1}
use Rattle.version.specs.Spaces.{trim_start, trim_end}

-- the letters v and V
abbrev pub is_v : ℕ → Bool
is_v b = eqb b 118 || eqb b 86

unfoldable pub drop_v : List ℕ → List ℕ
drop_v [] = []
drop_v (b ∷ s) = cond (is_v b) (drop_v s) (b ∷ s)

unfoldable pub same_text : List ℕ → List ℕ → Bool
same_text [] [] = true
same_text [] (b ∷ t) = false
same_text (a ∷ s) [] = false
same_text (a ∷ s) (b ∷ t) = cond (eqb a b) (same_text s t) false

abbrev pub either_text : List ℕ → List ℕ → List ℕ → Bool
either_text s a b = same_text s a || same_text s b

-- a digit, and two digits with a point between
abbrev pub digit_name : ℕ → List ℕ
digit_name a = (48 + a) ∷ []

abbrev pub point : ℕ → ℕ → List ℕ
point a b = (48 + a) ∷ (46 ∷ ((48 + b) ∷ []))

unfoldable pub named_version : List ℕ → Option SguVersion
named_version s =
    cond (either_text s (digit_name 1) (point 1 0)) (Some V1)
    (cond (either_text s (digit_name 2) (point 2 0)) (Some V2)
    (cond (same_text s (point 2 1)) (Some V2_1)
    (cond (either_text s (digit_name 3) (point 3 0)) (Some V3)
    (cond (same_text s (point 3 1)) (Some V3_1)
    None))))

unfoldable pub parse_version : List ℕ → Option SguVersion
parse_version text = named_version (drop_v (trim_end (trim_start text)))
