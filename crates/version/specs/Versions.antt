-- What the versions have.
use Rattle.std.specs.Prelude.{Bool, true, false, cond, ℕ, eqb}
use Rattle.num.specs.Bits.{bit}
use Rattle.tone.specs.Taps.{wavetable_mask}
use Rattle.version.specs.declared.SguVersion.{SguVersion}
use Rattle.version.specs.declared.SguVersion.TheVariants.{V1, V2, V2_1, V3, V3_1}

-- the number that session texts give a version
abbrev pub version_number : SguVersion → ℕ
version_number V1 = 0
version_number V2 = 1
version_number V2_1 = 2
version_number V3 = 3
version_number V3_1 = 4

-- the version of a number
abbrev pub version_of : ℕ → SguVersion
version_of n = cond (eqb n 0) V1 (cond (eqb n 1) V2 (cond (eqb n 2) V2_1 (cond (eqb n 3) V3 V3_1)))

-- the version that a chip has where none is named
abbrev pub default_version : SguVersion
default_version = V3_1

abbrev pub core_count : SguVersion → ℕ
core_count V1 = 1
core_count V2 = 2
core_count V2_1 = 2
core_count V3 = 2
core_count V3_1 = 2

abbrev pub has3ws8pna : SguVersion → Bool
has3ws8pna V1 = false
has3ws8pna V2 = false
has3ws8pna V2_1 = true
has3ws8pna V3 = true
has3ws8pna V3_1 = true

abbrev pub has34si22 : SguVersion → Bool
has34si22 V1 = false
has34si22 V2 = false
has34si22 V2_1 = false
has34si22 V3 = true
has34si22 V3_1 = true

abbrev pub has_sample_control : SguVersion → Bool
has_sample_control V1 = false
has_sample_control V2 = false
has_sample_control V2_1 = false
has_sample_control V3 = false
has_sample_control V3_1 = true

-- whether a voice with this sample control interpolates: in V3.1 its bit 2 decides
abbrev pub interpolates : SguVersion → ℕ → Bool
interpolates V1 control = false
interpolates V2 control = false
interpolates V2_1 control = true
interpolates V3 control = true
interpolates V3_1 control = eqb (bit 2 control) 0

-- the samples of its wavetable, less one
abbrev pub wavetable_mask_of : SguVersion → ℕ → ℕ
wavetable_mask_of V1 control = 255
wavetable_mask_of V2 control = 255
wavetable_mask_of V2_1 control = 255
wavetable_mask_of V3 control = 255
wavetable_mask_of V3_1 control = wavetable_mask control
