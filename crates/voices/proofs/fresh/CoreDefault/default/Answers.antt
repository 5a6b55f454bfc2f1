use mathlib.Core.Path.{ap}
use lib.ListN.{replicate}
use lib.IntN.{pos}
use Rattle.sizes.specs.Sizes.{num_channels, wavetables_size}
use Rattle.voice.specs.declared.Channel.{Channel}
use Rattle.voices.specs.declared.Core.{Core}
use Rattle.voices.proofs.fresh.CoreDefault.default.Goals as goal

pub returns : goal.returns
returns c = ap {B = Core} (λ (x : Channel). record { channels = replicate num_channels x; fragments = replicate 1024 (pos 0); wavetables = replicate wavetables_size 128 }) c.default-c.ensures
