use mathlib.Core.Path.{◌≡◌}
use Rattle.voice.specs.Channel.{set_channel_version}
use Rattle.voice.specs.declared.Channel.{Channel}
use Rattle.voices.proofs.Parts.{changed}
use Rattle.voices.proofs.Core.set_version.Given as goal

abbrev pub invariant-loop-c : goal.invariant-loop-c
invariant-loop-c l = l.c-items ≡ changed (λ (c : Channel). set_channel_version c l.fn.version) l.c-index l.initial.c-items
