-- The ranges that the types of a channel's parts give.
use Rattle.std.proofs.Common.{ℕ, zero, suc, List, [], ◌∷◌, arith}
use denote.Shadow.{shadow}
use denote.RattleType.{owns}
use mir.Val.{Val}
use denote.Array.{each}
use denote.Struct.Field.{u8-field}
use denote.Struct.Declared.{shape}
use Rattle.voice.specs.declared.Channel.{Channel}
use Rattle.voice.specs.contracts.Channel as channel
use Rattle.voices.specs.Accepted.{SizedCore}
use Rattle.voices.specs.declared.Core.{Core}
use Rattle.voices.specs.contracts.Core as core
use Rattle.frames.specs.Kept.{EachByte, FitSounding}

pub fit-channel : (c : Channel) {bs : _} → shadow (owns (shape channel.the_type).fields ((channel.the_type).to c) bs) → FitSounding c
fit-channel c g = record {
  oscillator = record { phase = g.0.1.1.0.1; lfsr = g.0.1.1.1.1.0.1; last = record { sfits = g.0.1.1.1.1.1.0.1 } };
  fifo = record { sample = record { sfits = g.1.0.1.1.1.1.0.1 }; byte = g.1.0.1.1.1.1.1.1.1.0.1 };
  volume = omega (arith, g.1.1.1.1.0.1.1.1.1.0.1);
  panpot = g.1.1.1.1.0.1.1.1.1.1.0.1;
  frequency = g.1.1.1.1.0.1.1.0.1;
}

bytes_of : (l : List ℕ) (us : List Val) → shadow (each ℕ u8-field.row.own_val l us) → EachByte l
bytes_of [] us g i = omega arith
bytes_of (x ∷ l) [] g i = absurd g
bytes_of (x ∷ l) (u ∷ us) g zero = g.0.1
bytes_of (x ∷ l) (u ∷ us) g (suc i) = bytes_of l us g.1 i

module _ (k : Core) {bs : _} (g : shadow (owns (shape core.the_type).fields ((core.the_type).to k) bs)) where
  pub sized : SizedCore k
  sized = record { channels = g.0.1.0.1; fragments = g.1.0.1.0.1; wavetables = g.1.1.0.1.0.1 }

  pub bytes : EachByte k.wavetables
  bytes = bytes_of k.wavetables _ g.1.1.0.1.1
