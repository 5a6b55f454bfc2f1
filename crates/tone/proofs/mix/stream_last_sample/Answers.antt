use Rattle.std.proofs.Common.{◌≡◌, ◌^◌, w16, w32, SFits}
use Rattle.num.proofs.Integers.{back}
use lib.Signed.{shr_z, mag_shr}
use native.Mathlib.Nat as N
use Rattle.tone.proofs.Streams.{last_fits}
use Rattle.tone.specs.Mix.{stream_value, stream_last_sample}
use Rattle.tone.proofs.mix.stream_last_sample.Goals as goal

value : (c : goal.After-stream_value) → c.stream_value.result ≡ stream_value c.args.q8
value c = rw (back w32 _ c.ranges.q8) at c.stream_value.ensures

ok : (c : goal.After-stream_value) → SFits w32 c.stream_value.result
ok c = record { sfits = c.stream_value.type_inv }

shifted : (c : goal.After-stream_value) → SFits w32 (shr_z c.stream_value.result (2 ^ 8))
shifted c = record { sfits = N.lt_of_le_of_lt (mag_shr c.stream_value.result (2 ^ 8)) c.stream_value.type_inv }

whole : (c : goal.After-stream_value) → SFits w16 (shr_z c.stream_value.result (2 ^ 8))
whole c = rw (value c) (last_fits c.args.q8)

pub returns : goal.returns
unfolding stream_last_sample
returns c = rw (back w32 _ (ok c), back w32 _ (shifted c), back w16 _ (whole c), value c)
