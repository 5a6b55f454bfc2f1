-- The theorems in the words of `write_stream`'s contract: of a buffer in which it wrote a file of m bytes. Assumes nothing.
use Rattle.std.specs.Prelude.{Ok}
use mathlib.Core.Path.{◌≡◌, ap, ◌∙◌}
use mathlib.Core.List.{List}
use Prim.Native.Nat.{ℕ, ◌<◌, ◌^◌}
use lib.IntN.{ℤ}
use lib.ListN.{length, take, drop}
use lib.Seq.{sets}
use Rattle.adpcm.specs.declared.Variant.{Variant}
use Rattle.sqv4.specs.Files.{inspected}
use Rattle.sqv4.specs.Whole.{decoded_into}
use Rattle.sqv4_writer.specs.Streams.{answer_for, written_into, file_of, header_for, chosen_for}
use Rattle.sqv4_writer.proofs.Limits.{Wrote, wrote}
use Rattle.sqv4_writer.proofs.Written.{file-there, rest-there}
use Rattle.sqv4_writer.proofs.Passes.{passes}
use Rattle.sqv4_writer.proofs.Decodes.{decoded}

module _ (xs : List ℤ) (k : Variant) (rate volume index : ℕ) (out : List ℕ) (m : ℕ) (e : answer_for (length xs) k rate volume index (length out) ≡ Ok m) where
  -- the buffer afterwards
  abbrev after : List ℕ
  after = written_into out (file_of xs k rate volume index) (Ok m)

  w : Wrote (length xs) k rate volume index (length out) m
  w = wrote (length xs) k rate volume index (length out) m e

  -- its first m bytes are the file, and the others are as they were
  pub there : take m after ≡ file_of xs k rate volume index
  there = ap (λ (n : ℕ). take n after) w.long ∙ file-there xs k rate volume index out w.room_for

  pub past : drop m after ≡ drop m out
  past = rw w.long (rest-there xs k rate volume index out w.room_for)

  -- `inspect` accepts them, with exactly this header
  pub accepted : rate < 2 ^ 32 → inspected (take m after) ≡ Ok (header_for k rate (length xs))
  accepted wide = ap inspected there ∙ passes xs k rate volume index w.terms wide

  -- and `decode` gives exactly the values chosen
  pub decoded-there : rate < 2 ^ 32 → (samples : List ℤ) → decoded_into samples (take m after) (inspected (take m after)) ≡ sets samples 0 (chosen_for xs k volume index)
  decoded-there wide samples = ap (λ (d : List ℕ). decoded_into samples d (inspected d)) there ∙ decoded xs k rate volume index w.terms wide samples
