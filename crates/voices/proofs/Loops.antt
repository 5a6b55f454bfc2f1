-- One turn more of a loop over the eight voices. Assumes nothing.
use mathlib.Core.Path.{◌≡◌, refl, sym, ap, ◌∙◌}
use mathlib.Core.Bool.{Bool, true, false}
use mathlib.Core.List.{List}
use Prim.Native.Nat.{ℕ, zero, suc, ◌+◌, ◌<◌}
use native.Mathlib.Numerals.{add-one}
use native.Mathlib.Omega.{arith}
use native.Mathlib.Decide.{dec_lt}
use lib.ListN.{get_or}
use Rattle.num.proofs.Choice.{both, together, never}
use Rattle.version.specs.declared.SguVersion.{SguVersion}
use Rattle.stream.specs.Cache.{emptied}
use Rattle.voice.specs.Channel.{set_stream}
use Rattle.voice.specs.Reads.{streams_from}
use Rattle.voice.specs.Accepted.{accepts_channel}
use Rattle.voice.specs.declared.Channel.{Channel}
use Rattle.voice.proofs.Tests.{first-arm, second-arm}
use Rattle.voices.specs.Core.{no_channel, channel_at, stored_channel}
use Rattle.voices.specs.Writes.{after_ram_write_at, after_ram_write_to}
use Rattle.voices.specs.Accepted.{accepts_first}
use Rattle.voices.specs.declared.Core.{Core}

-- ---- a byte of the RAM
module _ (address : ℕ) where
  pub ram-emptied : (r x : Core) (n : ℕ) (c : Channel) → streams_from (channel_at r n) address ≡ true → c ≡ set_stream (channel_at r n) emptied → x ≡ stored_channel r n c true → x ≡ after_ram_write_at address r n
  unfolding after_ram_write_at
  ram-emptied r x n c t e h = h ∙ ap (λ (y : Channel). stored_channel r n y true) e ∙ first-arm (streams_from (channel_at r n) address) (stored_channel r n (set_stream (channel_at r n) emptied) true) r t

  pub ram-kept : (r x : Core) (n : ℕ) → streams_from (channel_at r n) address ≡ false → x ≡ r → x ≡ after_ram_write_at address r n
  unfolding after_ram_write_at
  ram-kept r x n t e = e ∙ second-arm (streams_from (channel_at r n) address) (stored_channel r n (set_stream (channel_at r n) emptied) true) r t

  pub ram-more : (k r x : Core) (n : ℕ) → r ≡ after_ram_write_to n k address → x ≡ after_ram_write_at address r n → x ≡ after_ram_write_to (n + 1) k address
  unfolding after_ram_write_to
  ram-more k r x n e h = h ∙ ap (λ (y : Core). after_ram_write_at address y n) e ∙ ap (λ (m : ℕ). after_ram_write_to m k address) (sym (add-one n))

-- ---- accepted channels
module _ (l : List Channel) (version : SguVersion) (ram : ℕ) where
  pub first_more : (n : ℕ) → accepts_first n l version ram ≡ true → accepts_channel (get_or l n no_channel) version ram ≡ true → accepts_first (n + 1) l version ram ≡ true
  unfolding accepts_first
  first_more n e h = ap (λ (m : ℕ). accepts_first m l version ram) (add-one n) ∙ together (accepts_first n l version ram) (accepts_channel (get_or l n no_channel) version ram) e h

  pub first-each : (n j : ℕ) → accepts_first n l version ram ≡ true → j < n → accepts_channel (get_or l j no_channel) version ram ≡ true
  unfolding accepts_first
  first-each zero j e h = absurd (omega arith)
  first-each (suc n) j e h =
      let b = both (accepts_first n l version ram) (accepts_channel (get_or l n no_channel) version ram) e in
      elim (dec_lt j n) [
        | yes y ↦ first-each n j b.0 y
        | no y ↦ ap (λ (m : ℕ). accepts_channel (get_or l m no_channel) version ram) (last n j h y) ∙ b.1
      ]
    where
      last : (n j : ℕ) → j < suc n → (j < n → ⊥) → j ≡ n
      last n j h l = omega arith

  pub first-fails : (n j : ℕ) → accepts_channel (get_or l j no_channel) version ram ≡ false → j < n → false ≡ accepts_first n l version ram
  first-fails n j e h = at (accepts_first n l version ram) refl
    where
      at : (t : Bool) → accepts_first n l version ram ≡ t → false ≡ accepts_first n l version ram
      at true f = never (sym (first-each n j f h) ∙ e)
      at false f = sym f
