-- Codes packed one after the other: bytes that are stored, and fewer than eight bits that are held. Assumes nothing.
use mathlib.Core.Path.{◌≡◌, refl, sym, ap, ◌∙◌, subst}
use mathlib.Core.List.{List}
use Prim.Native.Nat.{ℕ, suc, ◌+◌, ◌-◌, ◌*◌, ◌/◌, ◌%◌, ◌^◌, ◌<◌, ◌≤◌}
use native.Mathlib.Nat as N
use native.Mathlib.Numerals.{add-one}
use native.Mathlib.Omega.{arith}
use lib.ListN.{length, get_or, set, drop, length-set}
use lib.Seq.{sets, drop-cons}
use lib.Bits.{bit_or, or_shifted_r}
use lib.Pow.{pow-add, shr_lt, shl_exact}
use Rattle.sqv4_writer.specs.Packing.{codes_number, bytes_of}

-- a code above the bits that are held
pub above : (c h w f : ℕ) → c < 2 ^ w → h < 2 ^ f → c * 2 ^ f + h < 2 ^ (f + w)
above c h w f a b = rw (N.add_comm f w, pow-add 2 w f) (omega (arith, N.mul-le-mul_right (2 ^ f) a, N.suc-mul c (2 ^ f)))

-- as the machine has it
pub put-above : (c h w f : ℕ) → w ≤ 4 → f < 8 → c < 2 ^ w → h < 2 ^ f → bit_or h (c * 2 ^ f % 2 ^ 32) ≡ c * 2 ^ f + h
put-above c h w f n m a b = rw (shl_exact {a = c} w f 32 a (omega arith)) (or_shifted_r c f h b)

more : (j c w f h : ℕ) → (j * 2 ^ w + c) * 2 ^ f + h ≡ j * 2 ^ (f + w) + (c * 2 ^ f + h)
more j c w f h = rw (N.add-mul (j * 2 ^ w) c (2 ^ f), N.mul_assoc j (2 ^ w) (2 ^ f), sym (pow-add 2 w f), N.add_comm w f) (N.add_assoc (j * 2 ^ (f + w)) (c * 2 ^ f) h)

-- the lowest byte, and the others
low_byte : (k h : ℕ) → (k * 256 + h) % 256 ≡ h % 256
low_byte k h = omega arith

high-bytes : (k h : ℕ) → (k * 256 + h) / 256 ≡ k + h / 256
high-bytes k h = omega arith

module _ (w : ℕ) (codes : List ℕ) (at : ℕ) (out₀ : List ℕ) where
  -- what is to be packed from code i on, behind the bits that are held
  abbrev ahead : ℕ → ℕ → ℕ → ℕ
  ahead i filled held = codes_number w (drop i codes) * 2 ^ filled + held

  pub record Going (out : List ℕ) (held filled end i : ℕ) : Type 0 where
    pub within : i ≤ 64
    pub few : filled < 8
    pub kept : held < 2 ^ filled
    pub behind : at ≤ end
    pub place : 8 * (end - at) + filled ≡ i * w
    pub same : length out ≡ length out₀
    pub placed : sets out end (bytes_of (8 * w - (end - at)) (ahead i filled held)) ≡ sets out₀ at (bytes_of (8 * w) (codes_number w codes))

  pub start : Going out₀ 0 0 at 0
  start = record { within = omega arith; few = omega arith; kept = omega arith; behind = omega arith; place = omega arith; same = refl; placed = rw (none at (8 * w), all (codes_number w codes)) }
    where
      none : (a m : ℕ) → m - (a - a) ≡ m
      none a m = omega arith

      all : (n : ℕ) → n * 2 ^ 0 + 0 ≡ n
      all n = omega arith

  -- a turn
  module _ (narrow : w ≤ 4) (long : length codes ≡ 64) (small : (i : ℕ) → get_or codes i 0 < 2 ^ w) (out : List ℕ) (held filled end i : ℕ) (g : Going out held filled end i) (l : i < 64) where
    abbrev pub grown : ℕ
    grown = get_or codes i 0 * 2 ^ filled + held

    next-ahead : ahead i filled held ≡ ahead (i + 1) (filled + w) grown
    unfolding codes_number
    next-ahead = rw (add-one i, drop-cons codes i 0 (omega (arith, long))) (more (codes_number w (drop (suc i) codes)) (get_or codes i 0) w filled held)

    grown-small : grown < 2 ^ (filled + w)
    grown-small = above (get_or codes i 0) held w filled (small i) g.kept

    next_place : (i + 1) * w ≡ i * w + w
    next_place = N.add-mul i 1 w ∙ ap (λ (n : ℕ). i * w + n) (N.one-mul w)

    -- no byte is full yet
    pub wait : filled + w < 8 → Going out grown (filled + w) end (i + 1)
    wait h = record { within = omega arith; few = h; kept = grown-small; behind = g.behind; place = omega (arith, g.place, next_place); same = g.same; placed = ap (λ (n : ℕ). sets out end (bytes_of (8 * w - (end - at)) n)) (sym next-ahead) ∙ g.placed }

    -- a byte is full
    pub full : 8 ≤ filled + w → Going (set out end (grown % 256)) (grown / 256) (filled + w - 8) (end + 1) (i + 1)
    unfolding bytes_of
    full h = record {
      within = omega arith;
      few = omega (arith, g.few);
      kept = shr_lt {n = grown} (filled + w - 8) 8 (subst (λ (n : ℕ). grown < 2 ^ n) (sym eight) grown-small);
      behind = omega (arith, g.behind);
      place = omega (arith, g.place, g.behind, next_place);
      same = length-set out end (grown % 256) ∙ g.same;
      placed = stored (8 * w - (end + 1 - at)) left ∙ g.placed;
    }
      where
        eight : filled + w - 8 + 8 ≡ filled + w
        eight = omega arith

        left : 8 * w - (end - at) ≡ suc (8 * w - (end + 1 - at))
        left = omega (arith, g.place, g.behind, N.mul-le-mul_right w l, N.suc-mul i w)

        parts : ahead i filled held ≡ codes_number w (drop (i + 1) codes) * 2 ^ (filled + w - 8) * 256 + grown
        parts = next-ahead ∙ ap (λ (n : ℕ). n + grown) (ap (λ (n : ℕ). codes_number w (drop (i + 1) codes) * n) (ap (λ (n : ℕ). 2 ^ n) (sym eight) ∙ pow-add 2 (filled + w - 8) 8) ∙ sym (N.mul_assoc (codes_number w (drop (i + 1) codes)) (2 ^ (filled + w - 8)) (2 ^ 8)))

        stored : (m : ℕ) → 8 * w - (end - at) ≡ suc m → sets (set out end (grown % 256)) (end + 1) (bytes_of m (ahead (i + 1) (filled + w - 8) (grown / 256))) ≡ sets out end (bytes_of (8 * w - (end - at)) (ahead i filled held))
        stored m e =
            let k = codes_number w (drop (i + 1) codes) * 2 ^ (filled + w - 8) in
            rw (e, parts, low_byte k grown, high-bytes k grown, add-one end)

  pub done : (out : List ℕ) (held filled end i : ℕ) → Going out held filled end i → 64 ≤ i → out ≡ sets out₀ at (bytes_of (8 * w) (codes_number w codes))
  unfolding bytes_of
  done out held filled end i g l = ap (λ (m : ℕ). sets out end (bytes_of m (ahead i filled held))) (sym nothing) ∙ g.placed
    where
      last : i ≡ 64
      last = omega (arith, g.within)

      nothing : 8 * w - (end - at) ≡ 0
      nothing = omega (arith, g.place, g.few, g.behind, ap (λ (n : ℕ). n * w) last)
