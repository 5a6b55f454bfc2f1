-- Steps along a text: a table searched, two texts compared, letters and white space passed. Assumes nothing.
use mathlib.Core.Path.{◌≡◌, refl, sym, ap, ap₂, ◌∙◌}
use mathlib.Core.Bool.{Bool, true, false, cond, ◌||◌, ◌&&◌}
use mathlib.Core.List.{List, [], ◌∷◌}
use Prim.Native.Nat.{ℕ, zero, suc, ◌+◌, ◌-◌, ◌≤◌, ◌<◌}
use native.Mathlib.Numerals.{add-one}
use native.Mathlib.Omega.{arith}
use native.Mathlib.Decide.{dec_le}
use lib.Dec.{eqb}
use Rattle.std.specs.List.{list_any}
use Rattle.std.specs.Cmp.Lexicographic.{pointwise}
use lib.ListN.{length, take, drop, get_or, drop_of_length-le}
use lib.Seq.{drop-cons, drop-drop, take-take, length-take-le}
use borrow.Author.Tests.{eq-eqb, ne_eqb}
use Rattle.version.specs.Spaces.{among, one_byte, two_bytes, three_bytes, space_width, one_byte_at, two_bytes_at, three_bytes_at, leading, trailing, trim_start_in, trim_end_in, trim_start, trim_end}
use Rattle.std.specs.Prelude.{Some, None}
use Rattle.version.specs.declared.SguVersion.TheVariants.{V1, V2, V2_1, V3, V3_1}
use Rattle.version.specs.Names.{is_v, drop_v, same_text, either_text, digit_name, point, named_version, parse_version}

-- ---- a table

pub among-any : (n : ℕ) (xs : List ℕ) → list_any (λ y. eqb y n) xs ≡ among n xs
unfolding among
among-any n [] = refl
among-any n (x ∷ xs) = by-first (eqb x n) (among-any n xs)
  where
    by-first : (e : Bool) → list_any (λ y. eqb y n) xs ≡ among n xs → (e || list_any (λ y. eqb y n) xs) ≡ cond e true (among n xs)
    by-first true f = refl
    by-first false f = f

-- ---- white space by its numbers

module _ (one two three : ℕ) where
  pub width_one : among one one_byte ≡ true → 1 ≡ space_width one two three
  unfolding space_width
  width_one e = rw e

  pub width_two : among one one_byte ≡ false → among two two_bytes ≡ true → 2 ≡ space_width one two three
  unfolding space_width
  width_two d e = rw (d, e)

  pub width_three : among one one_byte ≡ false → among two two_bytes ≡ false → among three three_bytes ≡ true → 3 ≡ space_width one two three
  unfolding space_width
  width_three d e f = rw (d, e, f)

  pub width-none : among one one_byte ≡ false → among two two_bytes ≡ false → among three three_bytes ≡ false → 0 ≡ space_width one two three
  unfolding space_width
  width-none d e f = rw (d, e, f)

  pub leading-is : (s : List ℕ) → one ≡ one_byte_at s 0 → two ≡ two_bytes_at s 0 → three ≡ three_bytes_at s 0 → space_width one two three ≡ leading s
  unfolding leading
  leading-is s d e f = rw (d, e, f)

  pub trailing-is : (s : List ℕ) (i j k : ℕ) → i ≡ length s - 1 → j ≡ length s - 2 → k ≡ length s - 3 → one ≡ one_byte_at s i → two ≡ two_bytes_at s j → three ≡ three_bytes_at s k → space_width one two three ≡ trailing s
  unfolding trailing
  trailing-is s i j k a b c d e f = rw (d, e, f, a, b, c)

-- ---- two texts

pub either_first : (a b : Bool) → a ≡ true → true ≡ (a || b)
either_first a b e = rw e

pub either_second : (a b : Bool) → a ≡ false → b ≡ (a || b)
either_second a b e = rw e

pub same-by_element : (s t : List ℕ) → pointwise eqb s t ≡ same_text s t
unfolding same_text
same-by_element [] [] = refl
same-by_element [] (b ∷ t) = refl
same-by_element (a ∷ s) [] = refl
same-by_element (a ∷ s) (b ∷ t) = by-first (eqb a b) (same-by_element s t)
  where
    by-first : (e : Bool) → pointwise eqb s t ≡ same_text s t → (e && pointwise eqb s t) ≡ cond e (same_text s t) false
    by-first true f = f
    by-first false f = refl

-- ---- letters v

module _ (s : List ℕ) (i : ℕ) where
  pub v_next : i < length s → is_v (get_or s i 0) ≡ true → drop_v (drop i s) ≡ drop_v (drop (i + 1) s)
  unfolding drop_v
  v_next h e = rw (add-one i, drop-cons s i 0 h, e)

  pub v-stop : i < length s → is_v (get_or s i 0) ≡ false → drop_v (drop i s) ≡ drop i s
  unfolding drop_v
  v-stop h e = rw (drop-cons s i 0 h, e)

  pub v-end : length s ≤ i → drop_v (drop i s) ≡ drop i s
  unfolding drop_v
  v-end h = rw (drop_of_length-le s h)

-- ---- white space

pub start-done : (n : ℕ) (t : List ℕ) → leading t ≡ 0 → trim_start_in n t ≡ t
unfolding trim_start_in
start-done zero t e = refl
start-done (suc n) t e = rw (eq-eqb (leading t) 0 e)

pub end-done : (n : ℕ) (t : List ℕ) → trailing t ≡ 0 → trim_end_in n t ≡ t
unfolding trim_end_in
end-done zero t e = refl
end-done (suc n) t e = rw (eq-eqb (trailing t) 0 e)

pub start-out : (t : List ℕ) → trim_start_in 0 t ≡ t
unfolding trim_start_in
start-out t = refl

pub end-out : (t : List ℕ) → trim_end_in 0 t ≡ t
unfolding trim_end_in
end-out t = refl

start-step : (n : ℕ) (t : List ℕ) → 0 < n → (leading t ≡ 0 → ⊥) → trim_start_in n t ≡ trim_start_in (n - 1) (drop (leading t) t)
unfolding trim_start_in
start-step zero t h e = absurd (omega arith)
start-step (suc n) t h e = rw (ne_eqb (leading t) 0 e) (ap (λ (k : ℕ). trim_start_in k (drop (leading t) t)) (less n))
  where
    less : (n : ℕ) → n ≡ suc n - 1
    less n = omega arith

end_step : (n : ℕ) (t : List ℕ) → 0 < n → (trailing t ≡ 0 → ⊥) → trim_end_in n t ≡ trim_end_in (n - 1) (take (length t - trailing t) t)
unfolding trim_end_in
end_step zero t h e = absurd (omega arith)
end_step (suc n) t h e = rw (ne_eqb (trailing t) 0 e) (ap (λ (k : ℕ). trim_end_in k (take (length t - trailing t) t)) (less n))
  where
    less : (n : ℕ) → n ≡ suc n - 1
    less n = omega arith

module _ (s : List ℕ) (rest : ℕ) (h : rest ≤ length s) where
  -- w bytes more are passed
  passed : (w : ℕ) → drop w (drop (length s - rest) s) ≡ drop (length s - (rest - w)) s
  passed w =
      drop-drop w (length s - rest) s
      ∙ elim (dec_le w rest) [
        | yes l ↦ ap (λ (k : ℕ). drop k s) (exact l)
        | no l ↦ drop_of_length-le s (far l) ∙ sym (drop_of_length-le s (all l))
      ]
    where
      exact : w ≤ rest → (length s - rest) + w ≡ length s - (rest - w)
      exact l = omega arith

      far : (w ≤ rest → ⊥) → length s ≤ (length s - rest) + w
      far l = omega arith

      all : (w ≤ rest → ⊥) → length s ≤ length s - (rest - w)
      all l = omega arith

  pub start-turn : (left w : ℕ) → 0 < left → w ≡ leading (drop (length s - rest) s) → (w ≡ 0 → ⊥)
      → trim_start_in left (drop (length s - rest) s) ≡ trim_start_in (left - 1) (drop (length s - (rest - w)) s)
  start-turn left w l e n =
      start-step left (drop (length s - rest) s) l (λ z. n (e ∙ z))
      ∙ ap (trim_start_in (left - 1)) (ap (λ (k : ℕ). drop k (drop (length s - rest) s)) (sym e) ∙ passed w)

  pub end-turn : (left w : ℕ) → 0 < left → w ≡ trailing (take rest s) → (w ≡ 0 → ⊥) → trim_end_in left (take rest s) ≡ trim_end_in (left - 1) (take (rest - w) s)
  end-turn left w l e n =
      end_step left (take rest s) l (λ z. n (e ∙ z))
      ∙ ap (trim_end_in (left - 1)) (ap₂ (λ (k j : ℕ). take (k - j) (take rest s)) (length-take-le rest s h) (sym e) ∙ take-take (rest - w) rest s (omega arith))

-- ---- names

module _ (s : List ℕ) where
  pub named-1 : either_text s (digit_name 1) (point 1 0) ≡ true → Some V1 ≡ named_version s
  unfolding named_version
  named-1 a = rw a

  module _ (a : either_text s (digit_name 1) (point 1 0) ≡ false) where
    pub named-2 : either_text s (digit_name 2) (point 2 0) ≡ true → Some V2 ≡ named_version s
    unfolding named_version
    named-2 b = rw (a, b)

    module _ (b : either_text s (digit_name 2) (point 2 0) ≡ false) where
      pub named-2-1 : same_text s (point 2 1) ≡ true → Some V2_1 ≡ named_version s
      unfolding named_version
      named-2-1 d = rw (a, b, d)

      module _ (d : same_text s (point 2 1) ≡ false) where
        pub named-3 : either_text s (digit_name 3) (point 3 0) ≡ true → Some V3 ≡ named_version s
        unfolding named_version
        named-3 e = rw (a, b, d, e)

        module _ (e : either_text s (digit_name 3) (point 3 0) ≡ false) where
          pub named-3-1 : same_text s (point 3 1) ≡ true → Some V3_1 ≡ named_version s
          unfolding named_version
          named-3-1 f = rw (a, b, d, e, f)

          pub named_none : same_text s (point 3 1) ≡ false → None ≡ named_version s
          unfolding named_version
          named_none f = rw (a, b, d, e, f)

-- ---- the whole

pub parse-is : (text t u w : List ℕ) (start end v : ℕ) → t ≡ drop start text → drop start text ≡ trim_start text → u ≡ take (end - 0) t → take end t ≡ trim_end t → w ≡ drop v u → drop v u ≡ drop_v u → named_version w ≡ parse_version text
unfolding parse_version
parse-is text t u w start end v a b d e f g = ap named_version (f ∙ g ∙ ap drop_v (d ∙ ap (λ (k : ℕ). take k t) (whole end) ∙ e ∙ ap trim_end (a ∙ b)))
  where
    whole : (n : ℕ) → n - 0 ≡ n
    whole n = omega arith
