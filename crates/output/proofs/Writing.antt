-- Bytes put one behind the other. Assumes nothing.
use mathlib.Core.Path.{◌≡◌, refl, sym, ap, ◌∙◌}
use mathlib.Core.List.{List, [], ◌∷◌, ◌++◌, append_assoc}
use Prim.Native.Nat.{ℕ, suc, ◌+◌, ◌-◌, ◌≤◌, min}
use native.Mathlib.Nat.{add-zero}
use native.Mathlib.Omega.{arith}
use native.Mathlib.Decide.{dec_le}
use lib.ListN.{length, take, drop, length-append, take-append-drop, drop_of_length-le}
use lib.Seq.{sets, sets-eq, set_out, length-sets, length-take-le, drop-drop}
use borrow.Rule.Slice.PartMut.{put_mid, post_of}
use Rattle.num.proofs.Lists.{sets-append}
use Rattle.output.specs.declared.Output.{Output}
use Rattle.output.specs.Output.{Put, Puts}

sets-out : (xs l : List ℕ) (i : ℕ) → length l ≤ i → sets l i xs ≡ l
sets-out [] l i h = refl
sets-out (x ∷ xs) l i h = rw (set_out l i x h) (sets-out xs l (suc i) (omega arith))

sets-clipped : (xs l : List ℕ) (i : ℕ) → sets l (min i (length l)) xs ≡ sets l i xs
sets-clipped xs l i = elim (dec_le (length l) i) [ yes h ↦ sets-out xs l (min i (length l)) (omega arith) ∙ sym (sets-out xs l i h) | no h ↦ ap (λ (k : ℕ). sets l k xs) (low i (length l) h) ]
  where
    low : (i n : ℕ) → (n ≤ i → ⊥) → min i n ≡ i
    low i n h = omega arith

-- one text behind another
pub put-append : (l m n : List ℕ) (at e r : ℕ) (xs ys : List ℕ) → Put l m at xs e → Put m n e ys r → Put l n at (xs ++ ys) r
put-append l m n at e r xs ys p q = (
  rw (length-append xs ys) (omega (arith, p.0, q.0, long)),
  q.1 ∙ ap (λ (k : List ℕ). sets k e ys) p.1 ∙ ap (λ (k : ℕ). sets (sets l at xs) k ys) (p.0 ∙ ap (min (at + length xs)) (sym (length-sets l at xs))) ∙ sets-clipped ys (sets l at xs) (at + length xs) ∙ sym (sets-append xs ys l at),
)
  where
    long : length m ≡ length l
    long = ap length p.1 ∙ length-sets l at xs

pub put-long : (l m : List ℕ) (at e : ℕ) (text : List ℕ) → Put l m at text e → length m ≡ length l
put-long l m at e text p = ap length p.1 ∙ length-sets l at text

-- no text, at a place that is at most the buffer's end
pub put-none : (l : List ℕ) (at e : ℕ) → e ≡ min at (length l) → Put l l at [] e
put-none l at e h = (h ∙ ap (λ (k : ℕ). min k (length l)) (sym (add-zero at)), refl)

-- a text copied as far as there is room
sets-cut : (text l : List ℕ) (start count : ℕ) → count ≡ min (length text) (length l - start) → sets l start text ≡ sets l start (take count text)
sets-cut text l start count h =
    ap (sets l start) (sym (take-append-drop count text)) ∙ sets-append (take count text) (drop count text) l start
    ∙ elim (dec_le (length text) count) [ yes e ↦ rw (drop_of_length-le text e) refl | no e ↦ sets-out (drop count text) (sets l start (take count text)) _ (omega (arith, length-sets l start (take count text), length-take-le count text (omega arith))) ]

pub put-copied : (l m text part : List ℕ) (at start count k : ℕ) → start ≡ min at (length l) → count ≡ min (length text) (length l - start) → k ≡ count → part ≡ take count text → m ≡ put_mid start k l part → Put l m at text (start + count)
put-copied l m text part at start count k s h ke pe e = (
  omega arith,
  e ∙ sym (
      sym (sets-clipped text l at) ∙ ap (λ (i : ℕ). sets l i text) (sym s) ∙ sets-cut text l start count h ∙ ap (sets l start) (sym pe)
      ∙ sets-eq part l start (omega (arith, long)) ∙ append_assoc (take start l) part (drop (start + length part) l)
      ∙ ap (λ (r : List ℕ). take start l ++ (part ++ r)) behind),
)
  where
    long : length part ≡ count
    long = ap length pe ∙ length-take-le count text (omega arith)

    behind : drop (start + length part) l ≡ post_of start k l
    behind = sym (drop-drop k start l ∙ ap (λ (i : ℕ). drop i l) (omega (arith, long)))

pub puts-append : (s t u : Output) (xs ys : List ℕ) → Puts s t xs → Puts t u ys → Puts s u (xs ++ ys)
puts-append s t u xs ys p q = record { same = q.same ∙ p.same; put = put-append _ _ _ _ _ _ xs ys p.put q.put }

-- no text, at a place within the buffer
pub puts-none : (s : Output) → s.at ≤ length s.buffer.now → Puts s s []
puts-none s h = record { same = refl; put = put-none _ _ _ (omega arith) }

-- the place behind a text is in the buffer
pub puts-within : (s t : Output) (xs : List ℕ) → Puts s t xs → t.at ≤ length t.buffer.now
puts-within s t xs p = omega (arith, p.put.0, put-long _ _ _ _ xs p.put)
