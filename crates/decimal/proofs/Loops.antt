-- What loops that take a list's elements in turn, or frames of 16 of them, have taken and what is left. Assumes nothing.
use mathlib.Core.Path.{◌≡◌, sym, ap, ◌∙◌}
use mathlib.Core.List.{List, ◌∷◌, ◌++◌}
use Prim.Native.Nat.{ℕ, suc, ◌+◌, ◌*◌, ◌<◌}
use native.Mathlib.Numerals.{add-one}
use native.Mathlib.Omega.{arith}
use lib.IntN.{ℤ, pos}
use lib.ListN.{length, get_or, drop, length-drop, get_or-append}
use lib.Seq.{drop-cons, drop-drop, get_or-drop, drop_at}

-- an element, and what is left behind it
pub element : (l rest after : List ℤ) (x : ℤ) (i : ℕ) → rest ≡ drop i l → rest ≡ x ∷ after → (i < length l) × (x ≡ get_or l i (pos 0)) × (after ≡ drop (i + 1) l)
element l rest after x i e f =
    let h : i < length l = omega (arith, ap length e, ap length f, length-drop i l) in
    let g : x ∷ after ≡ get_or l i (pos 0) ∷ drop (suc i) l = sym f ∙ e ∙ drop-cons l i (pos 0) h in
    (h, cc, rw (add-one i) cc)

-- an element of a frame, and what is left behind the frame
pub frame-at : (l rest frame after : List ℤ) (i j k : ℕ) → rest ≡ drop (16 * i) l → rest ≡ frame ++ after → length frame ≡ 16 → j < 16 → 16 * i + j ≡ k → get_or frame j (pos 0) ≡ get_or l k (pos 0)
frame-at l rest frame after i j k e f h b p = sym (get_or-append frame after (pos 0) j (omega arith)) ∙ ap (λ (m : List ℤ). get_or m j (pos 0)) (sym f ∙ e) ∙ get_or-drop (16 * i) l j (pos 0) ∙ ap (λ (m : ℕ). get_or l m (pos 0)) p

pub frames-left : (l rest frame after : List ℤ) (i : ℕ) → rest ≡ drop (16 * i) l → rest ≡ frame ++ after → length frame ≡ 16 → after ≡ drop (16 * (i + 1)) l
frames-left l rest frame after i e f h =
    sym (drop_at frame after 16 h) ∙ ap (drop 16) (sym f ∙ e) ∙ drop-drop 16 (16 * i) l ∙ ap (λ (k : ℕ). drop k l) (omega arith)
