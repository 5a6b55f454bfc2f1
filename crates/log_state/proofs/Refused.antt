-- The lines that tell why a state is not read. Assumes nothing.
use Rattle.std.specs.Prelude.{Some, None, Ok, slice_get}
use mathlib.Core.Path.{◌≡◌, refl, sym, ap, ◌∙◌}
use mathlib.Core.List.{List, [], ◌∷◌, ◌++◌, append-nil}
use Prim.Native.Nat.{ℕ}
use native.Mathlib.Omega.{arith}
use lib.ListN.{get_or}
use Rattle.output.specs.declared.Output.{Output}
use Rattle.output.specs.Output.{Puts}
use Rattle.decimal.specs.Written.{digits_in, decimal}
use Rattle.s3w2.specs.Answers.{refusal_number}
use Rattle.session.specs.declared.LineRefusal.{LineRefusal}
use Rattle.session.specs.declared.LineRefusal.TheVariants.{OfChip, TextBuffer, Malformed, OtherLength, Queued}
use Rattle.session.specs.Answers.{LineAnswer, refusal_numbers, numbers_of}
use Rattle.log_state.specs.Refusals.{refusal_line}

-- an answer that is no refusal
pub fine-put : {A : Type 0} (s t : Output) (a : LineAnswer A) (x : A) → a ≡ Ok x → Puts s t [] → Puts s t (refusal_line (numbers_of a))
unfolding refusal_line
fine-put s t a x e p = rw e p

one-is : (number : ℕ) → refusal_line (number ∷ []) ≡ (98 ∷ 97 ∷ 100 ∷ 44 ∷ []) ++ (decimal number ++ (10 ∷ []))
unfolding refusal_line
one-is number = ap (λ (t : List ℕ). 98 ∷ 97 ∷ 100 ∷ 44 ∷ (t ++ (10 ∷ []))) (append-nil (decimal number))

sixteen : decimal 16 ≡ 49 ∷ 54 ∷ []
unfolding decimal digits_in
sixteen = refl

malformed-is : (field : ℕ) → refusal_line (16 ∷ field ∷ []) ≡ (98 ∷ 97 ∷ 100 ∷ 44 ∷ 49 ∷ 54 ∷ 44 ∷ []) ++ (decimal field ++ (10 ∷ []))
unfolding refusal_line
malformed-is field =
    ap (λ (t : List ℕ). (98 ∷ 97 ∷ 100 ∷ []) ++ (((44 ∷ t) ++ ((44 ∷ decimal field) ++ [])) ++ (10 ∷ []))) sixteen
    ∙ ap (λ (t : List ℕ). 98 ∷ 97 ∷ 100 ∷ 44 ∷ 49 ∷ 54 ∷ 44 ∷ (t ++ (10 ∷ []))) (append-nil (decimal field))

-- a refusal of one number, or a malformed line
pub field-line : (why : LineRefusal) (field : ℕ) → slice_get (refusal_numbers why) 1 ≡ Some field → (98 ∷ 97 ∷ 100 ∷ 44 ∷ 49 ∷ 54 ∷ 44 ∷ []) ++ (decimal field ++ (10 ∷ [])) ≡ refusal_line (refusal_numbers why)
field-line (OfChip of_chip) field e = absurd (let z : None ≡ Some field = e in let y : ◌≡◌ {A = ℕ} 0 1 = cc in omega arith)
field-line TextBuffer field e = absurd (let z : None ≡ Some field = e in let y : ◌≡◌ {A = ℕ} 0 1 = cc in omega arith)
field-line (Malformed f) field e = let z : Some f ≡ Some field = e in let y : f ≡ field = cc in sym (ap (λ (k : ℕ). refusal_line (16 ∷ k ∷ [])) y ∙ malformed-is field)
field-line OtherLength field e = absurd (let z : None ≡ Some field = e in let y : ◌≡◌ {A = ℕ} 0 1 = cc in omega arith)
field-line Queued field e = absurd (let z : None ≡ Some field = e in let y : ◌≡◌ {A = ℕ} 0 1 = cc in omega arith)

pub number-line : (why : LineRefusal) → slice_get (refusal_numbers why) 1 ≡ None → (98 ∷ 97 ∷ 100 ∷ 44 ∷ []) ++ (decimal (get_or (refusal_numbers why) 0 0) ++ (10 ∷ [])) ≡ refusal_line (refusal_numbers why)
number-line (OfChip of_chip) e = sym (one-is (refusal_number of_chip))
number-line TextBuffer e = sym (one-is 15)
number-line (Malformed f) e = absurd (let z : Some f ≡ None = e in let y : ◌≡◌ {A = ℕ} 0 1 = cc in omega arith)
number-line OtherLength e = sym (one-is 22)
number-line Queued e = sym (one-is 23)

pub short-line : 98 ∷ 97 ∷ 100 ∷ 44 ∷ 49 ∷ 10 ∷ [] ≡ refusal_line (1 ∷ [])
unfolding refusal_line decimal digits_in
short-line = refl
