-- The numbers of a line's answers are those of what was read or written. Assumes nothing.
use mathlib.Core.Path.{◌≡◌, refl, ap, ◌∙◌}
use mathlib.Core.Bool.{Bool, true, false, cond}
use mathlib.Core.List.{List, [], ◌∷◌}
use Prim.Native.Nat.{ℕ}
use lib.Dec.{leb}
use lib.ListN.{length}
use Rattle.line_fields.specs.Reading.{PartsTaken, got, wrong, ReadLine, line, malformed, parts_of, fields_of, fields_number, taken_refusal, line_refusal, Fields}
use Rattle.line_fields.specs.Text.{written_of, written_number, room_refusal, Written}
use Rattle.std.specs.Prelude.{Ok, Err}
use Rattle.line_fields.specs.declared.RoomError.TheVariants.{TextBuffer}

taken-number : (t : PartsTaken) → fields_number (parts_of t) ≡ taken_refusal t
unfolding taken_refusal
taken-number (got ns next) = refl
taken-number (wrong ns field) = refl

line-number : (l : ReadLine) → fields_number (fields_of l) ≡ line_refusal l
unfolding line_refusal
line-number (line ns) = refl
line-number (malformed ns field) = refl

room-number : (b : Bool) (n : ℕ) → written_number (cond b (Ok n) (Err TextBuffer)) ≡ cond b [] (15 ∷ [])
room-number true n = refl
room-number false n = refl

module _ {A : Type 0} {left now : A} where
  pub told-parts : (r : Fields) (t : PartsTaken) → (r ≡ parts_of t) × (left ≡ now) → (r ≡ parts_of t) × ((left ≡ now) × (fields_number r ≡ taken_refusal t))
  told-parts r t p = (p.0, (p.1, ap fields_number p.0 ∙ taken-number t))

  pub told_line : (r : Fields) (l : ReadLine) → (r ≡ fields_of l) × (left ≡ now) → (r ≡ fields_of l) × ((left ≡ now) × (fields_number r ≡ line_refusal l))
  told_line r l p = (p.0, (p.1, ap fields_number p.0 ∙ line-number l))

  pub told-room : (r : Written) (out text : List ℕ) → (r ≡ written_of out text) × (left ≡ now)
      → (r ≡ written_of out text) × ((left ≡ now) × (written_number r ≡ room_refusal out text))
  unfolding room_refusal
  told-room r out text p = (p.0, (p.1, ap written_number p.0 ∙ room-number (leb (length text) (length out)) (length text)))
