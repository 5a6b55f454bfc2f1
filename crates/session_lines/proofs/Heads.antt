-- The head: what is written and read, one law for each way that the code goes. Assumes nothing.
use mathlib.Core.Path.{◌≡◌, refl, sym, ap, ap₂, ◌∙◌}
use mathlib.Core.Bool.{Bool, true, false, cond}
use Rattle.std.specs.Prelude.{◌&&◌}
use lib.Pointwise.{pointwise}
use mathlib.Core.List.{List, [], ◌∷◌, ◌++◌}
use Prim.Native.Nat.{ℕ, zero, suc, ◌+◌, ◌*◌, ◌≤◌, ◌<◌, max}
use native.Mathlib.Nat.{add-zero}
use native.Mathlib.Omega.{arith}
use lib.Dec.{eqb}
use lib.ListN.{length, take, drop, get_or, length-append}
use lib.Seq.{drop_at, drop-drop, get_or-drop}
use borrow.Author.Tests.{eqb-true, eqb-false, eq-eqb, ne_eqb, le-leb, lt-leb}
use Rattle.num.proofs.Choice.{never}
use Rattle.decimal.specs.Written.{decimal}
use Rattle.decimal.specs.Read.{natural_at}
use Rattle.output.specs.declared.Output.{Output}
use Rattle.output.specs.Output.{Put, Puts}
use Rattle.output.proofs.Writing.{puts-append}
use Rattle.decimal.proofs.RoundTrip.{natural-back}
use Rattle.line_fields.specs.Reading.{ends_at, closed_at}
use Rattle.line_fields.specs.Text.{written_of, put_of}
use Rattle.tone.specs.Pcm.{power_from, is_ram_length}
use Rattle.version.specs.Versions.{version_number, version_of}
use Rattle.version.specs.declared.SguVersion.{SguVersion}
use Rattle.version.specs.declared.SguVersion.TheVariants.{V1, V2, V2_1, V3, V3_1}
use Rattle.session_lines.specs.Head.{HeadLine, head_text, has_magic, sized_head, behind_version, head_of, read_head}
use Rattle.std.specs.Prelude.{Some, Ok, Err}
use Rattle.session_lines.specs.declared.SessionHead.TheVariants.{Version, Sized}
use Rattle.line_fields.specs.declared.FieldError.TheVariants.{Malformed}
use Rattle.line_fields.specs.declared.RoomError.TheVariants.{TextBuffer}

-- ---- the name
flip : (a b : ℕ) → eqb a b ≡ eqb b a
flip a b = go (eqb a b) refl
  where
    go : (e : Bool) → eqb a b ≡ e → eqb a b ≡ eqb b a
    go true e = e ∙ sym (eq-eqb b a (sym (eqb-true a b e)))
    go false e = e ∙ sym (ne_eqb b a (λ q. eqb-false a b e (sym q)))

and-true : (b : Bool) → (b && true) ≡ b
and-true true = refl
and-true false = refl

pub named-is : (t : List ℕ) → pointwise eqb (83 ∷ 51 ∷ 87 ∷ 50 ∷ []) (take 4 t) ≡ has_magic t
unfolding has_magic
named-is [] = refl
named-is (a ∷ []) = rw (flip 83 a) refl
named-is (a ∷ b ∷ []) = rw (flip 83 a, flip 51 b) refl
named-is (a ∷ b ∷ c ∷ []) = rw (flip 83 a, flip 51 b, flip 87 c) refl
named-is (a ∷ b ∷ c ∷ d ∷ t) = rw (flip 83 a, flip 51 b, flip 87 c, flip 50 d, and-true (eqb d 50)) refl

-- ---- the head
pub not_named : (t : List ℕ) → has_magic t ≡ false → read_head t ≡ Err (Malformed 1)
unfolding read_head
not_named t e = rw e

pub name-only : (t : List ℕ) → has_magic t ≡ true → (get_or t 4 0 ≡ 44 → ⊥) → ends_at t 4 ≡ true → read_head t ≡ Err (Malformed 2)
unfolding read_head
name-only t e a f = rw (e, ne_eqb (get_or t 4 0) 44 a, f)

pub name-longer : (t : List ℕ) → has_magic t ≡ true → (get_or t 4 0 ≡ 44 → ⊥) → ends_at t 4 ≡ false → read_head t ≡ Err (Malformed 1)
unfolding read_head
name-longer t e a f = rw (e, ne_eqb (get_or t 4 0) 44 a, f)

pub read : (t : List ℕ) → has_magic t ≡ true → get_or t 4 0 ≡ 44 → read_head t ≡ head_of t (natural_at t 5)
unfolding read_head
read t e a = rw (e, eq-eqb (get_or t 4 0) 44 a)

pub over : (t : List ℕ) (n next : ℕ) → 4 < n → head_of t (Some (n, next)) ≡ Err (Malformed 2)
over t n next h = rw (lt-leb n 4 h)

pub within : (t : List ℕ) (n next : ℕ) → n ≤ 4 → head_of t (Some (n, next)) ≡ behind_version t (version_of n) next
within t n next h = rw (le-leb n 4 h)

-- ---- behind the version
module _ (t : List ℕ) (version : SguVersion) (next : ℕ) where
  pub comma : get_or t next 0 ≡ 44 → behind_version t version next ≡ sized_head t version (natural_at t (next + 1))
  unfolding behind_version
  comma e = rw (eq-eqb (get_or t next 0) 44 e)

  pub open-end : (get_or t next 0 ≡ 44 → ⊥) → closed_at t next ≡ false → behind_version t version next ≡ Err (Malformed 3)
  unfolding behind_version
  open-end a e = rw (ne_eqb (get_or t next 0) 44 a, e)

  pub two_fields : (get_or t next 0 ≡ 44 → ⊥) → closed_at t next ≡ true → behind_version t version next ≡ Ok (Version version)
  unfolding behind_version
  two_fields a e = rw (ne_eqb (get_or t next 0) 44 a, e)

-- ---- the third field
module _ (t : List ℕ) (version : SguVersion) (size next : ℕ) where
  pub not-allowed : is_ram_length size ≡ false → sized_head t version (Some (size, next)) ≡ Err (Malformed 3)
  not-allowed e = rw e

  pub three-fields : is_ram_length size ≡ true → closed_at t next ≡ true → sized_head t version (Some (size, next)) ≡ Ok (Sized version size)
  three-fields e f = rw (e, f)

pub version-most : (v : SguVersion) → version_number v ≤ 4
version-most V1 = omega arith
version-most V2 = omega arith
version-most V2_1 = omega arith
version-most V3 = omega arith
version-most V3_1 = omega arith

-- ---- written
pub head-width : (version : SguVersion) (size : ℕ) → length (head_text version size) ≡ 8 + length (decimal size)
unfolding head_text
head-width version size = omega (arith, length-append (decimal size) (10 ∷ []))

pub head-puts : (s a b c d u : Output) (n : ℕ) (version : SguVersion) (size : ℕ) → n ≡ version_number version → Puts s a (83 ∷ 51 ∷ 87 ∷ 50 ∷ 44 ∷ []) → Puts a b ((48 + n) ∷ [])
    → Puts b c (44 ∷ []) → Puts c d (decimal size) → Puts d u (10 ∷ []) → Puts s u (head_text version size)
unfolding head_text
head-puts s a b c d u n version size q p1 p2 p3 p4 p5 =
    rw (← q) (puts-append s a u _ _ p1 (puts-append a b u _ _ p2 (puts-append b c u _ _ p3 (puts-append c d u _ _ p4 p5))))

module _ (out : List ℕ) (version : SguVersion) (size width : ℕ) (w : width ≡ length (decimal size)) where
  pub head-yes : (k : List ℕ) (r : ℕ) → 8 + width ≤ length out → Put out k 0 (head_text version size) r → (Ok r ≡ written_of out (head_text version size)) × (k ≡ put_of out (head_text version size))
  head-yes k r h p =
      let long : length (head_text version size) ≤ length out = omega (arith, head-width version size, w) in
      rw (le-leb (length (head_text version size)) (length out) long) (ap Ok (omega (arith, p.0, long)), p.1)

  pub head-no : length out < 8 + width → (Err TextBuffer ≡ written_of out (head_text version size)) × (out ≡ put_of out (head_text version size))
  head-no h = rw (lt-leb (length (head_text version size)) (length out) (omega (arith, head-width version size, w))) (refl, refl)

-- ---- allowed lengths: the largest of k powers of two
abbrev largest_from : ℕ → ℕ → ℕ
largest_from zero p = 0
largest_from (suc k) p = max p (largest_from k (p * 2))

power_small : (k p n : ℕ) → power_from k p n ≡ true → n ≤ largest_from k p
power_small zero p n e = never (sym e)
power_small (suc k) p n e = go (eqb n p) refl (λ h. power_small k (p * 2) n h)
  where
    go : (b : Bool) → eqb n p ≡ b → (power_from k (p * 2) n ≡ true → n ≤ largest_from k (p * 2)) → n ≤ max p (largest_from k (p * 2))
    go true f rest = omega (arith, eqb-true n p f)
    go false f rest =
        let l = rest (sym (ap (λ (b : Bool). cond b true (power_from k (p * 2) n)) f) ∙ e) in
        omega (arith, l)

pub ram-small : (n : ℕ) → is_ram_length n ≡ true → n ≤ 16777216
unfolding is_ram_length
ram-small n e = power_small 17 256 n e

-- ---- a head written is read back
-- behind a text and byte 10 a head ends
ends : (before text : List ℕ) → closed_at (before ++ (text ++ (10 ∷ []))) (length before + length text) ≡ true
unfolding closed_at
ends before text = rw (eq-eqb (get_or whole place 0) 10 byte, eq-eqb (length whole) (place + 1) size) refl
  where
    whole : List ℕ
    whole = before ++ (text ++ (10 ∷ []))

    place : ℕ
    place = length before + length text

    rest : drop place whole ≡ 10 ∷ []
    rest = sym (drop-drop (length text) (length before) whole) ∙ ap (drop (length text)) (drop_at before (text ++ (10 ∷ [])) (length before) refl) ∙ drop_at text (10 ∷ []) (length text) refl

    byte : get_or whole place 0 ≡ 10
    byte = ap (λ (j : ℕ). get_or whole j 0) (sym (add-zero place)) ∙ sym (get_or-drop place whole 0 0) ∙ ap (λ (t : List ℕ). get_or t 0 0) rest

    size : length whole ≡ place + 1
    size = omega (arith, length-append before (text ++ (10 ∷ [])), length-append text (10 ∷ []))

-- its version is read, whatever follows the comma behind it
version-back : (version : SguVersion) (rest : List ℕ) → read_head (83 ∷ 51 ∷ 87 ∷ 50 ∷ 44 ∷ (48 + version_number version) ∷ 44 ∷ rest)
    ≡ sized_head (83 ∷ 51 ∷ 87 ∷ 50 ∷ 44 ∷ (48 + version_number version) ∷ 44 ∷ rest) version (natural_at (83 ∷ 51 ∷ 87 ∷ 50 ∷ 44 ∷ (48 + version_number version) ∷ 44 ∷ rest) 7)
unfolding read_head has_magic behind_version natural_at
version-back V1 rest = refl
version-back V2 rest = refl
version-back V2_1 rest = refl
version-back V3 rest = refl
version-back V3_1 rest = refl

pub head-back : (version : SguVersion) (size : ℕ) → is_ram_length size ≡ true → read_head (head_text version size) ≡ Ok (Sized version size)
unfolding head_text
head-back version size e =
    let before : List ℕ = 83 ∷ 51 ∷ 87 ∷ 50 ∷ 44 ∷ (48 + version_number version) ∷ 44 ∷ [] in
    let text : List ℕ = before ++ (decimal size ++ (10 ∷ [])) in
    version-back version (decimal size ++ (10 ∷ []))
    ∙ ap (sized_head text version) (natural-back size text (10 ∷ []) 7 (omega (arith, ram-small size e)) refl refl)
    ∙ three-fields text version size (7 + length (decimal size)) e (ends before (decimal size))

-- two heads are the same exactly when their versions and lengths are
pub same_head : (version other : SguVersion) (size length : ℕ) → is_ram_length size ≡ true → is_ram_length length ≡ true
    → (head_text version size ≡ head_text other length → (version ≡ other) × (size ≡ length)) × ((version ≡ other) × (size ≡ length) → head_text version size ≡ head_text other length)
same_head version other size length a b = (λ e. read_same (sym (head-back version size a) ∙ ap read_head e ∙ head-back other length b), λ e. ap₂ head_text e.0 e.1)
  where
    read_same : ◌≡◌ {A = HeadLine} (Ok (Sized version size)) (Ok (Sized other length)) → (version ≡ other) × (size ≡ length)
    read_same e = (cc, cc)
