-- Reading what was written gives the number that was written, and nothing else is read. Assumes nothing.
use mathlib.Core.Path.{◌≡◌, refl, sym, ap, ◌∙◌}
use mathlib.Core.Bool.{Bool, true, false}
use mathlib.Core.List.{List, [], ◌∷◌, ◌++◌, append_assoc, append-nil}
use Prim.Native.Nat.{ℕ, zero, suc, ◌+◌, ◌-◌, ◌*◌, ◌/◌, ◌%◌, ◌^◌, ◌≤◌, ◌<◌}
use native.Mathlib.Nat.{add-zero}
use native.Mathlib.Numerals.{add-one}
use native.Mathlib.Omega.{arith}
use native.Mathlib.Decide.{dec_le}
use lib.Dec.{eqb, ltb}
use lib.IntN.{ℤ, pos, negsuc}
use lib.ListN.{length, take, drop, get_or}
use lib.Seq.{sets, sets-eq, drop_at, length-take-le, get_or-drop, drop-drop, drop-cons}
use mir.Syntax.{w64}
use mir.Val.{SFits}
use borrow.Author.Tests.{eqb-true, eqb-false, lt-ltb}
use Rattle.num.proofs.Integers.{fit-up, fit-down}
use Rattle.decimal.specs.Written.{decimal, render}
use Rattle.decimal.specs.Read.{digit, digit_at, digits_of, spelled, natural, bounded, natural_at, number_at, negative, positive, Numeral}
use Rattle.decimal.proofs.Writing.{decimal-small, decimal-more}
use Rattle.decimal.proofs.Reading.{is_digit, natural-lead, digit_low, digit-high, run-stop, sign-in, number-minus, number-plus, negative_fits, positive-fits}
use Rattle.std.specs.Prelude.{Option, Some, None}
use Rattle.std.proofs.lemmas.Option.{none-some, some_pair_parts}

spelled-snoc : (v : ℕ) (xs : List ℕ) (c : ℕ) → spelled v (xs ++ (c ∷ [])) ≡ spelled v xs * 10 + (c - 48)
spelled-snoc v [] c = refl
spelled-snoc v (x ∷ xs) c = spelled-snoc (v * 10 + (x - 48)) xs c

-- digits, and a text behind them
run-append : (xs rest : List ℕ) → digits_of xs ≡ xs → digits_of (xs ++ rest) ≡ xs ++ digits_of rest
run-append [] rest e = refl
run-append (x ∷ xs) rest e = go (digit x) refl (run-append xs rest)
  where
    go : (b : Bool) → digit x ≡ b → (digits_of xs ≡ xs → digits_of (xs ++ rest) ≡ xs ++ digits_of rest) → digits_of ((x ∷ xs) ++ rest) ≡ x ∷ (xs ++ digits_of rest)
    go true d ih = rw d (ap (λ (l : List ℕ). x ∷ l) (ih (let z : x ∷ digits_of xs ≡ x ∷ xs = rw d at e in (cc))))
    go false d ih = let z : [] ≡ x ∷ xs = rw d at e in (cc)

-- what the digits of n are: all digits, they spell n, and the first is no 0 unless it stands alone
record Digits (n : ℕ) (ds : List ℕ) : Type 0 where
  run : digits_of ds ≡ ds
  value : spelled 0 ds ≡ n
  lead : ℕ
  tail : List ℕ
  split : ds ≡ lead ∷ tail
  least : 48 ≤ lead
  zeros : lead ≡ 48 → (n ≡ 0) × (tail ≡ [])

digits-small : (n : ℕ) → n < 10 → Digits n ((48 + n) ∷ [])
digits-small n h =
    record {
      run = rw (is_digit (48 + n) (omega arith) (omega arith));
      value = omega arith;
      lead = 48 + n;
      tail = [];
      split = refl;
      least = omega arith;
      zeros = λ e. (omega arith, refl);
    }

digits_more : (n : ℕ) (ds : List ℕ) → 10 ≤ n → Digits (n / 10) ds → Digits n (ds ++ ((48 + n % 10) ∷ []))
digits_more n ds h d =
    record {
      run = run-append ds ((48 + n % 10) ∷ []) d.run ∙ rw (is_digit (48 + n % 10) (omega arith) (omega arith));
      value = spelled-snoc 0 ds (48 + n % 10) ∙ rw d.value (omega arith);
      lead = d.lead;
      tail = d.tail ++ ((48 + n % 10) ∷ []);
      split = rw d.split;
      least = d.least;
      zeros = λ e. absurd (let z : n / 10 ≡ 0 = (d.zeros e).0 in omega arith);
    }

digits-of : (turns n : ℕ) → n < turns → Digits n (decimal n)
digits-of zero n h = absurd (omega arith)
digits-of (suc turns) n h = elim (dec_le 10 n) [ yes l ↦ rw (decimal-more n l) (digits_more n (decimal (n / 10)) l (digits-of turns (n / 10) (omega arith))) | no l ↦ rw (decimal-small n (omega arith)) (digits-small n (omega arith)) ]

numeral : (n : ℕ) → Digits n (decimal n)
numeral n = digits-of (suc n) n (omega arith)

natural-cons : (n c : ℕ) (cs : List ℕ) → spelled 0 (c ∷ cs) ≡ n → (c ≡ 48 → (n ≡ 0) × (cs ≡ [])) → natural (c ∷ cs) ≡ Some n
natural-cons n c [] g z = ap Some (omega arith)
natural-cons n c (d ∷ cs) g z = go (eqb c 48) refl
  where
    go : (b : Bool) → eqb c 48 ≡ b → natural (c ∷ d ∷ cs) ≡ Some n
    go true e = let q : d ∷ cs ≡ [] = (z (eqb-true c 48 e)).1 in (cc)
    go false e = rw e (ap Some g)

natural-of : (n : ℕ) → natural (decimal n) ≡ Some n
natural-of n =
    let d = numeral n in
    rw d.split (natural-cons n d.lead d.tail (rw d.split at d.value) d.zeros)

-- ---- reading what was written: `rest` is what stands behind the numeral, and does not begin with a digit
pub natural-back : (n : ℕ) (text rest : List ℕ) (at : ℕ) → n < 2 ^ 64 → drop at text ≡ decimal n ++ rest → digits_of rest ≡ [] → natural_at text at ≡ Some (n, at + length (decimal n))
unfolding natural_at
natural-back n text rest at h e f = rw (e, run-append (decimal n) rest (numeral n).run, f, append-nil (decimal n), natural-of n, lt-ltb n (2 ^ 64) h)

first : (text xs rest : List ℕ) (at : ℕ) → drop at text ≡ xs ++ rest → get_or (xs ++ rest) 0 0 ≡ get_or text at 0
first text xs rest at e = ap (λ (l : List ℕ). get_or l 0 0) (sym e) ∙ get_or-drop at text 0 0 ∙ ap (λ (k : ℕ). get_or text k 0) (add-zero at)

behind : (text : List ℕ) (c : ℕ) (cs : List ℕ) (at : ℕ) → drop at text ≡ c ∷ cs → drop (at + 1) text ≡ cs
behind text c cs at e = sym (drop-drop 1 at text) ∙ ap (drop 1) e

pub number-back : (z : ℤ) (text rest : List ℕ) (at : ℕ) → SFits w64 z → drop at text ≡ render z ++ rest → digits_of rest ≡ [] → number_at text at ≡ Some (z, at + length (render z))
unfolding render
number-back (pos n) text rest at h e f =
    let d = numeral n in
    number-plus text at (λ q. let g : get_or (decimal n ++ rest) 0 0 ≡ 45 = first text (decimal n) rest at e ∙ q in let k : d.lead ≡ 45 = rw d.split at g in omega (arith, d.least))
    ∙ rw (natural-back n text rest at (omega (arith, fit-up h)) e f) (positive-fits n (at + length (decimal n)) (fit-up h))
number-back (negsuc n) text rest at h e f =
    number-minus text at (sym (first text (45 ∷ decimal (suc n)) rest at e))
    ∙ rw (natural-back (suc n) text rest (at + 1) (omega (arith, fit-down h)) (behind text 45 (decimal (suc n) ++ rest) at e) f)
    (negative_fits (suc n) (at + 1 + length (decimal (suc n))) (λ q. omega arith) (fit-down h) ∙ ap (λ (m : ℕ). Some (negsuc m, at + 1 + length (decimal (suc n)))) (omega arith) ∙ ap (λ (k : ℕ). Some (negsuc n, k)) (omega arith))

-- the same, of a buffer into which the numeral was put
written : (l xs : List ℕ) (at : ℕ) → at + length xs ≤ length l → drop at (sets l at xs) ≡ xs ++ drop (at + length xs) l
written l xs at h = rw (sets-eq xs l at h) (ap (drop at) (append_assoc (take at l) xs (drop (at + length xs) l)) ∙ drop_at (take at l) (xs ++ drop (at + length xs) l) at (length-take-le at l (omega arith)))

pub natural-written : (n : ℕ) (l : List ℕ) (at : ℕ) → n < 2 ^ 64 → at + length (decimal n) ≤ length l → digit_at l (at + length (decimal n)) ≡ false → natural_at (sets l at (decimal n)) at ≡ Some (n, at + length (decimal n))
natural-written n l at h k e = natural-back n _ _ at h (written l (decimal n) at k) (run-stop l (at + length (decimal n)) e)

pub number-written : (z : ℤ) (l : List ℕ) (at : ℕ) → SFits w64 z → at + length (render z) ≤ length l → digit_at l (at + length (render z)) ≡ false → number_at (sets l at (render z)) at ≡ Some (z, at + length (render z))
number-written z l at h k e = number-back z _ _ at h (written l (render z) at k) (run-stop l (at + length (render z)) e)

-- ---- nothing else is read: what stands where a number is read is its numeral
-- digits behind a number other than 0 are those of the numeral behind its own
decimal-spelled : (v : ℕ) (cs : List ℕ) → 0 < v → digits_of cs ≡ cs → decimal (spelled v cs) ≡ decimal v ++ cs
decimal-spelled v [] h e = sym (append-nil (decimal v))
decimal-spelled v (c ∷ cs) h e = go (digit c) refl (decimal-spelled (v * 10 + (c - 48)) cs)
  where
    go : (b : Bool) → digit c ≡ b → (0 < v * 10 + (c - 48) → digits_of cs ≡ cs → decimal (spelled (v * 10 + (c - 48)) cs) ≡ decimal (v * 10 + (c - 48)) ++ cs) → decimal (spelled v (c ∷ cs)) ≡ decimal v ++ (c ∷ cs)
    go false d ih = let z : [] ≡ c ∷ cs = rw d at e in (cc)
    go true d ih =
        let low : 48 ≤ c = digit_low c d in
        let high : c ≤ 57 = digit-high c d in
        let tens : (v * 10 + (c - 48)) / 10 ≡ v = omega arith in
        let ones : 48 + (v * 10 + (c - 48)) % 10 ≡ c = omega arith in
        let one_more : decimal (v * 10 + (c - 48)) ≡ decimal v ++ (c ∷ []) = decimal-more (v * 10 + (c - 48)) (omega arith) ∙ rw (tens, ones) in
        ih (omega arith) (let z : c ∷ digits_of cs ≡ c ∷ cs = rw d at e in (cc))
        ∙ ap (λ (l : List ℕ). l ++ cs) one_more
        ∙ append_assoc (decimal v) (c ∷ []) cs

run-again : (l : List ℕ) → digits_of (digits_of l) ≡ digits_of l
run-again [] = refl
run-again (c ∷ cs) = go (digit c) refl (run-again cs)
  where
    go : (b : Bool) → digit c ≡ b → digits_of (digits_of cs) ≡ digits_of cs → digits_of (digits_of (c ∷ cs)) ≡ digits_of (c ∷ cs)
    go true d ih = rw (d, d) (ap (λ (l : List ℕ). c ∷ l) ih)
    go false d ih = rw d

-- a text is its digits and what stands behind them
run-split : (l : List ℕ) → l ≡ digits_of l ++ drop (length (digits_of l)) l
run-split [] = refl
run-split (c ∷ cs) = go (digit c) refl (run-split cs)
  where
    go : (b : Bool) → digit c ≡ b → cs ≡ digits_of cs ++ drop (length (digits_of cs)) cs → c ∷ cs ≡ digits_of (c ∷ cs) ++ drop (length (digits_of (c ∷ cs))) (c ∷ cs)
    go true d ih = rw d (ap (λ (l : List ℕ). c ∷ l) ih)
    go false d ih = rw d

zero-alone : (cs : List ℕ) (n : ℕ) → natural (48 ∷ cs) ≡ Some n → (cs ≡ []) × (n ≡ 0)
zero-alone [] n g = (refl, cc)
zero-alone (d ∷ cs) n g = (cc, cc)

-- digits that are a numeral are that of their number
natural-only : (n : ℕ) (ds : List ℕ) → digits_of ds ≡ ds → natural ds ≡ Some n → ds ≡ decimal n
natural-only n [] e g = cc
natural-only n (c ∷ cs) e g = go (digit c) refl
  where
    lead : digit c ≡ true → (c ≡ 48 → ⊥) → spelled 0 (c ∷ cs) ≡ n → c ∷ cs ≡ decimal n
    lead d z v =
        let low : 48 ≤ c = digit_low c d in
        let high : c ≤ 57 = digit-high c d in
        let one : decimal (0 * 10 + (c - 48)) ≡ c ∷ [] = decimal-small (0 * 10 + (c - 48)) (omega arith) ∙ ap (λ (k : ℕ). k ∷ []) (omega arith) in
        sym (ap decimal (sym v) ∙ decimal-spelled (0 * 10 + (c - 48)) cs (pos_of c low z) (let q : c ∷ digits_of cs ≡ c ∷ cs = rw d at e in (cc)) ∙ ap (λ (l : List ℕ). l ++ cs) one)
      where
        pos_of : (c : ℕ) → 48 ≤ c → (c ≡ 48 → ⊥) → 0 < 0 * 10 + (c - 48)
        pos_of c h z = omega arith

    go : (b : Bool) → digit c ≡ b → c ∷ cs ≡ decimal n
    go false d = let z : [] ≡ c ∷ cs = rw d at e in (cc)
    go true d = tell (eqb c 48) refl
      where
        tell : (b : Bool) → eqb c 48 ≡ b → c ∷ cs ≡ decimal n
        tell true z =
            let q : c ≡ 48 = eqb-true c 48 z in
            let a : (cs ≡ []) × (n ≡ 0) = zero-alone cs n (ap (λ (k : ℕ). natural (k ∷ cs)) (sym q) ∙ g) in
            rw (q, a.0, a.1) (sym (decimal-small 0 (omega arith)))
        tell false z =
            let q : c ≡ 48 → ⊥ = eqb-false c 48 z in
            let v : Some (spelled 0 (c ∷ cs)) ≡ Some n = sym (natural-lead c cs q) ∙ g in
            lead d q (cc)

-- THE CONVERSE: where a number is read, its numeral stands, and the answer's place is behind it
bounded-is : (o : Option ℕ) (n next k : ℕ) → bounded o k ≡ Some (n, next) → (o ≡ Some n) × (k ≡ next)
bounded-is None n next k e = absurd (none-some (n, next) e)
bounded-is (Some m) n next k e = go (ltb m (2 ^ 64)) refl
  where
    go : (b : Bool) → ltb m (2 ^ 64) ≡ b → (Some m ≡ Some n) × (k ≡ next)
    go true t = let z = some_pair_parts m n k next (rw t at e) in (ap (λ (x : ℕ). Some x) z.0, z.1)
    go false t = absurd (none-some (n, next) (rw t at e))

pub natural-only-written : (n : ℕ) (text : List ℕ) (at next : ℕ) → natural_at text at ≡ Some (n, next) → drop at text ≡ decimal n ++ drop next text
unfolding natural_at
natural-only-written n text at next e =
    let run = digits_of (drop at text) in
    let b = bounded-is (natural (digits_of (drop at text))) n next (at + length (digits_of (drop at text))) e in
    run-split (drop at text)
    ∙ ap (λ (l : List ℕ). l ++ drop (length (digits_of (drop at text))) (drop at text)) (natural-only n (digits_of (drop at text)) (run-again (drop at text)) b.0)
    ∙ ap (λ (l : List ℕ). decimal n ++ l) (drop-drop (length (digits_of (drop at text))) at text ∙ ap (λ (k : ℕ). drop k text) b.1)

-- the same of an integer: which numeral without its sign gives it
record Below (o : Numeral ℕ) (z : ℤ) (next : ℕ) : Type 0 where
  size : ℕ
  from : o ≡ Some (suc size, next)
  is : z ≡ negsuc size

record Above (o : Numeral ℕ) (z : ℤ) (next : ℕ) : Type 0 where
  size : ℕ
  from : o ≡ Some (size, next)
  is : z ≡ pos size

negative-is : (o : Numeral ℕ) (z : ℤ) (next : ℕ) → negative o ≡ Some (z, next) → Below o z next
negative-is None z next e = absurd (none-some (z, next) e)
negative-is (Some (zero, k)) z next e = absurd (none-some (z, next) e)
negative-is (Some (suc n, k)) z next e = go (ltb n (2 ^ 63)) refl
  where
    go : (b : Bool) → ltb n (2 ^ 63) ≡ b → Below (Some (suc n, k)) z next
    go true t = let q = some_pair_parts (negsuc n) z k next (rw t at e) in record { size = n; from = ap (λ (i : ℕ). Some (suc n, i)) q.1; is = sym q.0 }
    go false t = absurd (none-some (z, next) (rw t at e))

positive-is : (o : Numeral ℕ) (z : ℤ) (next : ℕ) → positive o ≡ Some (z, next) → Above o z next
positive-is None z next e = absurd (none-some (z, next) e)
positive-is (Some (n, k)) z next e = go (ltb n (2 ^ 63)) refl
  where
    go : (b : Bool) → ltb n (2 ^ 63) ≡ b → Above (Some (n, k)) z next
    go true t = let q = some_pair_parts (pos n) z k next (rw t at e) in record { size = n; from = ap (λ (i : ℕ). Some (n, i)) q.1; is = sym q.0 }
    go false t = absurd (none-some (z, next) (rw t at e))

pub number-only-written : (z : ℤ) (text : List ℕ) (at next : ℕ) → number_at text at ≡ Some (z, next) → drop at text ≡ render z ++ drop next text
unfolding render
number-only-written z text at next e = go (eqb (get_or text at 0) 45) refl
  where
    go : (b : Bool) → eqb (get_or text at 0) 45 ≡ b → drop at text ≡ render z ++ drop next text
    go true t =
        let s : get_or text at 0 ≡ 45 = eqb-true (get_or text at 0) 45 t in
        let n = negative-is (natural_at text (at + 1)) z next (sym (number-minus text at s) ∙ e) in
        drop-cons text at 0 (sign-in text at s)
        ∙ ap (λ (k : ℕ). k ∷ drop (suc at) text) s
        ∙ ap (λ (k : ℕ). 45 ∷ drop k text) (sym (add-one at))
        ∙ ap (λ (l : List ℕ). 45 ∷ l) (natural-only-written (suc n.size) text (at + 1) next n.from)
        ∙ ap (λ (y : ℤ). render y ++ drop next text) (sym n.is)
    go false t =
        let n = positive-is (natural_at text at) z next (sym (number-plus text at (eqb-false (get_or text at 0) 45 t)) ∙ e) in
        rw n.is (natural-only-written n.size text at next n.from)
