-- What a voice finds: a file that is refused is no file; one that is taken has an accepted header, and its cache is accepted. Assumes nothing.
use Rattle.std.specs.Prelude.{Option, Some, None, Result, Ok, Err}
use Rattle.std.proofs.Common.{◌≡◌, ℕ, ◌+◌, ◌-◌, ◌*◌, ◌/◌, ◌%◌, ◌^◌, ◌<◌, ◌≤◌, Bool, true, false, cond, not, eqb, ltb, leb, List, length, get_or, sym, refl, ap, ◌∙◌, subst, mul-le-mul, mul-one, mul-div_cancel, arith, w64, Fits, ltb-true, lt-ltb, eq-eqb, eqb-true, leb-true}
use native.Mathlib.Nat.{mul-mod_left}
use Rattle.num.specs.Lists.{part}
use Rattle.num.proofs.Choice.{cond-by, never}
use Rattle.adpcm.specs.declared.Variant.{Variant}
use Rattle.sqv4.specs.declared.Header.{Header}
use Rattle.sqv4.specs.Files.{inspected}
use Rattle.sqv4.proofs.Accepted.{Told, accepted-told, accepted-says, says-fills}
use Rattle.stream.specs.declared.Info.{Info}
use Rattle.stream.specs.File.{Source, source_of, info_of, looped, is_wanted, opened_as, opened_from, opened_in}
use Rattle.stream.specs.Cache.{filled_with}
use Rattle.stream.specs.Accepted.{both, loop_fits, half_fits, Fit}
use Rattle.stream.proofs.Fragments.{samples-range}
use Rattle.stream.proofs.Counts.{both_true, both_is}
use Rattle.sqv4.specs.declared.InspectError.{InspectError}
use Rattle.stream.proofs.Accepts.{AcceptedAs, long-part}

-- the first sample of a fragment is a number of 64 bits
pub first_fits : (f per n : ℕ) → f < n → n < 2 ^ 32 → per ≤ 64 → Fits w64 (f * per)
first_fits f per n h l m = record { fits = omega (arith, mul-le-mul {n₁ = f} {m₁ = per} {n₂ = 2 ^ 32} {m₂ = 64} (omega arith) m) }

-- what the loop address is looked at with
pub header-fits : (d : List ℕ) (h : Header) → ((i : ℕ) → get_or d i 0 < 256) → inspected d ≡ Ok h → (16 ≤ length d) × (0 < h.frame_size) × (h.frame_count < 2 ^ 32) × (h.frame_samples ≤ 64)
header-fits d h bytes e =
    let f = says-fills d h (accepted-says d h bytes e) in
    (omega (arith, f.long), omega (arith, f.size.0), f.count, f.per.1)

-- ---- a file that is taken
pub record OpenedAs (d : List ℕ) (wants : Bool) (k : Variant) (i : Info) : Type 0 where
  pub header : Header
  pub found : inspected d ≡ Ok header
  pub wanted : is_wanted wants header.channels header.version ≡ true
  pub again : ℕ
  pub variant : k ≡ header.variant
  pub numbers : i ≡ info_of header again
  pub first : 0 < header.frame_samples → loop_fits again header.frame_samples header.frame_count ≡ true

abbrev Opens : List ℕ → Bool → Option (Variant × Info) → Type 0
Opens d wants None = Unit {0}
Opens d wants (Some (k, i)) = OpenedAs d wants k i

record Openeds (d : List ℕ) (wants : Bool) (x : Option (Variant × Info)) : Type 0 where
  pub it : Opens d wants x

zero-loop : (per n : ℕ) → loop_fits 0 per n ≡ true
unfolding loop_fits
zero-loop per n = refl

frame-loop : (f per n : ℕ) → f < n → 0 < per → loop_fits (f * per) per n ≡ true
unfolding loop_fits
frame-loop f per n h p =
    cond-by (λ (b : Bool). b ≡ true) (eqb (f * per) 0) true (both (eqb (f * per % per) 0) (ltb (f * per / per) n)) (λ e. refl)
    (λ e. both_is _ _ (eq-eqb (f * per % per) 0 (mul-mod_left f per)) (lt-ltb (f * per / per) n (rw (mul-div_cancel f p) h)))

module _ (d : List ℕ) (wants : Bool) (start again : ℕ) (h : Header) (e : inspected d ≡ Ok h) (w : is_wanted wants h.channels h.version ≡ true) where
  looped-as : Openeds d wants (looped start again h)
  looped-as =
      let off = again - (start + 16) in
      cond-by (Openeds d wants) (cond (eqb again 0) true (eqb again start)) _ _
      (λ a. record { it = record { header = h; found = e; wanted = w; again = 0; variant = refl; numbers = refl; first = λ p. zero-loop h.frame_samples h.frame_count } })
      (λ a. cond-by (Openeds d wants) (leb (start + 16) again) _ _
      (λ b. cond-by (Openeds d wants) (eqb (off % h.frame_size) 0) _ _
      (λ z. cond-by (Openeds d wants) (ltb (off / h.frame_size) h.frame_count) _ _
      (λ l. record { it = record { header = h; found = e; wanted = w; again = off / h.frame_size * h.frame_samples; variant = refl; numbers = refl; first = λ p. frame-loop (off / h.frame_size) h.frame_samples h.frame_count (ltb-true (off / h.frame_size) h.frame_count l) p } })
      (λ l. record { it = tt }))
      (λ z. record { it = tt }))
      (λ b. record { it = tt }))

taken_as : (d : List ℕ) (wants : Bool) (start again : ℕ) (x : Result Header InspectError) → inspected d ≡ x → Openeds d wants (opened_as wants start again x)
taken_as d wants start again (Ok h) e =
    cond-by (Openeds d wants) (is_wanted wants h.channels h.version) (looped start again h) None (λ w. looped-as d wants start again h e w) (λ w. record { it = tt })
taken_as d wants start again (Err x) e = record { it = tt }

there-true : (b : Bool) (x : Option (Variant × Info)) (k : Variant) (i : Info) → cond b x None ≡ Some (k, i) → (b ≡ true) × (x ≡ Some (k, i))
there-true true x k i e = (refl, e)
there-true false x k i e = absurd (let z : ◌≡◌ {A = ℕ} 0 1 = cc in omega arith)

pub opened-as : (src : Source) (wants : Bool) (start again : ℕ) (k : Variant) (i : Info) → opened_from src wants start again ≡ Some (k, i) → OpenedAs src.bytes wants k i
unfolding opened_from
opened-as src wants start again k i e =
    (subst (λ (x : Option (Variant × Info)). Openeds src.bytes wants x) (there-true src.there (opened_as wants start again (inspected src.bytes)) k i e).1 (taken_as src.bytes wants start again (inspected src.bytes) refl)).it

pub opened-range : (ram : List ℕ) (wants : Bool) (start end again : ℕ) (k : Variant) (i : Info) → opened_in ram wants start end again ≡ Some (k, i) → (start < end) × (end ≤ length ram)
unfolding opened_from source_of
opened-range ram wants start end again k i e =
    let b = both_true (ltb start end) (leb end (length ram)) (there-true (cond (ltb start end) (leb end (length ram)) false) (opened_as wants start again (inspected (part ram start (end - start)))) k i e).0 in
    (ltb-true start end b.0, leb-true end (length ram) b.1)

wanted-mono : (wants : Bool) (channels version : ℕ) → is_wanted wants channels version ≡ true → channels ≡ 1
wanted-mono wants channels version e = go (eqb channels 1) refl e
  where
    go : (b : Bool) → eqb channels 1 ≡ b → cond b (cond wants (eqb version 3) (not (eqb version 3))) false ≡ true → channels ≡ 1
    go true p e = eqb-true channels 1 p
    go false p e = never (sym e)

pub opened-mono : (d : List ℕ) (wants : Bool) (k : Variant) (i : Info) (o : OpenedAs d wants k i) → o.header.channels ≡ 1
opened-mono d wants k i o = wanted-mono wants o.header.channels o.header.version o.wanted

-- ---- its cache is accepted
module _ (d : List ℕ) (wants : Bool) (k : Variant) (i : Info) (o : OpenedAs d wants k i) where
  pub opened-told : Told d o.header
  opened-told = accepted-told d o.header o.found

  pub opened-fit : Fit k (filled_with k i) (length d)
  unfolding half_fits
  opened-fit =
      let s = opened-told in
      let h = o.header in
      subst (λ (x : Variant). Fit x (filled_with x i) (length d)) (sym o.variant)
      (subst (λ (x : Info). Fit h.variant (filled_with h.variant x) (length d)) (sym o.numbers)
      (record {
        known = s.known;
        per = s.samples;
        size = s.size;
        long = sym (s.long ∙ ap (λ (n : ℕ). n * h.frame_size + 16) (ap (λ (n : ℕ). h.frame_count * n) (opened-mono d wants k i o) ∙ mul-one h.frame_count ∙ s.count));
        again = subst (λ (n : ℕ). loop_fits o.again h.frame_samples n ≡ true) s.count (o.first (omega (arith, s.samples, samples-range h.version)));
        index = omega arith;
        even = refl;
        odd = refl;
        next = omega arith;
      }))

pub opened-accepted : (ram : List ℕ) (wants : Bool) (start end again : ℕ) (k : Variant) (i : Info) → opened_in ram wants start end again ≡ Some (k, i) → AcceptedAs (filled_with k i) start end (length ram)
unfolding source_of
opened-accepted ram wants start end again k i e =
    let r = opened-range ram wants start end again k i e in
    let d = part ram start (end - start) in
    record { variant = k; held = refl; range = r; fit = subst (Fit k (filled_with k i)) (long-part ram start end r) (opened-fit d wants k i (opened-as (source_of ram start end) wants start again k i e)) }
