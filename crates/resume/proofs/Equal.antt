-- The session texts of two chips are equal exactly when their versions, the lengths of their RAMs and their session fields are. Assumes nothing.
use mathlib.Core.Path.{◌≡◌, sym, ap, ap₂, ◌∙◌, subst}
use mathlib.Core.List.{List}
use native.Mathlib.Omega.{arith}
use lib.ListN.{length}
use Rattle.version.specs.declared.SguVersion.{SguVersion}
use Rattle.plain_chip.specs.Lists.{Every}
use Rattle.plain_chip.specs.Voices.{PlainVoice}
use Rattle.plain_chip.specs.Models.{plains}
use Rattle.plain_chip.specs.Good.{FitVoice}
use Rattle.pair_chip.specs.Pairs.{Plain}
use Rattle.slots.specs.Models.{slots, plain}
use Rattle.call_lists.specs.Seen as calls
use Rattle.call_lists.specs.Seen.{Seen, lines_from}
use Rattle.call_lists.proofs.Equal.{same_versions, same-sizes, same_lines}
use Rattle.call_lists.proofs.Loads.{split}
use Rattle.call_lists.proofs.Resumes.{fit-first, sixteen, plain-split, seen_plain}
use Rattle.session_texts.specs.Session.{session}
use Rattle.session_texts.proofs.Read.{session-is-ok}
use Rattle.chip_calls.specs.Ties.{Machine}
use Rattle.resume.specs.Stops.{seen, slot_pair_in, SameTexts, SameFields}
use Rattle.resume.proofs.Steps.{HeldMachine, seen_same}

-- the session's fields of the sixteen voices
abbrev fields : Machine → List PlainVoice
fields m = calls.voices slots (slot_pair_in m)

fields_fit : (m : Machine) → HeldMachine m → Every (FitVoice m.chip.version) (fields m)
fields_fit m h = fit-first session session-is-ok (slot_pair_in m) h.good

lines_of : (m : Machine) → HeldMachine m → (seen m).lines ≡ lines_from session 0 (fields m)
lines_of m h = ap (λ (s : Seen). s.lines) (seen_same m h)

-- the lines of its plain chip
lines-plain : (m : Machine) → HeldMachine m → (seen m).lines ≡ (calls.seen_over plains session (plain (slot_pair_in m))).lines
lines-plain m h = lines_of m h ∙ ap (λ (s : Seen). s.lines) (seen_plain session session-is-ok (slot_pair_in m))

cores-of : (m : Machine) → HeldMachine m → (plain (slot_pair_in m)).cores ≡ split (fields m)
cores-of m h = ap (λ (p : Plain). p.cores) (plain-split session session-is-ok (slot_pair_in m) h.good)

module _ (one two : Machine) (g : HeldMachine one) (h : HeldMachine two) where
  abbrev long : (m : Machine) → HeldMachine m → length (fields m) ≡ 16
  long m k = sixteen session session-is-ok (slot_pair_in m) k.good

  pub texts-fields : SameTexts one two → SameFields one two
  texts-fields t =
      let e : one.chip.version ≡ two.chip.version = same_versions session session-is-ok one.chip.version two.chip.version (length one.ram) (length two.ram) g.allowed h.allowed t.head in
      let f : fields one ≡ fields two =
      same_lines session session-is-ok one.chip.version 0 (fields one) (fields two) (long one g ∙ sym (long two h)) (omega (arith, long one g)) (fields_fit one g)
      (subst (λ (v : SguVersion). Every (FitVoice v) (fields two)) (sym e) (fields_fit two h)) (sym (lines_of one g) ∙ t.lines ∙ lines_of two h) in
      record {
        version = e;
        size = same-sizes session session-is-ok one.chip.version two.chip.version (length one.ram) (length two.ram) g.allowed h.allowed t.head;
        cores = cores-of one g ∙ ap split f ∙ sym (cores-of two h);
      }

  pub fields-texts : SameFields one two → SameTexts one two
  fields-texts f = record {
    head = ap₂ session.head_text f.version f.size;
    lines = lines-plain one g ∙ ap (λ (l : List (List PlainVoice)). (calls.seen_over plains session (record { version = one.chip.version; ram = one.ram; cores = l })).lines) f.cores ∙ sym (lines-plain two h);
  }
