-- What is written of a voice is read back as the same voice, and tells it from others. Assumes nothing.
use mathlib.Core.Path.{◌≡◌, refl, sym, ap, ◌∙◌}
use mathlib.Core.Bool.{Bool, false, cond}
use mathlib.Core.List.{List, [], ◌∷◌, ◌++◌, map, append_assoc}
use Prim.Native.Nat.{ℕ, ◌≤◌, ◌<◌, min}
use native.Mathlib.Omega.{arith}
use lib.Dec.{ltb}
use lib.IntN.{ℤ}
use lib.ListN.{length, length-append}
use mir.Syntax.{w16}
use mir.Val.{of_z}
use Rattle.sizes.specs.Sizes.{fifo_capacity}
use Rattle.cores.specs.Sizes.{chip_voices}
use Rattle.num.proofs.Choice.{never}
use Rattle.line_fields.specs.Table.{most_of}
use Rattle.line_fields.specs.Text.{line_text}
use Rattle.line_fields.specs.Reading.{read_line}
use Rattle.line_fields.proofs.Trip.{trip}
use Rattle.line_fields.proofs.Ranges.{most-count}
use Rattle.version.specs.Versions.{has3ws8pna}
use Rattle.version.specs.declared.SguVersion.{SguVersion}
use Rattle.version.specs.declared.SguVersion.TheVariants.{V3_1}
use Rattle.registers.specs.Queue.{QuietFifo, allows_fifo}
use Rattle.registers.proofs.Accepted.{quiet-allowed}
use Rattle.voice.specs.declared.Channel.{Channel}
use Rattle.session_lines.specs.Numbers.{at, state_numbers, table_numbers, queue_numbers, field_numbers, queued_of, fifo_of, channel_from}
use Rattle.session_lines.specs.Lines.{NumberedVoice, voice, queued, voice_of, queue_told, voice_taken, voice_from, read_as, read_voice, voice_text, session_of}
use Rattle.session_lines.proofs.Storing.{size-table, size-queue}
use Rattle.session_lines.proofs.Whole.{text-is, size-states}
use Rattle.session_lines.proofs.Back.{Whole, fields_back}
use Rattle.session_lines.proofs.Inside.{InRange, inside}

-- ---- a voice's numbers as 281 fields, the count and the samples
pub size-first : (number : ℕ) (c : Channel) (w : List ℕ) → length (state_numbers number c ++ table_numbers w) ≡ 281
size-first number c w = length-append (state_numbers number c) (table_numbers w) ∙ omega (arith, size-states number c, size-table w)

pub count_most : (fifo : Bool) (n : ℕ) → min n fifo_capacity ≤ most_of fifo 281
count_most fifo n = rw (most-count fifo 281 refl) (omega arith)

pub in_parts : (number : ℕ) (c : Channel) (w : List ℕ) (q : List ℤ) → number < chip_voices
    → voice_text number c w q ≡ line_text ((state_numbers number c ++ table_numbers w) ++ (min c.fifo.count fifo_capacity ∷ map (of_z w16) (queued_of c.fifo q)))
unfolding field_numbers queue_numbers
in_parts number c w q h = text-is number c w q h ∙ ap line_text (sym (append_assoc (state_numbers number c) (table_numbers w) (min c.fifo.count fifo_capacity ∷ map (of_z w16) (queued_of c.fifo q))))

-- the line is read back as the numbers that were written
numbers-back : (version : SguVersion) (number : ℕ) (c : Channel) (w : List ℕ) (q : List ℤ) → InRange version number c w q
    → read_voice version (voice_text number c w q) ≡ voice_taken version (at (field_numbers number c w q)) (fifo_of (at (field_numbers number c w q)))
unfolding read_as queue_told field_numbers queue_numbers
numbers-back version number c w q r =
    let fifo = has3ws8pna version in
    let S = state_numbers number c in
    let T = table_numbers w in
    let n = min c.fifo.count fifo_capacity in
    let Q = map (of_z w16) (queued_of c.fifo q) in
    ap (λ (t : List ℕ). voice_from false version (read_line fifo t)) (in_parts number c w q r.voice)
    ∙ ap (voice_from false version) (trip fifo (S ++ T) n Q (size-first number c w) (size-queue q c.fifo.head n) r.first (count_most fifo c.fifo.count) r.samples)
    ∙ ap (λ (l : List ℕ). voice_taken version (at l) (fifo_of (at l))) (append_assoc S T (n ∷ Q))

-- a queue that the version has is taken
taken_is : (version : SguVersion) (v : NumberedVoice) → (has3ws8pna version ≡ false → QuietFifo v.channel.fifo) → cond (allows_fifo version v.channel.fifo) (voice v) queued ≡ voice v
taken_is version v quiet = ap (λ (b : Bool). cond b (voice v) queued) (quiet-allowed version v.channel.fifo quiet)

numbers-taken : (version : SguVersion) (f : ℕ → ℕ) (v : NumberedVoice) → voice_of f (fifo_of f) ≡ v → voice_taken version f (fifo_of f) ≡ cond (allows_fifo version v.channel.fifo) (voice v) queued
unfolding voice_of channel_from
numbers-taken version f v e = ap (λ (x : NumberedVoice). cond (allows_fifo version x.channel.fifo) (voice x) queued) e

-- THE ROUND TRIP of a voice: an accepted, fitting voice is read back as its session's fields
pub voice-back : (version : SguVersion) (number : ℕ) (c : Channel) (w : List ℕ) (q : List ℤ) → number < chip_voices → Whole version c w q → read_voice version (voice_text number c w q) ≡ voice (session_of number c w q)
voice-back version number c w q h r =
    numbers-back version number c w q (inside version number c w q h r)
    ∙ numbers-taken version (at (field_numbers number c w q)) (session_of number c w q) (fields_back version number c w q r)
    ∙ taken_is version (session_of number c w q) (λ e. let z = r.queue.quiet e in record { held = z.held; hold = z.hold; sub = z.sub; latch = z.latch; count = z.count })

-- ---- two voices have the same text exactly when they have the same session's fields

-- the text of a session's fields
abbrev text_of : NumberedVoice → List ℕ
text_of v = cond (ltb v.number chip_voices) (line_text (state_numbers v.number v.channel ++ (table_numbers v.wavetable ++ (min v.channel.fifo.count fifo_capacity ∷ map (of_z w16) v.samples)))) []

text-of : (number : ℕ) (c : Channel) (w : List ℕ) (q : List ℤ) → voice_text number c w q ≡ text_of (session_of number c w q)
unfolding voice_text field_numbers state_numbers queue_numbers
text-of number c w q = refl

pub same-text : (number second : ℕ) (c d : Channel) (w v : List ℕ) (q p : List ℤ) → session_of number c w q ≡ session_of second d v p → voice_text number c w q ≡ voice_text second d v p
same-text number second c d w v q p e = text-of number c w q ∙ ap text_of e ∙ sym (text-of second d v p)

-- a voice in range under a version is in range under V3.1
under-newest : {version : SguVersion} {c : Channel} {w : List ℕ} {q : List ℤ} → Whole version c w q → Whole V3_1 c w q
under-newest r = record {
  registers = r.registers;
  accepted = record { target = r.accepted.target; mode = r.accepted.mode; fifo = λ e. refl };
  pcm = r.pcm;
  addresses = r.addresses;
  oscillator = r.oscillator;
  slew = r.slew;
  fifo = r.fifo;
  queue = record { ranges = r.queue.ranges; quiet = λ e. never e };
  entries = r.entries;
  bytes = r.bytes;
  table = r.table;
}

pub same-fields : (version other : SguVersion) (number second : ℕ) (c d : Channel) (w v : List ℕ) (q p : List ℤ) → number < chip_voices → second < chip_voices → Whole version c w q → Whole other d v p → voice_text number c w q ≡ voice_text second d v p → session_of number c w q ≡ session_of second d v p
same-fields version other number second c d w v q p h k r s e =
    let x : voice (session_of number c w q) ≡ voice (session_of second d v p) = sym (voice-back V3_1 number c w q h (under-newest r)) ∙ ap (read_voice V3_1) e ∙ voice-back V3_1 second d v p k (under-newest s) in
    cc

pub same-voice : (version other : SguVersion) (number second : ℕ) (c d : Channel) (w v : List ℕ) (q p : List ℤ) → number < chip_voices → second < chip_voices → Whole version c w q → Whole other d v p
    → (voice_text number c w q ≡ voice_text second d v p → session_of number c w q ≡ session_of second d v p) × (session_of number c w q ≡ session_of second d v p → voice_text number c w q ≡ voice_text second d v p)
same-voice version other number second c d w v q p h k r s = (same-fields version other number second c d w v q p h k r s, same-text number second c d w v q p)
