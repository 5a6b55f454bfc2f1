-- The lines of a list, as the list plays them. Assumes nothing.
use Rattle.std.specs.Prelude.{Result, Ok, is_ok}
use mathlib.Core.Path.{◌≡◌, refl, sym, ap, ap₂, ◌∙◌, subst}
use mathlib.Core.Bool.{Bool, true, false, cond}
use mathlib.Core.List.{List, ◌∷◌, ◌++◌}
use Prim.Native.Nat.{ℕ, zero, suc, ◌+◌, ◌*◌, ◌-◌, ◌≤◌, ◌<◌, max}
use native.Mathlib.Omega.{arith}
use lib.Dec.{eqb}
use lib.IntN.{ℤ, pos, nat_abs}
use lib.ListN.{length, length-replicate, take, get_or, replicate}
use lib.Seq.{get_or-set_same, ext_get_or}
use borrow.Author.Tests.{eq-eqb, eqb-true}
use Rattle.num.proofs.Choice.{together}
use Rattle.sizes.specs.Sizes.{stems_per_frame}
use Rattle.cores.specs.Sizes.{chip_queues}
use Rattle.tone.specs.Pcm.{is_ram_length}
use Rattle.output.specs.declared.Output.{Output}
use Rattle.output.specs.Output.{Puts}
use Rattle.num.specs.Lists.{part}
use Rattle.sides.specs.Sides.{frames_in, added_to, wrapping}
use Rattle.sides.proofs.Added.{added-length}
use Rattle.frames.specs.declared.Asked.{Asked}
use Rattle.frames.specs.declared.Asked.TheVariants as asked
use Rattle.frames.specs.Listing.{asked_of, clocked_as, frames_asked, call_count}
use Rattle.frames.proofs.Counts.{zero-add, frames-within}
use Rattle.s3w2.specs.declared.Called.{Called}
use Rattle.s3w2.specs.declared.Returned.TheVariants.{Done}
use Rattle.s3w2.specs.declared.Chip.{Chip}
use Rattle.s3w2.specs.Answers.{Checked, done_unless, number_of, answered, byte_answered}
use Rattle.s3w2.specs.Refusals.{accepts_chip, refusal}
use Rattle.chip_lists.specs.Plays.{Playing, shown_by, playing, call_played, calls_played, play_refusal, all_played, play_called, play_left}
use Rattle.s3w2.proofs.Refused.{nothing-amiss}
use Rattle.log_lines.specs.declared.Line.{Line}
use Rattle.log_lines.specs.declared.LineFault.{LineFault}
use Rattle.log_lines.specs.Texts.{peak_of}
use Rattle.log_player.specs.Worlds.{World, world}
use Rattle.log_player.specs.Applied.{left_side, right_side, silent, Effect, effect_of}
use Rattle.log_player.specs.Runs.{refused_by}
use Rattle.log_player.specs.Batches.{line_of, lines_effect, most_printed, shown_line, calls_shown, Short, Silent, PlaysLines}
use Rattle.log_player.proofs.Places.{sets-at, zeros, part-long, part-at, Stands, side-stands, added-zeros}
use Rattle.log_player.proofs.Hearing.{buffer_of, heard_side, heard-left, heard-right, heard-long, heard-at, Moves, Roomy, own-silent, stems_made, stems-made, stems-put, read_at, peeked_at, moves, world_of, Own, one_line}

-- the largest of a part, behind those before it
peak-part : (before : ℕ) (side : List ℤ) (f c m : ℕ) → m ≤ c → peak_of (peak_of before side f) (part side f c) m ≡ peak_of before side (f + m)
unfolding peak_of
peak-part before side f c zero h = let e : f ≡ f + 0 = omega arith in ap (peak_of before side) e
peak-part before side f c (suc m) h =
    let e : suc (f + m) ≡ f + suc m = omega arith in
    ap₂ (λ (x : ℕ) (z : ℤ). max x (nat_abs z)) (peak-part before side f c m (omega arith)) (part-at side f c m h) ∙ ap (peak_of before side) e

module _ (kinds addresses values : List ℕ) (w : World) (stems others : List ℤ) (count : ℕ) (lots : count ≤ length values) (few : frames_asked kinds addresses 0 count ≤ 1000)
    (room : (second : Bool) → stems_per_frame * frames_asked kinds addresses 0 count ≤ length (cond second others stems)) (silence : (second : Bool) (k : ℕ) → get_or (cond second others stems) k (pos 0) ≡ pos 0) where
  abbrev pub s : ℕ → Playing
  s n = calls_played kinds addresses n (playing w.player.chip w.ram w.queues values stems others)

  -- core 1's stems after n calls, or core 0's
  abbrev S : Bool → ℕ → List ℤ
  S second n = buffer_of second (s n)

  S-first : (second : Bool) → S second 0 ≡ cond second others stems
  unfolding calls_played
  S-first true = refl
  S-first false = refl

  abbrev F : ℕ → ℕ
  F n = frames_asked kinds addresses 0 n

  abbrev asks : ℕ → Asked
  asks n = asked_of (get_or kinds n 0)

  abbrev a : ℕ → ℕ
  a n = get_or addresses n 0

  abbrev c : ℕ → ℕ
  c n = clocked_as (asks n) (a n)

  frames-next : (n : ℕ) → F (suc n) ≡ F n + c n
  unfolding frames_asked
  frames-next n = ap (λ (k : ℕ). F n + clocked_as (asked_of (get_or kinds k 0)) (get_or addresses k 0)) (sym (zero-add n))

  -- ---- before call n
  pub record Before (n : ℕ) : Type 0 where
    pub frames : (s n).frames ≡ F n
    pub many : length (s n).values ≡ length values
    pub long : (second : Bool) → length (buffer_of second (s n)) ≡ length (cond second others stems)
    pub values-ahead : (i : ℕ) → n ≤ i → get_or (s n).values i 0 ≡ get_or values i 0
    pub stems-ahead : (second : Bool) (k : ℕ) → stems_per_frame * F n ≤ k → get_or (buffer_of second (s n)) k (pos 0) ≡ pos 0

  roomy : (n : ℕ) → n < count → Before n → Roomy kinds addresses (c n) (s n)
  roomy n h b =
      let w = frames-within kinds addresses 0 (suc n) count h in
      let f = frames-next n in
      record {
        few = omega (arith, few, w, f);
        room = λ t. omega (arith, b.frames, b.long t, room t, w, f);
        ahead = λ t k q. b.stems-ahead t k (omega (arith, q, b.frames));
      }

  moved : (n : ℕ) → n < count → Before n → Moves (c n) n (s n) (s (suc n))
  unfolding calls_played
  moved n h b = moves kinds addresses (asks n) n (s n) (roomy n h b)

  before-next : (n : ℕ) → n < count → Before n → Before (suc n)
  before-next n h b =
      let m = moved n h b in
      let f = frames-next n in
      record {
        frames = omega (arith, m.frames, b.frames, f);
        many = m.many ∙ b.many;
        long = λ t. m.long t ∙ b.long t;
        values-ahead = λ i q. m.values i (λ e. absurd (omega arith)) ∙ b.values-ahead i (omega arith);
        stems-ahead = λ t k q. m.above t k (omega (arith, q, f, b.frames)) ∙ b.stems-ahead t k (omega (arith, q, f));
      }

  pub before : (n : ℕ) → n ≤ count → Before n
  unfolding calls_played frames_asked
  before zero h = record {
    frames = refl;
    many = refl;
    long = λ t. ap length (S-first t);
    values-ahead = λ i q. refl;
    stems-ahead = λ t k q. ap (λ (l : List ℤ). get_or l k (pos 0)) (S-first t) ∙ silence t k;
  }
  before (suc n) h = before-next n h (before n (omega arith))

  -- ---- what a call has left stays
  stems-stay : (second : Bool) (n m : ℕ) → n + m ≤ count → (k : ℕ) → k < stems_per_frame * F n → get_or (S second (n + m)) k (pos 0) ≡ get_or (S second n) k (pos 0)
  stems-stay t n zero h k l = let e : n + 0 ≡ n = omega arith in ap (λ (j : ℕ). get_or (S t j) k (pos 0)) e
  stems-stay t n (suc m) h k l =
      let e : n + suc m ≡ suc (n + m) = omega arith in
      let b = before (n + m) (omega arith) in
      ap (λ (j : ℕ). get_or (S t j) k (pos 0)) e
      ∙ (moved (n + m) (omega arith) b).below t k (omega (arith, l, b.frames, frames-within kinds addresses 0 n (n + m) (omega arith)))
      ∙ stems-stay t n m (omega arith) k l

  values-stay : (n m : ℕ) → n + m ≤ count → (i : ℕ) → i < n → get_or (s (n + m)).values i 0 ≡ get_or (s n).values i 0
  values-stay n zero h i l = let e : n + 0 ≡ n = omega arith in ap (λ (j : ℕ). get_or (s j).values i 0) e
  values-stay n (suc m) h i l =
      let e : n + suc m ≡ suc (n + m) = omega arith in
      ap (λ (j : ℕ). get_or (s j).values i 0) e
      ∙ (moved (n + m) (omega arith) (before (n + m) (omega arith))).values i (λ q. absurd (omega arith))
      ∙ values-stay n m (omega arith) i l

  abbrev pub bytes : List ℕ
  bytes = (s count).values

  last-stems : (second : Bool) (n : ℕ) → n < count → (k : ℕ) → k < stems_per_frame * F (suc n) → get_or (S second count) k (pos 0) ≡ get_or (S second (suc n)) k (pos 0)
  last-stems t n h k l =
      let e : count ≡ suc n + (count - suc n) = omega arith in
      ap (λ (j : ℕ). get_or (S t j) k (pos 0)) e ∙ stems-stay t (suc n) (count - suc n) (omega arith) k l

  last-values : (n : ℕ) → n < count → get_or bytes n 0 ≡ get_or (s (suc n)).values n 0
  last-values n h =
      let e : count ≡ suc n + (count - suc n) = omega arith in
      ap (λ (j : ℕ). get_or (s j).values n 0) e ∙ values-stay (suc n) (count - suc n) (omega arith) n (omega arith)

  -- the byte that call n shows
  shows-byte : (n : ℕ) → n < count → (t : Asked) (x : Called) → call_played kinds addresses t n (s n) ≡ shown_by (s n) n x → asks n ≡ t → get_or bytes n 0 ≡ byte_answered x.answer
  unfolding calls_played
  shows-byte n h t x is e =
      last-values n h ∙ ap (λ (t : Asked). get_or (call_played kinds addresses t n (s n)).values n 0) e ∙ ap (λ (p : Playing). get_or p.values n 0) is
      ∙ get_or-set_same (s n).values n (byte_answered x.answer) 0 (omega (arith, h, lots, (before n (omega arith)).many))

  -- ---- the sides that the stems add up to: the left one (hand 0), the right one (hand 1)
  abbrev pub side : ℕ → List ℤ
  side hand = added_to wrapping (F count) (s count).stems (s count).others hand 0 (replicate (F count) (pos 0))

  pub side-long : (hand : ℕ) → length (side hand) ≡ F count
  side-long hand = added-length wrapping (s count).stems (s count).others hand 0 (replicate (F count) (pos 0)) (F count) ∙ length-replicate (F count) (pos 0)

  -- a clock's own
  module _ (n : ℕ) (h : n < count) (e : asks n ≡ asked.Clock) where
    b : Before n
    b = before n (omega (arith, h))

    many : c n ≡ a n
    many = ap (λ (t : Asked). clocked_as t (a n)) e

    q : Roomy kinds addresses (a n) (s n)
    q = subst (λ (k : ℕ). Roomy kinds addresses k (s n)) many (roomy n h b)

    abbrev made : Bool → List ℤ
    made second = stems_made kinds addresses (s n) (a n) q second

    own-stems : (second : Bool) → Stands (F n) (a n) (S second count) (made second)
    unfolding calls_played
    own-stems t k l =
        let f = frames-next n in
        let g = stems-made kinds addresses (s n) (a n) q t in
        let i : stems_per_frame * F n + k ≡ stems_per_frame * (s n).frames + k = omega (arith, b.frames) in
        last-stems t n h (stems_per_frame * F n + k) (omega (arith, l, f, many))
        ∙ ap (λ (x : Asked). get_or (buffer_of t (call_played kinds addresses x n (s n))) (stems_per_frame * F n + k) (pos 0)) e
        ∙ ap₂ (λ (x : List ℤ) (j : ℕ). get_or x j (pos 0)) (stems-put kinds addresses (s n) (a n) q t) i
        ∙ sets-at (pos 0) (made t) (buffer_of t (s n)) (stems_per_frame * (s n).frames) k (omega (arith, l, g)) (omega (arith, g, q.room t))

    module _ (hand : ℕ) (low : hand ≤ 1) where
      abbrev its : List ℤ
      its = heard_side (s n).chip (s n).ram (s n).queues (a n) q.few hand

      own-side : part (side hand) (F n) (c n) ≡ its
      own-side =
          let w = frames-within kinds addresses 0 (suc n) count h in
          let f = frames-next n in
          let l = part-long (side hand) (F n) (c n) (omega (arith, w, f, side-long hand)) in
          ext_get_or (pos 0) (part (side hand) (F n) (c n)) its (l ∙ many ∙ sym (heard-long (s n).chip (s n).ram (s n).queues (a n) q.few hand))
          (λ i m.
          let small : i < a n = omega (arith, m, l, many) in
          part-at (side hand) (F n) (c n) i (omega (arith, m, l))
          ∙ added-zeros wrapping (s count).stems (s count).others hand (F count) (F count) (F n + i) (omega (arith, small, many, w, f)) (omega arith)
          ∙ ap (wrapping (pos 0))
          (side-stands (F n) (a n) i hand low small (s count).stems (s count).others (made false) (made true) (own-stems false) (own-stems true) (omega (arith, w, f, many, room true, (before count (omega arith)).long true)) (stems-made kinds addresses (s n) (a n) q true))
          ∙ sym (heard-at (s n).chip (s n).ram (s n).queues (a n) q.few hand _ _ (own-silent kinds addresses (s n) (a n) q false) (own-silent kinds addresses (s n) (a n) q true) i small))

    own-left : part (side 0) (F n) (c n) ≡ left_side (s n).chip (s n).ram (s n).queues (silent (a n)) (silent (a n))
    own-left = own-side 0 (omega arith) ∙ sym (heard-left (s n).chip (s n).ram (s n).queues (a n) q.few)

    own-right : part (side 1) (F n) (c n) ≡ right_side (s n).chip (s n).ram (s n).queues (silent (a n)) (silent (a n))
    own-right = own-side 1 (omega arith) ∙ sym (heard-right (s n).chip (s n).ram (s n).queues (a n) q.few)

  abbrev L : List ℤ
  L = side 0

  abbrev R : List ℤ
  R = side 1

  owns : (n : ℕ) → n < count → Own kinds addresses (asks n) n (s n) (part L (F n) (c n)) (part R (F n) (c n)) (get_or bytes n 0)
  owns n h = record { reads = shows-byte n h asked.Read (read_at kinds addresses n (s n)) refl; peeks = shows-byte n h asked.Peek (peeked_at kinds addresses n (s n)) refl; lefts = own-left n h; rights = own-right n h }

  -- ---- THE LINES: after n of them
  abbrev heard_to : ℕ → Effect
  heard_to n = record {
    after = world_of kinds addresses (s n) (peak_of w.player.left L (F n)) (peak_of w.player.right R (F n));
    text = calls_shown kinds addresses bytes L R n;
  }

  abbrev line : ℕ → Result Line LineFault
  line n = line_of (get_or kinds n 0) (a n) (get_or values n 0)

  abbrev next : ℕ → Effect → Effect
  next n b = record { after = (effect_of b.after (line n)).after; text = b.text ++ (effect_of b.after (line n)).text }

  heard-next : (n : ℕ) → n < count → next n (heard_to n) ≡ heard_to (suc n)
  unfolding calls_played calls_shown shown_line line_of
  heard-next n h =
      let b = before n (omega (arith, h)) in
      let f = sym (frames-next n) in
      let l = w.player.left in
      let r = w.player.right in
      let xl = part L (F n) (c n) in
      let xr = part R (F n) (c n) in
      ap (λ (e : Effect). record { after = e.after; text = calls_shown kinds addresses bytes L R n ++ e.text })
      (one_line kinds addresses n (s n) (peak_of l L (F n)) (peak_of r R (F n)) (get_or values n 0) (get_or bytes n 0) xl xr (asks n) (roomy n h b) (b.values-ahead n (omega arith)) (owns n h))
      ∙ (λ i. record {
        after = world_of kinds addresses (s (suc n)) ((peak-part l L (F n) (c n) (c n) (omega arith) ∙ ap (peak_of l L) f) i) ((peak-part r R (F n) (c n) (c n) (omega arith) ∙ ap (peak_of r R) f) i);
        text = calls_shown kinds addresses bytes L R (suc n);
      })

  pub heard-lines : (n : ℕ) → n ≤ count → lines_effect kinds addresses values n w
      ≡ record {
        after = world_of kinds addresses (s n) (peak_of w.player.left (side 0) (frames_asked kinds addresses 0 n)) (peak_of w.player.right (side 1) (frames_asked kinds addresses 0 n));
        text = calls_shown kinds addresses bytes (side 0) (side 1) n;
      }
  unfolding lines_effect calls_played frames_asked peak_of calls_shown
  heard-lines zero h = refl
  heard-lines (suc n) h = ap (next n) (heard-lines n (omega arith)) ∙ heard-next n h

-- ---- buffers of zeros
take-zeros : (n m : ℕ) → n ≤ m → take n (replicate m (pos 0)) ≡ replicate n (pos 0)
take-zeros zero m h = refl
take-zeros (suc n) zero h = absurd (omega arith)
take-zeros (suc n) (suc m) h = ap (λ (l : List ℤ). pos 0 ∷ l) (take-zeros n m (omega arith))

pub silent-buffers :
    (kinds addresses values : List ℕ) (f most stems : ℕ) → (length addresses ≡ length kinds) × (length values ≡ length kinds) × (f ≡ frames_asked kinds addresses 0 (length kinds)) × (f ≤ most) → f ≤ 1000 → stems ≡ stems_per_frame * most →
    Silent kinds addresses values (take (stems_per_frame * f) (replicate stems (pos 0))) (take (stems_per_frame * f) (replicate stems (pos 0))) (take f (replicate most (pos 0))) (take f (replicate most (pos 0)))
silent-buffers kinds addresses values f most stems h few e =
    let n = h.2 in
    let side = take-zeros f most h.3 ∙ ap (λ (k : ℕ). replicate k (pos 0)) n in
    let stemmed = take-zeros (stems_per_frame * f) stems (omega (arith, e, h.3)) ∙ ap (λ (k : ℕ). replicate (stems_per_frame * k) (pos 0)) n in
    record {
      many = (h.0, h.1);
      few = omega (arith, few, n);
      stemmed = stemmed;
      second = stemmed;
      lefts = side;
      rights = side;
    }

-- ---- a world whose calls are not refused
pub record Accepted (w : World) : Type 0 where
  pub allowed : is_ram_length (length w.ram) ≡ true
  pub lent : length w.queues ≡ chip_queues
  pub accepted : accepts_chip w.player.chip (length w.ram) ≡ true

module _ (w : World) where
  abbrev fine : Bool → Bool → Bool → Type 0
  fine ram queues state = (ram ≡ true) × (queues ≡ true) × (state ≡ true)

  no_number : (ram queues state : Bool) → get_or (number_of (refusal ram queues state true)) 0 0 ≡ 0 → fine ram queues state
  unfolding refusal
  no_number true true true e = (refl, refl, refl)
  no_number true true false e = absurd (omega (arith, e))
  no_number true false state e = absurd (omega (arith, e))
  no_number false queues state e = absurd (omega (arith, e))

  pub accepted-of : refused_by w ≡ 0 → Accepted w
  unfolding refused_by
  accepted-of e =
      let f = no_number (is_ram_length (length w.ram)) (eqb (length w.queues) chip_queues) (accepts_chip w.player.chip (length w.ram)) e in
      record { allowed = f.0; lent = eqb-true (length w.queues) chip_queues f.1; accepted = f.2 }

  pub of-accepted : Accepted w → refused_by w ≡ 0
  unfolding refused_by
  of-accepted f =
      ap (λ (r : Checked). get_or (number_of r) 0 0)
      (sym (nothing-amiss (is_ram_length (length w.ram)) (eqb (length w.queues) chip_queues) (accepts_chip w.player.chip (length w.ram)) true f.allowed (eq-eqb (length w.queues) chip_queues f.lent) f.accepted refl))

-- ---- a list played over silent buffers
module _ (kinds addresses values : List ℕ) (w : World) (stems others left right : List ℤ) (ok : refused_by w ≡ 0) (z : Silent kinds addresses values stems others left right) where
  abbrev N : ℕ
  N = length kinds

  abbrev all : ℕ
  all = frames_asked kinds addresses 0 (length kinds)

  abbrev start : Playing
  start = playing w.player.chip w.ram w.queues values stems others

  stems-many : length stems ≡ stems_per_frame * all
  stems-many = ap length z.stemmed ∙ length-replicate (stems_per_frame * all) (pos 0)

  pub lots : length kinds ≤ length values
  lots = omega (arith, z.many.1)

  others-many : length others ≡ stems_per_frame * all
  others-many = ap length z.second ∙ length-replicate (stems_per_frame * all) (pos 0)

  pub room : (second : Bool) → stems_per_frame * frames_asked kinds addresses 0 (length kinds) ≤ length (cond second others stems)
  room true = omega (arith, others-many)
  room false = omega (arith, stems-many)

  pub silence : (second : Bool) (k : ℕ) → get_or (cond second others stems) k (pos 0) ≡ pos 0
  silence true k = ap (λ (l : List ℤ). get_or l k (pos 0)) z.second ∙ zeros (stems_per_frame * all) k
  silence false k = ap (λ (l : List ℤ). get_or l k (pos 0)) z.stemmed ∙ zeros (stems_per_frame * all) k

  counts : call_count kinds addresses values ≡ N
  counts = omega (arith, z.many.0, z.many.1)

  pub goes : is_ok (play_refusal kinds addresses start) ≡ true
  goes =
      let f = accepted-of w ok in
      let n : length stems ≡ stems_per_frame * frames_asked kinds addresses 0 (call_count kinds addresses values) = stems-many ∙ ap (λ (k : ℕ). stems_per_frame * frames_asked kinds addresses 0 k) (sym counts) in
      let m : length others ≡ length stems = others-many ∙ sym stems-many in
      let enough = eq-eqb (length stems) (stems_per_frame * frames_asked kinds addresses 0 (call_count kinds addresses values)) n in
      ap is_ok (sym (nothing-amiss _ _ _ _ f.allowed (eq-eqb (length w.queues) chip_queues f.lent) f.accepted (together _ _ enough (eq-eqb (length others) (length stems) m))))

  abbrev last : Playing
  last = calls_played kinds addresses N start

  left_is : play_left kinds addresses start ≡ last
  unfolding play_left
  left_is = ap (λ (b : Bool). cond b (all_played kinds addresses start) start) goes ∙ ap (λ (n : ℕ). calls_played kinds addresses n start) counts

  chip-is : (play_called kinds addresses start).chip ≡ last.chip
  unfolding play_called
  chip-is =
      ap (λ (b : Bool). (cond b (answered (all_played kinds addresses start).chip (Ok Done)) (answered w.player.chip (done_unless (play_refusal kinds addresses start)))).chip) goes
      ∙ ap (λ (n : ℕ). (calls_played kinds addresses n start).chip) counts

  abbrev heard_on : ℕ → List ℤ
  heard_on hand = side kinds addresses values w stems others (length kinds) lots z.few room silence hand

  module _ (stems' others' : List ℤ) (e : stems' ≡ (play_left kinds addresses start).stems) (g : others' ≡ (play_left kinds addresses start).others) where
    stems-are : stems' ≡ last.stems
    stems-are = e ∙ ap (λ (p : Playing). p.stems) left_is

    others-are : others' ≡ last.others
    others-are = g ∙ ap (λ (p : Playing). p.others) left_is

    frames-in : frames_in (length stems') (length left) (length right) 0 ≡ all
    unfolding frames_in
    frames-in =
        let b = (before kinds addresses values w stems others (length kinds) lots z.few room silence N (omega arith)).long false in
        let l = ap length z.lefts ∙ length-replicate all (pos 0) in
        let r = ap length z.rights ∙ length-replicate all (pos 0) in
        omega (arith, ap length stems-are, b, stems-many, l, r)

    pub sides-are : (hand : ℕ) (x y : List ℤ) → y ≡ replicate (frames_asked kinds addresses 0 (length kinds)) (pos 0) → x ≡ added_to wrapping (frames_in (length stems') (length left) (length right) 0) stems' others' hand 0 y → x ≡ heard_on hand
    sides-are hand x y ey ex =
        ex ∙ ap (λ (n : ℕ). added_to wrapping n stems' others' hand 0 y) frames-in
        ∙ (λ i. added_to wrapping all (stems-are i) (others-are i) hand 0 (ey i))

  module _ (chip : Chip) (ram : List ℕ) (queues : List ℤ) (values' : List ℕ) (l r : List ℤ) (pl pr : ℕ) (out now : Output) where
    pub plays-lines :
        chip ≡ (play_called kinds addresses (playing w.player.chip w.ram w.queues values stems others)).chip → ram ≡ (play_left kinds addresses (playing w.player.chip w.ram w.queues values stems others)).ram →
        queues ≡ (play_left kinds addresses (playing w.player.chip w.ram w.queues values stems others)).queues → values' ≡ (play_left kinds addresses (playing w.player.chip w.ram w.queues values stems others)).values →
        l ≡ heard_on 0 → r ≡ heard_on 1 → pl ≡ peak_of w.player.left l (length l) → pr ≡ peak_of w.player.right r (length r) →
        Puts out now (calls_shown kinds addresses values' l r (length kinds)) → Short kinds addresses values' l r (length kinds) →
        length ram ≡ length w.ram → length queues ≡ length w.queues → (accepts_chip w.player.chip (length w.ram) ≡ true → accepts_chip chip (length w.ram) ≡ true) →
        PlaysLines kinds addresses values w (world (record { chip = chip; left = pl; right = pr }) ram queues) out now
    plays-lines ec em eq ev el er epl epr put short lm lq kept = record {
      after = (λ i. world (record { chip = (ec ∙ chip-is) i; left = (epl ∙ ap₂ (peak_of w.player.left) el long-left) i; right = (epr ∙ ap₂ (peak_of w.player.right) er long-right) i }) ((em ∙ ap (λ (p : Playing). p.ram) left_is) i) ((eq ∙ ap (λ (p : Playing). p.queues) left_is) i)) ∙ sym (ap (λ (x : Effect). x.after) (lines N (omega arith)));
      put = subst (Puts out now) (texts N (omega arith)) put;
      short = λ j h. subst (λ (t : List ℕ). length t ≤ most_printed kinds addresses j) (texts j h) (short j h);
      accepted = of-accepted (world (record { chip = chip; left = pl; right = pr }) ram queues) (record { allowed = ap is_ram_length lm ∙ f.allowed; lent = lq ∙ f.lent; accepted = ap (accepts_chip chip) lm ∙ kept f.accepted });
    }
      where
        f : Accepted w
        f = accepted-of w ok

        lines : (n : ℕ) → n ≤ N → lines_effect kinds addresses values n w ≡ record { after = world_of kinds addresses (calls_played kinds addresses n start) (peak_of w.player.left (heard_on 0) (frames_asked kinds addresses 0 n)) (peak_of w.player.right (heard_on 1) (frames_asked kinds addresses 0 n)); text = calls_shown kinds addresses last.values (heard_on 0) (heard_on 1) n }
        lines n h = heard-lines kinds addresses values w stems others (length kinds) lots z.few room silence n h

        texts : (n : ℕ) → n ≤ N → calls_shown kinds addresses values' l r n ≡ (lines_effect kinds addresses values n w).text
        texts n h = (λ i. calls_shown kinds addresses ((ev ∙ ap (λ (p : Playing). p.values) left_is) i) (el i) (er i) n) ∙ sym (ap (λ (x : Effect). x.text) (lines n h))

        long-left : length l ≡ all
        long-left = ap length el ∙ side-long kinds addresses values w stems others (length kinds) lots z.few room silence 0

        long-right : length r ≡ all
        long-right = ap length er ∙ side-long kinds addresses values w stems others (length kinds) lots z.few room silence 1
