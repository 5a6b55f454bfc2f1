-- Lines of an input gathered, one more at a time. Assumes nothing.
use Rattle.std.specs.Prelude.{Result, Ok, Some, None, Err}
use mathlib.Core.Path.{◌≡◌, refl, sym, ap, ap₂, ◌∙◌, subst}
use mathlib.Core.Bool.{Bool, true, false, cond}
use mathlib.Core.List.{List, [], ◌++◌, append_assoc, append-nil}
use Prim.Native.Nat.{ℕ, zero, suc, ◌+◌, ◌*◌, ◌-◌, ◌≤◌, ◌<◌, min}
use native.Mathlib.Numerals.{add-one}
use native.Mathlib.Omega.{arith}
use lib.Dec.{eqb, leb}
use lib.IntN.{ℤ}
use lib.ListN.{length, take, drop, get_or, set, length-take, length-drop, length-append}
use lib.Seq.{get_or-set_same, get_or-set_other, get_or-take, length-take-le}
use borrow.Author.Tests.{eq-eqb, ne_eqb}
use Rattle.num.specs.Lists.{part}
use Rattle.num.proofs.Choice.{never}
use Rattle.output.specs.declared.Output.{Output}
use Rattle.output.specs.Output.{Puts}
use Rattle.output.proofs.Writing.{puts-append, puts-none}
use Rattle.frames.specs.declared.Asked.{Asked}
use Rattle.frames.specs.declared.Asked.TheVariants as asked
use Rattle.frames.specs.Listing.{write_register_kind, write_pcm_ram_kind, set_version_kind, asked_of, clocked_as, clocked_by, frames_asked}
use Rattle.frames.proofs.Counts.{zero-add, frames-more, frames-within, grown}
use Rattle.log_lines.specs.declared.Line.{Line}
use Rattle.log_lines.specs.declared.Line.TheVariants.{Write, WriteRam, Read, Peek, Clock, Version}
use Rattle.log_lines.specs.declared.LineFault.{LineFault}
use Rattle.log_lines.specs.declared.LineFault.TheVariants.{Malformed}
use Rattle.log_lines.specs.Lines.{parsed_line, is_bad}
use Rattle.log_lines.specs.Texts.{frame_lines, read_back_line}
use Rattle.log_lines.proofs.Bytes.{FitLine, line-fits}
use Rattle.log_player.specs.declared.ListedCall.{ListedCall}
use Rattle.log_player.specs.declared.Stop.TheVariants.{Bad}
use Rattle.log_player.specs.Worlds.{World}
use Rattle.log_player.specs.Applied.{Effect, effect_of, after_line, printed}
use Rattle.log_player.specs.Steps.{line_found, first_line, next_of}
use Rattle.log_player.specs.Runs.{spot, is_line, run_from, refused_by}
use Rattle.log_player.specs.Batches.{line_call, listed_call, line_of, lines_effect, most_printed, shown_as, shown_line, calls_shown, Short, Gathers, NoLine, PlaysLines, Batches}
use Rattle.log_player.proofs.Stops.{first_short, next-line}
use Rattle.log_player.proofs.Spots.{plays-line, run-next}
use Rattle.log_player.proofs.Rooms.{room-is}

-- ---- a line and its call
pub line-back : (l : Line) → line_of (line_call l).kind (line_call l).address (line_call l).value ≡ Ok l
unfolding line_of asked_of
line-back (Write a v) = refl
line-back (WriteRam a v) = refl
line-back (Read a) = refl
line-back (Peek a) = refl
line-back (Clock n) = refl
line-back (Version v) = refl

pub few-frames : (l : Line) → FitLine (Ok l) → clocked_as (asked_of (line_call l).kind) (line_call l).address ≤ 1000
unfolding asked_of
few-frames (Write a v) f = omega arith
few-frames (WriteRam a v) f = omega arith
few-frames (Read a) f = omega arith
few-frames (Peek a) f = omega arith
few-frames (Clock n) f = f
few-frames (Version v) f = omega arith

-- the line that a listed call is made of, and why there is none
pub record Made (text : List ℕ) (made : ListedCall) : Type 0 where
  pub line : Line
  pub is : Ok line ≡ parsed_line text
  pub call : made ≡ line_call line

pub call-made : (text : List ℕ) (parsed : Result Line LineFault) (answer : Result ListedCall LineFault) (made : ListedCall) → parsed ≡ parsed_line text → answer ≡ listed_call parsed → answer ≡ Ok made → Made text made
call-made text (Ok line) answer made p e m = record { line = line; is = p; call = (let z : Ok made ≡ Ok (line_call line) = sym m ∙ e in cc) }
call-made text (Err why) answer made p e m = absurd (let z : Ok made ≡ Err why = sym m ∙ e in let y : ◌≡◌ {A = ℕ} 0 1 = cc in omega arith)

pub call-bad : (text : List ℕ) (parsed : Result Line LineFault) (answer : Result ListedCall LineFault) (why : LineFault) → parsed ≡ parsed_line text → answer ≡ listed_call parsed → answer ≡ Err why → Err why ≡ parsed_line text
call-bad text (Ok line) answer why p e m = absurd (let z : Err why ≡ Ok (line_call line) = sym m ∙ e in let y : ◌≡◌ {A = ℕ} 0 1 = cc in omega arith)
call-bad text (Err fault) answer why p e m = (let z : Err why ≡ Err fault = sym m ∙ e in let y : why ≡ fault = cc in ap (λ (f : LineFault). Err f) y) ∙ p

pub call-none : (text : List ℕ) (parsed : Result Line LineFault) (answer : Result ListedCall LineFault) (why : LineFault) → parsed ≡ parsed_line text → answer ≡ listed_call parsed → answer ≡ Err why → is_bad (parsed_line text) ≡ true
call-none text parsed answer why p e m = ap is_bad (sym (call-bad text parsed answer why p e m))

pub call-few : (text : List ℕ) (made : ListedCall) {n : ℕ} → Made text made → n ≡ clocked_as (asked_of made.kind) made.address → n ≤ 1000
call-few text made m e =
    subst (λ (k : ℕ). k ≤ 1000) (sym (e ∙ ap (λ (x : ListedCall). clocked_as (asked_of x.kind) x.address) m.call)) (few-frames m.line (subst FitLine (sym m.is) (line-fits text)))

-- ---- what a call shows
pub shown-by : (kind address value : ℕ) (left right : List ℤ) (a : Asked) → a ≡ asked_of kind → shown_as a address value left right ≡ shown_line kind address value left right
unfolding shown_line
shown-by kind address value left right a e = ap (λ (x : Asked). shown_as x address value left right) e

pub shown-none : (kind address value : ℕ) (left right : List ℤ) (a : Asked) → a ≡ asked_of kind → (a ≡ asked.Read → ⊥) → (a ≡ asked.Peek → ⊥) → (a ≡ asked.Clock → ⊥) → [] ≡ shown_line kind address value left right
shown-none kind address value left right a e f g h = go a f g h ∙ shown-by kind address value left right a e
  where
    go : (a : Asked) → (a ≡ asked.Read → ⊥) → (a ≡ asked.Peek → ⊥) → (a ≡ asked.Clock → ⊥) → [] ≡ shown_as a address value left right
    go asked.WriteRegister f g h = refl
    go asked.WritePcmRam f g h = refl
    go asked.Read f g h = absurd (f refl)
    go asked.Peek f g h = absurd (g refl)
    go asked.Clock f g h = absurd (h refl)
    go asked.SetVersion f g h = refl
    go asked.Nothing f g h = refl

pub shows :
    (kind address value : ℕ) (left right : List ℤ) (out now : Output) (text : List ℕ) → text ≡ shown_line kind address value left right → Puts out now text → length text ≤ 17 + 16 * min (length left) (length right) →
    Puts out now (shown_line kind address value left right) × (length (shown_line kind address value left right) ≤ 17 + 16 * min (length left) (length right))
shows kind address value left right out now text e t s =
    (subst (Puts out now) e t, subst (λ (l : List ℕ). length l ≤ 17 + 16 * min (length left) (length right)) e s)

-- ---- only the first n calls are looked at
pub record Same (n : ℕ) (kinds kinds' addresses addresses' values values' : List ℕ) : Type 0 where
  pub kinds-same : (i : ℕ) → i < n → get_or kinds i 0 ≡ get_or kinds' i 0
  pub addresses-same : (i : ℕ) → i < n → get_or addresses i 0 ≡ get_or addresses' i 0
  pub values_same : (i : ℕ) → i < n → get_or values i 0 ≡ get_or values' i 0

module _ (kinds kinds' addresses addresses' values values' : List ℕ) where
  abbrev Equal : ℕ → Type 0
  Equal n = Same n kinds kinds' addresses addresses' values values'

  fewer : (n m : ℕ) → m ≤ n → Equal n → Equal m
  fewer n m h s = record {
    kinds-same = λ i l. s.kinds-same i (omega arith);
    addresses-same = λ i l. s.addresses-same i (omega arith);
    values_same = λ i l. s.values_same i (omega arith);
  }

  pub frames-same : (n : ℕ) → Equal n → frames_asked kinds addresses 0 n ≡ frames_asked kinds' addresses' 0 n
  unfolding frames_asked
  frames-same zero s = refl
  frames-same (suc n) s =
      let k : 0 + n < suc n = omega arith in
      ap₂ (λ (x y : ℕ). x + y) (frames-same n (fewer (suc n) n (omega arith) s)) (λ i. clocked_as (asked_of (s.kinds-same (0 + n) k i)) (s.addresses-same (0 + n) k i))

  pub printed-same : (n : ℕ) → Equal n → most_printed kinds addresses n ≡ most_printed kinds' addresses' n
  unfolding most_printed
  printed-same n s = ap (λ (f : ℕ). 17 * n + 16 * f) (frames-same n s)

  pub lines_same : (n : ℕ) → Equal n → (w : World) → lines_effect kinds addresses values n w ≡ lines_effect kinds' addresses' values' n w
  unfolding lines_effect
  lines_same zero s w = refl
  lines_same (suc n) s w =
      let k : n < suc n = omega arith in
      ap₂ next (lines_same n (fewer (suc n) n (omega arith) s) w) (λ i. line_of (s.kinds-same n k i) (s.addresses-same n k i) (s.values_same n k i))
    where
      next : Effect → Result Line LineFault → Effect
      next b l = record { after = (effect_of b.after l).after; text = b.text ++ (effect_of b.after l).text }

  pub gathers_same : (input : List ℕ) (from behind n budget : ℕ) → Equal n → Gathers input from behind n budget kinds addresses values → Gathers input from behind n budget kinds' addresses' values'
  gathers_same input from behind n budget s g = record {
    within = λ j h. subst (λ (x : ℕ). x ≤ budget) (printed-same j (fewer n j (omega arith) s)) (g.within j h);
    few = subst (λ (x : ℕ). x ≤ 1000) (frames-same n s) g.few;
    left = λ room w number text k r.
        g.left room w number text k (λ j h. subst (λ (e : Effect). length text + length e.text + 16384 ≤ room) (sym (lines_same j (fewer n j (omega arith) s) w)) (r j h))
        ∙ ap (λ (e : Effect). run_from room input (spot e.after (number + n) behind (text ++ e.text))) (lines_same n s w);
  }

-- ---- lines one after the other
pub gathers-none : (input : List ℕ) (from budget : ℕ) (kinds addresses values : List ℕ) → Gathers input from from 0 budget kinds addresses values
unfolding lines_effect frames_asked
gathers-none input from budget kinds addresses values = record {
  within = λ j h. absurd (omega arith);
  few = omega arith;
  left = λ room w number text k r.
      let e : number ≡ number + 0 = omega arith in
      λ i. run_from room input (spot w (e i) from (sym (append-nil text) i));
}

module _ (input : List ℕ) (from place stop n budget : ℕ) (kinds addresses values : List ℕ) where
  abbrev line : Result Line LineFault
  line = line_of (get_or kinds n 0) (get_or addresses n 0) (get_or values n 0)

  abbrev rest : List ℕ
  rest = drop place input

  pub gathers-more :
      Gathers input from place n budget kinds addresses values → stop ≡ place + length (first_line (drop place input)) → stop < length input →
      (one : Line) → Ok one ≡ parsed_line (first_line (drop place input)) → line ≡ Ok one → most_printed kinds addresses n ≤ budget → frames_asked kinds addresses 0 (n + 1) ≤ 1000 →
      Gathers input from (stop + 1) (n + 1) budget kinds addresses values
  unfolding lines_effect
  gathers-more g s h single p q fits few = record {
    within = λ j k. grown (λ (i : ℕ). most_printed kinds addresses i ≤ budget) 0 n (λ i z q. g.within i q) fits j (omega arith) k;
    few = few;
    left = λ room w number text k r. g.left room w number text (omega arith) (λ j q. r j (omega arith)) ∙ one room w number text k (r n (omega arith));
  }
    where
      next : next_of rest place ≡ Ok (Some (stop + 1))
      next = next-line input place stop s single (omega arith) p

      l : parsed_line (first_line (drop place input)) ≡ line
      l = sym p ∙ sym q

      there : place + length (first_line rest) + 1 ≡ stop + 1
      there = omega arith

      one : (room : ℕ) (w : World) (number : ℕ) (text : List ℕ) → number + (n + 1) ≤ 18446744073709551615
          → length text + length (lines_effect kinds addresses values n w).text + 16384 ≤ room
          → run_from room input (spot (lines_effect kinds addresses values n w).after (number + n) place (text ++ (lines_effect kinds addresses values n w).text))
          ≡ run_from room input (spot (lines_effect kinds addresses values (n + 1) w).after (number + (n + 1)) (stop + 1) (text ++ (lines_effect kinds addresses values (n + 1) w).text))
      one room w number text k r =
          let b = lines_effect kinds addresses values n w in
          let t = text ++ b.text in
          let at = spot b.after (number + n) place t in
          let m : suc (number + n) ≡ number + (n + 1) = omega arith in
          run-next room input at (plays-line room input at (room-is 16384 room (length t) (number + n) (omega arith) (long text b.text r)) (ap is_line next))
          ∙ ap (λ (x : Result Line LineFault). run_from room input (spot (after_line b.after x) (suc (number + n)) (place + length (first_line rest) + 1) (t ++ printed b.after x))) l
          ∙ (λ i. run_from room input (spot (after_line b.after line) (m i) (there i) (append_assoc text b.text (printed b.after line) i)))
          ∙ ap (λ (j : ℕ). run_from room input (spot (lines_effect kinds addresses values j w).after (number + (n + 1)) (stop + 1) (text ++ (lines_effect kinds addresses values j w).text))) (sym (add-one n))
        where
          long : (x y : List ℕ) → length x + length y + 16384 ≤ room → length (x ++ y) + 16384 ≤ room
          long x y q = omega (arith, q, length-append x y)

-- ---- where no line is taken, none is next
module _ (input : List ℕ) (place : ℕ) where
  abbrev left : List ℕ
  left = drop place input

  none_open : (a b : Bool) (p : Result Line LineFault) → a ≡ true → is_line (cond a (cond b (Ok None) (Err (Bad Malformed))) (line_found (place + length (first_line left) + 1) p)) ≡ false
  none_open true true m e = refl
  none_open true false m e = refl
  none_open false b m e = never (sym e)

  pub open-line : length (first_line (drop place input)) ≡ length (drop place input) → NoLine input place
  unfolding next_of
  open-line h =
      none_open (eqb (length (first_line left)) (length left)) (leb (length left) 16) (parsed_line (first_line left))
      (eq-eqb (length (first_line left)) (length left) h)

  none-bad : (a b : Bool) (p : Result Line LineFault) → is_bad p ≡ true → is_line (cond a (cond b (Ok None) (Err (Bad Malformed))) (line_found (place + length (first_line left) + 1) p)) ≡ false
  none-bad true true m e = refl
  none-bad true false m e = refl
  none-bad false b (Err why) e = refl
  none-bad false b (Ok l) e = never (sym e)

  pub bad-line : is_bad (parsed_line (first_line (drop place input))) ≡ true → NoLine input place
  unfolding next_of
  bad-line h = none-bad (eqb (length (first_line left)) (length left)) (leb (length left) 16) (parsed_line (first_line left)) h

-- ---- where `gather` stands
pub record Gathering (input : List ℕ) (from most budget : ℕ) (kinds addresses values : List ℕ) (count frames place : ℕ) : Type 0 where
  pub some : count ≤ most
  pub is : frames ≡ frames_asked kinds addresses 0 count
  pub gathers : Gathers input from place count budget kinds addresses values
  pub first : count ≡ 0 → place ≡ from

module _ (input : List ℕ) (from most budget : ℕ) (kinds addresses values : List ℕ) where
  pub gathering-none : Gathering input from most budget kinds addresses values 0 0 from
  unfolding frames_asked
  gathering-none = record { some = omega arith; is = refl; gathers = gathers-none input from budget kinds addresses values; first = λ e. refl }

  module _ (count frames place : ℕ) (g : Gathering input from most budget kinds addresses values count frames place) where
    pub gathering-ends :
        (c f p : ℕ) → (c ≡ count) × (f ≡ frames) × (p ≡ place) → (count ≡ 0 → NoLine input place) →
        (c ≤ most) × ((f ≡ frames_asked kinds addresses 0 c) × (Gathers input from p c budget kinds addresses values × (c ≡ 0 → NoLine input from)))
    gathering-ends c f p e n =
        rw (e.0, e.1, e.2) (g.some, (g.is, (g.gathers, λ z. subst (NoLine input) (g.first z) (n z))))

    -- the first line is not turned away
    pub first-taken : (x : ℕ) → x ≤ 1000 → 1000 < frames + x → count ≡ 0 → ⊥
    unfolding frames_asked
    first-taken x h k z = let e = g.is ∙ ap (frames_asked kinds addresses 0) z in omega (arith, h, k, e)

    pub first_fits : budget < 17 * count + 16 * frames → count ≡ 0 → ⊥
    unfolding frames_asked
    first_fits h z = let e = g.is ∙ ap (frames_asked kinds addresses 0) z in omega (arith, h, e, z)

    module _ (k a v more : ℕ) (line : Line) (stop : ℕ) where
      abbrev ks : List ℕ
      ks = set kinds count k

      abbrev ads : List ℕ
      ads = set addresses count a

      abbrev vs : List ℕ
      vs = set values count v

      pub gathering-next :
          count < most → count < length kinds → count < length addresses → count < length values → stop ≡ place + length (first_line (drop place input)) → stop < length input →
          Ok line ≡ parsed_line (first_line (drop place input)) → (k ≡ (line_call line).kind) × (a ≡ (line_call line).address) × (v ≡ (line_call line).value) →
          more ≡ frames + clocked_as (asked_of k) a → more ≤ 1000 → 17 * count + 16 * frames ≤ budget →
          Gathering input from most budget (set kinds count k) (set addresses count a) (set values count v) (count + 1) more (stop + 1)
      unfolding most_printed
      gathering-next h lk la lv s inside l e m few fits = record {
        some = omega arith;
        is = m ∙ sym frames-now;
        gathers =
            gathers-more input from place stop count budget ks ads vs (gathers_same kinds ks addresses ads values vs input from place count budget same g.gathers) s inside
            line l (line-is ∙ back)
            (subst (λ (x : ℕ). 17 * count + 16 * x ≤ budget) (g.is ∙ frames-same kinds ks addresses ads values vs count same) fits)
            (subst (λ (x : ℕ). x ≤ 1000) (m ∙ sym frames-now) few);
        first = λ z. absurd (omega arith);
      }
        where
          other : (list : List ℕ) (x i : ℕ) → i < count → get_or list i 0 ≡ get_or (set list count x) i 0
          other list x i q = sym (get_or-set_other list count i x 0 (λ z. absurd (omega arith)))

          same : Same count kinds ks addresses ads values vs
          same = record { kinds-same = other kinds k; addresses-same = other addresses a; values_same = other values v }

          back : line_of k a v ≡ Ok line
          back = (λ i. line_of (e.0 i) (e.1 i) (e.2 i)) ∙ line-back line

          line-is : line_of (get_or ks count 0) (get_or ads count 0) (get_or vs count 0) ≡ line_of k a v
          line-is = λ i. line_of (get_or-set_same kinds count k 0 lk i) (get_or-set_same addresses count a 0 la i) (get_or-set_same values count v 0 lv i)

          clocked : clocked_by ks ads (0 + count) ≡ clocked_as (asked_of k) a
          clocked =
              ap (clocked_by ks ads) (sym (zero-add count))
              ∙ (λ i. clocked_as (asked_of (get_or-set_same kinds count k 0 lk i)) (get_or-set_same addresses count a 0 la i))

          frames-now : frames_asked ks ads 0 (count + 1) ≡ frames + clocked_as (asked_of k) a
          frames-now =
              frames-more ks ads 0 count
              ∙ ap₂ (λ (x y : ℕ). x + y) (sym (g.is ∙ frames-same kinds ks addresses ads values vs count same)) clocked

-- ---- where `show` stands
pub record Showing (kinds addresses values : List ℕ) (left right : List ℤ) (out mid : Output) (frame i : ℕ) : Type 0 where
  pub within : i ≤ length kinds
  pub is : frame ≡ frames_asked kinds addresses 0 i
  pub put : Puts out mid (calls_shown kinds addresses values left right i)
  pub short : Short kinds addresses values left right i

module _ (kinds addresses values : List ℕ) (left right : List ℤ) (out : Output) where
  pub showing-none : out.at ≤ length out.buffer.now → Showing kinds addresses values left right out out 0 0
  unfolding frames_asked calls_shown most_printed
  showing-none e = record {
    within = omega arith;
    is = refl;
    put = puts-none out e;
    short = λ j h. let z : j ≡ 0 = omega arith in subst (λ (k : ℕ). length (calls_shown kinds addresses values left right k) ≤ 17 * k + 16 * frames_asked kinds addresses 0 k) (sym z) (omega arith);
  }

  module _ (mid now : Output) (frame to i x : ℕ) (g : Showing kinds addresses values left right out mid frame i) where
    pub showing-room : x ≡ clocked_as (asked_of (get_or kinds i 0)) (get_or addresses i 0) → i < length kinds → frame + x ≤ frames_asked kinds addresses 0 (length kinds)
    showing-room ex h =
        let f = frames-more kinds addresses 0 i in
        let c = ap (clocked_by kinds addresses) (sym (zero-add i)) in
        omega (arith, g.is, ex, f, c, frames-within kinds addresses 0 (i + 1) (length kinds) (omega arith))

    pub showing-next :
        i < length kinds → x ≡ clocked_as (asked_of (get_or kinds i 0)) (get_or addresses i 0) → to ≡ frame + x → frame + x ≤ length left → frame + x ≤ length right →
        Puts mid now (shown_line (get_or kinds i 0) (get_or addresses i 0) (get_or values i 0) (take (to - frame) (drop frame left)) (take (to - frame) (drop frame right))) →
        length (shown_line (get_or kinds i 0) (get_or addresses i 0) (get_or values i 0) (take (to - frame) (drop frame left)) (take (to - frame) (drop frame right)))
        ≤ 17 + 16 * min (length (take (to - frame) (drop frame left))) (length (take (to - frame) (drop frame right))) →
        Showing kinds addresses values left right out now to (i + 1)
    unfolding calls_shown most_printed
    showing-next h ex et rl rr t s = record {
      within = omega arith;
      is = et ∙ sym now-frames;
      put = subst (λ (k : ℕ). Puts out now (calls_shown kinds addresses values left right k)) (sym (add-one i)) (puts-append out mid now (calls_shown kinds addresses values left right i) (own (get_or kinds i 0) (get_or addresses i 0) (get_or values i 0)) g.put (subst (Puts mid now) is-own t));
      short = λ j k. grown (λ (j : ℕ). length (calls_shown kinds addresses values left right j) ≤ 17 * j + 16 * frames_asked kinds addresses 0 j) 0 (i + 1) (λ j z q. g.short j (omega arith)) last j (omega arith) (omega arith);
    }
      where
        clocked : clocked_by kinds addresses (0 + i) ≡ x
        clocked = ap (clocked_by kinds addresses) (sym (zero-add i)) ∙ sym ex

        now-frames : frames_asked kinds addresses 0 (i + 1) ≡ frame + x
        now-frames = frames-more kinds addresses 0 i ∙ ap₂ (λ (a b : ℕ). a + b) (sym g.is) clocked

        own : ℕ → ℕ → ℕ → List ℕ
        own k a v = shown_line k a v (part left (frames_asked kinds addresses 0 i) (clocked_by kinds addresses i)) (part right (frames_asked kinds addresses 0 i) (clocked_by kinds addresses i))

        parts : (l : List ℤ) → take (to - frame) (drop frame l) ≡ part l (frames_asked kinds addresses 0 i) (clocked_by kinds addresses i)
        parts l =
            let d : to - frame ≡ clocked_by kinds addresses i = (let q : to - frame ≡ x = omega arith in q ∙ ex) in
            λ j. take (d j) (drop (g.is j) l)

        is-own : shown_line (get_or kinds i 0) (get_or addresses i 0) (get_or values i 0) (take (to - frame) (drop frame left)) (take (to - frame) (drop frame right)) ≡ own (get_or kinds i 0) (get_or addresses i 0) (get_or values i 0)
        is-own = λ j. shown_line (get_or kinds i 0) (get_or addresses i 0) (get_or values i 0) (parts left j) (parts right j)

        few : min (length (take (to - frame) (drop frame left))) (length (take (to - frame) (drop frame right))) ≤ x
        few = let q = length-take (to - frame) (drop frame left) in omega (arith, et, q)

        last : length (calls_shown kinds addresses values left right (i + 1)) ≤ 17 * (i + 1) + 16 * frames_asked kinds addresses 0 (i + 1)
        last =
            subst (λ (k : ℕ). length (calls_shown kinds addresses values left right k) ≤ 17 * (i + 1) + 16 * frames_asked kinds addresses 0 (i + 1)) (sym (add-one i))
            (omega (arith, length-append (calls_shown kinds addresses values left right i) (own (get_or kinds i 0) (get_or addresses i 0) (get_or values i 0)), g.short i (omega arith), s, few, ap length is-own, now-frames, g.is))

pub showing-all :
    (kinds addresses values : List ℕ) (left right : List ℤ) (out mid : Output) (frame i : ℕ) → Showing kinds addresses values left right out mid frame i → length kinds ≤ i →
    Puts out mid (calls_shown kinds addresses values left right (length kinds)) × Short kinds addresses values left right (length kinds)
showing-all kinds addresses values left right out mid frame i g h =
    let e : i ≡ length kinds = omega (arith, h, g.within) in
    (subst (λ (k : ℕ). Puts out mid (calls_shown kinds addresses values left right k)) e g.put, subst (λ (k : ℕ). Short kinds addresses values left right k) e g.short)

-- ---- a batch
pub batch-none : (input : List ℕ) (w : World) (number from : ℕ) (out : Output) → refused_by w ≡ 0 → out.at + 16384 ≤ length out.buffer.now → NoLine input from → Batches input w number from w number from out out
batch-none input w number from out ok room none = record {
  text = [];
  put = puts-none out (omega arith);
  short = omega arith;
  left = λ before e. ap (λ (t : List ℕ). run_from (length out.buffer.now) input (spot w number from t)) (sym (append-nil before));
  on = omega arith;
  stops = λ e. (none, room);
  accepted = ok;
}

module _ (input : List ℕ) (w next : World) (number from behind n budget : ℕ) (out now : Output) (kinds addresses values : List ℕ) where
  abbrev K : List ℕ
  K = take n kinds

  abbrev A : List ℕ
  A = take n addresses

  abbrev B : List ℕ
  B = take n values

  pub batch-some :
      Gathers input from behind n budget kinds addresses values → (n ≡ 0 → ⊥) → n ≤ length kinds → number + n ≤ 18446744073709551615 → out.at + 16384 ≤ length out.buffer.now → budget ≡ length out.buffer.now - out.at - 16384 →
      PlaysLines (take n kinds) (take n addresses) (take n values) w next out now → Batches input w number from next (number + n) behind out now
  unfolding most_printed
  batch-some g some h few room e p = record {
    text = (lines_effect K A B (length K) w).text;
    put = p.put;
    short = omega (arith, p.short (length K) (omega arith), most, room, e);
    left = λ before q.
        gs.left (length out.buffer.now) w number before few (λ j k. omega (arith, p.short j (omega (arith, k, long)), gs.within j k, room, e, q))
        ∙ (λ i. run_from (length out.buffer.now) input (spot ((ap (λ (m : ℕ). (lines_effect K A B m w).after) (sym long) ∙ sym p.after) i) (number + n) behind (before ++ (lines_effect K A B (sym long i) w).text)));
    on = omega arith;
    stops = λ z. absurd (some (omega arith));
    accepted = p.accepted;
  }
    where
      long : length K ≡ n
      long = length-take-le n kinds h

      same : Same n kinds K addresses A values B
      same = record { kinds-same = λ i k. sym (get_or-take n kinds i 0 k); addresses-same = λ i k. sym (get_or-take n addresses i 0 k); values_same = λ i k. sym (get_or-take n values i 0 k) }

      gs : Gathers input from behind n budget K A B
      gs = gathers_same kinds K addresses A values B input from behind n budget same g

      positive : (n : ℕ) → (n ≡ 0 → ⊥) → n ≡ suc (n - 1)
      positive n f = omega arith

      most : 17 * length K + 16 * frames_asked K A 0 (length K) ≤ budget + 16384
      most =
          let m : n ≡ suc (n - 1) = positive n some in
          let f = frames-within K A 0 (n - 1) n (omega arith) in
          let k : frames_asked K A 0 (length K) ≡ frames_asked K A 0 n = ap (frames_asked K A 0) long in
          omega (arith, gs.within (n - 1) (omega (arith, m)), gs.few, long, k, m)

-- what is lent of the arrays
pub lent-list :
    (kinds addresses values : List ℕ) (n f : ℕ) → n ≤ length kinds → n ≤ length addresses → n ≤ length values → f ≡ frames_asked kinds addresses 0 n → f ≤ 1000 →
    (length (take n addresses) ≡ length (take n kinds)) × (length (take n values) ≡ length (take n kinds)) × (f ≡ frames_asked (take n kinds) (take n addresses) 0 (length (take n kinds))) × (f ≤ 1000)
lent-list kinds addresses values n f hk ha hv e few =
    let k = length-take-le n kinds hk in
    let same : Same n kinds (take n kinds) addresses (take n addresses) values (take n values) =
    record { kinds-same = λ i l. sym (get_or-take n kinds i 0 l); addresses-same = λ i l. sym (get_or-take n addresses i 0 l); values_same = λ i l. sym (get_or-take n values i 0 l) } in
    (length-take-le n addresses ha ∙ sym k, length-take-le n values hv ∙ sym k, e ∙ frames-same kinds (take n kinds) addresses (take n addresses) values (take n values) n same ∙ ap (frames_asked (take n kinds) (take n addresses) 0) (sym k), few)
