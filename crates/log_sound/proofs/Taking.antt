-- Lines taken as calls, one after the other. Assumes nothing.
use Rattle.std.specs.Prelude.{Result, Ok, Some, None, Err}
use mathlib.Core.Path.{◌≡◌, refl, sym, ap, subst, ◌∙◌}
use mathlib.Core.Bool.{Bool, true, false, cond}
use mathlib.Core.List.{List}
use Prim.Native.Nat.{ℕ, zero, suc, ◌+◌, ◌≤◌, ◌<◌}
use native.Mathlib.Numerals.{add-one}
use native.Mathlib.Omega.{arith}
use lib.Dec.{leb}
use lib.ListN.{length, drop, set, length-drop, length-set}
use borrow.Author.Tests.{eq-eqb, le-leb, lt-leb}
use Rattle.log_lines.specs.declared.Line.{Line}
use Rattle.log_lines.specs.declared.LineFault.{LineFault}
use Rattle.log_lines.specs.Lines.{parsed_line}
use Rattle.log_player.specs.Steps.{Next}
use Rattle.log_lines.specs.declared.LineFault.TheVariants.{Malformed}
use Rattle.log_player.specs.declared.Stop.TheVariants.{Bad}
use Rattle.log_player.specs.Steps.{first_line, next_of}
use Rattle.log_player.specs.Runs.{is_line}
use Rattle.log_player.proofs.Stops.{first_short}
use Rattle.log_player.specs.declared.ListedCall.{ListedCall}
use Rattle.log_player.specs.Batches.{listed_call}
use Rattle.log_sound.specs.declared.Gathered.{Gathered}
use Rattle.log_sound.specs.Gathering.{call_or_none, frames_made, Gathering, gathering, call_there, takes, with_line, gathered, gathered_told}

-- ---- whether there is a line
no-line : (b : Bool) (why : LineFault) → is_line (cond b (Ok None) (Err (Bad why))) ≡ false
no-line true why = refl
no-line false why = refl

pub not-whole : (l : List ℕ) (from : ℕ) → length (first_line (drop from l)) ≡ length (drop from l) → is_line (next_of (drop from l) from) ≡ false
unfolding next_of
not-whole l from e = rw (eq-eqb (length (first_line (drop from l))) (length (drop from l)) e) (no-line (leb (length (drop from l)) 16) Malformed)

pub is-bad : (n : Next) (why : LineFault) → n ≡ Err (Bad why) → is_line n ≡ false
is-bad n why e = ap is_line e

pub is_whole : (n : Next) (place : ℕ) → n ≡ Ok (Some place) → is_line n ≡ true
is_whole n place e = ap is_line e

-- the call of a good line
pub call-is : (text : List ℕ) (parsed : Result Line LineFault) (answer : Result ListedCall LineFault) (call : ListedCall) → parsed ≡ parsed_line text → answer ≡ listed_call parsed → answer ≡ Ok call → call ≡ call_or_none (listed_call (parsed_line text))
call-is text parsed answer call p e m = ap call_or_none (sym m ∙ e ∙ ap listed_call p)

module _ (input : List ℕ) (room : ℕ) where
  -- ---- whether it is taken
  pub not_taken : (g : Gathering) → is_line (next_of (drop g.from input) g.from) ≡ false → takes input room g ≡ false
  unfolding takes
  not_taken g e = rw e

  pub no_room : (g : Gathering) (call : ListedCall) (more : ℕ) → call ≡ call_there input room g → more ≡ frames_made call → is_line (next_of (drop g.from input) g.from) ≡ true → room < g.frames + more → takes input room g ≡ false
  unfolding takes
  no_room g call more e f w h = rw (w, ← e, ← f) (lt-leb (g.frames + more) room h)

  pub has-room : (g : Gathering) (call : ListedCall) (more : ℕ) → call ≡ call_there input room g → more ≡ frames_made call → is_line (next_of (drop g.from input) g.from) ≡ true → g.frames + more ≤ room → takes input room g ≡ true
  unfolding takes
  has-room g call more e f w h = rw (w, ← e, ← f) (le-leb (g.frames + more) room h)

  -- ---- what is left to take
  pub none-taken : (n : ℕ) (g h : Gathering) → takes input room g ≡ false → gathered input room n g ≡ h → g ≡ h
  unfolding gathered
  none-taken zero g h e q = q
  none-taken (suc n) g h e q = sym (rw e) ∙ q

  pub all-taken : (n : ℕ) (g h : Gathering) → n ≡ 0 → gathered input room n g ≡ h → g ≡ h
  unfolding gathered
  all-taken n g h e q = rw e at q

  pub one-taken : (n m : ℕ) (g h : Gathering) → n ≡ suc m → takes input room g ≡ true → gathered input room n g ≡ h → gathered input room m (with_line input room g) ≡ h
  unfolding gathered
  one-taken n m g h s e q = sym (rw (s, gathered, e)) ∙ q

-- ---- what is left and told
abbrev pub Leaves : ℕ → Gathered → List ℕ → List ℕ → List ℕ → Gathering → Type 0
Leaves room r kinds addresses values h =
    (r ≡ gathered_told h) × ((kinds ≡ h.kinds) × ((addresses ≡ h.addresses) × ((values ≡ h.values) × ((r.count ≤ 256) × (r.frames ≤ room)))))

pub leaves : (room : ℕ) (r : Gathered) (g h : Gathering) → g ≡ h → r ≡ gathered_told g → g.count ≤ 256 → g.frames ≤ room → Leaves room r g.kinds g.addresses g.values h
leaves room r g h e q b f = (
  q ∙ ap gathered_told e,
  (
    ap (λ (x : Gathering). x.kinds) e,
    (
      ap (λ (x : Gathering). x.addresses) e,
      (
        ap (λ (x : Gathering). x.values) e,
        subst (λ (x : Gathered). (x.count ≤ 256) × (x.frames ≤ room)) (sym q) (b, f),
      ),
    ),
  ),
)

-- ---- a turn
pub taken-on : (input : List ℕ) (room n m : ℕ) (g h : Gathering) (call : ListedCall) (stop more : ℕ) → stop ≡ g.from + length (first_line (drop g.from input)) → call ≡ call_there input room g → more ≡ frames_made call
    → n ≡ suc m → takes input room g ≡ true → gathered input room n g ≡ h
    → gathered input room m (gathering (g.count + 1) (g.frames + more) (stop + 1) (set g.kinds g.count call.kind) (set g.addresses g.count call.address) (set g.values g.count call.value)) ≡ h
unfolding with_line
taken-on input room n m g h call stop more s e f k t q = rw (s, f, e, add-one g.count) (one-taken input room n m g h k t q)

-- ---- the lists keep their lengths
pub record Long (g h : Gathering) : Type 0 where
  pub kinds : length h.kinds ≡ length g.kinds
  pub addresses : length h.addresses ≡ length g.addresses
  pub values : length h.values ≡ length g.values

pub long : (input : List ℕ) (room n : ℕ) (g : Gathering) → Long g (gathered input room n g)
unfolding gathered with_line
long input room zero g = record { kinds = refl; addresses = refl; values = refl }
long input room (suc n) g = go (takes input room g) refl (long input room n (with_line input room g))
  where
    go : (b : Bool) → takes input room g ≡ b → Long (with_line input room g) (gathered input room n (with_line input room g)) → Long g (gathered input room (suc n) g)
    go true e l = rw (gathered, e) (record { kinds = l.kinds ∙ simp (with_line, length-set); addresses = l.addresses ∙ simp (with_line, length-set); values = l.values ∙ simp (with_line, length-set) })
    go false e l = rw (gathered, e) (record { kinds = refl; addresses = refl; values = refl })
