-- A byte that a line writes is a byte, and a line clocks at most 1,000 frames. Assumes nothing.
use mathlib.Core.Bool.{cond}
use mathlib.Core.List.{List}
use Prim.Native.Nat.{ℕ, ◌≤◌, ◌<◌, ◌+◌}
use native.Mathlib.Omega.{arith}
use lib.Dec.{eqb, leb}
use lib.ListN.{length, get_or}
use borrow.Author.Tests.{leb-true}
use Rattle.std.specs.Prelude.{Option, Some, None, Result, Ok, Err}
use Rattle.num.proofs.Choice.{cond-by}
use Rattle.decimal.specs.Read.{natural_at, Numeral}
use Rattle.log_lines.specs.declared.Line.{Line}
use Rattle.log_lines.specs.declared.Line.TheVariants.{Write, WriteRam, Read, Peek, Clock, Version}
use Rattle.log_lines.specs.declared.LineFault.{LineFault}
use Rattle.log_lines.specs.declared.LineFault.TheVariants.{Malformed, Unmapped}
use Rattle.log_lines.specs.Lines.{one_of, one_at, Within, address_and, two_of, two_at, is_mapped, addressed, as_write, written_ram, read_of, peek_of, clock_of, as_version, by_kind, parsed_line}

abbrev FitTwo : Option (ℕ × ℕ) → Type 0
FitTwo (Some (a, v)) = v < 256
FitTwo None = Unit {0}

one-fits : (text : List ℕ) (at most : ℕ) → Within most (one_at text at most)
unfolding one_at
one-fits text at most = go (natural_at text at)
  where
    go : (t : Numeral ℕ) → Within most (one_of text most t)
    go (Some (n, next)) = cond-by (Within most) (eqb next (length text)) (cond (leb n most) (Some n) None) None (λ e. cond-by (Within most) (leb n most) (Some n) None (leb-true n most) (λ e. tt)) (λ e. tt)
    go None = tt

byte_fits : (a : ℕ) (o : Option ℕ) → Within 255 o → FitTwo (address_and a o)
byte_fits a (Some v) h = omega (arith, h)
byte_fits a None h = tt

two_fits : (text : List ℕ) (at : ℕ) → FitTwo (two_at text at)
unfolding two_at
two_fits text at = go (natural_at text at)
  where
    go : (t : Numeral ℕ) → FitTwo (two_of text t)
    go (Some (a, next)) =
        cond-by FitTwo (leb a 4294967295) (cond (eqb (get_or text next 0) 44) (address_and a (one_at text (next + 1) 255)) None) None
        (λ e. cond-by FitTwo (eqb (get_or text next 0) 44) (address_and a (one_at text (next + 1) 255)) None (λ f. byte_fits a (one_at text (next + 1) 255) (one-fits text (next + 1) 255)) (λ f. tt))
        (λ e. tt)
    go None = tt

abbrev pub FitLine : Result Line LineFault → Type 0
FitLine (Ok (Write a v)) = v < 256
FitLine (Ok (WriteRam a v)) = v < 256
FitLine (Ok (Read a)) = Unit {0}
FitLine (Ok (Peek a)) = Unit {0}
FitLine (Ok (Clock n)) = n ≤ 1000
FitLine (Ok (Version v)) = Unit {0}
FitLine (Err why) = Unit {0}

addressed-fits : (kind a : ℕ) (line : Line) → FitLine (Ok line) → FitLine (addressed kind a line)
unfolding addressed
addressed-fits kind a line h = cond-by FitLine (is_mapped kind a) (Ok line) (Err Unmapped) (λ e. h) (λ e. tt)

written-fits : (t : Option (ℕ × ℕ)) → FitTwo t → FitLine (as_write t)
written-fits (Some (a, v)) h = addressed-fits 87 a (Write a v) h
written-fits None h = tt

ram-fits : (t : Option (ℕ × ℕ)) → FitTwo t → FitLine (written_ram t)
ram-fits (Some (a, v)) h = addressed-fits 77 a (WriteRam a v) h
ram-fits None h = tt

read_fits : (o : Option ℕ) → FitLine (read_of o)
read_fits (Some a) = addressed-fits 82 a (Read a) tt
read_fits None = tt

peek-fits : (o : Option ℕ) → FitLine (peek_of o)
peek-fits (Some a) = addressed-fits 80 a (Peek a) tt
peek-fits None = tt

clock-fits : (o : Option ℕ) → Within 1000 o → FitLine (clock_of o)
clock-fits (Some n) h = cond-by FitLine (eqb n 0) (Err Malformed) (Ok (Clock n)) (λ e. tt) (λ e. h)
clock-fits None h = tt

version-fits : (o : Option ℕ) → FitLine (as_version o)
version-fits (Some v) = tt
version-fits None = tt

pub line-fits : (text : List ℕ) → FitLine (parsed_line text)
unfolding parsed_line
line-fits text =
    let k = get_or text 0 0 in
    cond-by FitLine (eqb (get_or text 1 0) 44) (by_kind text k) (Err Malformed)
    (λ e.
    cond-by FitLine (eqb k 87) _ _ (λ e. written-fits (two_at text 2) (two_fits text 2)) (λ e.
    cond-by FitLine (eqb k 77) _ _ (λ e. ram-fits (two_at text 2) (two_fits text 2)) (λ e.
    cond-by FitLine (eqb k 82) _ _ (λ e. read_fits (one_at text 2 4294967295)) (λ e.
    cond-by FitLine (eqb k 80) _ _ (λ e. peek-fits (one_at text 2 4294967295)) (λ e.
    cond-by FitLine (eqb k 67) _ _ (λ e. clock-fits (one_at text 2 1000) (one-fits text 2 1000)) (λ e.
    cond-by FitLine (eqb k 86) _ _ (λ e. version-fits (one_at text 2 4)) (λ e. tt)))))))
    (λ e. tt)
