-- DEMAND 3: a chip stopped anywhere in a list of calls and resumed from its session text, and the plain chip. Assumes nothing.
use Rattle.std.specs.Prelude.{Ok, Err, is_ok}
use mathlib.Core.Path.{◌≡◌, sym, ap, ◌∙◌, subst}
use mathlib.Core.Bool.{true, cond}
use mathlib.Core.List.{List}
use Prim.Native.Nat.{ℕ}
use lib.IntN.{ℤ}
use lib.ListN.{length, replicate}
use Rattle.cores.specs.Sizes.{chip_queues}
use Rattle.tone.specs.Pcm.{is_ram_length}
use Rattle.version.specs.declared.SguVersion.{SguVersion}
use Rattle.registers.specs.PlainQueue.{FitEntries}
use Rattle.s3w2.specs.declared.Refusal.TheVariants.{RamLength}
use Rattle.s3w2.specs.Chips.{fresh_chip}
use Rattle.s3w2.specs.Fresh.{made_called, made_ram}
use Rattle.s3w2.specs.Refusals.{refusal}
use Rattle.plain_chip.specs.Lists.{Every}
use Rattle.slots.specs.Models.{plain}
use Rattle.pair_chip.specs.Pairs.{fresh_plain}
use Rattle.call_lists.specs.Calls.{Call}
use Rattle.call_lists.specs.Seen.{FitCall}
use Rattle.chip_calls.specs.Ties.{Machine}
use Rattle.chip_calls.proofs.Made.{made_held, made_plain}
use Rattle.resume.specs.Stops.{seen, resumed, made, Second, of_plain, slot_pair_in, stopped, plain_stopped, Resumes, Deed, Life, of_life, calls_of}
use Rattle.resume.proofs.Steps.{HeldMachine}
use Rattle.resume.proofs.Lives.{Lived, lived-after, lived-trace, lived-resume, same-text, all_done, lived-life}

-- what `with_version` makes over a RAM of an allowed length
made-fresh : (version : SguVersion) (ram : List ℕ) (queues : List ℤ) → is_ram_length (length ram) ≡ true → made version ram queues ≡ record { chip = fresh_chip version; ram = replicate (length ram) 0; queues = queues }
unfolding made_called made_ram refusal
made-fresh version ram queues e = λ i. record { chip = fresh_chip version; ram = cond (is_ok (cond (e i) (Ok tt) (Err RamLength))) (replicate (length ram) 0) ram; queues = queues }

-- it is a fresh plain chip
made-lived : (version : SguVersion) (ram : List ℕ) (queues : List ℤ) → is_ram_length (length ram) ≡ true → length queues ≡ chip_queues → FitEntries queues → Lived (made version ram queues) (fresh_plain version (length ram))
made-lived version ram queues allowed long entries =
    let e = made-fresh version ram queues allowed in
    record {
      held = subst HeldMachine (sym e) (made_held version (length ram) queues long allowed entries);
      same = ap (λ (m : Machine). plain (slot_pair_in m)) e ∙ made_plain version (length ram) queues long;
    }

-- THE THEOREM, for every version, every RAM of an allowed length, every list of calls and every place in it where it is stopped, its two ends
-- included, and every second chip. Its other premises are what the types give: entries of the queue buffer are 16-bit numbers, a byte is
-- a byte.
pub resumes :
    (version : SguVersion) (ram : List ℕ) (queues : List ℤ) (xs ys : List Call) (second : Machine) →
    is_ram_length (length ram) ≡ true → length queues ≡ chip_queues → FitEntries queues → Every FitCall xs → Every FitCall ys →
    Second (stopped version ram queues xs) second →
    Resumes version ram queues xs ys second
resumes version ram queues xs ys second allowed long entries fx fy s =
    let start = made-lived version ram queues allowed long entries in
    let first : Machine = stopped version ram queues xs in
    let p = plain_stopped version ram queues xs in
    let l : Lived first p = lived-after (made version ram queues) (fresh_plain version (length ram)) xs fx start in
    let on = lived-trace first p ys fy l in
    record {
      goes_on = lived-trace (resumed second (seen first)) p ys fy (lived-resume first second p s l) ∙ sym on;
      as_plain = on;
      before = lived-trace (made version ram queues) (fresh_plain version (length ram)) xs fx start;
      taken = all_done first second p s l;
      same_text = same-text first second p s l;
    }

-- THE SAME FOR ANY NUMBER OF RESUMES: what is seen of a score's calls, however often it goes over to another chip between two of them, is what
-- is seen of the plain chip that runs them.
pub lives :
    (version : SguVersion) (ram : List ℕ) (queues : List ℤ) (ds : List Deed) →
    is_ram_length (length ram) ≡ true → length queues ≡ chip_queues → FitEntries queues → Life (made version ram queues) ds →
    of_life (made version ram queues) ds ≡ of_plain (fresh_plain version (length ram)) (calls_of ds)
lives version ram queues ds allowed long entries f = lived-life (made version ram queues) (fresh_plain version (length ram)) ds f (made-lived version ram queues allowed long entries)
