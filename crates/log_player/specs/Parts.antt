-- A log read in parts, as a program reads it: a run is handed what the last one left of its input and what was read behind it.
use Rattle.std.specs.Prelude.{Ok, Some, None, Err, List, [], ◌∷◌, ◌++◌, ℕ, zero, suc, length, drop}
use Rattle.decimal.specs.Written.{each}
use Rattle.log_player.specs.Steps.{Next}
use Rattle.log_player.specs.declared.Stop.TheVariants.{Bad, Refused}
use Rattle.log_player.specs.Worlds.{World}
use Rattle.log_player.specs.Logs.{end_text}
use Rattle.log_player.specs.Runs.{Run, spot, log_run}

-- the text of a run before that of the one that follows it
abbrev pub text_before : Run → Run → Run
text_before r more = record { world = more.world; number = more.number; from = more.from; next = more.next; text = r.text ++ more.text }

-- a run that ended where there was no room is followed by another
abbrev pub followed : Next → Run → Run → Run
followed (Ok (Some place)) r more = text_before r more
followed (Ok None) r more = r
followed (Err (Bad why)) r more = r
followed (Err (Refused why)) r more = r

-- runs over one input, each with an empty text, so many at most behind the first
unfoldable pub runs_over : ℕ → List ℕ → ℕ → World → ℕ → ℕ → Run
runs_over room input zero w number from = log_run room input (spot w number from [])
runs_over room input (suc n) w number from =
    let r = log_run room input (spot w number from []) in
    followed r.next r (runs_over room input n r.world r.number r.from)

-- nothing follows a bad line, or a refusal
abbrev pub unless_bad : Next → List ℕ → List ℕ
unless_bad (Ok (Some place)) text = text
unless_bad (Ok None) text = text
unless_bad (Err (Bad why)) text = []
unless_bad (Err (Refused why)) text = []

-- what the runs over each part and the closing line print, from a world and a line's number on, where `rest` was left
unfoldable pub parts_printed : ℕ → World → ℕ → List ℕ → List (List ℕ) → List ℕ
parts_printed room w number rest [] = end_text w.player number (length rest)
parts_printed room w number rest (part ∷ parts) =
    let input = rest ++ part in
    let r = runs_over room input (length input) w number 0 in
    r.text ++ unless_bad r.next (parts_printed room r.world r.number (drop r.from input) parts)

-- an input from its parts
abbrev pub joined : List (List ℕ) → List ℕ
joined parts = each (λ (part : List ℕ). part) parts
