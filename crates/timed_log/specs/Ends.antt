-- The end of a timed log, behind whose last byte 10 so many bytes are left: the frame of the last stamp sounds, and the last line is told.
use Rattle.std.specs.Prelude.{Ok, Some, None, Err, Bool, false, cond, List, [], ◌∷◌, ◌++◌, ℕ, eqb, ltb}
use Rattle.log_player.specs.Steps.{Next}
use Rattle.log_player.specs.declared.Stop.TheVariants.{Bad, Refused}
use Rattle.log_player.specs.Worlds.{World}
use Rattle.log_player.specs.Runs.{Run, spot, log_run}
use Rattle.log_player.specs.Logs.{end_text}
use Rattle.timed_log.specs.declared.Clockwork.{Clockwork}

-- `C,1`
abbrev pub last_text : List ℕ
last_text = 67 ∷ 44 ∷ 49 ∷ 10 ∷ []

-- whether a frame is still to sound
unfoldable pub sounds_last : Clockwork → ℕ → Bool
sounds_last clock rest = cond (eqb rest 0) (ltb 0 clock.lines) false

-- a run that does nothing
abbrev pub run_none : World → Run
run_none w = record { world = w; number = 1; from = 0; next = Ok None; text = [] }

-- the run that sounds it
unfoldable pub last_run : ℕ → World → Clockwork → ℕ → Run
last_run room w clock rest = cond (sounds_last clock rest) (log_run room last_text (spot w 1 0 [])) (run_none w)

-- what is told behind it; nothing where it was not played
abbrev pub told_last : World → ℕ → ℕ → Next → List ℕ
told_last w number rest (Ok (Some place)) = []
told_last w number rest (Ok None) = end_text w.player number rest
told_last w number rest (Err (Bad why)) = []
told_last w number rest (Err (Refused why)) = []

abbrev pub last_told : ℕ → ℕ → Run → List ℕ
last_told number rest r = r.text ++ told_last r.world number rest r.next
