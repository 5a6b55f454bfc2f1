-- The lines that were taken, played as one list. Assumes nothing.
use mathlib.Core.Path.{◌≡◌, ap, ap₂, ◌∙◌}
use mathlib.Core.List.{List, ◌++◌}
use Prim.Native.Nat.{ℕ, ◌*◌, ◌/◌, min}
use lib.IntN.{ℤ}
use lib.ListN.{length, take, drop, replicate}
use Rattle.sizes.specs.Sizes.{stems_per_frame}
use Rattle.s3w2.specs.declared.Chip.{Chip}
use Rattle.s3w2.specs.declared.Called.{Called}
use Rattle.chip_lists.specs.Plays.{Playing, playing, play_called, play_left}
use Rattle.log_sound.specs.declared.Gathered.{Gathered}
use Rattle.log_sound.specs.Gathering.{Gathering, list_from, gathered_told}
use Rattle.log_sound.specs.Sounding.{lines_taken, sounded_called, sounded_left, sounded_stems, sounded_others, sounded_of}

module _ (chip : Chip) (input : List ℕ) (from : ℕ) (ram : List ℕ) (queues stems others : List ℤ) (room : ℕ) (enough : room ≡ min (length stems) (length others) / stems_per_frame) where
  -- what `gather` takes
  abbrev pub taken_in : Gathering
  taken_in = list_from input room from (replicate 256 0) (replicate 256 0) (replicate 256 0)

  taken : taken_in ≡ lines_taken input from stems others
  taken = ap (λ (n : ℕ). list_from input n from (replicate 256 0) (replicate 256 0) (replicate 256 0)) enough

  -- what `play` is handed
  abbrev pub handed : Gathered → List ℕ → Playing
  handed r values = playing chip ram queues (take r.count values) (take (16 * r.frames) stems) (take (16 * r.frames) others)

  module _ (r : Gathered) (kinds addresses values : List ℕ) (q : r ≡ gathered_told taken_in) (k : kinds ≡ taken_in.kinds) (a : addresses ≡ taken_in.addresses) (v : values ≡ taken_in.values) where
    told : r ≡ gathered_told (lines_taken input from stems others)
    told = q ∙ ap gathered_told taken

    pub called_is : (c : Called) → c ≡ play_called (take r.count kinds) (take r.count addresses) (handed r values) → c ≡ sounded_called chip input from ram queues stems others
    unfolding sounded_called
    called_is c e = (rw (q, k, a, v) at e) ∙ ap (λ (g : Gathering). play_called (take g.count g.kinds) (take g.count g.addresses) (handed (gathered_told g) g.values)) taken

    pub left_is : play_left (take r.count kinds) (take r.count addresses) (handed r values) ≡ sounded_left chip input from ram queues stems others
    unfolding sounded_left
    left_is = rw (q, k, a, v) (ap (λ (g : Gathering). play_left (take g.count g.kinds) (take g.count g.addresses) (handed (gathered_told g) g.values)) taken)

    pub sounded-is : (c : Called) → c ≡ play_called (take r.count kinds) (take r.count addresses) (handed r values)
        → record { chip = c.chip; answer = c.answer; count = r.count; frames = r.frames; from = r.from } ≡ sounded_of chip input from ram queues stems others
    unfolding sounded_of
    sounded-is c e = ap₂ (λ (x : Called) (y : Gathered). record { chip = x.chip; answer = x.answer; count = y.count; frames = y.frames; from = y.from }) (called_is c e) told

    pub stems-are : (s : List ℤ) → s ≡ (play_left (take r.count kinds) (take r.count addresses) (handed r values)).stems → s ++ drop (16 * r.frames) stems ≡ sounded_stems chip input from ram queues stems others
    unfolding sounded_stems
    stems-are s e = ap₂ (λ (x : List ℤ) (y : Gathered). x ++ drop (16 * y.frames) stems) (e ∙ ap (λ (p : Playing). p.stems) left_is) told

    pub others-are : (s : List ℤ) → s ≡ (play_left (take r.count kinds) (take r.count addresses) (handed r values)).others → s ++ drop (16 * r.frames) others ≡ sounded_others chip input from ram queues stems others
    unfolding sounded_others
    others-are s e = ap₂ (λ (x : List ℤ) (y : Gathered). x ++ drop (16 * y.frames) others) (e ∙ ap (λ (p : Playing). p.others) left_is) told
