-- A state that is written, and read into a fresh player, line by line, is the one from which a cut log goes on. Assumes nothing.
use mathlib.Core.Path.{◌≡◌, refl, sym, ap, ap₂, ◌∙◌}
use mathlib.Core.Bool.{false}
use mathlib.Core.List.{List, ◌++◌, map, append_assoc}
use Prim.Native.Nat.{ℕ, zero, suc, ◌+◌, ◌/◌, ◌%◌, ◌≤◌, ◌<◌}
use native.Mathlib.Omega.{arith}
use lib.IntN.{ℤ, pos}
use lib.ListN.{length, replicate}
use Rattle.sizes.specs.Sizes.{num_channels}
use Rattle.cores.specs.Sizes.{chip_voices, chip_queues}
use Rattle.version.specs.declared.SguVersion.{SguVersion}
use Rattle.session_lines.specs.Lines.{ReadVoice, voice, malformed, queued, voice_text, read_voice}
use Rattle.voices.specs.Core.{channel_at}
use Rattle.s3w2.specs.declared.Chip.{Chip}
use Rattle.s3w2.specs.Chips.{core_at, core_queues}
use Rattle.std.specs.Prelude.{Ok}
use Rattle.session.specs.declared.LineCalled.{LineCalled}
use Rattle.session.specs.Heads.{read_head_called}
use Rattle.session.specs.Voices.{table_at, line_of_voice, voice_called, voice_read_called, read_voice_called, read_voice_queues}
use Rattle.session.proofs.Lines.{goes-on}
use Rattle.session.proofs.Loaded.{queue-here}
use Rattle.plain_chip.specs.Voices.{PlainVoice}
use Rattle.slots.specs.Slots.{Slot, plain_of}
use Rattle.slots.proofs.Loads.{fit-plain}
use Rattle.chip_as_slots.specs.Whole.{row, slot_at}
use Rattle.call_lists.specs.Runs.{after}
use Rattle.call_lists.specs.Texts as texts
use Rattle.call_lists.specs.Calls as list
use Rattle.session_texts.specs.Session.{voice_read}
use Rattle.session_texts.proofs.Read.{session-is-ok}
use Rattle.session_texts.proofs.Written.{text-plain}
use Rattle.chip_calls.specs.Ties.{Machine, GoodMachine}
use Rattle.chip_calls.specs.Code.{code}
use Rattle.chip_calls.proofs.Accepting.{core-good, state-accepted}
use Rattle.chip_calls.proofs.Every.{tied}
use Rattle.resume.specs.Stops.{Second}
use Rattle.resume.proofs.Steps.{HeldMachine}
use Rattle.resume.proofs.Second.{headed_chip, head-called, headed-held, read-on}
use Rattle.log_player.specs.declared.Player.{Player}
use Rattle.log_player.specs.Worlds.{World, with_chip, fresh_player}
use Rattle.log_state.specs.declared.Taken.{Taken}
use Rattle.log_state.specs.Lines.{state_line, state_lines, line_count, state_text, own_line, take_line, take_line_queues}
use Rattle.log_state.specs.Loads.{Load, read_lines}
use Rattle.log_state.specs.Loads as load
use Rattle.log_state.proofs.Stated.{state-ended, read_next, take_head, take-head-queues, take-voice, take-voice-queues, head-line, voice-own}
use Rattle.log_resume.specs.Cuts.{machine_of, fresh, loaded}
use Rattle.log_resume.proofs.Fresh.{fresh-second}

-- a line that tells of a voice is read, and the version stays
done-of : (c : Chip) (r : ReadVoice) (ch : ℕ) (v : PlainVoice) → voice_read r ≡ texts.voice ch v → (voice_called c r).answer ≡ Ok tt
done-of c (voice x) ch v e = refl
done-of c (malformed field) ch v e = absurd (let z : ◌≡◌ {A = ℕ} 0 1 = cc in omega arith)
done-of c queued ch v e = absurd (let z : ◌≡◌ {A = ℕ} 0 1 = cc in omega arith)

version-of : (c : Chip) (r : ReadVoice) → (voice_called c r).chip.version ≡ c.version
version-of c (voice x) = refl
version-of c (malformed field) = refl
version-of c queued = refl

module _ (w : World) (h : HeldMachine (machine_of w)) where
  abbrev size : ℕ
  size = length w.ram

  abbrev chip : Chip
  chip = w.player.chip

  abbrev version : SguVersion
  version = chip.version

  abbrev line : ℕ → List ℕ
  line i = line_of_voice chip w.queues i

  -- voice i, channel i % 8 of core i / 8
  abbrev slot : ℕ → Slot
  slot i = slot_at (core_at chip (i / num_channels)) (core_queues (i / num_channels) w.queues) (i % num_channels)

  reads : (i : ℕ) → i < chip_voices → voice_read (read_voice version (line i)) ≡ texts.voice i (plain_of (slot i))
  unfolding line_of_voice
  reads i l =
      let k : ℕ = i / num_channels in
      let ch : ℕ = i % num_channels in
      let ok = core-good chip w.ram w.queues h k (omega arith) ch (omega arith) in
      ap (λ (t : List ℕ). voice_read (read_voice version t)) (ap (voice_text i (channel_at (core_at chip k) ch) (table_at (core_at chip k) ch)) (queue-here w.queues i) ∙ text-plain version w.ram (slot i) ok i)
      ∙ session-is-ok.voice-back version i (plain_of (slot i)) l (fit-plain version w.ram (slot i) ok)

  -- ---- a chip of the same version reads a voice's line
  module _ (c : Chip) (q : List ℤ) (g : GoodMachine c w.ram q) (e : c.version ≡ version) (i : ℕ) (l : i < chip_voices) where
    called_is : read_voice_called c q (line i) ≡ voice_called c (read_voice c.version (line i))
    unfolding voice_read_called
    called_is = sym (goes-on c q _ _ _ g.long (state-accepted c w.ram q g))

    is-done : (read_voice_called c q (line i)).answer ≡ Ok tt
    is-done =
        ap (λ (x : LineCalled). x.answer) called_is
        ∙ done-of c (read_voice c.version (line i)) i _ (ap (λ (v : SguVersion). voice_read (read_voice v (line i))) e ∙ reads i l)

    still : (read_voice_called c q (line i)).chip.version ≡ version
    still = ap (λ (x : LineCalled). x.chip.version) called_is ∙ version-of c (read_voice c.version (line i)) ∙ e

    held : GoodMachine (read_voice_called c q (line i)).chip w.ram (read_voice_queues c q (line i))
    unfolding code
    held = (tied (record { chip = c; ram = w.ram; queues = q }) g (list.read_voice (line i)) tt).held

  -- ---- the lines from voice i on
  abbrev at : Player → List ℤ → Machine
  at p q = record { chip = p.chip; ram = w.ram; queues = q }

  abbrev ended : Player → Machine → List ℕ → Load
  ended p m more = load.loaded (with_chip p m.chip) m.queues more

  voices : (n i : ℕ) (g : ℕ → List ℕ) → ((j k : ℕ) → j < n → k ≡ i + j → g j ≡ line k) → i + n ≤ chip_voices → (p : Player) (q : List ℤ) → GoodMachine p.chip w.ram q → p.chip.version ≡ version → (more : List ℕ)
      → (ram : ℕ) → read_lines false n (suc i) p ram q (state_lines chip size w.queues n (suc i) ++ more) ≡ ended p (after code (at p q) (map list.read_voice (row n g))) more
  unfolding read_lines code
  voices zero i g f b p q k e more ram = refl
  voices (suc n) i g f b p q k e more ram =
      let here : i < chip_voices = omega arith in
      let l : List ℕ = state_line chip size w.queues (suc i) in
      let is : own_line i l ≡ line i = voice-own chip size w.queues i (omega arith) in
      let rest : List ℕ = state_lines chip size w.queues n (suc (suc i)) in
      let done : (take_line false p ram q (suc i) l).answer ≡ Ok tt = ap (λ (t : Taken). t.answer) (take-voice false p ram q l i) ∙ ap (λ (t : List ℕ). (read_voice_called p.chip q t).answer) is ∙ is-done p.chip q k e i here in
      let player : (take_line false p ram q (suc i) l).player ≡ with_chip p (read_voice_called p.chip q (line i)).chip = ap (λ (t : Taken). t.player) (take-voice false p ram q l i) ∙ ap (λ (t : List ℕ). with_chip p (read_voice_called p.chip q t).chip) is in
      let queues : take_line_queues false p q (suc i) l ≡ read_voice_queues p.chip q (line i) = take-voice-queues false p ram q l i ∙ ap (read_voice_queues p.chip q) is in
      ap (read_lines false (suc n) (suc i) p ram q) (append_assoc l rest more)
      ∙ read_next l (rest ++ more) (state-ended chip size w.queues (suc i) (omega arith)) false n (suc i) p ram q done
      ∙ ap₂ (λ (x : Player) (y : List ℤ). read_lines false n (suc (suc i)) x ram y (rest ++ more)) player queues
      ∙ voices n (suc i) (λ j. g (suc j)) (λ j m o r. f (suc j) m (omega arith) (omega (arith, r))) (omega arith) (with_chip p (read_voice_called p.chip q (line i)).chip) (read_voice_queues p.chip q (line i)) (held p.chip q k e i here) (still p.chip q k e i here) more ram
      ∙ ap (λ (t : List ℕ). ended p (after code (code (at p q) (list.read_voice t)).next (map list.read_voice (row n (λ j. g (suc j))))) more) (sym (f 0 i (omega arith) (omega arith)))

  -- ---- THE STATE READ: a fresh player that reads it, and whatever follows it, goes on as `loaded` does, with the RAM's bytes behind the lines
  pub loads : (more : List ℕ) → read_lines false line_count 0 (fresh_player 65536) size (replicate chip_queues (pos 0)) (state_text w ++ more) ≡ load.loaded (loaded w).player (loaded w).queues (w.ram ++ more)
  loads more =
      let m = machine_of w in
      let second : Machine = fresh w.ram in
      let s : Second m second = fresh-second m h in
      let p = fresh_player 65536 in
      let q : List ℤ = replicate chip_queues (pos 0) in
      let l : List ℕ = state_line chip size w.queues 0 in
      let is = head-line chip size w.queues in
      let rest : List ℕ = state_lines chip size w.queues chip_voices 1 in
      let called = head-called m second h s in
      let done : (take_line false p size q 0 l).answer ≡ Ok tt = ap (λ (t : Taken). t.answer) (take_head false p size q l) ∙ ap (λ (t : List ℕ). (read_head_called p.chip size t).answer) is ∙ ap (λ (x : LineCalled). x.answer) called in
      let player : (take_line false p size q 0 l).player ≡ with_chip p (headed_chip m second h s) = ap (λ (t : Taken). t.player) (take_head false p size q l) ∙ ap (λ (t : List ℕ). with_chip p (read_head_called p.chip size t).chip) is ∙ ap (λ (x : LineCalled). with_chip p x.chip) called in
      ap (read_lines false line_count 0 p size q) (append_assoc (l ++ rest) w.ram more ∙ append_assoc l rest (w.ram ++ more))
      ∙ read_next l (rest ++ (w.ram ++ more)) (state-ended chip size w.queues 0 (omega arith)) false chip_voices 0 p size q done
      ∙ ap₂ (λ (x : Player) (y : List ℤ). read_lines false chip_voices 1 x size y (rest ++ (w.ram ++ more))) player (take-head-queues false p size q l)
      ∙ voices chip_voices 0 line (λ j k o r. ap line (omega (arith, r))) (omega arith) (with_chip p (headed_chip m second h s)) q (headed-held m second h s) refl (w.ram ++ more) size
      ∙ ap (λ (x : Machine). load.loaded (record { chip = x.chip; left = 0; right = 0 }) x.queues (w.ram ++ more)) (sym (read-on m second h s))
