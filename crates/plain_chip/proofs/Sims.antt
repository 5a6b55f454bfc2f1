-- One model of voices seen as another: each operation gives the same, and keeps what holds of a good voice.
use mathlib.Core.Path.{◌≡◌}
use mathlib.Core.List.{List}
use Prim.Native.Nat.{ℕ, ◌<◌}
use lib.ListN.{set}
use Rattle.version.specs.declared.SguVersion.{SguVersion}
use Rattle.ticks.specs.declared.Sides.{Sides}
use Rattle.ticks.specs.declared.Target.{Target}
use Rattle.plain_chip.specs.Voices.{PlainVoice}
use Rattle.plain_chip.specs.Ticks.{VoiceTick}
use Rattle.plain_chip.specs.Models.{Model}
use Rattle.plain_chip.specs.Good.{Bytes, FitVoice}

abbrev pub tick_seen : {A B : Type 0} → (A → B) → VoiceTick A → VoiceTick B
tick_seen g r = record { voice = g r.voice; sides = r.sides; value = r.value }

pub record Sim {A B : Type 0} (g : A → B) (P : SguVersion → List ℕ → A → Type 0) (a : Model A) (b : Model B) : Type 0 where
  pub absent : g a.absent ≡ b.absent
  pub absent-ok : (version : SguVersion) (ram : List ℕ) → P version ram a.absent
  -- what is seen, and what is read from a session
  pub session : (x : A) → a.session x ≡ b.session (g x)
  pub load : (version : SguVersion) (ram : List ℕ) (v : PlainVoice) (x : A) → FitVoice version v → P version ram x → g (a.load v x) ≡ b.load v (g x)
  pub load_ok : (version : SguVersion) (ram : List ℕ) (v : PlainVoice) (x : A) → FitVoice version v → P version ram x → P version ram (a.load v x)
  -- what changes a voice
  pub reset : (x : A) → g (a.reset x) ≡ b.reset (g x)
  pub reset-ok : (version : SguVersion) (ram ram' : List ℕ) (x : A) → P version ram x → P version ram' (a.reset x)
  pub set_version : (version : SguVersion) (x : A) → g (a.set_version version x) ≡ b.set_version version (g x)
  pub set_version-ok : (old version : SguVersion) (ram : List ℕ) (x : A) → P old ram x → P version ram (a.set_version version x)
  pub write_control : (version : SguVersion) (ram : List ℕ) (offset value : ℕ) (x : A) → P version ram x → g (a.write_control version offset value x) ≡ b.write_control version offset value (g x)
  pub write_control-ok : (version : SguVersion) (ram : List ℕ) (offset value : ℕ) (x : A) → value < 256 → P version ram x → P version ram (a.write_control version offset value x)
  pub write_pcm : (offset value : ℕ) (x : A) → g (a.write_pcm offset value x) ≡ b.write_pcm offset value (g x)
  pub write_pcm-ok : (version : SguVersion) (ram : List ℕ) (offset value : ℕ) (x : A) → value < 256 → P version ram x → P version ram (a.write_pcm offset value x)
  pub write_wave : (at value : ℕ) (x : A) → g (a.write_wave at value x) ≡ b.write_wave at value (g x)
  pub write_wave-ok : (version : SguVersion) (ram : List ℕ) (at value : ℕ) (x : A) → value < 256 → P version ram x → P version ram (a.write_wave at value x)
  pub after_read : (offset : ℕ) (x : A) → g (a.after_read offset x) ≡ b.after_read offset (g x)
  pub after_read-ok : (version : SguVersion) (ram : List ℕ) (offset : ℕ) (x : A) → P version ram x → P version ram (a.after_read offset x)
  pub poked : (address : ℕ) (x : A) → g (a.poked address x) ≡ b.poked address (g x)
  pub poked-ok : (version : SguVersion) (ram : List ℕ) (address value : ℕ) (x : A) → P version ram x → P version (set ram address value) (a.poked address x)
  -- ticks
  pub tick : (version : SguVersion) (ram : List ℕ) (t : Target) (sides : Sides) (x : A) → Bytes ram → P version ram x → tick_seen g (a.tick version ram t sides x) ≡ b.tick version ram t sides (g x)
  pub tick-ok : (version : SguVersion) (ram : List ℕ) (t : Target) (sides : Sides) (x : A) → Bytes ram → P version ram x → P version ram (a.tick version ram t sides x).voice
