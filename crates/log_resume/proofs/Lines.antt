-- A line of a log is a call of the code, and what it prints is what the call answers. Assumes nothing.
use Rattle.std.specs.Prelude.{Result, Ok, Err}
use mathlib.Core.Path.{◌≡◌, refl, sym, ap, ◌∙◌, subst}
use mathlib.Core.Bool.{false}
use mathlib.Core.List.{List, [], ◌∷◌}
use Prim.Native.Nat.{ℕ, min}
use lib.IntN.{ℤ}
use lib.ListN.{length}
use Rattle.num.proofs.Choice.{never}
use Rattle.log_lines.specs.declared.Line.{Line}
use Rattle.log_lines.specs.declared.Line.TheVariants.{Write, WriteRam, Read, Peek, Clock, Version}
use Rattle.log_lines.specs.declared.LineFault.{LineFault}
use Rattle.log_lines.specs.Lines.{is_bad}
use Rattle.log_lines.proofs.Bytes.{FitLine}
use Rattle.log_lines.specs.Texts.{frame_lines, read_back_line}
use Rattle.version.specs.Versions.{version_of}
use Rattle.s3w2.specs.declared.Returned.TheVariants.{Done, Byte, Sample, Count, Flag, Ended}
use Rattle.s3w2.specs.Registers.{read_register_called, peek_register_answer}
use Rattle.log_player.specs.Worlds.{World}
use Rattle.s3w2.specs.Answers.{Answer, byte_answered}
use Rattle.log_player.specs.Applied.{silent, clocked_player, clocked_text, effect_of, after_line, printed}
use Rattle.call_lists.specs.Calls as list
use Rattle.call_lists.specs.Calls.{Call, Reply}
use Rattle.call_lists.specs.Seen.{FitCall}
use Rattle.chip_calls.specs.Ties.{Machine, reply_of}
use Rattle.chip_calls.specs.Code.{code}
use Rattle.resume.proofs.Alike.{Alike, same_answer, still_alike}
use Rattle.log_resume.specs.Cuts.{machine_of}

-- the call that a line makes; a bad one makes none, and a peek, which changes nothing, stands for it
abbrev pub call_of : Result Line LineFault → Call
call_of (Ok (Write a v)) = list.write_register 0 a v
call_of (Ok (WriteRam a v)) = list.write_pcm_ram a v
call_of (Ok (Read a)) = list.read_register 0 a
call_of (Ok (Peek a)) = list.peek_register 0 a
call_of (Ok (Clock n)) = list.clock_mixed_into_i32 (silent n) (silent n)
call_of (Ok (Version v)) = list.set_version (version_of v)
call_of (Err why) = list.peek_register 0 0

pub call_fits : (l : Result Line LineFault) → FitLine l → FitCall (call_of l)
call_fits (Ok (Write a v)) f = f
call_fits (Ok (WriteRam a v)) f = f
call_fits (Ok (Read a)) f = tt
call_fits (Ok (Peek a)) f = tt
call_fits (Ok (Clock n)) f = tt
call_fits (Ok (Version v)) f = tt
call_fits (Err why) f = tt

-- ---- what a line leaves
pub next-same : (w : World) (l : Result Line LineFault) → is_bad l ≡ false → machine_of (after_line w l) ≡ (code (machine_of w) (call_of l)).next
unfolding effect_of clocked_player code
next-same w (Ok (Write a v)) e = refl
next-same w (Ok (WriteRam a v)) e = refl
next-same w (Ok (Read a)) e = refl
next-same w (Ok (Peek a)) e = refl
next-same w (Ok (Clock n)) e = refl
next-same w (Ok (Version v)) e = refl
next-same w (Err why) e = never e

-- ---- what it prints
byte_in : Reply → ℕ
byte_in (list.byte x) = x
byte_in list.done = 0
byte_in (list.count x) = 0
byte_in (list.flag x) = 0
byte_in (list.ended s) = 0
byte_in (list.sample x e) = 0
byte_in (list.refused n) = 0

byte-in : (x : Answer) → byte_answered x ≡ byte_in (reply_of x)
unfolding byte_in
byte-in (Ok (Byte x)) = refl
byte-in (Ok Done) = refl
byte-in (Ok (Sample x e)) = refl
byte-in (Ok (Count x)) = refl
byte-in (Ok (Flag x)) = refl
byte-in (Ok (Ended s)) = refl
byte-in (Err why) = refl

abbrev frames_in : List (List ℤ) → List ℕ
frames_in [] = []
frames_in (left ∷ []) = []
frames_in (left ∷ right ∷ l) = frame_lines left right (min (length left) (length right))

abbrev text_of : Result Line LineFault → list.CallAnswer → List ℕ
text_of (Ok (Write a v)) h = []
text_of (Ok (WriteRam a v)) h = []
text_of (Ok (Read a)) h = read_back_line 82 a (byte_in h.reply)
text_of (Ok (Peek a)) h = read_back_line 80 a (byte_in h.reply)
text_of (Ok (Clock n)) h = frames_in h.sides
text_of (Ok (Version v)) h = []
text_of (Err why) h = []

text_same : (w : World) (l : Result Line LineFault) → printed w l ≡ text_of l (code (machine_of w) (call_of l)).answer
unfolding effect_of clocked_text code
text_same w (Ok (Write a v)) = refl
text_same w (Ok (WriteRam a v)) = refl
text_same w (Ok (Read a)) = ap (read_back_line 82 a) (byte-in (read_register_called w.player.chip 0 a).answer)
text_same w (Ok (Peek a)) = ap (read_back_line 80 a) (byte-in (peek_register_answer w.player.chip 0 a))
text_same w (Ok (Clock n)) = refl
text_same w (Ok (Version v)) = refl
text_same w (Err why) = refl

-- ---- two players with the same session fields and the same RAM
module _ (v w : World) (a : Alike (machine_of v) (machine_of w)) (l : Result Line LineFault) (f : FitLine l) where
  pub alike-printed : printed v l ≡ printed w l
  alike-printed = text_same v l ∙ ap (text_of l) (same_answer (machine_of v) (machine_of w) a (call_of l) (call_fits l f)) ∙ sym (text_same w l)

  pub alike-after : is_bad l ≡ false → Alike (machine_of (after_line v l)) (machine_of (after_line w l))
  alike-after e =
      subst (λ (m : Machine). Alike m (machine_of (after_line w l))) (sym (next-same v l e))
      (subst (λ (m : Machine). Alike (code (machine_of v) (call_of l)).next m) (sym (next-same w l e)) (still_alike (machine_of v) (machine_of w) a (call_of l) (call_fits l f)))
