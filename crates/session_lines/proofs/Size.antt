-- A voice's line has at most 15,513 bytes. Assumes nothing.
use mathlib.Core.List.{List, ◌++◌, map}
use Prim.Native.Nat.{ℕ, ◌≤◌, ◌<◌, min}
use native.Mathlib.Omega.{arith}
use lib.IntN.{ℤ}
use lib.ListN.{length}
use mir.Syntax.{w16}
use mir.Val.{of_z}
use Rattle.sizes.specs.Sizes.{fifo_capacity}
use Rattle.cores.specs.Sizes.{chip_voices}
use Rattle.line_fields.proofs.Good.{joined}
use Rattle.line_fields.proofs.Size.{line-most}
use Rattle.version.specs.Versions.{has3ws8pna}
use Rattle.version.specs.declared.SguVersion.{SguVersion}
use Rattle.voice.specs.declared.Channel.{Channel}
use Rattle.session_lines.specs.Numbers.{state_numbers, table_numbers, queued_of}
use Rattle.session_lines.specs.Lines.{voice_text}
use Rattle.session_lines.proofs.Storing.{size-queue}
use Rattle.session_lines.proofs.Back.{Whole}
use Rattle.session_lines.proofs.Inside.{inside}
use Rattle.session_lines.proofs.Session.{size-first, count_most, in_parts}

pub voice-size : (version : SguVersion) (number : ℕ) (c : Channel) (w : List ℕ) (q : List ℤ) → number < chip_voices → Whole version c w q → length (voice_text number c w q) ≤ 15513
voice-size version number c w q h r =
    let fifo = has3ws8pna version in
    let X = state_numbers number c ++ table_numbers w in
    let n = min c.fifo.count fifo_capacity in
    let Q = map (of_z w16) (queued_of c.fifo q) in
    let i = inside version number c w q h r in
    let size = size-first number c w in
    rw (in_parts number c w q h) (line-most fifo X n Q size (size-queue q c.fifo.head n) (omega arith) (joined fifo X n Q size i.first (count_most fifo c.fifo.count) i.samples))
