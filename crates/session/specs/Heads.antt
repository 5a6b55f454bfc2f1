-- A session's head written, and read. Of the RAM that is lent only the length counts.
use Rattle.std.specs.Prelude.{Ok, Err, cond, List, ℕ, eqb}
use Rattle.line_fields.specs.Text.{written_of, put_of}
use Rattle.session_lines.specs.Head.{head_text, read_head, HeadLine}
use Rattle.line_fields.specs.declared.FieldError.TheVariants as fault
use Rattle.version.specs.declared.SguVersion.{SguVersion}
use Rattle.s3w2.specs.Fresh.{set_version_called}
use Rattle.s3w2.specs.declared.Chip.{Chip}
use Rattle.s3w2.specs.declared.Refusal.TheVariants.{RamLength, NotAccepted}
use Rattle.session.specs.declared.LineRefusal.TheVariants.{OfChip, Malformed, OtherLength}
use Rattle.session.specs.declared.LineCalled.{LineCalled}
use Rattle.session.specs.Answers.{LineAnswer, line_answered, wrote, with_lent_ram}
use Rattle.session_lines.specs.declared.SessionHead.TheVariants.{Version, Sized}

unfoldable pub write_head_answer : Chip → ℕ → List ℕ → LineAnswer ℕ
write_head_answer chip ram out = with_lent_ram chip ram (wrote (written_of out (head_text chip.version ram))) (Err (OfChip NotAccepted)) (Err (OfChip RamLength))

unfoldable pub write_head_text : Chip → ℕ → List ℕ → List ℕ
write_head_text chip ram out = with_lent_ram chip ram (put_of out (head_text chip.version ram)) out out

-- what `set_version` does
abbrev pub version_called : Chip → SguVersion → LineCalled
version_called chip version = line_answered (set_version_called chip version).chip (Ok tt)

-- what a version that was read does, or a refusal
abbrev pub head_answered : Chip → LineAnswer SguVersion → LineCalled
head_answered chip (Ok version) = version_called chip version
head_answered chip (Err why) = line_answered chip (Err why)

-- a head of two fields does not tell the length, and the lent one is taken for it
abbrev pub head_called : Chip → ℕ → HeadLine → LineCalled
head_called chip ram (Ok (Version version)) = version_called chip version
head_called chip ram (Ok (Sized version size)) = cond (eqb size ram) (version_called chip version) (line_answered chip (Err OtherLength))
head_called chip ram (Err (fault.Malformed field)) = line_answered chip (Err (Malformed field))

unfoldable pub read_head_called : Chip → ℕ → List ℕ → LineCalled
read_head_called chip ram text = with_lent_ram chip ram (head_called chip ram (read_head text)) (line_answered chip (Err (OfChip NotAccepted))) (line_answered chip (Err (OfChip RamLength)))
