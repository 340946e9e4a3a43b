-- Messages files as stages of the work: a file is read, its content is found, and then it is checked against the table
-- or brought up to date (Menhir manual; the refusals, and files for another grammar, are this project's own).
use Rattle.std.specs.Prelude.{◌≡◌, ℕ, List, Option}
use Rattle.mh_grammar.specs.declared.types.Grammar.{Grammar}
use Rattle.mh_tables_core.specs.Table.{TableData}
use Rattle.mh_msgfile.specs.Messages.{MessagesFault as FileFault, BadShape, MsgSpells, HasFault}
use Rattle.mh_msgfile.specs.FileBlocks.{HasBlocks}
use Rattle.mh_msgfile.specs.LooseFiles.{LooseSpells, LacksMessage}
use Rattle.mh_msgfile.specs.declared.blocks.LooseBlocks.{LooseBlocks}
use Rattle.mh_msgfile.specs.declared.loose.LooseFile.{LooseFile}
use Rattle.mh_msgfile.specs.declared.messages.MsgFile.{MsgFile}
use Rattle.mh_check.specs.Checks.{SoundnessFault, FirstFault, sentences_of}
use Rattle.mh_check.specs.Compiling.{IsCompiled}
use Rattle.mh_check.specs.Texts.{file_line, check_line}
use Rattle.mh_update.specs.Updates.{FirstUnfit, IsUpdated}
use Rattle.mh_outside.specs.Shelf.{Files}
use Rattle.mh_top_drive.specs.FileContents.{IsFileContent}
use Rattle.mh_top_drive.specs.Shapes.{Prepared}
use Rattle.mh_grammar.specs.Text.{Text}
use Rattle.mh_top_drive.specs.StageResults.{StageResult, Go, Halt, Gives, Then}
use Rattle.mh_top_drive.specs.declared.stop.Cause.{Cause}
use Rattle.mh_top_drive.specs.declared.stop.Cause.TheVariants.{Refused}

-- ---- The content of a messages file.

-- The bytes spell no messages file, and the cause has the line for their first fault.
pub record IsFileFault (g : Grammar) (name bytes : Text) (cause : Cause) : Type 0 where
  pub fault : FileFault
  pub has_fault : HasFault g bytes fault
  pub cause_is : cause ≡ Refused (file_line name fault)

-- The messages file that the bytes of the named file spell, or the refusal of a file that spells none.
abbrev pub IsMessagesFile : Grammar → Text → Text → StageResult MsgFile → Type 0
IsMessagesFile g name bytes (Go file) = MsgSpells g bytes file
IsMessagesFile g name bytes (Halt cause) = IsFileFault g name bytes cause

-- ---- The messages of a messages file.

-- For each state its message, if it has one.
abbrev pub Messages : Type 0
Messages = List (Option Text)

-- Some sentence of the file is not refused at its last token, or two fail in one state, and the cause has the line for
-- the first of these faults.
pub record IsCheckFault (t : TableData) (name : Text) (file : MsgFile) (cause : Cause) : Type 0 where
  pub fault : SoundnessFault
  pub first : FirstFault t (sentences_of file) fault
  pub cause_is : cause ≡ Refused (check_line name fault)

-- The messages of a messages file for the states of the table, or the refusal of a file with a fault.
abbrev pub AreMessagesOf : TableData → Text → MsgFile → StageResult Messages → Type 0
AreMessagesOf t name file (Go messages) = IsCompiled t file messages
AreMessagesOf t name file (Halt cause) = IsCheckFault t name file cause

-- The messages of a file for the states of the table, from its bytes, or its refusal.
abbrev pub AreMessages : Grammar → TableData → Text → Text → StageResult Messages → Type 0
AreMessages g t name bytes s = Then (IsMessagesFile g name bytes) (AreMessagesOf t name) s

-- The messages of two files. The first is read and checked before the second is read.
abbrev pub AreMessagesOfBoth : Option Files → Prepared → Text → Text → StageResult (Messages × Messages) → Type 0
AreMessagesOfBoth files p first second s =
    Then (IsFileContent files (AreMessages p.grammar p.tabled.halting) first) (λ left. Then (IsFileContent files (AreMessages p.grammar p.tabled.halting) second) (λ right. Gives (left, right))) s

-- ---- Messages files brought up to date.

-- Some sentence of the file is not refused, or is refused before its last token, and the cause has the line for the
-- first such sentence.
pub record IsUpdateFault (t : TableData) (name : Text) (file : MsgFile) (cause : Cause) : Type 0 where
  pub fault : SoundnessFault
  pub first : FirstUnfit t (sentences_of file) fault
  pub cause_is : cause ≡ Refused (check_line name fault)

-- The text of a messages file with new comment lines for its sentences, or the refusal of a file with an unfit
-- sentence.
abbrev pub IsUpdatedOf : Prepared → Text → MsgFile → StageResult Text → Type 0
IsUpdatedOf p name file (Go text) = IsUpdated p.order.comment_expected p.grammar p.tabled.automaton p.tabled.halting file text
IsUpdatedOf p name file (Halt cause) = IsUpdateFault p.tabled.halting name file cause

-- The stage that reads the named file and brings it up to date.
abbrev pub IsUpdatedFile : Option Files → Prepared → Text → StageResult Text → Type 0
IsUpdatedFile files p name s = Then (IsFileContent files (IsMessagesFile p.grammar) name) (IsUpdatedOf p name) s

-- ---- Messages files for another version of the grammar.

-- The last block of the bytes has no message, and the cause has the line that names its first line.
pub record IsShapeFault (name bytes : Text) (cause : Cause) : Type 0 where
  pub line : ℕ
  pub lacks : LacksMessage bytes line
  pub cause_is : cause ≡ Refused (file_line name (BadShape line))

-- The entries of the bytes of the named file, whose sentence lines are not read; or the refusal of a file without
-- entries.
abbrev pub IsLooseFile : Text → Text → StageResult LooseFile → Type 0
IsLooseFile name bytes (Go file) = LooseSpells bytes file
IsLooseFile name bytes (Halt cause) = IsShapeFault name bytes cause

-- ---- Messages files that are examined.

-- The blocks of the bytes of the named file. All bytes have blocks, so no file is refused.
abbrev pub AreLooseBlocks : Text → Text → StageResult LooseBlocks → Type 0
AreLooseBlocks name bytes (Go found) = HasBlocks bytes found
AreLooseBlocks name bytes (Halt cause) = ⊥
