-- Table files: the content that the bytes of a file spell (the form of table files is this project's own).
use Rattle.std.specs.Prelude.{◌≡◌}
use Rattle.mh_tabfile_form.specs.declared.types.RawTable.{RawTable}
use Rattle.mh_tabfile_read.specs.declared.reading.TabFault.{TabFault}
use Rattle.mh_tabfile_read.specs.declared.reading.TabFault.TheVariants.{Version, TabShape, Memory}
use Rattle.mh_tabfile_form.specs.Form.{IsFileOf}
use Rattle.mh_tabfile_read.specs.Reading.{IsOtherVersion, IsBadLine}
use Rattle.mh_grammar.specs.Text.{Text}
use Rattle.mh_top_drive.specs.StageResults.{StageResult, Go, Halt}
use Rattle.mh_top_drive.specs.declared.stop.Cause.{Cause}
use Rattle.mh_top_drive.specs.declared.stop.Cause.TheVariants.{Refused}
use Rattle.mh_top_prepare.specs.TableFileTexts.{table_fault_line}

-- The bytes are no table file: they are of another version; or they are not, and the line is the first with which no
-- table file begins. Lack of memory is no fault of bytes.
abbrev pub HasTableFault : Text → TabFault → Type 0
HasTableFault bytes Version = IsOtherVersion bytes
HasTableFault bytes (TabShape line) = (IsOtherVersion bytes → ⊥) × IsBadLine bytes line
HasTableFault bytes Memory = ⊥

-- The bytes are no table file, and the cause has the line on err for their fault.
pub record IsTableFault (name bytes : Text) (cause : Cause) : Type 0 where
  pub fault : TabFault
  pub has_fault : HasTableFault bytes fault
  pub cause_is : cause ≡ Refused (table_fault_line name fault)

-- The content that the bytes of a table file spell, or the refusal of a file that spells none.
abbrev pub IsTableFile : Text → Text → StageResult RawTable → Type 0
IsTableFile name bytes (Go raw) = IsFileOf bytes raw
IsTableFile name bytes (Halt cause) = IsTableFault name bytes cause
