-- The refusal of table files that are not valid for the grammar.
use Rattle.std.specs.Prelude.{◌≡◌, ℕ, Option}
use Rattle.mh_grammar.specs.declared.types.Grammar.{Grammar}
use Rattle.mh_tabfile_form.specs.declared.types.RawTable.{RawTable}
use Rattle.mh_validate_valid.specs.declared.reason.Reason.{Reason}
use Rattle.mh_validate_valid.specs.Valid.{IsInvalidAt}
use Rattle.mh_grammar.specs.Text.{Text}
use Rattle.mh_top_drive.specs.declared.stop.Cause.{Cause}
use Rattle.mh_top_drive.specs.declared.stop.Cause.TheVariants.{Refused}
use Rattle.mh_top_prepare.specs.TableTexts.{invalid_line}

-- The file is not valid for the grammar, and the cause has the line for the first test that fails.
pub record IsInvalidTableFile (name : Text) (g : Grammar) (raw : RawTable) (cause : Cause) : Type 0 where
  pub state : Option ℕ
  pub reason : Reason
  pub first : IsInvalidAt g raw state reason
  pub cause_is : cause ≡ Refused (invalid_line name state reason)
