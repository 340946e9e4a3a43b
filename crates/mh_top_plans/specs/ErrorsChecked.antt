-- The output of `--check-errors`: a line for each thing that is wrong with a messages file, or a refusal (this
-- project's own).
use Rattle.std.specs.Prelude.{◌≡◌, ℕ, List, [], ◌∷◌, Option, None, Some}
use Rattle.mh_grammar.specs.declared.types.Grammar.{Grammar}
use Rattle.mh_tables_core.specs.Table.{TableData}
use Rattle.mh_tables_core.specs.Failing.{TooLongAt}
use Rattle.mh_msgfile.specs.declared.blocks.LooseBlocks.{LooseBlocks}
use Rattle.mh_rebase.specs.ErrorLines.{IsErrorText}
use Rattle.mh_grammar.specs.Text.{Text}
use Rattle.mh_top_drive.specs.declared.stop.Cause.{Cause}
use Rattle.mh_top_drive.specs.declared.stop.Cause.TheVariants.{Refused}
use Rattle.mh_top_plans.specs.Listing.{too_long}

-- The cause of the end of a mode that writes findings to out: no cause if there is no finding, and otherwise a refusal
-- that writes no line to err.
abbrev pub cause_of_lines : Text → Option Cause
cause_of_lines [] = None
cause_of_lines (byte ∷ bytes) = Some (Refused [])

-- The two ends of examining a messages file. `Checks`: out has the lines, and the work is refused if there is a line.
-- `TooLong`: in some state only sentences of too high a cost fail; the work is refused, the refusal names the lowest
-- such state, and out has nothing.
pub data ChecksErrors (g : Grammar) (t : TableData) (name : Text) (blocks : LooseBlocks) (cause : Option Cause) (out : Text) : Type 0 where
  Checks : ((s : ℕ) → TooLongAt t s → ⊥) → cause ≡ cause_of_lines out → IsErrorText g t name blocks out → ChecksErrors g t name blocks cause out
  TooLong : (s : ℕ) → TooLongAt t s → cause ≡ Some (Refused (too_long s)) → out ≡ [] → ChecksErrors g t name blocks cause out
