-- The two ends of the list of errors: the text of the catalogue, or a refusal (Menhir manual, `--list-errors`).
use Rattle.std.specs.Prelude.{◌≡◌, ℕ, Bool, [], ◌++◌, Option, None, Some, codes, decimal}
use Rattle.mh_grammar.specs.declared.types.Grammar.{Grammar}
use Rattle.mh_items_kernels.specs.KernelTypes.{Automaton}
use Rattle.mh_tables_core.specs.Table.{TableData}
use Rattle.mh_tables_core.specs.Failing.{TooLongAt}
use Rattle.mh_report.specs.CatalogueTexts.{IsCatalogueText}
use Rattle.mh_grammar.specs.Text.{Text}
use Rattle.mh_top_drive.specs.declared.stop.Cause.{Cause}
use Rattle.mh_top_drive.specs.declared.stop.Cause.TheVariants.{Refused}

-- The line of the refusal for a state in which sentences fail, but only such whose cost is over the highest cost of a
-- catalogue.
abbrev pub too_long : ℕ → Text
too_long s = codes "menhir: too long: state " ++ (decimal s ++ codes "\n")

-- The two ends of the list of errors. `Lists`: out has the entries of the catalogue, and there is no cause. `TooLong`:
-- in some state only sentences of too high a cost fail; the lowest such state is refused, and out has nothing.
pub data ListsErrors (expected : Bool) (g : Grammar) (a : Automaton) (t : TableData) (cause : Option Cause) (out : Text) : Type 0 where
  Lists : ((s : ℕ) → TooLongAt t s → ⊥) → cause ≡ None → IsCatalogueText expected g a t out → ListsErrors expected g a t cause out
  TooLong : (s : ℕ) → TooLongAt t s → cause ≡ Some (Refused (too_long s)) → out ≡ [] → ListsErrors expected g a t cause out
