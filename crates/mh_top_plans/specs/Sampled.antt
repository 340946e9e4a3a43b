-- The output of `--sample`: one line of counts (this project's own).
use Rattle.std.specs.Prelude.{◌≡◌, ℕ, [], List, length, Option, None, Some}
use Rattle.mh_grammar.specs.declared.types.Grammar.{Grammar}
use Rattle.mh_tables_core.specs.Table.{TableData}
use Rattle.mh_tables_core.specs.Failing.{CatalogueRow, Catalogue, TooLongAt}
use Rattle.mh_sample.specs.Counts.{IsSampleLine}
use Rattle.mh_grammar.specs.Text.{Text}
use Rattle.mh_top_drive.specs.declared.stop.Cause.{Cause}
use Rattle.mh_top_drive.specs.declared.stop.Cause.TheVariants.{Refused}
use Rattle.mh_top_plans.specs.Listing.{too_long}

-- The text is the line of counts of the sample: of its grammar, of its table, of the rows of the table's catalogue, and
-- of the verdicts on its sentences.
pub record IsCountsText (g : Grammar) (t : TableData) (number : ℕ) (text : Text) : Type 0 where
  pub rows : List CatalogueRow
  pub catalogue : Catalogue t rows
  pub line : IsSampleLine g t number (length rows) text

-- The two ends of a sample. `Counts`: out has the line of counts, and there is no cause. `TooLong`: in some state only
-- sentences of too high a cost fail; the lowest such state is refused, and out has nothing.
pub data CountsSample (g : Grammar) (t : TableData) (number : ℕ) (cause : Option Cause) (out : Text) : Type 0 where
  Counts : ((s : ℕ) → TooLongAt t s → ⊥) → cause ≡ None → IsCountsText g t number out → CountsSample g t number cause out
  TooLong : (s : ℕ) → TooLongAt t s → cause ≡ Some (Refused (too_long s)) → out ≡ [] → CountsSample g t number cause out
