-- The output of `--rebase-errors`: the rebased file, or a refusal (this project's own).
use Rattle.std.specs.Prelude.{◌≡◌, ℕ, Bool, [], Option, None, Some}
use Rattle.mh_grammar.specs.declared.types.Grammar.{Grammar}
use Rattle.mh_items_kernels.specs.KernelTypes.{Automaton}
use Rattle.mh_tables_core.specs.Table.{TableData}
use Rattle.mh_tables_core.specs.Failing.{TooLongAt}
use Rattle.mh_msgfile.specs.declared.loose.LooseFile.{LooseFile}
use Rattle.mh_rebase.specs.RebasedText.{IsRebased}
use Rattle.mh_grammar.specs.Text.{Text}
use Rattle.mh_top_drive.specs.declared.stop.Cause.{Cause}
use Rattle.mh_top_drive.specs.declared.stop.Cause.TheVariants.{Refused}
use Rattle.mh_top_plans.specs.Listing.{too_long}

-- The two ends of rebasing a messages file. `Rebases`: out has the rebased text, and there is no cause. `TooLong`: in
-- some state only sentences of too high a cost fail; the lowest such state is refused, and out has nothing.
pub data RebasesFile (expected : Bool) (g : Grammar) (a : Automaton) (t : TableData) (file : LooseFile) (cause : Option Cause) (out : Text) : Type 0 where
  Rebases : ((s : ℕ) → TooLongAt t s → ⊥) → cause ≡ None → IsRebased expected g a t file out → RebasesFile expected g a t file cause out
  TooLong : (s : ℕ) → TooLongAt t s → cause ≡ Some (Refused (too_long s)) → out ≡ [] → RebasesFile expected g a t file cause out
