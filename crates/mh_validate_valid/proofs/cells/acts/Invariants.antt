use Rattle.std.proofs.Common.{◌≡◌, drop}
use Rattle.mh_tabfile_form.specs.TableContent.{raw_row}
use Rattle.mh_validate_valid.proofs.cells.acts.Given as goal

abbrev pub invariant-loop-cell : goal.invariant-loop-cell
invariant-loop-cell l = raw_row l.grammar l.cell-index (drop l.cell-index l.cells) ≡ raw_row l.grammar 0 l.cells
