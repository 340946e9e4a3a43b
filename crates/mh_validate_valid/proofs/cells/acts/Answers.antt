use Rattle.std.proofs.Common.{sym, ◌∙◌, true≢false}
use Rattle.mh_tabfile_form.specs.TableContent.{raw_row}
use Rattle.mh_validate_valid.proofs.CellLines.{row_acts_or}
use Rattle.mh_validate_valid.proofs.cells.acts.Goals as goal

pub returns-then-not-is_same : goal.returns-then-not-is_same
returns-then-not-is_same c = sym (row_acts_or c.args.grammar.now c.args.cells.now c.loop-cell.cell-index _ (raw_row c.args.grammar.now 0 c.args.cells.now) c.loop-cell-test.true c.loop-cell.invariant (λ e. true≢false (sym (c.is_same.ensures.1 e) ∙ c.if-not-is_same.true)))
