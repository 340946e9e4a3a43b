use Rattle.std.proofs.Common.{sym, append-nil}
use Rattle.mh_lint_messages.proofs.MissingTexts.{rows_more}
use Rattle.mh_lint_messages.proofs.errors.write_missing.Goals as goal

pub loop-row-init : goal.loop-row-init
loop-row-init c = sym (append-nil c.args.text.now.items)

pub loop-row-preserved : goal.loop-row-preserved
loop-row-preserved c =
    rows_more c.args.grammar.now c.args.kept.now c.args.rows.now c.loop-row.row-index c.row-item.result c.args.text.now.items c.loop-row.text.items c.write_missing_row.new.text.items c.loop-row-test.true c.row-item.is c.loop-row.invariant c.in_ok-write_missing_row.ensures
