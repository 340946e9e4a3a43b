use Rattle.std.proofs.Common.{◌≡◌, ◌++◌, take}
use Rattle.mh_lint_messages.proofs.MissingTexts.{missing_row_texts}
use Rattle.mh_lint_messages.proofs.errors.write_missing.Given as goal

abbrev pub invariant-loop-row : goal.invariant-loop-row
invariant-loop-row l = l.text.items ≡ l.initial.text.items ++ missing_row_texts l.grammar l.kept (take l.row-index l.rows)
