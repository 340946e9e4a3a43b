use Rattle.std.proofs.Common.{◌++◌, ap, sym, ◌∙◌, append-nil}
use Rattle.mh_grammar.specs.Text.{Text}
use Rattle.std.proofs.lemmas.Result.{on_ok_weaker}
use Rattle.mh_lint_messages.proofs.MissingTexts.{row_written, row_kept}
use Rattle.mh_lint_messages.proofs.errors.write_missing_row.Goals as goal

pub returns-in-Some : goal.returns-in-Some
returns-in-Some c =
    let text = c.args.text.now.items in
    sym (append-nil text) ∙ ap (λ (l : Text). text ++ l) (row_kept c.args.grammar.now c.args.kept.now c.args.row.now _ (sym c.line_kept_in.ensures ∙ c.in-Some.is))

pub returns-in-None : goal.returns-in-None
returns-in-None c =
    let text = c.args.text.now.items in
    on_ok_weaker c.write_missing_state.result
    (λ written. written ∙ ap (λ (l : Text). text ++ l) (row_written c.args.grammar.now c.args.kept.now c.args.row.now (sym c.line_kept_in.ensures ∙ c.in-None.is))) c.write_missing_state.ensures
