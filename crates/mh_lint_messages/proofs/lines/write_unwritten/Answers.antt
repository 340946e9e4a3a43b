use Rattle.std.proofs.Common.{Bool, ◌++◌, ap, sym, ◌∙◌, append-nil}
use Rattle.std.proofs.lemmas.Result.{on_ok_weaker}
use Rattle.mh_rebase.specs.ErrorLines.{unwritten_text}
use Rattle.mh_lint_messages.proofs.lines.write_unwritten.Goals as goal

pub returns-then-unwritten : goal.returns-then-unwritten
returns-then-unwritten c =
    let text = c.args.text.now.items in
    on_ok_weaker c.write_note.result (λ written. written ∙ ap (λ (b : Bool). text ++ unwritten_text c.args.name.now c.args.line b) (sym c.if-unwritten.true ∙ c.is_unwritten-unwritten.ensures)) c.write_note.ensures

pub returns-else-unwritten : goal.returns-else-unwritten
returns-else-unwritten c =
    let text = c.args.text.now.items in
    sym (append-nil text) ∙ ap (λ (b : Bool). text ++ unwritten_text c.args.name.now c.args.line b) (sym c.if-unwritten.false ∙ c.is_unwritten-unwritten.ensures)
