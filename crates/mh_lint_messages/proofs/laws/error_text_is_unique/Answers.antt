use Rattle.mh_lint_messages.proofs.ErrorTextUnique.{error_text_once}
use Rattle.mh_lint_messages.proofs.laws.error_text_is_unique.Goals as goal

pub returns : goal.returns
returns c = λ name blocks x y p q. error_text_once c.args.grammar.now c.args.table.now name blocks x y p q
