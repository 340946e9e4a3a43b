use Rattle.std.proofs.Common.{◌↔◌, ℕ, false, get_or, IsTrue}
use Rattle.std.proofs.lemmas.Result.{IfOk-weaker}
use Rattle.mh_grammar.specs.Marked.{AreMarks}
use Rattle.mh_grammar.specs.Plain.{plain_of, IsNullable}
use Rattle.mh_grammar.proofs.LeastMarks.{nullable_marks}
use Rattle.mh_grammar.proofs.marks.nullable.Goals as goal

pub returns-clause-exact : goal.returns-clause-exact
returns-clause-exact c = IfOk-weaker c.least_marks.result (λ v. AreMarks false c.args.grammar.now.productions v.items) (λ v. (n : ℕ) → IsTrue (get_or v.items n false) ↔ IsNullable (plain_of c.args.grammar.now) n) (λ v h n. nullable_marks (plain_of c.args.grammar.now) v.items h n) c.least_marks.ensures.least
