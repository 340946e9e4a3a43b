use Rattle.std.proofs.Common.{◌↔◌, ℕ, true, false, get_or, IsTrue}
use Rattle.std.proofs.lemmas.Result.{IfOk-weaker}
use Rattle.mh_grammar.specs.Marked.{AreMarks}
use Rattle.mh_grammar.specs.Plain.{plain_of, IsProductive}
use Rattle.mh_grammar.proofs.LeastMarks.{productive_marks}
use Rattle.mh_grammar.proofs.marks.productive.Goals as goal

pub returns-clause-exact : goal.returns-clause-exact
returns-clause-exact c = IfOk-weaker c.least_marks.result (λ v. AreMarks true c.args.grammar.now.productions v.items) (λ v. (n : ℕ) → IsTrue (get_or v.items n false) ↔ IsProductive (plain_of c.args.grammar.now) n) (λ v h n. productive_marks (plain_of c.args.grammar.now) v.items h n) c.least_marks.ensures.least
