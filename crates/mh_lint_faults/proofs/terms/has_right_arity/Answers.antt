use Rattle.std.proofs.Common.{sym}
use Rattle.mh_lint_faults.proofs.RightArity.{of_formal, of_no_rule, of_rule, of_token}
use Rattle.mh_lint_faults.proofs.terms.has_right_arity.Goals as goal

pub returns-in-Token : goal.returns-in-Token
returns-in-Token c = of_token c.args.joined.now c.args.term.now c.in-Token.field-0 c.is_empty.result c.in-Token.is c.is_empty.ensures

pub returns-in-Some : goal.returns-in-Some
returns-in-Some c = of_rule c.args.joined.now c.args.term.now c.in-Rule.number c.len.result c.in-Some.rule.now c.in-Rule.is (sym c.in-Some.ensures.value) c.len.ensures

pub returns-in-None : goal.returns-in-None
returns-in-None c = of_no_rule c.args.joined.now c.args.term.now c.in-Rule.number c.in-Rule.is (sym c.in-None.ensures.value)

pub returns-in-Formal : goal.returns-in-Formal
returns-in-Formal c = of_formal c.args.joined.now c.args.term.now c.in-Formal.field-0 c.in-Formal.is
