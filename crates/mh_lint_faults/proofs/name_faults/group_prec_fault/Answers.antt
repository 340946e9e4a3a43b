use Rattle.std.proofs.Common.{refl, sym, ◌∙◌}
use Rattle.mh_lint_faults.proofs.RoleFaults.{takes_is}
use Rattle.mh_lint_faults.proofs.name_faults.group_prec_fault.Goals as goal

pub returns-then-not-takes_group_prec : goal.returns-then-not-takes_group_prec
returns-then-not-takes_group_prec c = λ before own. rw (sym (takes_is before c.args.precs.now.keys c.args.first c.args.last c.takes_group_prec.result own c.takes_group_prec.ensures) ∙ c.if-not-takes_group_prec.true) refl

pub returns : goal.returns
returns c = λ before own. rw (sym (takes_is before c.args.precs.now.keys c.args.first c.args.last c.takes_group_prec.result own c.takes_group_prec.ensures) ∙ c.if-not-takes_group_prec.false) c.prec_fault.ensures
