use Rattle.std.proofs.lemmas.Result.{IfOk-weaker}
use Rattle.mh_lint.specs.code.MentionUses as uses
use Rattle.mh_lint.proofs.FlagTexts.{on_ok_always}
use Rattle.mh_lint.proofs.warning_walk.on_error_warning.Goals as goal

pub returns-then-not-branch-clause-warning : goal.returns-then-not-branch-clause-warning
returns-then-not-branch-clause-warning c = uses.IsActualWarning.again (λ lacks. (let fresh = c.in_ok-put_key.ensures.is_new.1 lacks in let known = c.if-not-branch.true in cc))

pub returns : goal.returns
returns c = record {
  warning = IfOk-weaker c.declaration_warning.result _ _ (λ text is. uses.IsActualWarning.first text (c.in_ok-put_key.ensures.is_new.0 c.if-not-branch.false) is) c.declaration_warning.ensures;
  actuals = on_ok_always c.declaration_warning.result c.in_ok-put_key.ensures.keys;
}
