use Rattle.std.proofs.Common.{None, Some}
use Rattle.std.proofs.lemmas.Result.{IfOk-weaker}
use Rattle.mh_join_names.specs.code.SymbolTables.{meanings_in}
use Rattle.mh_lint_faults.specs.FaultLines.{IsFaultAt, IsRulePosition}
use Rattle.mh_lint_faults.specs.code.FirstMentions.{IsWrongAt}
use Rattle.mh_lint_faults.proofs.ReportsAt.{arity_at_rule, arity_at_term, reports_there, reports_weaker}
use Rattle.mh_lint_faults.proofs.front.arity_fault.Goals as goal

pub returns-in-Some : goal.returns-in-Some
returns-in-Some c =
    let files = c.args.files.now in
    let fault = c.args.fault.now in
    let w = meanings_in files.names in
    IfOk-weaker c.one_fault.result _ _
    (λ findings reported found split.
    (let is : IsWrongAt found files.joined c.args.printed.now (Some c.in-Some.at) = rw (c.as_slice.ensures, c.in-Some.is) at (c.in_ok-at.ensures found split) in
    reports_there (IsFaultAt w found files.joined fault) c.in-Some.at fault findings.items (arity_at_term w found files.joined fault c.args.printed.now c.in-Some.at c.requires.arity is) reported))
    c.one_fault.ensures

pub returns-in-None : goal.returns-in-None
returns-in-None c =
    let files = c.args.files.now in
    let fault = c.args.fault.now in
    let w = meanings_in files.names in
    IfOk-weaker c.named_fault.result _ _
    (λ findings reported found split.
    (let none : IsWrongAt found files.joined c.args.printed.now None = rw (c.as_slice.ensures, c.in-None.is) at (c.in_ok-at.ensures found split) in
    reports_weaker (IsRulePosition w found files.joined c.args.printed.now) (IsFaultAt w found files.joined fault) fault findings.items (λ at here. arity_at_rule w found files.joined fault c.args.printed.now at c.requires.arity none here) (reported found split)))
    c.named_fault.ensures
