use Rattle.std.proofs.lemmas.Result.{IfOk-weaker}
use Rattle.mh_join_names.specs.code.SymbolTables.{meanings_in}
use Rattle.mh_lint_faults.specs.FaultLines.{IsRulePosition}
use Rattle.mh_lint_faults.proofs.ReportsAt.{reports_there}
use Rattle.mh_lint_faults.proofs.front.named_fault.Goals as goal

pub returns : goal.returns
returns c =
    let files = c.args.files.now in
    IfOk-weaker c.one_fault.result _ _
    (λ findings reported found split. reports_there (IsRulePosition (meanings_in files.names) found files.joined c.args.printed.now) c.in_ok-at.at c.args.fault.now findings.items (rw c.as_slice.ensures at (c.in_ok-at.ensures found split)) reported)
    c.one_fault.ensures
