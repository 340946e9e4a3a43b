use Rattle.mh_lint_faults.proofs.ReportsAt.{names_examined}
use Rattle.mh_lint_faults.proofs.front.names_fault.Goals as goal

pub returns-clause-examined : goal.returns-clause-examined
returns-clause-examined c = λ given prelude found reads split named joins.
    names_examined given prelude found c.args.read.now c.args.names.now c.args.fault.now c.in_ok-findings.findings reads split named joins c.in_default.not-Memory (c.in_ok-findings.ensures found split)
