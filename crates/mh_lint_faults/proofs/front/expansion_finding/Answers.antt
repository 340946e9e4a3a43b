use Rattle.std.proofs.Common.{◌≡◌, ap, ◌∙◌}
use Rattle.std.proofs.lemmas.Result.{IfOk-weaker}
use Rattle.mh_front.specs.declared.fault.GrammarFault.TheVariants as front
use Rattle.mh_expand.specs.declared.fault.ExpandFault.TheVariants as variants
use Rattle.mh_join_names.specs.code.SymbolTables.{meanings_in}
use Rattle.mh_lint_faults.specs.FaultLines.{IsFaultAt, IsRulePosition}
use Rattle.mh_lint_faults.proofs.ReportsAt.{expansion_at, reports_weaker}
use Rattle.mh_lint_faults.proofs.front.expansion_finding.Goals as goal

pub arity_fault-requires-clause-arity : goal.arity_fault-requires-clause-arity
arity_fault-requires-clause-arity c = c.requires.expansion ∙ ap front.Expand c.in-Arity.is

pub returns-in-Expansion : goal.returns-in-Expansion
returns-in-Expansion c =
    let files = c.args.files.now in
    let fault = c.args.fault.now in
    let w = meanings_in files.names in
    let printed = c.in-Expansion.name in
    let is : fault ≡ front.Expand (variants.Expansion printed) = c.requires.expansion ∙ ap front.Expand c.in-Expansion.is in
    IfOk-weaker c.named_fault.result _ _
    (λ findings reported found split. reports_weaker (IsRulePosition w found files.joined printed) (IsFaultAt w found files.joined fault) fault findings.items (λ at here. expansion_at w found files.joined fault printed at is here) (reported found split))
    c.named_fault.ensures
