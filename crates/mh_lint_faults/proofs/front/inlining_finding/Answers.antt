use Rattle.std.proofs.Common.{◌≡◌, ap, ◌∙◌}
use Rattle.std.proofs.lemmas.Result.{IfOk-weaker}
use Rattle.mh_front.specs.declared.fault.GrammarFault.TheVariants as front
use Rattle.mh_inline.specs.declared.fault.InlineFault.TheVariants as variants
use Rattle.mh_lint_findings.specs.declared.findings.Position.TheVariants.{OfFile}
use Rattle.mh_join_names.specs.code.SymbolTables.{meanings_in}
use Rattle.mh_lint_faults.specs.FaultLines.{IsFaultAt, IsRulePosition}
use Rattle.mh_lint_faults.proofs.ReportsAt.{cycle_at, empty_at, grammar_at, reports_there, reports_weaker, start_at}
use Rattle.mh_lint_faults.proofs.front.inlining_finding.Goals as goal

pub returns-in-InlineCycle : goal.returns-in-InlineCycle
returns-in-InlineCycle c =
    let files = c.args.files.now in
    let fault = c.args.fault.now in
    let w = meanings_in files.names in
    let printed = c.in-InlineCycle.instance in
    let is : fault ≡ front.Inline (variants.InlineCycle printed) = c.requires.inlining ∙ ap front.Inline c.in-InlineCycle.is in
    IfOk-weaker c.named_fault.result _ _
    (λ findings reported found split. reports_weaker (IsRulePosition w found files.joined printed) (IsFaultAt w found files.joined fault) fault findings.items (λ at here. cycle_at w found files.joined fault printed at is here) (reported found split))
    c.named_fault.ensures

pub returns-in-InlineStart : goal.returns-in-InlineStart
returns-in-InlineStart c =
    let files = c.args.files.now in
    let fault = c.args.fault.now in
    let w = meanings_in files.names in
    let printed = c.in-InlineStart.name in
    let is : fault ≡ front.Inline (variants.InlineStart printed) = c.requires.inlining ∙ ap front.Inline c.in-InlineStart.is in
    IfOk-weaker c.named_fault-in-InlineStart.result _ _
    (λ findings reported found split. reports_weaker (IsRulePosition w found files.joined printed) (IsFaultAt w found files.joined fault) fault findings.items (λ at here. start_at w found files.joined fault printed at is here) (reported found split))
    c.named_fault-in-InlineStart.ensures

pub returns-in-EmptyLanguage : goal.returns-in-EmptyLanguage
returns-in-EmptyLanguage c =
    let files = c.args.files.now in
    let fault = c.args.fault.now in
    let w = meanings_in files.names in
    let printed = c.in-EmptyLanguage.name in
    let is : fault ≡ front.Inline (variants.EmptyLanguage printed) = c.requires.inlining ∙ ap front.Inline c.in-EmptyLanguage.is in
    IfOk-weaker c.named_fault-in-EmptyLanguage.result _ _
    (λ findings reported found split. reports_weaker (IsRulePosition w found files.joined printed) (IsFaultAt w found files.joined fault) fault findings.items (λ at here. empty_at w found files.joined fault printed at is here) (reported found split))
    c.named_fault-in-EmptyLanguage.ensures

pub returns-in-TooManyProductions : goal.returns-in-TooManyProductions
returns-in-TooManyProductions c =
    let files = c.args.files.now in
    let fault = c.args.fault.now in
    let w = meanings_in files.names in
    let is : fault ≡ front.Inline variants.TooManyProductions = c.requires.inlining ∙ ap front.Inline c.in-TooManyProductions.is in
    IfOk-weaker c.one_fault.result _ _ (λ findings reported found split. reports_there (IsFaultAt w found files.joined fault) (OfFile 0) fault findings.items (grammar_at w found files.joined fault is) reported) c.one_fault.ensures
