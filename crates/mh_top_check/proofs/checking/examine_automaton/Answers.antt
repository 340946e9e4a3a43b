use Rattle.std.proofs.Common.{false, refl, subst, sym}
use Rattle.mh_grammar.specs.declared.types.Grammar.{Grammar}
use Rattle.mh_lint_faults.specs.code.Examining.{AreStages}
use Rattle.mh_top_check.proofs.Examinations.{found_counts, found_fault, found_none, stopped_counts, stopped_with}
use Rattle.mh_top_check.proofs.checking.examine_automaton.Goals as goal

pub returns-in_ok-findings-in-Ok-clause-found : goal.returns-in_ok-findings-in-Ok-clause-found
returns-in_ok-findings-in-Ok-clause-found g c =
    let warned = c.in_ok-findings-in-Ok in
    let same : AreStages c.args.front.order.stdlib c.args.named.now c.args.files.now c.in-Ok.prepared.grammar c.requires.accepted.stages =
    subst (λ (x : Grammar). AreStages c.args.front.order.stdlib c.args.named.now c.args.files.now x c.requires.accepted.stages) (sym c.in-Ok.ensures.grammar) c.requires.accepted.are_stages in
    found_none c.args.named.now c.args.files.now c.args.front c.requires.accepted (g.F.Shelf.files c.args.shelf.now) c.in-Ok.prepared warned.findings.items (record { are_faults = false; findings = warned.findings }) c.in-Ok.ensures.prepared
    (warned.ensures.lines c.args.front.order.stdlib c.requires.accepted.stages same) (warned.ensures.within c.args.front.order.stdlib c.requires.accepted.stages same) refl refl

pub returns-in_ok-one_fault-in-Ok-finding_of-clause-found : goal.returns-in_ok-one_fault-in-Ok-finding_of-clause-found
returns-in_ok-one_fault-in-Ok-finding_of-clause-found g c =
    found_fault c.args.named.now c.args.files.now c.args.front c.requires.accepted (g.F.Shelf.files c.args.shelf.now) c.in-Err.stop c.in-Ok-finding_of.finding c.in_ok-one_fault-in-Ok-finding_of.field-0 c.in-Err.ensures.prepared c.in-Ok-finding_of.ensures
    c.in_ok-one_fault-in-Ok-finding_of.ensures.0 c.in_ok-one_fault-in-Ok-finding_of.ensures.1

pub returns-in_ok-one_fault-in-Ok-finding_of-clause-counts : goal.returns-in_ok-one_fault-in-Ok-finding_of-clause-counts
returns-in_ok-one_fault-in-Ok-finding_of-clause-counts g c = found_counts _ _ c.in-Err.stop c.in-Ok-finding_of.finding c.in-Err.ensures.counts c.in-Ok-finding_of.ensures

pub returns-in-Err-finding_of-clause-found : goal.returns-in-Err-finding_of-clause-found
returns-in-Err-finding_of-clause-found g c =
    stopped_with c.args.named.now c.args.files.now c.args.front c.requires.accepted (g.F.Shelf.files c.args.shelf.now) c.in-Err.stop c.in-Err-finding_of.stop c.in-Err.ensures.prepared c.in-Err-finding_of.ensures

pub returns-in-Err-finding_of-clause-counts : goal.returns-in-Err-finding_of-clause-counts
returns-in-Err-finding_of-clause-counts g c = stopped_counts _ _ c.in-Err.stop c.in-Err-finding_of.stop c.in-Err.ensures.counts c.in-Err-finding_of.ensures
