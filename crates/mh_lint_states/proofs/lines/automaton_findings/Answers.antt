use Rattle.std.proofs.Common.{rules}
use Rattle.std.proofs.lemmas.List.Elements.{All-from_recursion}
use Rattle.std.proofs.lemmas.Result.{on_ok_weaker}
use Rattle.mh_grammar.proofs.Lists.{recursion-from}
use Rattle.mh_resolve_cells.specs.Conflicts.{IsConflictOf}
use Rattle.mh_lint_states.proofs.ConflictLines.{automaton_appended}
use Rattle.mh_lint_states.proofs.lines.automaton_findings.Goals as goal

pub put_conflicts-requires : goal.put_conflicts-requires
put_conflicts-requires g c =
    let Is = IsConflictOf c.args.grammar.now c.args.automaton.now in
    let conflicts = All-from_recursion Is c.args.conflicts.now (recursion-from Is c.args.conflicts.now (λ x has. (c.requires.conflicts.members x).0 has)) in
    (search rules, (search rules, (c.requires.fits, (c.requires.automaton, (c.in_ok-closer.ensures, conflicts)))))

pub returns : goal.returns
returns g c = λ table marked.
    on_ok_weaker c.put_conflicts.result
    (λ put. automaton_appended c.args.grammar.now c.args.automaton.now table c.args.conflicts.now c.args.reduced.now c.args.findings.now.items c.put_productions.new.findings.items c.put_conflicts.new.findings.items marked c.in_ok-put_productions.ensures put)
    c.put_conflicts.ensures
