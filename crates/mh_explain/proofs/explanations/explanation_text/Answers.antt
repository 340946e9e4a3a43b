use Rattle.std.proofs.Common.{rules, sym}
use Rattle.mh_grammar.proofs.Lists.{recursion-from}
use Rattle.std.proofs.lemmas.List.Elements.{All-from_recursion}
use Rattle.mh_resolve_cells.specs.Conflicts.{IsConflictOf}
use Rattle.mh_explain.proofs.ExplanationParts.{none_explained}
use Rattle.mh_explain.proofs.explanations.explanation_text.Goals as goal

pub returns-then-not-has_explained : goal.returns-then-not-has_explained
returns-then-not-has_explained g c = rw c.new.ensures.items (none_explained c.args.grammar.now c.args.automaton.now c.args.table.now c.args.conflicts.now (sym c.if-not-has_explained.ensures))

pub explanations-requires : goal.explanations-requires
explanations-requires g c =
    let Is = IsConflictOf c.args.grammar.now c.args.automaton.now in (
      search rules,
      (c.requires.fits, (rw c.in_ok-reached.ensures c.requires.tabled, All-from_recursion Is c.args.conflicts.now (recursion-from Is c.args.conflicts.now (λ x has. (c.requires.conflicts.members x).0 has)))),
    )
