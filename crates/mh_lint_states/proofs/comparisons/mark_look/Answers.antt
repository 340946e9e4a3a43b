use Rattle.std.proofs.Common.{[], ◌∷◌, subst, sym}
use Rattle.mh_grammar.specs.declared.types.Look.{Look}
use Rattle.mh_lint_states.specs.code.ComparedPairs.{LooksCompare, MarksPairs}
use Rattle.mh_lint_states.proofs.MarkedPairs.{look_shifted}
use Rattle.mh_lint_states.proofs.comparisons.mark_look.Goals as goal

pub returns-then-is_some : goal.returns-then-is_some
returns-then-is_some c =
    let marks = look_shifted c.args.grammar.now c.args.shifts.now c.args.production c.args.compared.now c.in-Token.token c.from.result c.is_some.result c.mark_pair.new.compared c.is_some.ensures c.if-is_some.true c.from.ensures c.mark_pair.ensures in
    subst (λ (look : Look). MarksPairs (LooksCompare c.args.grammar.now c.args.shifts.now c.args.production (look ∷ [])) c.args.compared.now c.mark_pair.new.compared) (sym c.in-Token.is) marks
