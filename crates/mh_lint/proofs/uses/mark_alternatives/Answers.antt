use Rattle.std.proofs.Common.{◌≤◌, List, arith, length, subst, sym}
use Rattle.std.specs.List.{All}
use Rattle.mh_rules.specs.declared.joined.Applied.{Applied}
use Rattle.mh_grammar.proofs.Lists.{all_at}
use Rattle.mh_rules.specs.declared.joined.JoinedAlternative.{JoinedAlternative}
use Rattle.mh_lint.specs.code.Uses.{TokensBelow}
use Rattle.mh_lint.proofs.UsedTokens.{HaveToken, list_marked, list_marked_next, list_unmarked}
use Rattle.mh_lint.proofs.uses.mark_alternatives.Goals as goal

pub loop-alternative-init : goal.loop-alternative-init
loop-alternative-init c = list_unmarked HaveToken c.args.alternatives.now c.args.used.now

pub mark_actuals-requires : goal.mark_actuals-requires
mark_actuals-requires c =
    let i = c.loop-alternative.alternative-index in
    subst (λ n. All (TokensBelow n) c.as_slice.result.now) (sym c.loop-alternative.invariant.len)
    (subst (λ (ys : List Applied). All (TokensBelow (length c.args.used.now)) ys) (sym c.as_slice.ensures) (all_at (λ (a : JoinedAlternative). All (TokensBelow (length c.args.used.now)) a.producers) c.args.alternatives.now i c.alternative-item.result c.requires c.loop-alternative-test.true c.alternative-item.is))

pub loop-alternative-preserved : goal.loop-alternative-preserved
loop-alternative-preserved c =
    list_marked_next HaveToken c.args.alternatives.now c.loop-alternative.alternative-index c.alternative-item.result c.args.used.now c.loop-alternative.used c.mark_actuals.new.used c.loop-alternative-test.true c.alternative-item.is c.loop-alternative.invariant (rw c.as_slice.ensures at c.mark_actuals.ensures)

pub returns : goal.returns
returns c = list_marked HaveToken c.args.alternatives.now c.loop-alternative.alternative-index c.args.used.now c.loop-alternative.used (let past : length c.args.alternatives.now ≤ c.loop-alternative.alternative-index = (let a = c.loop-alternative-test.false in omega (arith, a)) in past) c.loop-alternative.invariant
