use Rattle.std.proofs.Common.{sym, true≢false}
use Rattle.mh_grammar.proofs.Lists.{zip_length}
use Rattle.mh_validate.specs.code.MatchedEdges.{MatchesMove}
use Rattle.mh_validate_valid.proofs.FirstDifference.{zip_all, zip_next, zip_differs}
use Rattle.mh_validate.proofs.edges.all_lead.Goals as goal

pub returns-then-moves-raws : goal.returns-then-moves-raws
returns-then-moves-raws g c = (λ t. absurd (true≢false (sym t)), λ z. absurd (c.if-moves-raws.true (zip_length (MatchesMove c.args.grammar.now c.args.kernels.now) c.args.moves.now c.args.raws.now z)))

pub returns-then-not-leads : goal.returns-then-not-leads
returns-then-not-leads g c = zip_differs (MatchesMove c.args.grammar.now c.args.kernels.now) c.args.moves.now c.args.raws.now c.loop-at.at c.index-moves-at.result c.index-raws-at.result c.loop-at-test.true c.loop-at.invariant.same c.index-moves-at.is c.index-raws-at.is c.loop-at.invariant.rest c.leads.result c.leads.ensures c.if-not-leads.true

pub loop-at-preserved : goal.loop-at-preserved
loop-at-preserved g c = record {
  same = c.loop-at.invariant.same;
  rest = zip_next (MatchesMove c.args.grammar.now c.args.kernels.now) c.args.moves.now c.args.raws.now c.loop-at.at c.index-moves-at.result c.index-raws-at.result c.loop-at-test.true c.loop-at.invariant.same c.index-moves-at.is c.index-raws-at.is c.loop-at.invariant.rest c.leads.result c.leads.ensures c.if-not-leads.false;
}

pub returns : goal.returns
returns g c = zip_all (MatchesMove c.args.grammar.now c.args.kernels.now) c.args.moves.now c.args.raws.now c.loop-at.at c.loop-at-test.false c.loop-at.invariant.same c.loop-at.invariant.rest
