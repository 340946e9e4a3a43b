use Rattle.std.proofs.Common.{◌≡◌, arith}
use Rattle.mh_reach.proofs.BestCandidate.{best_begins, best_step, candidate_known, some_known}
use Rattle.mh_reach.proofs.candidates.best_of.Goals as goal

pub loop-token-init : goal.loop-token-init
loop-token-init c = best_begins c.args.table.now c.args.classes.now c.args.spots.now.book c.args.spots.now.spots c.args.state

pub first_of-requires-clause-best : goal.first_of-requires-clause-best
first_of-requires-clause-best c = some_known c.args.table.now c.args.classes.now c.args.spots.now.book c.args.spots.now.spots c.args.state c.loop-token.token c.requires.sentences c.requires.arrivals c.loop-token.best c.loop-token.invariant

pub first_of-requires-clause-more : goal.first_of-requires-clause-more
first_of-requires-clause-more c = candidate_known c.args.table.now c.args.classes.now c.args.spots.now.book c.args.spots.now.spots c.requires.sentences c.requires.arrivals c.args.state c.loop-token.token c.best_on-more.result c.best_on-more.ensures

pub loop-token-preserved : goal.loop-token-preserved
loop-token-preserved c = best_step c.args.table.now c.args.classes.now c.args.spots.now.book c.args.spots.now.spots c.args.state c.loop-token.token c.loop-token.best c.best_on-more.result _ c.loop-token.invariant c.best_on-more.ensures c.in_ok-best.ensures

pub returns : goal.returns
returns c = let e : c.loop-token.token ≡ c.args.table.now.grammar.tokens = (let a = c.loop-token-test.false in let b = c.loop-token.auto.token-end in let d = c.tokens-token-end.ensures in omega arith) in rw e at c.loop-token.invariant
