use Rattle.std.proofs.Common.{arith}
use Rattle.std.proofs.lemmas.List.{take_all}
use Rattle.mh_expand.specs.code.SharedTerms.{terms_of}
use Rattle.mh_expand.proofs.FindsTerms.{below-extended}
use Rattle.mh_expand.proofs.ExpansionSteps.{alternatives_none, alternatives_more, alternatives_fail}
use Rattle.mh_expand.proofs.expansion.expand_alternatives.Goals as goal

pub loop-alternative-init : goal.loop-alternative-init
loop-alternative-init c = rw c.new-productions.ensures (alternatives_none c.args.joined.now c.args.formals.now (terms_of c.args.terms.now.nodes.keys) c.args.found.now.keys c.requires.few)

pub expand_alternative-requires-clause-few : goal.expand_alternative-requires-clause-few
expand_alternative-requires-clause-few c = c.loop-alternative.invariant.few

pub expand_alternative-requires-clause-formals : goal.expand_alternative-requires-clause-formals
expand_alternative-requires-clause-formals c = below-extended (terms_of c.args.terms.now.nodes.keys) (terms_of c.loop-alternative.terms.nodes.keys) c.args.formals.now c.loop-alternative.invariant.grows c.requires.formals

pub loop-alternative-preserved : goal.loop-alternative-preserved
loop-alternative-preserved c = rw c.in_ok-push-in-Ok.ensures.ok (alternatives_more c.args.joined.now c.args.formals.now (terms_of c.args.terms.now.nodes.keys) c.args.found.now.keys c.requires.formals (terms_of c.loop-alternative.terms.nodes.keys) c.loop-alternative.found.keys c.args.alternatives.now c.loop-alternative.alternative-index c.alternative-item.result c.loop-alternative.productions c.loop-alternative.invariant c.loop-alternative-test.true c.alternative-item.is (terms_of c.expand_alternative.new.terms.nodes.keys) c.expand_alternative.new.found.keys c.in-Ok.production c.in-Ok.ensures.grows c.in-Ok.ensures.few c.in-Ok.ensures.ok)

pub returns-in-Err-clause-err : goal.returns-in-Err-clause-err
returns-in-Err-clause-err c = λ before t e s. alternatives_fail c.args.joined.now c.args.formals.now (terms_of c.args.terms.now.nodes.keys) c.args.found.now.keys c.requires.formals (terms_of c.loop-alternative.terms.nodes.keys) c.loop-alternative.found.keys c.args.alternatives.now c.loop-alternative.alternative-index c.alternative-item.result c.loop-alternative.productions c.loop-alternative.invariant c.loop-alternative-test.true c.alternative-item.is c.in-Err.fault c.in-Err.ensures.err before t e s

pub returns-clause-few : goal.returns-clause-few
returns-clause-few c = c.loop-alternative.invariant.few

pub returns-clause-ok : goal.returns-clause-ok
returns-clause-ok c = λ before t e s. rw (take_all c.loop-alternative.alternative-index c.args.alternatives.now (omega arith)) at (c.loop-alternative.invariant.finds before t e s)
