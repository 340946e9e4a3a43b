use Rattle.std.proofs.Common.{take}
use Rattle.mh_expand.specs.code.SharedTerms.{terms_of}
use Rattle.mh_expand.proofs.ExpansionSteps.{ProducersSoFar}
use Rattle.mh_expand.proofs.expansion.expand_alternative.Given as goal

abbrev pub invariant-loop-producer : goal.invariant-loop-producer
invariant-loop-producer l = ProducersSoFar l.joined l.formals (terms_of l.fn.terms.nodes.keys) (terms_of l.terms.nodes.keys) l.fn.found.keys l.found.keys (take l.producer-index l.producer-items) l.rhs
