use Rattle.std.proofs.Common.{take}
use Rattle.mh_expand.specs.code.SharedTerms.{terms_of}
use Rattle.mh_expand.proofs.ExpansionSteps.{AlternativesSoFar}
use Rattle.mh_expand.proofs.expansion.expand_alternatives.Given as goal

abbrev pub invariant-loop-alternative : goal.invariant-loop-alternative
invariant-loop-alternative l = AlternativesSoFar l.joined l.formals (terms_of l.fn.terms.nodes.keys) (terms_of l.terms.nodes.keys) l.fn.found.keys l.found.keys (take l.alternative-index l.alternatives) l.productions
