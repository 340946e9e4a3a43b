use Rattle.std.proofs.Common.{take}
use Rattle.mh_expand.specs.code.SharedTerms.{terms_of}
use Rattle.mh_expand.proofs.ExpansionSteps.{StartsSoFar}
use Rattle.mh_expand.proofs.expansion.find_starts.Given as goal

abbrev pub invariant-loop-rule : goal.invariant-loop-rule
invariant-loop-rule l = StartsSoFar l.joined (terms_of l.fn.terms.nodes.keys) (terms_of l.terms.nodes.keys) l.fn.found.keys l.found.keys (take l.rule-index l.rule-items) l.starts
