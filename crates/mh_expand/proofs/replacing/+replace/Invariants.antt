use Rattle.std.proofs.Common.{drop}
use Rattle.mh_expand.specs.code.SharedTerms.{terms_of, terms_at}
use Rattle.mh_expand.proofs.ReplacedActuals.{replaced_term_of, IsReplacing}
use Rattle.mh_expand.proofs.replacing.+replace.Given as goal

abbrev pub decreases-replace : goal.decreases-replace
decreases-replace l = goal.size-replace l

abbrev pub invariant-loop-arg : goal.invariant-loop-arg
invariant-loop-arg l =
    let old = terms_of l.fn.terms.nodes.keys in
    let fs = terms_at old l.formals in
    IsReplacing old (terms_of l.terms.nodes.keys) fs l.node (drop l.arg-index l.arg-items) (replaced_term_of fs l.applied)
