use Rattle.std.proofs.Common.{◌-◌, nat_eq, length}
use Rattle.indexmap.specs.IndexMap.{get}
use Rattle.mh_expand.specs.code.SharedTerms.{terms_of, terms_at}
use Rattle.mh_expand.specs.code.InstanceSearch.{IsExpanding, IsPrefixOf}
use Rattle.mh_expand.proofs.expansion.expand_all.Given as goal

abbrev pub decreases-instances : goal.decreases-instances
decreases-instances l = 20000 - length l.instances

abbrev pub invariant-instances : goal.invariant-instances
invariant-instances l =
    let old = terms_of l.fn.terms.nodes.keys in
    let new = terms_of l.terms.nodes.keys in
    record {
      expanding : IsExpanding l.joined new l.found.keys l.instances (get nat_eq l.ranks);
      longer : IsPrefixOf (terms_at old l.fn.found.keys) (terms_at new l.found.keys);
    }
