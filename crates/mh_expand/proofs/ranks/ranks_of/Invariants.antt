use Rattle.std.proofs.Common.{nat_eq, take}
use Rattle.indexmap.specs.IndexMap.{get}
use Rattle.mh_expand.specs.code.SharedTerms.{terms_of}
use Rattle.mh_expand.specs.code.InstanceSearch.{AreRanks}
use Rattle.mh_expand.proofs.ranks.ranks_of.Given as goal

abbrev pub invariant-loop-rank : goal.invariant-loop-rank
invariant-loop-rank l = AreRanks (take l.rank l.declarations) (terms_of l.terms.nodes.keys) (get nat_eq l.ranks)
