use Rattle.std.proofs.Common.{◌≡◌, ◌∷◌, ◌++◌, [], List, nat_eq, length, take}
use Rattle.indexmap.specs.IndexMap.{get}
use Rattle.mh_rules.specs.declared.joined.Applied.{Applied}
use Rattle.mh_expand.specs.code.SharedTerms.{terms_of}
use Rattle.mh_expand.specs.code.InstanceSearch.{AreRanks}
use Rattle.mh_expand.proofs.ranks.add_ranks.Given as goal

abbrev pub invariant-loop-applied : goal.invariant-loop-applied
invariant-loop-applied l = (before : List (List Applied)) → length before ≡ l.rank → AreRanks before (terms_of l.fn.terms.nodes.keys) (get nat_eq l.fn.ranks) → AreRanks (before ++ take l.applied-index l.declaration ∷ []) (terms_of l.terms.nodes.keys) (get nat_eq l.ranks)
