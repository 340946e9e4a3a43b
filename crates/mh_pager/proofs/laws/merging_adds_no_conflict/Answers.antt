use Rattle.mh_pager.proofs.ConflictsAgree.{merged_reaches, merged_reaches_any, canonical_reaches, canonical_reaches_any}
use Rattle.mh_pager.proofs.laws.merging_adds_no_conflict.Goals as goal

pub returns-clause-merged : goal.returns-clause-merged
returns-clause-merged c = λ g a m few. (merged_reaches g a m few, merged_reaches_any g a m few)

pub returns-clause-canonical : goal.returns-clause-canonical
returns-clause-canonical c = λ g a is. (canonical_reaches g a is, canonical_reaches_any g a is)
