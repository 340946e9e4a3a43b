use Rattle.std.specs.Prelude.{Err}
use Rattle.std.proofs.Common.{refl}
use Rattle.mh_top_prepare.proofs.StagesToTable.{both_ok}
use Rattle.mh_top_prepare.proofs.tabled.automaton_in.Goals as goal

pub returns-in-Merged-clause-value : goal.returns-in-Merged-clause-value
returns-in-Merged-clause-value g c = rw c.in-Merged.is (both_ok _ _ c.merged.result c.merged.ensures.exact c.merged.ensures.ok)

pub returns-in-Merged-clause-exceeds : goal.returns-in-Merged-clause-exceeds
returns-in-Merged-clause-exceeds g c = rw c.in-Merged.is (λ same. (c.merged.ensures.exceeds same, refl))

pub returns-in-Canonical-clause-value : goal.returns-in-Canonical-clause-value
returns-in-Canonical-clause-value g c = rw c.in-Canonical.is (both_ok _ _ c.canonical.result c.canonical.ensures.exact c.canonical.ensures.ok)

pub returns-in-Canonical-clause-exceeds : goal.returns-in-Canonical-clause-exceeds
returns-in-Canonical-clause-exceeds g c = rw c.in-Canonical.is (λ same. (c.canonical.ensures.exceeds same, refl))
