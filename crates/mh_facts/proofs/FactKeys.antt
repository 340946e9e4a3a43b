-- Lemmas on the keys of facts.
use Rattle.std.proofs.Common.{◌≡◌, ℕ, true, nat_eq, refl, arith}
use Rattle.std.proofs.lemmas.Grind.{common_steps}
use Rattle.mh_facts.specs.declared.store.FactKey.{FactKey}
use Rattle.mh_facts.specs.Stored.{same_fact}
use Rattle.mh_facts.proofs.StoreEntries.{same_fact_is}
use Rattle.mh_facts.proofs.AssociationLists.{AreKeys}

number_same : (n : ℕ) → nat_eq n n ≡ true
number_same n = grind (arith, common_steps)

pub fact_same : (k : FactKey) → same_fact k k ≡ true
fact_same k = rw (number_same k.from, number_same k.production, number_same k.dot, number_same k.first, number_same k.next) refl

pub fact_keys : AreKeys same_fact
fact_keys = record { equal = same_fact_is; agree = fact_same }
