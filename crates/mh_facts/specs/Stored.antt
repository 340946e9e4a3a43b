-- The contents of a store of facts (this project's own).
use Rattle.std.specs.Prelude.{◌≡◌, ℕ, List, [], ◌∷◌, Bool, nat_eq, ◌&&◌, Option, Some, max, slice_get}
use Rattle.std.specs.Map.{lookup}
use Rattle.mh_facts.specs.declared.store.FactKey.{FactKey}
use Rattle.mh_facts.specs.declared.store.Fact.{Fact}

-- The keys and facts of a store, in the order in which they were stored.
abbrev pub StoredFacts : Type 0
StoredFacts = List (FactKey × Fact)

-- Whether two keys are equal.
abbrev pub same_fact : FactKey → FactKey → Bool
same_fact x y = nat_eq x.from y.from && (nat_eq x.production y.production && (nat_eq x.dot y.dot && (nat_eq x.first y.first && nat_eq x.next y.next)))

-- The fact that is stored for a key, if there is one.
abbrev pub fact_at : StoredFacts → FactKey → Option Fact
fact_at facts k = lookup (same_fact k) facts

-- The entry at index n is the key's entry.
abbrev pub IsIndexOf : StoredFacts → FactKey → ℕ → Type 0
IsIndexOf facts k n = (f : Fact) × (slice_get facts n ≡ Some (k, f)) × (fact_at facts k ≡ Some f)

-- The highest stored cost, 0 if nothing is stored.
abbrev pub highest_cost : StoredFacts → ℕ
highest_cost [] = 0
highest_cost (e ∷ es) = max e.1.cost (highest_cost es)
