-- Lemmas on a store with one more fact, and on the indices of stored facts.
use Rattle.std.proofs.Common.{◌≡◌, ℕ, ◌≤◌, ◌↔◌, [], ◌∷◌, ◌++◌, None, Some, Option, true, nat_eq, refl, ap, sym, arith, ◌∙◌}
use Rattle.std.specs.Prelude.{max, IfSome}
use Rattle.std.proofs.lemmas.Grind.{common_steps}
use Rattle.std.proofs.lemmas.Bool.{and_parts}
use Rattle.mh_facts.specs.declared.store.FactKey.{FactKey}
use Rattle.mh_facts.specs.declared.store.Fact.{Fact}
use Rattle.mh_facts.specs.Ordered.{index_in}
use Rattle.mh_facts.specs.Stored.{StoredFacts, same_fact, fact_at, highest_cost, IsIndexOf}
use Rattle.mh_facts.proofs.OrderedEntries.{place_at, no_place_none, none_no_place}

last_more : (e c : ℕ) (es : StoredFacts) (k : FactKey) (f : Fact) → f.cost ≡ c → max e (highest_cost es) ≤ c → highest_cost (es ++ (k, f) ∷ []) ≡ c → max e (highest_cost (es ++ (k, f) ∷ [])) ≡ c
last_more e c es k f is le h = rw h (grind (arith, common_steps))

-- The highest cost after a fact is stored is the cost of that fact.
pub highest_cost-push : (es : StoredFacts) (k : FactKey) (f : Fact) → highest_cost es ≤ f.cost → highest_cost (es ++ (k, f) ∷ []) ≡ f.cost
highest_cost-push [] k f le = grind (arith, common_steps)
highest_cost-push (e ∷ es) k f le = last_more e.1.cost f.cost es k f refl le (highest_cost-push es k f (grind (arith, common_steps)))

same_number : (a b : ℕ) → nat_eq a b ≡ true → a ≡ b
same_number a b e = grind (arith, common_steps)

-- Keys for which `same_fact` is true are equal.
pub same_fact_is : (x y : FactKey) → same_fact x y ≡ true → x ≡ y
same_fact_is x y e =
    let a = and_parts (nat_eq x.from y.from) _ e in
    let b = and_parts (nat_eq x.production y.production) _ a.1 in
    let c = and_parts (nat_eq x.dot y.dot) _ b.1 in
    let d = and_parts (nat_eq x.first y.first) (nat_eq x.next y.next) c.1 in
    let e1 = same_number x.from y.from a.0 in
    let e2 = same_number x.production y.production b.0 in
    let e3 = same_number x.dot y.dot c.0 in
    let e4 = same_number x.first y.first d.0 in
    let e5 = same_number x.next y.next d.1 in
    let k : FactKey = record { from = x.from; production = x.production; dot = x.dot; first = x.first; next = x.next } in
    let l : FactKey = record { from = y.from; production = y.production; dot = y.dot; first = y.first; next = y.next } in
    let whole : k ≡ l = rw (e1, e2, e3, e4, e5) refl in
    whole

-- At the index of a key there is the key's entry.
pub place_found : (es : StoredFacts) (k : FactKey) (o : Option ℕ) → o ≡ index_in (same_fact k) es → IfSome o (IsIndexOf es k)
place_found es k None e = tt
place_found es k (Some n) e =
    let at = place_at (same_fact k) es n (sym e) in
    let same : k ≡ at.0 = same_fact_is k at.0 at.3 in
    (at.1, at.2 ∙ ap (λ (l : FactKey). Some (l, at.1)) (sym same), at.4)

pub place_none : (es : StoredFacts) (k : FactKey) (o : Option ℕ) → o ≡ index_in (same_fact k) es → (o ≡ None) ↔ (fact_at es k ≡ None)
place_none es k o e = (λ n. no_place_none (same_fact k) es (sym e ∙ n), λ n. e ∙ none_no_place (same_fact k) es n)
