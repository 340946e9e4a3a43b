-- Proves: if some sentence has a property, it is not the case that no sentence is the first, in the order of sentences,
-- with the property.
use Rattle.std.proofs.Common.{◌≡◌, ◌∙◌, ℕ, ◌<◌, ◌≤◌, ◌⊎◌, inl, inr, List, [], ◌∷◌, length, refl, sym, subst, arith}
use Rattle.std.specs.List.{AllByRecursion}
use Rattle.std.proofs.lemmas.Bool.{cases_lt}
use Rattle.mh_grammar.specs.WordOrder.{LexLe}
use Rattle.mh_grammar.specs.NotLacking.{NotLacking}
use Rattle.mh_grammar.proofs.NotLacking.{given, chain}
use Rattle.mh_tables_core.specs.Table.{TableData}
use Rattle.mh_tables_core.specs.Facts.{Facts}
use Rattle.mh_tables_core.specs.Failing.{SentenceAtMost, cost_of_word}
use Rattle.mh_facts.proofs.WordCosts.{token_cost_positive}
use Rattle.mh_top_outcomes.proofs.LeastExample.{Least, least_number, LeastWord, least_word}

-- The first sentence with the property.
pub record First (t : TableData) (P : ℕ → List ℕ → Type 0) : Type 0 where
  pub start : ℕ
  pub tokens : List ℕ
  pub holds : P start tokens
  pub first : (start' : ℕ) (w' : List ℕ) → P start' w' → SentenceAtMost t start tokens start' w'

module _ (t : TableData) (f : Facts t) where
  length_within_cost : (w : List ℕ) → AllByRecursion (λ z. z < t.grammar.tokens) w → length w ≤ cost_of_word t w
  length_within_cost [] below = omega arith
  length_within_cost (z ∷ w) below =
      let rest = length_within_cost w below.1 in
      let here = token_cost_positive t f z below.0 in
      omega (arith, rest, here)

  module _ (P : ℕ → List ℕ → Type 0) (known : (start : ℕ) (w : List ℕ) → P start w → AllByRecursion (λ z. z < t.grammar.tokens) w) where
    abbrev HasCost : ℕ → Type 0
    HasCost cost = (start : ℕ) × (w : List ℕ) × P start w × (cost_of_word t w ≡ cost)

    abbrev HasStart : ℕ → ℕ → Type 0
    HasStart cost start = (w : List ℕ) × P start w × (cost_of_word t w ≡ cost)

    abbrev HasTokens : ℕ → ℕ → List ℕ → Type 0
    HasTokens cost start w = P start w × (cost_of_word t w ≡ cost)

    module _ (cost : Least HasCost) (start : Least (HasStart cost.number)) (tokens : LeastWord (HasTokens cost.number start.number)) where
      at_most : (start' : ℕ) (w' : List ℕ) → P start' w' → SentenceAtMost t start.number tokens.word start' w'
      at_most start' w' holds = elim (cases_lt cost.number (cost_of_word t w')) [
        | inl lt ↦ inl (let e = tokens.holds.1 in omega (arith, e, lt))
        | inr le ↦ (
            let most = cost.first (cost_of_word t w') (start', w', holds, refl) in
            let same : cost_of_word t w' ≡ cost.number = omega (arith, le, most) in
            inr (tokens.holds.1 ∙ sym same, at_most_start same))
      ]
        where
          at_most_start : cost_of_word t w' ≡ cost.number → (start.number < start') ⊎ ((start.number ≡ start') × LexLe tokens.word w')
          at_most_start same = elim (cases_lt start.number start') [
            | inl lt ↦ inl lt
            | inr le ↦ (
                let most = start.first start' (w', holds, same) in
                let one : start.number ≡ start' = omega (arith, le, most) in
                inr (one, tokens.first w' (subst (λ (k : ℕ). HasTokens cost.number k w') (sym one) (holds, same))))
          ]

      first : First t P
      first = record { start = start.number; tokens = tokens.word; holds = tokens.holds.0; first = at_most }

    with_start : (cost : Least HasCost) (start : Least (HasStart cost.number)) → (w : List ℕ) → P start.number w → cost_of_word t w ≡ cost.number → NotLacking (First t P)
    with_start cost start w holds e =
        chain (least_word cost.number (HasTokens cost.number start.number) (λ v h. subst (λ (k : ℕ). length v ≤ k) h.1 (length_within_cost v (known start.number v h.0))) w (holds, e)) (λ tokens. given (first cost start tokens))

    with_cost : (cost : Least HasCost) → (start : ℕ) (w : List ℕ) → P start w → cost_of_word t w ≡ cost.number → NotLacking (First t P)
    with_cost cost start w holds e = chain (least_number (HasStart cost.number) start (w, holds, e)) (λ i. with_start cost i i.holds.0 i.holds.1 i.holds.2)

    pub some_first : (start : ℕ) (w : List ℕ) → P start w → NotLacking (First t P)
    some_first start w holds = chain (least_number HasCost (cost_of_word t w) (start, w, holds, refl)) (λ c. with_cost c c.holds.0 c.holds.1 c.holds.2 c.holds.3)
