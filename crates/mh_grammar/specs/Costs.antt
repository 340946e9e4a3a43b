-- The costs of tokens, a rule of this project: a least sentence has the least sum of costs.
use Rattle.std.specs.Prelude.{◌≤◌, ℕ, List, map}
use Rattle.std.specs.List.{All}
use Rattle.mh_grammar.specs.Limits.{max_cost}
use Rattle.mh_grammar.specs.declared.types.TokenInfo.{TokenInfo}

abbrev pub IsCost : ℕ → Type 0
IsCost cost = (1 ≤ cost) × (cost ≤ max_cost)

-- The costs of the tokens, in order.
abbrev pub costs_of : List TokenInfo → List ℕ
costs_of tokens = map (λ (token : TokenInfo). token.cost) tokens

-- Each token's cost is in range.
abbrev pub HaveCosts : List TokenInfo → Type 0
HaveCosts tokens = All (λ (token : TokenInfo). IsCost token.cost) tokens
