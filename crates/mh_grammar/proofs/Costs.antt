-- Lemmas on the range of token costs, for a list of tokens and for a new token.
use Rattle.std.proofs.Common.{List, map}
use Rattle.std.specs.List.{All}
use Rattle.std.proofs.lemmas.List.Elements.{All-map}
use Rattle.mh_grammar.specs.declared.types.TokenInfo.{TokenInfo}
use Rattle.mh_grammar.specs.Costs.{IsCost, HaveCosts, costs_of}
use Rattle.mh_grammar.proofs.Lists.{all_always}

pub costs_in_range : (tokens : List TokenInfo) → HaveCosts tokens → All IsCost (costs_of tokens)
costs_in_range tokens costs = All-map IsCost (λ (token : TokenInfo). token.cost) tokens costs

pub have_costs_map : {X : Type 0} (f : X → TokenInfo) → ((x : X) → IsCost (f x).cost) → (xs : List X) → HaveCosts (map f xs)
have_costs_map f each xs = All-map (λ (token : TokenInfo). IsCost token.cost) f xs (all_always (λ x. IsCost (f x).cost) each xs)
