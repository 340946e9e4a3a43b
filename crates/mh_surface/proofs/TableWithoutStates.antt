-- Proves the invariant of a table without states, for a grammar without starts.
use Rattle.std.proofs.Common.{◌≡◌, ◌<◌, inl, inr, ℕ, [], length, Some, None, refl, arith}
use Rattle.std.proofs.lemmas.List.{length-map}
use Rattle.std.proofs.lemmas.List.Elements.{All-map}
use Rattle.mh_grammar.specs.declared.types.Symbol.{Symbol}
use Rattle.mh_grammar.specs.declared.types.TokenInfo.{TokenInfo}
use Rattle.mh_grammar.specs.declared.types.Grammar.{Grammar}
use Rattle.mh_grammar.specs.Costs.{IsCost, HaveCosts}
use Rattle.mh_grammar.specs.Plain.{plain_of, IsInRange}
use Rattle.mh_grammar.proofs.Lists.{contains_none}
use Rattle.mh_tables_core.specs.declared.parts.Action.TheVariants as actions
use Rattle.mh_tables_core.specs.Table.{TableData, table_data, cell_of, fallback_of, edge_of}
use Rattle.mh_tables_core.specs.Facts.{Facts, InCore, ReducesBy}

module _ (g : Grammar) where
  abbrev empty : TableData
  empty = table_data g []

  no_core : (s p d : ℕ) → InCore empty s p d → ⊥
  unfolding InCore
  no_core s p d m = contains_none _ m

  no_edge : (s u : ℕ) (x : Symbol) → edge_of empty s x ≡ Some u → ⊥
  unfolding edge_of
  no_edge s u x e = cc

  no_default : (s : ℕ) → fallback_of empty s ≡ None
  unfolding fallback_of
  no_default s = refl

  no_action : (s z : ℕ) → cell_of empty s z ≡ actions.Refuse
  unfolding cell_of
  no_action s z = refl

  no_reduction : (s p : ℕ) → ReducesBy empty s p → ⊥
  no_reduction s p (inl e) = let none = no_default s in cc
  no_reduction s p (inr (z, e)) = let none = no_action s z in cc

  pub facts : IsInRange (plain_of g) → HaveCosts g.tokens → g.starts ≡ [] → Facts (table_data g [])
  facts range costs none = record {
    ranges = record {
      grammar = range;
      costs = All-map IsCost (λ (token : TokenInfo). token.cost) g.tokens costs;
      each_cost = length-map g.tokens (λ (token : TokenInfo). token.cost);
      few_states = omega arith;
      each_row = λ s lt. absurd (omega arith);
      each_symbol = λ s x u e. absurd (no_edge s u x e);
      order = λ s. tt;
    };
    each_target = λ s x u e. absurd (no_edge s u x e);
    each_core = λ s p d m. absurd (no_core s p d m);
    enough_states = rw none (omega arith);
    start_core = λ i p d lt m. absurd (no_core i p d m);
    starts = λ i lt. absurd (no_start i lt);
    filled = λ s lt. absurd (omega arith);
    other_cores_moved = λ s p d le m. absurd (no_core s p d m);
    moved_from = λ r x u p d e m. absurd (no_edge r u x e);
    ordinary = λ s p r. absurd (no_reduction s p r);
    complete = λ s p r. absurd (no_reduction s p r);
    shifts = λ s z j e. absurd (let refuses = no_action s z in cc);
    accepts = λ s e. absurd (let fails = no_default s in cc);
  }
    where
      no_start : (i : ℕ) → i < length g.starts → ⊥
      no_start i lt = let few = rw none at lt in omega arith
