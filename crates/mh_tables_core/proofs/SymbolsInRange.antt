-- Proves that the symbols of a table's productions and the sources of its edges are in range.
use Rattle.std.proofs.Common.{◌≡◌, ℕ, zero, suc, ◌<◌, ◌≤◌, ◌-◌, List, [], ◌∷◌, length, get_or, Some, None, Option, lt-ltb, le-ltb, refl, arith, inl, inr}
use Rattle.std.specs.List.{slice_get, slice_index}
use Rattle.std.specs.Option.{option_map, unwrap_or}
use Rattle.std.proofs.lemmas.Bool.{cases_lt}
use Rattle.std.proofs.lemmas.List.{get_or_past}
use Rattle.std.proofs.lemmas.List.Elements.{All-contains, All-get_or, Contains-get_or}
use Rattle.mh_grammar.specs.declared.types.Production.{Production}
use Rattle.mh_grammar.specs.declared.types.Symbol.{Symbol}
use Rattle.mh_grammar.specs.declared.types.Symbol.TheVariants.{N}
use Rattle.mh_grammar.specs.Plain.{PlainGrammar, rhs_of, lhs_of, production_count, IsInRange, IsSymbolBelow, IsProductionBelow}
use Rattle.mh_grammar.proofs.Lists.{contains_at, get_within}
use Rattle.mh_tables_core.specs.declared.parts.Place.{Place}
use Rattle.mh_tables_core.specs.Table.{TableData, state_at, no_state, edge_of}
use Rattle.mh_tables_core.specs.Facts.{InCore}

-- A symbol of a right side is in range.
pub symbol_below : (g : PlainGrammar) → IsInRange g → (p k : ℕ) (X : Symbol) → slice_get (rhs_of g p) k ≡ Some X → IsSymbolBelow g.tokens g.nonterminals X
unfolding rhs_of
symbol_below g h p k X e =
    elim (cases_lt p (length g.starts)) [
      | inl lt ↦ (let f = rw (lt-ltb p (length g.starts) lt) at e in of_start k f lt)
      | inr ge ↦ (let f = rw (le-ltb p (length g.starts) ge) at e in of_production (slice_get g.productions (p - length g.starts)) refl f)
    ]
  where
    of_start : (k : ℕ) → slice_get (N (slice_index g.starts p) ∷ []) k ≡ Some X → p < length g.starts → IsSymbolBelow g.tokens g.nonterminals X
    of_start zero f lt = let same : N (slice_index g.starts p) ≡ X = cc in rw (← same) (All-get_or (λ s. s < g.nonterminals) g.starts p 0 lt h.starts)
    of_start (suc k) f lt = cc

    of_production : (o : Option Production) → slice_get g.productions (p - length g.starts) ≡ o → slice_get (unwrap_or (option_map (λ (p : Production). p.rhs) o) []) k ≡ Some X → IsSymbolBelow g.tokens g.nonterminals X
    of_production None at f = cc
    of_production (Some q) at f =
        let below = All-contains (IsProductionBelow g.tokens g.nonterminals) g.productions q h.productions (contains_at g.productions (p - length g.starts) q at) in
        All-contains (IsSymbolBelow g.tokens g.nonterminals) q.rhs X below.rhs (contains_at q.rhs k X f)

-- The left side of a production that is not a start production is in range.
pub left_below : (g : PlainGrammar) → IsInRange g → (p : ℕ) → length g.starts ≤ p → p < production_count g → lhs_of g p < g.nonterminals
unfolding lhs_of
left_below g h p ordinary known =
    let at = get_within g.productions (p - length g.starts) (omega arith) in
    rw at.1 (All-contains (IsProductionBelow g.tokens g.nonterminals) g.productions at.0 h.productions (contains_at g.productions (p - length g.starts) at.0 at.1)).lhs

pub first_in : (t : TableData) (s : ℕ) (places : List Place) (d : Place) → places ≡ (state_at t s).core → 0 < length (state_at t s).core → InCore t s (get_or places 0 d).production (get_or places 0 d).dot
unfolding InCore
first_in t s places d is some = rw (← is) (Contains-get_or places 0 d (rw is some))

-- Only states of the table have edges.
pub edge_source : (t : TableData) (r u : ℕ) (x : Symbol) → edge_of t r x ≡ Some u → r < length t.states
unfolding edge_of
edge_source t r u x e =
    elim (cases_lt r (length t.states)) [
      | inl lt ↦ lt
      | inr le ↦ absurd (let past = get_or_past t.states r no_state le in let none : None ≡ Some u = rw past at e in cc)
    ]
