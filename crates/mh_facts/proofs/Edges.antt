-- Lemmas on the edges of a state.
use Rattle.std.proofs.Common.{◌≡◌, ℕ, zero, suc, ◌<◌, ◌-◌, nat_lt, [], ◌∷◌, Bool, true, false, length, Some, None, Option, refl}
use Rattle.std.specs.Prelude.{slice_get, slice_index, if◌then◌else◌}
use Rattle.std.specs.Option.{option_map, unwrap_or}
use Rattle.std.specs.List.{Contains}
use Rattle.std.proofs.lemmas.List.Elements.{All-contains}
use Rattle.mh_grammar.specs.declared.types.Production.{Production}
use Rattle.mh_grammar.specs.declared.types.Symbol.{Symbol}
use Rattle.mh_grammar.specs.declared.types.Symbol.TheVariants.{T, N}
use Rattle.mh_grammar.specs.declared.edges.Edge.{Edge}
use Rattle.mh_grammar.specs.Plain.{rhs_of, IsSymbolBelow, IsProductionBelow}
use Rattle.mh_grammar.proofs.EdgeOrder.{edge_found, found_in}
use Rattle.mh_grammar.proofs.Lists.{at_contains, contains_at}
use Rattle.mh_tables_core.specs.Table.{TableData, state_at, edge_of}
use Rattle.mh_tables_core.specs.Facts.{Facts}
use Rattle.mh_tables_core.specs.Run.{Shifts, run_move_of}
use Rattle.mh_tables_core.proofs.Reductions.{shifts_from_move}

-- The list of a state's edges agrees with `edge_of`.
pub edge_leads : (t : TableData) (f : Facts t) (s : ℕ) (e : Edge) → Contains (state_at t s).edges e → edge_of t s e.symbol ≡ Some e.target
unfolding edge_of
edge_leads t f s e there = let at = at_contains (state_at t s).edges e there in edge_found (state_at t s).edges at.0 e (f.ranges.order s) at.1

pub edge_there : (t : TableData) (s : ℕ) (x : Symbol) (u : ℕ) → edge_of t s x ≡ Some u → Contains (state_at t s).edges (record { symbol = x; target = u })
unfolding edge_of
edge_there t s x u e = found_in (state_at t s).edges x u e

pub known_nonterminal : (t : TableData) (f : Facts t) (s n u : ℕ) → edge_of t s (N n) ≡ Some u → n < t.grammar.nonterminals
known_nonterminal t f s n u e = f.ranges.each_symbol s (N n) u e

pub known_token : (t : TableData) (f : Facts t) (s z u : ℕ) → edge_of t s (T z) ≡ Some u → z < t.grammar.tokens
known_token t f s z u e = f.ranges.each_symbol s (T z) u e

pub one_shift : (x y : ℕ) → Shifts x ≡ Shifts y → x ≡ y
one_shift x y e = cc

pub shift_target : (t : TableData) (f : Facts t) (s x end : ℕ) → run_move_of t s (x ∷ []) ≡ Shifts end → edge_of t s (T x) ≡ Some end
shift_target t f s x end move = f.shifts s x end (shifts_from_move t s x [] end move)

-- Each token of a right side is a token of the grammar.
pub symbol_token : (t : TableData) (f : Facts t) (p d z : ℕ) → slice_get (rhs_of t.grammar p) d ≡ Some (T z) → z < t.grammar.tokens
unfolding rhs_of
symbol_token t f p d z e = by (nat_lt p (length t.grammar.starts)) e
  where
    one : (d n : ℕ) → slice_get (N n ∷ []) d ≡ Some (T z) → ⊥
    one zero n h = (let y : Some (N n) ≡ Some (T z) = h in let w : N n ≡ T z = cc in cc)
    one (suc d) n h = (let y : None ≡ Some (T z) = h in cc)

    some : (o : Option Production) → slice_get t.grammar.productions (p - length t.grammar.starts) ≡ o → slice_get (unwrap_or (option_map (λ (q : Production). q.rhs) o) []) d ≡ Some (T z) → z < t.grammar.tokens
    some None g h = absurd (let y : None ≡ Some (T z) = h in cc)
    some (Some q) g h =
        let ok = All-contains (IsProductionBelow t.grammar.tokens t.grammar.nonterminals) t.grammar.productions q f.ranges.grammar.productions (contains_at t.grammar.productions (p - length t.grammar.starts) q g) in
        All-contains (IsSymbolBelow t.grammar.tokens t.grammar.nonterminals) q.rhs (T z) ok.rhs (contains_at q.rhs d (T z) h)

    by : (b : Bool) → slice_get (if b then N (slice_index t.grammar.starts p) ∷ [] else unwrap_or (option_map (λ (q : Production). q.rhs) (slice_get t.grammar.productions (p - length t.grammar.starts))) []) d ≡ Some (T z) → z < t.grammar.tokens
    by true h = absurd (one d (slice_index t.grammar.starts p) h)
    by false h = some (slice_get t.grammar.productions (p - length t.grammar.starts)) refl h
