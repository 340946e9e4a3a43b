-- Lemmas on the loop that lists the symbols on a stack.
use Rattle.std.proofs.Common.{◌≡◌, ℕ, ◌+◌, ◌-◌, ◌<◌, ◌≤◌, List, [], ◌∷◌, ◌++◌, length, take, map, get_or, Option, Some, None, refl, sym, ap, subst, ◌∙◌, arith}
use Rattle.std.proofs.lemmas.List.{take_all}
use Rattle.mh_grammar.specs.declared.types.Symbol.{Symbol}
use Rattle.mh_grammar.specs.Plain.{PlainGrammar}
use Rattle.mh_grammar.specs.Trees.{SyntaxTree, Leaf, Node, IsTreeFor}
use Rattle.mh_grammar.proofs.Lists.{map_step}
use Rattle.mh_tables_core.specs.Facts.{Facts}
use Rattle.mh_tables_core.specs.Run.{IsRunStack}
use Rattle.mh_tables_core.specs.RunTrees.{TreesMatchStack}
use Rattle.mh_tables_core.specs.Table.{TableData, edge_of}
use Rattle.mh_tables_core.proofs.IsPath.{IsRunStack-in_range}
use Rattle.mh_engine.specs.StackSymbols.{symbol_of_tree}

-- The trees below this index have these symbols.
abbrev pub AreSymbolsBelow : TableData → List ℕ → ℕ → List Symbol → Type 0
AreSymbolsBelow t states place symbols = (trees : List SyntaxTree) → TreesMatchStack t states trees → symbols ≡ map (symbol_of_tree t.grammar) (take (place - 1) trees)

symbol_is : (g : PlainGrammar) (x : Symbol) (tree : SyntaxTree) → IsTreeFor g x tree → symbol_of_tree g tree ≡ x
symbol_is g x (Leaf z) h = sym h
symbol_is g x (Node p children) h = sym h.2

module _ (t : TableData) (states : List ℕ) (place : ℕ) (lt : place < length states) (above : 0 < place) where
  at : place - 1 + 1 ≡ place
  at = omega arith

  -- The state at the index is the target of the edge below the index.
  to_state : (state : ℕ) → state ≡ get_or states place 0 → get_or states (place - 1 + 1) 0 ≡ state
  to_state state here = ap (λ (k : ℕ). get_or states k 0) at ∙ sym here

  pub state_known : (state : ℕ) → state ≡ get_or states place 0 → Facts t → IsRunStack t states → state < length t.states
  state_known state here f run = subst (λ (s : ℕ). s < length t.states) (sym here) (IsRunStack-in_range t f states run place lt)

  -- The state at this index has an edge to it, so that it has a symbol.
  pub has_symbol : (state : ℕ) → state ≡ get_or states place 0 → IsRunStack t states → (o : Option Symbol) → ((r : ℕ) (x : Symbol) → edge_of t r x ≡ Some state → o ≡ Some x) → o ≡ None → ⊥
  has_symbol state here run o by none =
      let edge = run.path.edges (place - 1) (omega arith) in
      let some = by (get_or states (place - 1) 0) edge.0 (edge.1 ∙ ap Some (to_state state here)) in
      let both = sym none ∙ some in
      cc

  pub symbols_next : (state : ℕ) → state ≡ get_or states place 0 → (old new : List Symbol) (y : Symbol) (o : Option Symbol) → AreSymbolsBelow t states place old → ((r : ℕ) (x : Symbol) → edge_of t r x ≡ Some state → o ≡ Some x) → o ≡ Some y → new ≡ old ++ y ∷ []
      → AreSymbolsBelow t states (place + 1) new
  symbols_next state here old new y o before by is push = λ trees g.
      let l = g.len in
      let edge = g.each (place - 1) (omega arith) in
      let found = by (get_or states (place - 1) 0) edge.0 (edge.1 ∙ ap Some (to_state state here)) in
      let same : y ≡ edge.0 = let both = sym is ∙ found in cc in
      let next : place - 1 + 1 ≡ place + 1 - 1 = omega arith in
      map_step (symbol_of_tree t.grammar) trees (place - 1) (Leaf 0) (get_or trees (place - 1) (Leaf 0)) old new y (omega arith) refl (before trees g) (same ∙ sym (symbol_is t.grammar edge.0 (get_or trees (place - 1) (Leaf 0)) edge.2)) push
      ∙ ap (λ (n : ℕ). map (symbol_of_tree t.grammar) (take n trees)) next

pub symbols_begin : (t : TableData) (states : List ℕ) (symbols : List Symbol) → symbols ≡ [] → AreSymbolsBelow t states 1 symbols
symbols_begin t states symbols e = λ trees g. e

pub symbols_all : (t : TableData) (states : List ℕ) (place : ℕ) (symbols : List Symbol) → AreSymbolsBelow t states place symbols → length states ≤ place → (trees : List SyntaxTree) → TreesMatchStack t states trees → symbols ≡ map (symbol_of_tree t.grammar) trees
symbols_all t states place symbols all le trees g = let l = g.len in all trees g ∙ ap (map (symbol_of_tree t.grammar)) (take_all (place - 1) trees (omega arith))
