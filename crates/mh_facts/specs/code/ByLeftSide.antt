-- The definition of the productions of a table by their left sides.
use Rattle.std.specs.Prelude.{◌≡◌, ℕ, List, length, ◌<◌}
use Rattle.std.specs.List.{Contains}
use Rattle.mh_grammar.specs.Plain.{IsProductionFor}
use Rattle.mh_tables_core.specs.Table.{TableData}
use Rattle.mh_facts.specs.declared.left_sides.ByLeftSide.{ByLeftSide}
use Rattle.mh_facts.specs.code.Queues.{row_of}

abbrev pub productions_at : ByLeftSide → ℕ → List ℕ
productions_at left n = row_of left.rows.items n

-- Each nonterminal's row has only productions of that left side, and all of those below the limit.
pub record IsByLeftSideBelow (t : TableData) (limit : ℕ) (left : ByLeftSide) : Type 0 where
  pub rows : length left.rows.items ≡ t.grammar.nonterminals
  pub all : (n p : ℕ) → IsProductionFor t.grammar n p → p < limit → Contains (productions_at left n) p
  pub only : (n p : ℕ) → Contains (productions_at left n) p → IsProductionFor t.grammar n p

-- Each nonterminal's row has exactly the productions of that left side.
pub record IsByLeftSide (t : TableData) (left : ByLeftSide) : Type 0 where
  pub rows : length left.rows.items ≡ t.grammar.nonterminals
  pub all : (n p : ℕ) → IsProductionFor t.grammar n p → Contains (productions_at left n) p
  pub only : (n p : ℕ) → Contains (productions_at left n) p → IsProductionFor t.grammar n p
