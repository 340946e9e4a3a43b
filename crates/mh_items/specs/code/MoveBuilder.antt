-- A `MoveBuilder` of a grammar: its sets are those of the grammar, and all its rows are empty.
use Rattle.std.specs.Prelude.{ℕ}
use Rattle.mh_grammar.specs.Plain.{PlainGrammar}
use Rattle.mh_items.specs.code.ClosureBuilder.{IsClosureBuilder}
use Rattle.mh_items.specs.declared.move_builder.MoveBuilder.{MoveBuilder}
use Rattle.mh_items.specs.code.SymbolRows.{AreRowsEmpty}

pub record IsMoveBuilder {W : ℕ} (g : PlainGrammar) (m : MoveBuilder W) : Type 0 where
  pub closer : IsClosureBuilder g m.closer
  pub rows : AreRowsEmpty g m.rows
