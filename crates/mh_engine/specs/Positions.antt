-- The definition of a position: the value of a checkpoint.
use Rattle.std.specs.Prelude.{ℕ, Bool, List, [], ◌∷◌, Option}
use Rattle.mh_grammar.specs.Trees.{SyntaxTree}
use Rattle.mh_tables_core.specs.Table.{TableData}
use Rattle.mh_tables_core.specs.Halting.{look_list}

-- A stack: its states, the start state first, and the trees of all states but the first.
pub record Pairs : Type 0 where
  pub states : List ℕ
  pub trees : List SyntaxTree

-- The stack on which the run of a start begins.
abbrev pub bottom : ℕ → Pairs
bottom start = record { states = start ∷ []; trees = [] }

-- A position of a run: the table, the stack, the tokens to come, and whether the last step was a refusal.
pub record Position : Type 0 where
  pub table : TableData
  pub pairs : Pairs
  pub left : List ℕ
  pub refused : Bool

-- The position whose only token to come is `look`, if there is one.
abbrev pub position_with_look : TableData → Pairs → Option ℕ → Bool → Position
position_with_look t pairs look refused = record { table = t; pairs = pairs; left = look_list look; refused = refused }
