-- The change of a session at one name.
use Rattle.std.specs.Prelude.{◌≡◌, Option, Some, List}
use Rattle.std.specs.Map.{update}
use Rattle.mh_tables_core.specs.Table.{TableData}
use Rattle.mh_engine.specs.Positions.{Position}
use Rattle.mh_grammar.specs.Text.{Text}
use Rattle.mh_session_branches.specs.Names.{same, at_name}
use Rattle.mh_session.specs.SessionState.{SessionState}

-- All positions are of this table.
abbrev pub HaveTable : TableData → List (Text × Position) → Type 0
HaveTable t held = (name : Text) (c : Position) → at_name name held ≡ Some c → c.table ≡ t

-- In the new session the name has the position c, or no position, and all other names have their old positions.
pub record ChangesName (old : SessionState) (name : Text) (c : Option Position) (new : SessionState) : Type 0 where
  pub table : new.table ≡ old.table
  pub held : (q : Text) → at_name q new.held ≡ update same (λ k. at_name k old.held) name c q
