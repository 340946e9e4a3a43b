-- The definition of the branches that a session represents.
use Rattle.std.specs.Prelude.{◌≡◌, Option, Some, None}
use Rattle.mh_tables_core.specs.Table.{TableData}
use Rattle.mh_engine.specs.Positions.{Position}
use Rattle.mh_engine.specs.Branches.{Branch, HasPosition}
use Rattle.mh_grammar.specs.Text.{Text}
use Rattle.mh_session_branches.specs.Names.{at_name}
use Rattle.mh_session.specs.SessionState.{SessionState}
use Rattle.mh_session_branches.specs.Answers.{Branches}

-- A name has neither a branch nor a position; or it has a branch and the position of this branch, on the table t.
abbrev pub FitsBranch : TableData → Option Branch → Option Position → Type 0
FitsBranch t None None = Unit {0}
FitsBranch t None (Some c) = ⊥
FitsBranch t (Some b) None = ⊥
FitsBranch t (Some b) (Some c) = HasPosition b c × (c.table ≡ t)

-- The session represents these branches: both have the same names, and each name's position is that of its branch.
abbrev pub Represents : SessionState → Branches → Type 0
Represents m bs = (name : Text) → FitsBranch m.table (at_name name bs) (at_name name m.held)
