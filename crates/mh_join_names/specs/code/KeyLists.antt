-- The model of a list of different names.
use Rattle.std.specs.Prelude.{◌≡◌, ℕ, List, position}
use Rattle.std.specs.HashMap.{HashMap, get}
use Rattle.mh_grammar.specs.Text.{Text}
use Rattle.mh_join_names.specs.Names.{same}

-- Different names in the order of their first insertion.
pub record KeyList : Type 0 where
  pub keys : List Text

-- The map gives each name its position in the list.
abbrev pub IsPositionMap : {S : Type 0} → List Text → HashMap Text ℕ S → Type 0
IsPositionMap keys places = (x : Text) → get same places x ≡ position (same x) keys
