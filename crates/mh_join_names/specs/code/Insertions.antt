-- Insertion of names with values into a map, where an earlier value is kept.
use Rattle.std.specs.Prelude.{◌≡◌, List}
use Rattle.std.specs.Map.{lookup}
use Rattle.std.specs.Option.{option_or}
use Rattle.std.specs.HashMap.{HashMap, get}
use Rattle.mh_grammar.specs.Text.{Text}
use Rattle.mh_join_names.specs.Names.{same}

-- The new map has the values of the old map, and for the other names their first values in the list.
abbrev pub InsertsNew : {V S : Type 0} → HashMap Text V S → List (Text × V) → HashMap Text V S → Type 0
InsertsNew old es new = (x : Text) → get same new x ≡ option_or (get same old x) (lookup (same x) es)
