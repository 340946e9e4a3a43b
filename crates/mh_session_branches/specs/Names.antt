-- Lists of values by name.
use Rattle.std.specs.Prelude.{◌==◌, Bool, List, [], ◌∷◌, Option, cond}
use Rattle.std.specs.Cmp.Lexicographic.{pointwise}
use Rattle.std.specs.Map.{lookup}
use Rattle.mh_grammar.specs.Text.{Text}

-- Whether two names are equal.
abbrev pub same : Text → Text → Bool
same = pointwise ◌==◌

-- The value of a name, if there is one.
abbrev pub at_name : {X : Type 0} → Text → List (Text × X) → Option X
at_name name es = lookup (same name) es

-- The list without the values of a name.
abbrev pub without_name : {X : Type 0} → Text → List (Text × X) → List (Text × X)
without_name name [] = []
without_name name (e ∷ es) = cond (same name e.0) (without_name name es) (e ∷ without_name name es)

-- The list with this value for a name, and with the old values of all other names.
abbrev pub with_name : {X : Type 0} → Text → X → List (Text × X) → List (Text × X)
with_name name x es = (name, x) ∷ without_name name es
