-- The index of an entry in an association list, and maps from keys to these indices (this project's own).
use Rattle.std.specs.Prelude.{◌≡◌, ℕ, suc, List, [], ◌∷◌, Bool, cond, Option, Some, None}
use Rattle.std.specs.Option.{option_map}
use Rattle.std.specs.HashMap.{HashMap, get}

-- The index of the first entry whose key passes the test, from 0.
abbrev pub index_in : {K X : Type 0} → (K → Bool) → List (K × X) → Option ℕ
index_in test [] = None
index_in test (e ∷ es) = cond (test e.0) (Some 0) (option_map suc (index_in test es))

-- The map gives the index of each key.
abbrev pub HasIndices : {K X S : Type 0} → (K → K → Bool) → List (K × X) → HashMap K ℕ S → Type 0
HasIndices {K} eq es m = (k : K) → get eq m k ≡ index_in (eq k) es
