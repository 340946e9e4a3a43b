-- The printed arguments of a term.
use Rattle.std.specs.Prelude.{◌++◌, ℕ, List, [], ◌∷◌}
use Rattle.mh_rules.specs.declared.joined.Joined.{Joined}
use Rattle.mh_expand.specs.Terms.{Term, text}

-- The arguments, the first after this byte and each other one after a comma, and the closing bracket.
abbrev pub arguments_from : Joined → ℕ → List Term → List ℕ
arguments_from j before [] = 41 ∷ []
arguments_from j before (x ∷ xs) = (before ∷ text j x) ++ arguments_from j 44 xs

-- The arguments in brackets, if there are any.
abbrev pub arguments_text : Joined → List Term → List ℕ
arguments_text j [] = []
arguments_text j (x ∷ xs) = arguments_from j 40 (x ∷ xs)
