-- A tree as a list of numbers from which the tree can be decoded. Proofs compare trees by these lists.
use Rattle.std.specs.Prelude.{◌≡◌, ℕ, zero, suc, List, [], ◌∷◌, refl}
use Rattle.std.specs.Coded.{Coded, code_by, coded_list, coded×, coded_ℕ}
use Rattle.mh_grammar.specs.Trees.{SyntaxTree, Leaf, Node, Forest, Nil, Cons}

abbrev mutual
  pub encoded : SyntaxTree → List (ℕ × ℕ) → List (ℕ × ℕ)
  encoded (Leaf z) rest = (suc zero, z) ∷ rest
  encoded (Node p kids) rest = (suc (suc zero), p) ∷ encoded_forest kids rest

  pub encoded_forest : Forest → List (ℕ × ℕ) → List (ℕ × ℕ)
  encoded_forest Nil rest = (zero, zero) ∷ rest
  encoded_forest (Cons first rest) behind = encoded first (encoded_forest rest behind)

-- Decoding reads the list from the right and keeps a stack of forests.
abbrev pub add_to_forest : SyntaxTree → List Forest → List Forest
add_to_forest tree [] = []
add_to_forest tree (forest ∷ stack) = Cons tree forest ∷ stack

abbrev pub add_node : ℕ → List Forest → List Forest
add_node p [] = []
add_node p (kids ∷ stack) = add_to_forest (Node p kids) stack

abbrev pub decode_step : ℕ → ℕ → List Forest → List Forest
decode_step zero x stack = Nil ∷ stack
decode_step (suc zero) x stack = add_to_forest (Leaf x) stack
decode_step (suc (suc n)) x stack = add_node x stack

abbrev pub stack_of : List (ℕ × ℕ) → List Forest
stack_of [] = []
stack_of (x ∷ xs) = decode_step x.0 x.1 (stack_of xs)

abbrev pub first_tree : List Forest → SyntaxTree
first_tree [] = Leaf zero
first_tree (Nil ∷ stack) = Leaf zero
first_tree (Cons tree forest ∷ stack) = tree

mutual
  pub stack_of_encoded : (tree : SyntaxTree) (rest : List (ℕ × ℕ)) → stack_of (encoded tree rest) ≡ add_to_forest tree (stack_of rest)
  stack_of_encoded (Leaf z) rest = refl
  stack_of_encoded (Node p kids) rest = rw (stack_of_encoded_forest kids rest) refl

  pub stack_of_encoded_forest : (forest : Forest) (rest : List (ℕ × ℕ)) → stack_of (encoded_forest forest rest) ≡ forest ∷ stack_of rest
  stack_of_encoded_forest Nil rest = refl
  stack_of_encoded_forest (Cons first rest) behind = rw (stack_of_encoded first (encoded_forest rest behind), stack_of_encoded_forest rest behind) refl

abbrev pub to_code : SyntaxTree → List (ℕ × ℕ)
to_code tree = encoded tree ((zero, zero) ∷ [])

abbrev pub from_code : List (ℕ × ℕ) → SyntaxTree
from_code code = first_tree (stack_of code)

pub from-to : (tree : SyntaxTree) → from_code (to_code tree) ≡ tree
from-to tree = rw (stack_of_encoded tree ((zero, zero) ∷ [])) refl

abbrev pub tree_code : Coded SyntaxTree
tree_code = code_by (List (ℕ × ℕ)) (coded_list (coded× coded_ℕ coded_ℕ)) to_code from_code from-to
