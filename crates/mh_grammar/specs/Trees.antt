-- Syntax trees as plain data.
use Rattle.std.specs.Prelude.{◌≡◌, ◌<◌, ◌≤◌, ℕ, suc, max, List, [], ◌∷◌, ◌++◌, length}
use Rattle.mh_grammar.specs.declared.types.Grammar.{Grammar}
use Rattle.mh_grammar.specs.declared.types.Symbol.{Symbol}
use Rattle.mh_grammar.specs.declared.types.Symbol.TheVariants.{T, N}
use Rattle.mh_grammar.specs.Plain.{PlainGrammar, production_count, rhs_of, lhs_of}
use Rattle.mh_grammar.specs.Names.{token_name, left_side_name}

-- A tree is a token, or a production with one tree for each symbol of its right side (Knuth 1965).
mutual
  pub data SyntaxTree : Type 0 where
    Leaf : (token : ℕ) → SyntaxTree
    Node : (production : ℕ) → (children : Forest) → SyntaxTree

  pub data Forest : Type 0 where
    Nil : Forest
    Cons : (first : SyntaxTree) → (rest : Forest) → Forest

abbrev pub forest_of : List SyntaxTree → Forest
forest_of [] = Nil
forest_of (tree ∷ trees) = Cons tree (forest_of trees)

-- The height of a leaf, and of a node without children, is 1; that of another node is one more than its highest
-- child's.
abbrev mutual
  pub height_of : SyntaxTree → ℕ
  height_of (Leaf z) = 1
  height_of (Node p kids) = suc (forest_height kids)

  pub forest_height : Forest → ℕ
  forest_height Nil = 0
  forest_height (Cons first rest) = max (height_of first) (forest_height rest)

-- The tokens of a tree, from left to right.
abbrev mutual
  pub yield_of : SyntaxTree → List ℕ
  yield_of (Leaf z) = z ∷ []
  yield_of (Node p kids) = forest_yield kids

  pub forest_yield : Forest → List ℕ
  forest_yield Nil = []
  forest_yield (Cons first rest) = yield_of first ++ forest_yield rest

-- A tree of the grammar for a symbol: a leaf of the token, or an ordinary production of the nonterminal with trees for
-- its right side.
abbrev mutual
  pub IsTreeFor : PlainGrammar → Symbol → SyntaxTree → Type 0
  IsTreeFor g x (Leaf z) = x ≡ T z
  IsTreeFor g x (Node p kids) = (length g.starts ≤ p) × (p < production_count g) × (x ≡ N (lhs_of g p)) × IsForestFor g (rhs_of g p) kids

  pub IsForestFor : PlainGrammar → List Symbol → Forest → Type 0
  IsForestFor g [] Nil = Unit {0}
  IsForestFor g [] (Cons first rest) = ⊥
  IsForestFor g (x ∷ xs) Nil = ⊥
  IsForestFor g (x ∷ xs) (Cons first rest) = IsTreeFor g x first × IsForestFor g xs rest

-- The text of a leaf is its token's name. The text of a node is `[`, the name of its left side, `:`, each child after
-- one space, and `]` (Menhir manual, `--interpret-show-cst`).
abbrev mutual
  pub tree_text : Grammar → SyntaxTree → List ℕ
  tree_text g (Leaf z) = token_name g z
  tree_text g (Node p kids) = 91 ∷ left_side_name g p ++ 58 ∷ forest_text g kids ++ 93 ∷ []

  pub forest_text : Grammar → Forest → List ℕ
  forest_text g Nil = []
  forest_text g (Cons first rest) = 32 ∷ tree_text g first ++ forest_text g rest
