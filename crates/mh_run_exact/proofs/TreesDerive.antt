-- Proves that the trees of a grammar are derivations.
use Rattle.std.proofs.Common.{ℕ, List, [], ◌∷◌, refl}
use Rattle.mh_grammar.specs.declared.types.Symbol.{Symbol}
use Rattle.mh_grammar.specs.declared.types.Symbol.TheVariants.{T, N}
use Rattle.mh_grammar.specs.Derivations as trees
use Rattle.mh_grammar.specs.Plain.{PlainGrammar, rhs_of, lhs_of, Derives, DerivesAll}
use Rattle.mh_grammar.specs.Trees.{SyntaxTree, Forest, Leaf, Node, Nil, Cons, IsTreeFor, IsForestFor, yield_of, forest_yield}

module _ (g : PlainGrammar) where
  leaf_derives : (z : ℕ) → Derives g (T z) (z ∷ [])
  leaf_derives z = trees.Derivation.leaf refl

  mutual
    pub tree_derives : (x : SyntaxTree) (X : Symbol) → IsTreeFor g X x → Derives g X (yield_of x)
    tree_derives (Leaf z) X h = rw h (leaf_derives z)
    tree_derives (Node p kids) X h =
        let f = forest_derives kids (rhs_of g p) h.3 in
        let n : Derives g (N (lhs_of g p)) (forest_yield kids) = trees.Derivation.node (p, record { ordinary = h.0; known = h.1; lhs = refl }, refl) f in
        rw h.2 n

    pub forest_derives : (kids : Forest) (Xs : List Symbol) → IsForestFor g Xs kids → DerivesAll g Xs (forest_yield kids)
    forest_derives Nil [] h = trees.Derivations.none
    forest_derives Nil (X ∷ Xs) h = absurd h
    forest_derives (Cons first rest) [] h = absurd h
    forest_derives (Cons first rest) (X ∷ Xs) h = trees.Derivations.more refl (tree_derives first X h.0) (forest_derives rest Xs h.1)
