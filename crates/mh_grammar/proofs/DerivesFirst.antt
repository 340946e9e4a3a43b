-- Proves that the first token of a word is in FIRST of each symbol that derives the word.
use Rattle.std.proofs.Common.{◌≡◌, ℕ, List, [], ◌∷◌, sym, ap, ◌∙◌}
use Rattle.mh_grammar.specs.declared.types.Symbol.{Symbol}
use Rattle.mh_grammar.specs.declared.types.Symbol.TheVariants.{T, N}
use Rattle.mh_grammar.specs.Derivations as trees
use Rattle.mh_grammar.specs.Plain.{PlainGrammar, IsToken, Produces, Derives, DerivesAll}
use Rattle.mh_grammar.specs.First as first
use Rattle.mh_grammar.specs.First.{First, FirstOf}

module _ (g : PlainGrammar) (a : ℕ) where
  leaf_first : (X : Symbol) (b : ℕ) (w : List ℕ) → IsToken X b → (b ∷ []) ≡ (a ∷ w) → First g X a
  leaf_first (T c) b w t e = let same : c ≡ a = cc in rw same first.First.token
  leaf_first (N n) b w t e = absurd t

  node_first : (X : Symbol) (rhs : List Symbol) → Produces g X rhs → FirstOf g rhs a → First g X a
  node_first (T c) rhs p f = absurd p
  node_first (N n) rhs p f = first.First.nonterminal p f

  mutual
    pub first_from-derivation : (X : Symbol) (w v : List ℕ) → Derives g X w → w ≡ a ∷ v → First g X a
    first_from-derivation X w v (trees.Derivation.leaf {a = b} t) e = leaf_first X b v t e
    first_from-derivation X w v (trees.Derivation.node p f) e = node_first X _ p (first_of_from-derivations _ w v f e)

    pub first_of_from-derivations : (Xs : List Symbol) (w v : List ℕ) → DerivesAll g Xs w → w ≡ a ∷ v → FirstOf g Xs a
    first_of_from-derivations Xs w v trees.Derivations.none e = cc
    first_of_from-derivations Xs w v (trees.Derivations.more {u = []} j t f) e = first.FirstOf.past t (first_of_from-derivations _ _ v f (sym j ∙ e))
    first_of_from-derivations Xs w v (trees.Derivations.more {u = b ∷ u} j t f) e = let k : b ≡ a = cc in first.FirstOf.here (first_from-derivation _ _ u t (ap (λ c. c ∷ u) k))
