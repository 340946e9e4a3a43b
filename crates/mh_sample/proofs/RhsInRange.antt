-- The symbols of a production are in range, and so are the tokens of every word that symbols in range derive.
use Rattle.std.proofs.Common.{◌≡◌, ◌∙◌, ◌<◌, ℕ, List, [], ◌∷◌, sym, arith, subst}
use Rattle.std.specs.List.{AllByRecursion}
use Rattle.std.proofs.lemmas.List.Elements.{All-contains, recursion_from_All}
use Rattle.mh_grammar.specs.declared.types.Symbol.{Symbol}
use Rattle.mh_grammar.specs.declared.types.Symbol.TheVariants.{T, N}
use Rattle.mh_grammar.specs.Derivations as trees
use Rattle.mh_grammar.specs.Plain.{PlainGrammar, IsToken, Produces, Derives, DerivesAll, IsInRange, IsSymbolBelow, IsProductionBelow}
use Rattle.mh_grammar.proofs.Lists.{contains_at, recursion-append}
use Rattle.mh_grammar.proofs.ProductionNumbers.{listed_from_for}

module _ (g : PlainGrammar) (r : IsInRange g) where
  pub rhs_below : (X : Symbol) (rhs : List Symbol) → Produces g X rhs → AllByRecursion (IsSymbolBelow g.tokens g.nonterminals) rhs
  rhs_below (T a) rhs p = absurd p
  rhs_below (N n) rhs p =
      let at = listed_from_for g n p.0 p.1 in
      let below = All-contains (IsProductionBelow g.tokens g.nonterminals) g.productions at.production r.productions (contains_at g.productions at.place at.production at.at) in
      subst (AllByRecursion (IsSymbolBelow g.tokens g.nonterminals)) (sym at.rhs ∙ p.2) (recursion_from_All (IsSymbolBelow g.tokens g.nonterminals) at.production.rhs below.rhs)

  leaf_below : (X : Symbol) (a : ℕ) → IsSymbolBelow g.tokens g.nonterminals X → IsToken X a → AllByRecursion (λ z. z < g.tokens) (a ∷ [])
  leaf_below (T b) a l e = ((let f : b ≡ a = e in omega (arith, l, f)), tt)
  leaf_below (N n) a l e = absurd e

  mutual
    pub tokens_below : (X : Symbol) (w : List ℕ) → IsSymbolBelow g.tokens g.nonterminals X → Derives g X w → AllByRecursion (λ z. z < g.tokens) w
    tokens_below X w l (trees.Derivation.leaf {a = a} t) = leaf_below X a l t
    tokens_below X w l (trees.Derivation.node {rhs = rhs} p f) = all_tokens_below rhs w (rhs_below X rhs p) f

    pub all_tokens_below : (Xs : List Symbol) (w : List ℕ) → AllByRecursion (IsSymbolBelow g.tokens g.nonterminals) Xs → DerivesAll g Xs w → AllByRecursion (λ z. z < g.tokens) w
    all_tokens_below Xs w l trees.Derivations.none = tt
    all_tokens_below (X ∷ Xs) w l (trees.Derivations.more {u = u} {v = v} j t f) =
        subst (AllByRecursion (λ z. z < g.tokens)) (sym j) (recursion-append (λ z. z < g.tokens) u v (tokens_below X u l.0 t) (all_tokens_below Xs v l.1 f))
