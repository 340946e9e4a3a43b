-- Derived words that no production can make earlier are the least words.
use Rattle.std.proofs.Common.{◌≡◌, ◌∙◌, ◌<◌, ◌≤◌, ℕ, List, [], ◌∷◌, ◌++◌, Option, None, Some, length, get_or, refl, sym, ap, arith, inl, inr, subst}
use Rattle.std.proofs.lemmas.List.{length-append}
use Rattle.std.proofs.lemmas.Bool.{cases_lt}
use Rattle.std.proofs.lemmas.Option.{same_Some, none-some}
use Rattle.mh_grammar.specs.declared.types.Symbol.{Symbol}
use Rattle.mh_grammar.specs.declared.types.Symbol.TheVariants.{T, N}
use Rattle.mh_grammar.specs.declared.types.Production.{Production}
use Rattle.mh_grammar.specs.Derivations as trees
use Rattle.mh_grammar.specs.Plain.{PlainGrammar, IsToken, Produces, Derives, DerivesAll}
use Rattle.mh_grammar.proofs.ProductionNumbers.{listed_from_for, produces_at}
use Rattle.mh_sample.specs.WordLimit.{max_word}
use Rattle.mh_sample.specs.Shortest.{ShortLex, IsLeast}
use Rattle.mh_sample.specs.code.Chains.{word_of, joined, chain, AreDerived, AreClosed}
use Rattle.mh_sample.proofs.ShortLex.{shortlex_same, shortlex_length, shortlex_after, shortlex_append}
use Rattle.std.specs.List.{slice_get}

-- There is a word, and the word comes no later than the given word.
abbrev pub Found : Option (List ℕ) → List ℕ → Type 0
Found o w = (u : List ℕ) × (o ≡ Some u) × ShortLex u w

-- If the words of two parts come no later than two given words, their concatenation comes no later.
joined_found : (o q : Option (List ℕ)) (u v w : List ℕ) → w ≡ u ++ v → Found o u → Found q v → Found (joined o q) w
joined_found o q u v w j h k = (h.0 ++ k.0, (λ i. joined (h.1 i) (k.1 i)), subst (ShortLex (h.0 ++ k.0)) (sym j) (shortlex_append h.0 u k.0 v h.2 k.2))

module _ (g : PlainGrammar) (words : List (Option (List ℕ))) (c : AreClosed g.productions words) where
  leaf_found : (X : Symbol) (a : ℕ) → IsToken X a → Found (word_of words X) (a ∷ [])
  leaf_found (T b) a e = (b ∷ [], refl, subst (λ z. ShortLex (b ∷ []) (z ∷ [])) e (shortlex_same (b ∷ [])))
  leaf_found (N n) a e = absurd e

  node_found : (X : Symbol) (rhs : List Symbol) (w : List ℕ) → Produces g X rhs → Found (chain words rhs) w → length w ≤ max_word → Found (word_of words X) w
  node_found (T a) rhs w p h l = absurd p
  node_found (N n) rhs w p h l =
      let at = listed_from_for g n p.0 p.1 in
      let same : at.production.rhs ≡ rhs = sym at.rhs ∙ p.2 in
      let few : length h.0 ≤ max_word = omega (arith, l, shortlex_length h.0 w h.2) in
      let found = c.closed at.place at.production at.at h.0 (ap (chain words) same ∙ h.1) few in
      (found.0, ap (λ m. get_or words m None) (sym at.lhs) ∙ found.1, shortlex_after found.0 h.0 w found.2 h.2)

  mutual
    pub found : (X : Symbol) (w : List ℕ) → Derives g X w → length w ≤ max_word → Found (word_of words X) w
    found X w (trees.Derivation.leaf {a = a} t) l = leaf_found X a t
    found X w (trees.Derivation.node p f) l = node_found X _ w p (all_found _ w f l) l

    pub all_found : (Xs : List Symbol) (w : List ℕ) → DerivesAll g Xs w → length w ≤ max_word → Found (chain words Xs) w
    all_found Xs w trees.Derivations.none l = ([], refl, shortlex_same [])
    all_found Xs w (trees.Derivations.more {u = u} {v = v} j t f) l =
        let both : length w ≡ length (u ++ v) = ap length j in
        joined_found _ _ u v w j (found _ u t (omega (arith, l, both, length-append u v))) (all_found _ v f (omega (arith, l, both, length-append u v)))

-- The concatenation of derived words is derived by the symbols.
module _ (g : PlainGrammar) (words : List (Option (List ℕ))) (d : AreDerived g words) where
  word_derived : (X : Symbol) (w : List ℕ) → word_of words X ≡ Some w → Derives g X w
  word_derived (T a) w e = subst (Derives g (T a)) (same_Some (a ∷ []) w e) (trees.Derivation.leaf refl)
  word_derived (N n) w e = d.derived n w e

  joined_parts : (o q : Option (List ℕ)) (w : List ℕ) → joined o q ≡ Some w → (u : List ℕ) × (v : List ℕ) × (o ≡ Some u) × (q ≡ Some v) × (w ≡ u ++ v)
  joined_parts None q w e = absurd (none-some w e)
  joined_parts (Some u) None w e = absurd (none-some w e)
  joined_parts (Some u) (Some v) w e = (u, v, refl, refl, sym (same_Some (u ++ v) w e))

  pub chain_derived : (Xs : List Symbol) (w : List ℕ) → chain words Xs ≡ Some w → DerivesAll g Xs w
  chain_derived [] w e = subst (DerivesAll g []) (same_Some [] w e) trees.Derivations.none
  chain_derived (X ∷ Xs) w e = let p = joined_parts (word_of words X) (chain words Xs) w e in trees.Derivations.more p.4 (word_derived X p.0 p.2) (chain_derived Xs p.1 p.3)

-- The left side of a production derives the word of the right side.
pub production_derived : (g : PlainGrammar) (words : List (Option (List ℕ))) → AreDerived g words → (k : ℕ) (p : Production) → slice_get g.productions k ≡ Some p → (w : List ℕ) → chain words p.rhs ≡ Some w → Derives g (N p.lhs) w
production_derived g words d k p at w e = trees.Derivation.node (produces_at g k p p.lhs at refl) (chain_derived g words d p.rhs w e)

-- A word that is found is the least word of its nonterminal.
pub least_found : (g : PlainGrammar) (words : List (Option (List ℕ))) → AreDerived g words → AreClosed g.productions words → (n : ℕ) (w : List ℕ) → get_or words n None ≡ Some w → IsLeast g (N n) w
least_found g words d c n w e = record {
  derived = d.derived n w e;
  first = λ v t. elim (cases_lt max_word (length v)) [
    | inl l ↦ inl (omega (arith, l, d.short n w e))
    | inr le ↦ (let h = found g words c (N n) v t le in subst (λ u. ShortLex u v) (same_Some h.0 w (sym h.1 ∙ e)) h.2)
  ];
}

-- If a nonterminal has no word at the end, each of its words is too long.
pub none_found : (g : PlainGrammar) (words : List (Option (List ℕ))) → AreClosed g.productions words → (n : ℕ) → get_or words n None ≡ None → (v : List ℕ) → Derives g (N n) v → max_word < length v
none_found g words c n e v t = elim (cases_lt max_word (length v)) [
  | inl l ↦ l
  | inr le ↦ (let h = found g words c (N n) v t le in absurd (none-some h.0 (sym e ∙ h.1)))
]
