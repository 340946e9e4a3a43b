-- FIRST of symbols and of strings of symbols (textbook).
use Rattle.std.specs.Prelude.{ℕ, List, [], ◌∷◌}
use Rattle.mh_grammar.specs.declared.types.Symbol.{Symbol}
use Rattle.mh_grammar.specs.declared.types.Symbol.TheVariants.{T, N}
use Rattle.mh_grammar.specs.Plain.{PlainGrammar, Produces, Derives}

-- FIRST of a token is the token; FIRST of a nonterminal has FIRST of each of its right sides. FIRST of a string has
-- FIRST of its first symbol, and if this derives the empty word, also FIRST of the rest.
mutual
  pub data First (g : PlainGrammar) : Symbol → ℕ → Type 0 where
    token : {a : ℕ} → First g (T a) a
    nonterminal : {n : ℕ} {rhs : List Symbol} {a : ℕ} → Produces g (N n) rhs → FirstOf g rhs a → First g (N n) a

  pub data FirstOf (g : PlainGrammar) : List Symbol → ℕ → Type 0 where
    here : {X : Symbol} {Xs : List Symbol} {a : ℕ} → First g X a → FirstOf g (X ∷ Xs) a
    past : {X : Symbol} {Xs : List Symbol} {a : ℕ} → Derives g X [] → FirstOf g Xs a → FirstOf g (X ∷ Xs) a
