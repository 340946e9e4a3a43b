-- The definition of the sets and lists from which closures are computed.
use Rattle.std.specs.Prelude.{◌≡◌, ◌<◌, ◌↔◌, ℕ, List, [], ◌∷◌, Bool, Some, length, true, false, slice_index_or, slice_get}
use Rattle.std.specs.List.{All, Contains}
use Rattle.mh_grammar.specs.declared.types.Symbol.{Symbol}
use Rattle.mh_grammar.specs.declared.types.Symbol.TheVariants.{N}
use Rattle.mh_grammar.specs.declared.types.Look.{Look}
use Rattle.mh_grammar.specs.declared.types.Look.TheVariants.{Token, End}
use Rattle.mh_grammar.specs.Plain.{PlainGrammar, IsNullable, IsProductionFor, DerivesAll, rhs_of}
use Rattle.mh_grammar.specs.First.{First, FirstOf}
use Rattle.mh_items.specs.declared.links.FirstLink.{FirstLink}
use Rattle.mh_items.specs.declared.first_sets.NullableAndFirst.{NullableAndFirst}
use Rattle.mh_items.specs.declared.first_sets.Firsts.{Firsts}

-- The look is a token with which the symbol may begin.
abbrev pub IsFirstLook : PlainGrammar → Symbol → Look → Type 0
IsFirstLook g X (Token a) = First g X a
IsFirstLook g X End = ⊥

-- The look is a token with which the string of symbols may begin.
abbrev pub IsFirstLookOfString : PlainGrammar → List Symbol → Look → Type 0
IsFirstLookOfString g y (Token a) = FirstOf g y a
IsFirstLookOfString g y End = ⊥

-- The sets hold, for each nonterminal, whether it is nullable and its FIRST set (textbook).
pub record AreNullableAndFirst {W : ℕ} (g : PlainGrammar) (s : NullableAndFirst W) : Type 0 where
  pub nullable_len : length s.nullable ≡ g.nonterminals
  pub first_len : length s.first ≡ g.nonterminals
  pub nullable : (n : ℕ) → (slice_index_or s.nullable n false ≡ true) ↔ IsNullable g n
  pub first : (n : ℕ) (b : Look) → n < g.nonterminals → Contains (slice_index_or s.first n []) b ↔ IsFirstLook g (N n) b

-- The looks `tokens` are FIRST of the string y, and `passes` says whether y is nullable.
pub record IsStringFirst (g : PlainGrammar) (y : List Symbol) (tokens : List Look) (passes : Bool) : Type 0 where
  pub begins : (b : Look) → Contains tokens b ↔ IsFirstLookOfString g y b
  pub empty : (passes ≡ true) ↔ DerivesAll g y []

-- The right side begins with a nonterminal, and the link holds this nonterminal and FIRST of the symbols after it.
pub record IsFirstLink {W : ℕ} (g : PlainGrammar) (symbols : List Symbol) (link : FirstLink W) : Type 0 where
  pub suffix : List Symbol
  pub side : symbols ≡ N link.to ∷ suffix
  pub rest : IsStringFirst g suffix link.tokens link.passes

-- Some production of the nonterminal n has this link.
pub record IsLinkOfNonterminal {W : ℕ} (g : PlainGrammar) (n : ℕ) (link : FirstLink W) : Type 0 where
  pub production : ℕ
  pub produced : IsProductionFor g n production
  pub is : IsFirstLink g (rhs_of g production) link

-- The list holds exactly the links of the productions of the nonterminal n.
pub record AreLinksOf {W : ℕ} (g : PlainGrammar) (n : ℕ) (links : List (FirstLink W)) : Type 0 where
  pub below : All (λ (link : FirstLink W). link.to < g.nonterminals) links
  pub sound : (link : FirstLink W) → Contains links link → IsLinkOfNonterminal g n link
  pub complete : (q m : ℕ) (y : List Symbol) → IsProductionFor g n q → rhs_of g q ≡ N m ∷ y → (link : FirstLink W) × Contains links link × IsFirstLink g (rhs_of g q) link

-- The sets of a grammar, with the links and the production numbers of each nonterminal.
pub record AreFirsts {W : ℕ} (g : PlainGrammar) (f : Firsts W) : Type 0 where
  pub sets : AreNullableAndFirst g f.sets
  pub len : length f.links ≡ g.nonterminals
  pub links : (n : ℕ) (row : List (FirstLink W)) → slice_get f.links n ≡ Some row → AreLinksOf g n row
  -- For each nonterminal, the list of the numbers of its productions.
  pub productions_len : length f.productions ≡ g.nonterminals
  pub productions : (n : ℕ) (row : List ℕ) → slice_get f.productions n ≡ Some row → (p : ℕ) → Contains row p ↔ IsProductionFor g n p
