-- The parts of the sets and links from which closures are computed.
use Rattle.std.specs.Prelude.{◌≡◌, ◌<◌, ◌↔◌, ℕ, List, [], ◌∷◌, Option, Some, None, length, slice_index_or}
use Rattle.std.specs.List.{Contains}
use Rattle.mh_grammar.specs.declared.types.Symbol.{Symbol}
use Rattle.mh_grammar.specs.declared.types.Symbol.TheVariants.{N}
use Rattle.mh_grammar.specs.declared.types.Look.{Look}
use Rattle.mh_grammar.specs.declared.types.Look.TheVariants.{Token, End}
use Rattle.mh_grammar.specs.Plain.{PlainGrammar}
use Rattle.mh_items.specs.declared.links.FirstLink.{FirstLink}
use Rattle.mh_items.specs.Firsts.{IsFirstLook, IsFirstLink}

-- The look is one of the tokens.
abbrev pub IsTokenOf : List ℕ → Look → Type 0
IsTokenOf tokens (Token a) = Contains tokens a
IsTokenOf tokens End = ⊥

-- The list holds the FIRST set of each nonterminal.
pub record AreFirstSets (g : PlainGrammar) (first : List (List Look)) : Type 0 where
  pub len : length first ≡ g.nonterminals
  pub exact : (n : ℕ) (b : Look) → n < g.nonterminals → Contains (slice_index_or first n []) b ↔ IsFirstLook g (N n) b

-- The optional link is the link of the right side; it is `None` if the right side does not begin with a nonterminal.
abbrev pub IsLinkOf : {W : ℕ} → PlainGrammar → List Symbol → Option (FirstLink W) → Type 0
IsLinkOf g symbols (Some link) = IsFirstLink g symbols link
IsLinkOf g symbols None = (n : ℕ) (y : List Symbol) → symbols ≡ N n ∷ y → ⊥
