-- FIRST as a table of flags: a row for each nonterminal, and in it a column for each token.
use Rattle.std.specs.Prelude.{◌≡◌, ◌<◌, ◌≤◌, ◌+◌, ◌*◌, ◌↔◌, ℕ, Bool, true, false, List, [], ◌∷◌, Some, slice_get}
use Rattle.mh_grammar.specs.declared.types.Symbol.{Symbol}
use Rattle.mh_grammar.specs.declared.types.Symbol.TheVariants.{T, N}
use Rattle.mh_grammar.specs.declared.types.Production.{Production}
use Rattle.mh_grammar.specs.Plain.{PlainGrammar, Derives}
use Rattle.mh_grammar.specs.First.{First}
use Rattle.mh_grammar.specs.Marked.{mark_of}
use Rattle.mh_grammar.specs.FlagTable.{flag}

-- Each set flag is correct.
pub record AreSoundFlags (g : PlainGrammar) (width : ℕ) (flags : List Bool) : Type 0 where
  pub sound : (n a : ℕ) → a < width → flag width flags n a ≡ true → First g (N n) a

-- The row of nonterminal n has the flag of the token, or all flags in the row of the nonterminal m.
abbrev pub HasSymbolFirst : ℕ → List Bool → ℕ → Symbol → Type 0
HasSymbolFirst width flags n (T a) = flag width flags n a ≡ true
HasSymbolFirst width flags n (N m) = (a : ℕ) → a < width → flag width flags m a ≡ true → flag width flags n a ≡ true

-- The row of nonterminal n has the flags of the first symbol of the string; and if this symbol is nullable, also those
-- of the string after it.
abbrev pub HasStringFirst : List Bool → ℕ → List Bool → ℕ → List Symbol → Type 0
HasStringFirst nullable width flags n [] = Unit {0}
HasStringFirst nullable width flags n (X ∷ Xs) = HasSymbolFirst width flags n X × (mark_of false nullable X ≡ true → HasStringFirst nullable width flags n Xs)

-- No production adds a flag to the row of its left side.
pub record NoProductionAdds (ps : List Production) (nullable : List Bool) (width : ℕ) (flags : List Bool) : Type 0 where
  pub added : (k : ℕ) (p : Production) → slice_get ps k ≡ Some p → HasStringFirst nullable width flags p.lhs p.rhs

-- The set flags are FIRST of the nonterminals.
pub record AreFirstFlags (g : PlainGrammar) (width : ℕ) (flags : List Bool) : Type 0 where
  pub exact : (n a : ℕ) → a < width → (flag width flags n a ≡ true) ↔ First g (N n) a

-- The table has the symbol's column or row.
abbrev pub SymbolFits : ℕ → ℕ → Symbol → Type 0
SymbolFits width len (T a) = a < width
SymbolFits width len (N n) = n * width + width ≤ len

-- Each marked symbol derives the empty word.
pub record NullableSound (g : PlainGrammar) (nullable : List Bool) : Type 0 where
  pub sound : (X : Symbol) → mark_of false nullable X ≡ true → Derives g X []
