-- The least set of marked symbols such that a nonterminal is marked if all symbols of one of its right sides are.
use Rattle.std.specs.Prelude.{◌≡◌, ◌<◌, ℕ, Bool, true, false, List, [], ◌∷◌, Some, slice_get, slice_index_or, ◌↔◌}
use Rattle.std.specs.List.{list_all}
use Rattle.mh_grammar.specs.declared.types.Symbol.{Symbol}
use Rattle.mh_grammar.specs.declared.types.Symbol.TheVariants.{T, N}
use Rattle.mh_grammar.specs.declared.types.Production.{Production}

-- The least set of marked symbols. If `tokens` is true, every token is marked; otherwise none is.
mutual
  pub data Marked (tokens : Bool) (ps : List Production) : Symbol → Type 0 where
    token : {a : ℕ} → tokens ≡ true → Marked tokens ps (T a)
    produced : {n : ℕ} (k : ℕ) (p : Production) → slice_get ps k ≡ Some p → p.lhs ≡ n → AllMarked tokens ps p.rhs → Marked tokens ps (N n)

  pub data AllMarked (tokens : Bool) (ps : List Production) : List Symbol → Type 0 where
    none : AllMarked tokens ps []
    more : {X : Symbol} {Xs : List Symbol} → Marked tokens ps X → AllMarked tokens ps Xs → AllMarked tokens ps (X ∷ Xs)

-- Whether the marks of the nonterminals mark a symbol.
abbrev pub mark_of : Bool → List Bool → Symbol → Bool
mark_of tokens marks (T a) = tokens
mark_of tokens marks (N n) = slice_index_or marks n false

abbrev pub all_marked : Bool → List Bool → List Symbol → Bool
all_marked tokens marks = list_all (mark_of tokens marks)

-- Each mark is correct.
pub record AreSound (tokens : Bool) (ps : List Production) (marks : List Bool) : Type 0 where
  pub sound : (n : ℕ) → slice_index_or marks n false ≡ true → Marked tokens ps (N n)

-- No production adds a mark: if its symbols are all marked, so is its left side.
pub record AreClosed (tokens : Bool) (ps : List Production) (marks : List Bool) : Type 0 where
  pub closed : (k : ℕ) (p : Production) → slice_get ps k ≡ Some p → all_marked tokens marks p.rhs ≡ true → slice_index_or marks p.lhs false ≡ true

-- A nonterminal has a mark exactly if it is in `Marked`, the least set closed under the productions.
abbrev pub AreMarks : Bool → List Production → List Bool → Type 0
AreMarks tokens ps marks = (n : ℕ) → (slice_index_or marks n false ≡ true) ↔ Marked tokens ps (N n)

-- The list of marks is long enough for the symbol.
abbrev pub HasMark : ℕ → Symbol → Type 0
HasMark len (T a) = Unit {0}
HasMark len (N n) = n < len
