-- Pairs of a production and a token whose levels are compared.
use Rattle.std.specs.Prelude.{◌≡◌, ◌≢◌, ℕ, List, Option, None, Some, length, slice_index_or}
use Rattle.std.specs.List.{Contains}
use Rattle.mh_grammar.specs.declared.types.Grammar.{Grammar}
use Rattle.mh_grammar.specs.declared.types.Look.{Look}
use Rattle.mh_grammar.specs.declared.types.Look.TheVariants.{Token}
use Rattle.mh_grammar.specs.Plain.{plain_of, rhs_of}
use Rattle.mh_items_kernels.specs.KernelTypes.{KernelItem}
use Rattle.mh_resolve_cells.specs.declared.levels.Comparison.TheVariants.{Unknown}
use Rattle.mh_resolve_cells.specs.Precedence.{comparison_on}
use Rattle.mh_lint_states.specs.code.Marks.{Marks}
use Rattle.mh_lint_states.specs.declared.comparisons.ComparedLevels.{ComparedLevels}

-- The levels are comparable.
abbrev pub IsComparable : Grammar → ℕ → ℕ → Type 0
IsComparable g p z = comparison_on g (Token z) p ≢ Unknown

-- The production and the token of each pair that `Is` accepts are marked, and no others.
pub record MarksPairs (Is : ℕ → ℕ → Type 0) (old new : ComparedLevels) : Type 0 where
  pub tokens : Marks (λ z. (p : ℕ) × Is p z) old.tokens.items new.tokens.items
  pub productions : Marks (λ p. (z : ℕ) × Is p z) old.productions.items new.productions.items

-- There is a flag for each token and for each production.
pub record HasFlags (tokens productions : ℕ) (c : ComparedLevels) : Type 0 where
  pub tokens_are : length c.tokens.items ≡ tokens
  pub productions_are : length c.productions.items ≡ productions

-- The token has a shift.
abbrev pub CanShiftIn : List (Option ℕ) → ℕ → Type 0
CanShiftIn shifts z = (j : ℕ) × (slice_index_or shifts z None ≡ Some j)

-- Production p is compared with token z because of one of these looks.
pub record LooksCompare (g : Grammar) (shifts : List (Option ℕ)) (production : ℕ) (looks : List Look) (p z : ℕ) : Type 0 where
  pub production_is : p ≡ production
  pub look : Contains looks (Token z)
  pub shift : CanShiftIn shifts z
  pub comparable : IsComparable g p z

-- Some complete item of the list compares the production with the token.
pub record ItemsCompare (g : Grammar) (shifts : List (Option ℕ)) (items : List KernelItem) (p z : ℕ) : Type 0 where
  pub item : KernelItem
  pub of_items : Contains items item
  pub complete : item.dot ≡ length (rhs_of (plain_of g) item.production)
  pub compares : LooksCompare g shifts item.production item.looks p z
