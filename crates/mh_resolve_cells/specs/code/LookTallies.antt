-- The tallies of a state, which the code keeps for all looks at once.
use Rattle.std.specs.Prelude.{◌≡◌, ◌<◌, ◌⊎◌, ℕ, List, Option, None, length, slice_index_or}
use Rattle.std.specs.List.{AllByRecursion, Contains}
use Rattle.mh_grammar.specs.declared.types.Symbol.TheVariants.{T}
use Rattle.mh_grammar.specs.declared.types.Grammar.{Grammar}
use Rattle.mh_grammar.specs.declared.types.Look.{Look}
use Rattle.mh_grammar.specs.declared.types.Look.TheVariants.{Token, End}
use Rattle.mh_grammar.specs.declared.edges.Edge.{Edge}
use Rattle.mh_grammar.specs.Plain.{plain_of, rhs_of, IsLookBelow}
use Rattle.mh_grammar.specs.Edges.{find_edge}
use Rattle.mh_grammar.specs.ItemSets.{ItemSet}
use Rattle.mh_items_kernels.specs.KernelTypes.{KernelItem}
use Rattle.mh_resolve_cells.specs.declared.cells.Tally.{Tally}
use Rattle.mh_resolve_cells.specs.declared.cells.Tallies.{Tallies}
use Rattle.mh_resolve_cells.specs.Precedence.{comparison_on}
use Rattle.mh_resolve_cells.specs.code.Tallies.{empty_tally, comparison_with_shift, IsTally}

-- The items have the complete item of production p on this look.
abbrev pub IsCompleteOn : Grammar → ItemSet → Look → ℕ → Type 0
IsCompleteOn g items look p = items p (length (rhs_of (plain_of g) p)) look

-- The targets of the edges on tokens, by token.
pub record AreShifts (tokens : ℕ) (edges : List Edge) (shifts : List (Option ℕ)) : Type 0 where
  pub len : length shifts ≡ tokens
  pub each : (z : ℕ) → z < tokens → slice_index_or shifts z None ≡ find_edge edges (T z)

-- The shift on a look; there is none at the end of the stream.
abbrev pub shift_in : List (Option ℕ) → Look → Option ℕ
shift_in shifts (Token z) = slice_index_or shifts z None
shift_in shifts End = None

-- The tally of a look.
abbrev pub tally_on : Tallies → Look → Tally
tally_on t (Token z) = slice_index_or t.tokens.items z empty_tally
tally_on t End = t.last

-- The tally of this look is replaced, and the others are unchanged.
pub record IsChanged (look : Look) (tally : Tally) (old new : Tallies) : Type 0 where
  pub len : length new.tokens.items ≡ length old.tokens.items
  pub tally_is : tally_on new look ≡ tally
  pub elsewhere : (other : Look) → (other ≡ look → ⊥) → tally_on new other ≡ tally_on old other

-- Each look has the tally of its reductions.
pub record AreTallied (g : Grammar) (items : ItemSet) (shifts : List (Option ℕ)) (t : Tallies) : Type 0 where
  pub len : length t.tokens.items ≡ length g.tokens
  pub each : (look : Look) → IsLookBelow (length g.tokens) look → IsTally (comparison_with_shift (comparison_on g look) (shift_in shifts look)) (IsCompleteOn g items look) (tally_on t look)

-- The looks of an item are in the grammar's range.
abbrev pub AreLooksKnown : ℕ → KernelItem → Type 0
AreLooksKnown tokens item = AllByRecursion (IsLookBelow tokens) item.looks

-- The items of a set, and one more item with these looks.
abbrev pub WithItem : ItemSet → KernelItem → List Look → ItemSet
WithItem items item looks p d look = items p d look ⊎ ((item.production ≡ p) × (item.dot ≡ d) × Contains looks look)
