-- The looks and items that the names and lines of a file spell.
use Rattle.std.specs.Prelude.{◌≡◌, ◌<◌, ◌≤◌, ◌-◌, ℕ, List, [], map, length, Option, Some, None, slice_get}
use Rattle.std.specs.List.{AllByRecursion}
use Rattle.mh_grammar.specs.declared.types.Grammar.{Grammar}
use Rattle.mh_grammar.specs.declared.types.Look.{Look}
use Rattle.mh_grammar.specs.Edges.{IsRising, IsLookBefore}
use Rattle.mh_grammar.specs.Plain.{plain_of, IsLookBelow}
use Rattle.mh_items_kernels.specs.KernelTypes.{KernelItem}
use Rattle.mh_items_kernels.specs.Kernels.{IsKernelItem, IsItemBefore}
use Rattle.mh_items_kernels.specs.Automaton.{start_kernel}
use Rattle.mh_tabfile_form.specs.declared.types.RawItem.{RawItem}
use Rattle.mh_resolve_cells.specs.Names.{look_name}
use Rattle.mh_tabfile_form.specs.TableContent.{raw_item}
pub use Rattle.mh_validate_valid.specs.code.MovedItems.{IsNonStartItem}
pub use Rattle.mh_validate_valid.specs.code.SearchResult.{FindsOne}

-- The rising list of values that the raw values spell.
pub record AreSpelledValues {X N : Type 0} (raw_of : X → N) (Is : X → Type 0) (R : X → X → Type 0) (raws : List N) (xs : List X) : Type 0 where
  pub spelled : raws ≡ map raw_of xs
  pub each : AllByRecursion Is xs
  pub rising : IsRising R xs

-- The last value of a list, or none if the list is empty.
abbrev pub IsLast : {X : Type 0} → Option X → List X → Type 0
IsLast None xs = xs ≡ []
IsLast (Some x) xs = (0 < length xs) × (slice_get xs (length xs - 1) ≡ Some x)

-- The look is greater than the last one, if there is a last one.
abbrev pub IsAfterLast : Option Look → Look → Type 0
IsAfterLast None look = Unit {0}
IsAfterLast (Some last) look = IsLookBefore last look

-- The look of the grammar with this name.
pub record IsLookOf (g : Grammar) (name : List ℕ) (look : Look) : Type 0 where
  pub below : IsLookBelow (length g.tokens) look
  pub named : name ≡ look_name g look

abbrev pub AreLooksOf : Grammar → List (List ℕ) → List Look → Type 0
AreLooksOf g = AreSpelledValues (look_name g) (IsLookBelow (length g.tokens)) IsLookBefore

-- The kernel item of the grammar that a line spells.
pub record IsItemOf (g : Grammar) (raw : RawItem) (item : KernelItem) : Type 0 where
  pub spelled : raw ≡ raw_item g item
  pub kept : IsKernelItem (plain_of g) item

abbrev pub AreItemsOf : Grammar → List RawItem → List KernelItem → Type 0
AreItemsOf g = AreSpelledValues (raw_item g) (IsKernelItem (plain_of g)) IsItemBefore

-- The items can be the kernel of state `s`, apart from the checks of their numbers and their order: those of the start
-- kernel for a start state, and otherwise at least one item with a moved dot.
pub record MayHaveItems (g : Grammar) (s : ℕ) (items : List KernelItem) : Type 0 where
  pub start : s < length g.starts → items ≡ (start_kernel s).items
  pub some : length g.starts ≤ s → 0 < length items
  pub moved : length g.starts ≤ s → AllByRecursion (IsNonStartItem g) items
