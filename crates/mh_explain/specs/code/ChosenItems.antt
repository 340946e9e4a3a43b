-- Definitions on the items that the code chooses from the closure of a state.
use Rattle.std.specs.Prelude.{◌≡◌, ◌≤◌, ◌↔◌, ◌++◌, List, length, slice_get, Some}
use Rattle.std.specs.List.{Contains}
use Rattle.mh_grammar.specs.declared.types.Grammar.{Grammar}
use Rattle.mh_grammar.specs.declared.types.Look.{Look}
use Rattle.mh_grammar.specs.declared.types.Look.TheVariants.{Token, End}
use Rattle.mh_grammar.specs.declared.types.Symbol.TheVariants.{T}
use Rattle.mh_grammar.specs.declared.edges.Edge.{Edge}
use Rattle.mh_grammar.specs.Edges.{IsRising}
use Rattle.mh_grammar.specs.Plain.{plain_of, rhs_of}
use Rattle.mh_grammar.specs.Text.{Text}
use Rattle.mh_items_kernels.specs.KernelTypes.{KernelItem}
use Rattle.mh_resolve_cells.specs.States.{core_item_of, shift_on}
use Rattle.mh_tables_core.specs.declared.parts.Place.{Place}
use Rattle.mh_explain.specs.declared.actions.RawAction.{RawAction}
use Rattle.mh_explain.specs.declared.actions.RawAction.TheVariants.{Shift, Reduce}
use Rattle.mh_explain.specs.StateActions.{IsPlaceBefore, reduction_lines, shift_lines}

-- The dot is within the right side of the production.
abbrev pub IsPlaceIn : Grammar → Place → Type 0
IsPlaceIn g x = x.dot ≤ length (rhs_of (plain_of g) x.production)

-- The dot of the item is before the look.
abbrev pub IsBeforeLook : Grammar → Look → KernelItem → Type 0
IsBeforeLook g (Token z) item = slice_get (rhs_of (plain_of g) item.production) item.dot ≡ Some (T z)
IsBeforeLook g End item = ⊥

-- The item is complete and has the look.
abbrev pub IsCompleteOn : Grammar → Look → KernelItem → Type 0
IsCompleteOn g look item = (item.dot ≡ length (rhs_of (plain_of g) item.production)) × Contains item.looks look

-- The item gives a raw action of this kind on the look: its dot is before the look, or it is complete and has the look.
abbrev pub GivesAction : RawAction → Grammar → Look → KernelItem → Type 0
GivesAction Shift = IsBeforeLook
GivesAction Reduce = IsCompleteOn

-- The productions and dots of exactly the items with the property, rising.
pub record AreChosen (Is : KernelItem → Type 0) (items : List KernelItem) (places : List Place) : Type 0 where
  pub rising : IsRising IsPlaceBefore places
  pub exact : (x : Place) → Contains places x ↔ ((item : KernelItem) × Contains items item × (core_item_of item ≡ x) × Is item)

-- The text is the lines of the actions on the look, by these items and edges.
pub record AreItemActions (g : Grammar) (items : List KernelItem) (edges : List Edge) (look : Look) (text : Text) : Type 0 where
  pub shifts : List Place
  pub are_shifts : AreChosen (IsBeforeLook g look) items shifts
  pub reductions : List Place
  pub are_reductions : AreChosen (IsCompleteOn g look) items reductions
  pub is : text ≡ shift_lines g (shift_on edges look) shifts ++ reduction_lines g reductions
