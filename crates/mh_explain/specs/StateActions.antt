-- The actions of a state on a look, with the items that call for them (Knuth 1965), and the action of the table. The
-- layout is this project's own.
use Rattle.std.specs.Prelude.{◌≡◌, ◌<◌, ◌⊎◌, ◌↔◌, ℕ, List, [], ◌++◌, length, slice_get, flat_map, nat_lt, if◌then◌else◌, Option, Some, None, codes, decimal}
use Rattle.std.specs.List.{Contains}
use Rattle.mh_grammar.specs.declared.types.Grammar.{Grammar}
use Rattle.mh_grammar.specs.declared.types.Look.{Look}
use Rattle.mh_grammar.specs.declared.types.Look.TheVariants.{Token, End}
use Rattle.mh_grammar.specs.declared.types.Symbol.TheVariants.{T}
use Rattle.mh_grammar.specs.Edges.{IsRising}
use Rattle.mh_grammar.specs.ItemSets.{ItemSet}
use Rattle.mh_grammar.specs.Plain.{plain_of, rhs_of}
use Rattle.mh_grammar.specs.Text.{Text}
use Rattle.mh_grammar_texts.specs.Productions.{left_side_text, production_text, symbols_text}
use Rattle.mh_items_kernels.specs.KernelTypes.{Automaton}
use Rattle.mh_items_kernels.specs.Automaton.{closure_of, edges_at}
use Rattle.mh_resolve_cells.specs.States.{shift_on}
use Rattle.mh_tables_core.specs.declared.parts.Place.{Place}
use Rattle.mh_tables_core.specs.Run.{RunMove, Accepts, Asks, Refuses, Shifts, Reduces}

-- ---- Items without their looks.

-- The order of items: by production, then by dot.
abbrev pub IsPlaceBefore : Place → Place → Type 0
IsPlaceBefore x y = (x.production < y.production) ⊎ ((x.production ≡ y.production) × (x.dot < y.dot))

-- The list has exactly the items with the property `Is`, in rising order.
pub record AreItems (Is : Place → Type 0) (places : List Place) : Type 0 where
  pub rising : IsRising IsPlaceBefore places
  pub exact : (x : Place) → Contains places x ↔ Is x

-- An item of the set whose dot is before the look; none is before the end of the stream.
abbrev pub IsShiftItem : Grammar → ItemSet → Look → Place → Type 0
IsShiftItem g items (Token z) x = ((look : Look) × items x.production x.dot look) × (slice_get (rhs_of (plain_of g) x.production) x.dot ≡ Some (T z))
IsShiftItem g items End x = ⊥

-- A complete item of the set with this look.
abbrev pub IsReductionItem : Grammar → ItemSet → Look → Place → Type 0
IsReductionItem g items look x = items x.production x.dot look × (x.dot ≡ length (rhs_of (plain_of g) x.production))

-- ---- Lines.

-- The text of an item without its looks.
abbrev pub place_text : Grammar → Place → Text
place_text g x = left_side_text g x.production ++ (codes " ->" ++ symbols_text g (Some x.dot) (rhs_of (plain_of g) x.production))

abbrev pub shift_line : Grammar → ℕ → Place → Text
shift_line g j x = codes "  shift " ++ decimal j ++ codes ": " ++ place_text g x ++ codes "\n"

-- The lines of items whose token is shifted to this state; none if there is no shift.
abbrev pub shift_lines : Grammar → Option ℕ → List Place → Text
shift_lines g None places = []
shift_lines g (Some j) places = flat_map (shift_line g j) places

-- The beginning of the line of a complete item: a start production accepts, any other is reduced.
abbrev pub reduction_title : Grammar → ℕ → Text
reduction_title g p = if nat_lt p (length g.starts) then codes "  accept: " else codes "  reduce: "

abbrev pub reduction_line : Grammar → Place → Text
reduction_line g x = reduction_title g x.production ++ place_text g x ++ codes "\n"

abbrev pub reduction_lines : Grammar → List Place → Text
reduction_lines g places = flat_map (reduction_line g) places

-- The raw actions of the state s on the look: a line for each item that shifts the token, and then one for each
-- complete item with this look.
pub record AreActionLines (g : Grammar) (a : Automaton) (s : ℕ) (look : Look) (text : Text) : Type 0 where
  pub shifts : List Place
  pub are_shifts : AreItems (IsShiftItem g (closure_of (plain_of g) a s) look) shifts
  pub reductions : List Place
  pub are_reductions : AreItems (IsReductionItem g (closure_of (plain_of g) a s) look) reductions
  pub is : text ≡ shift_lines g (shift_on (edges_at a s) look) shifts ++ reduction_lines g reductions

-- The line of the action that the table takes.
abbrev pub taken_line : Grammar → RunMove → Text
taken_line g Accepts = codes "  taken: accept\n"
taken_line g Asks = []
taken_line g Refuses = codes "  taken: error\n"
taken_line g (Shifts j) = codes "  taken: shift " ++ decimal j ++ codes "\n"
taken_line g (Reduces p) = codes "  taken: reduce " ++ production_text g p ++ codes "\n"
