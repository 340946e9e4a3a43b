-- Definitions that parse the words of a line.
use Rattle.std.specs.Prelude.{◌≡◌, ℕ, Bool, true, false, ◌&&◌, nat_eq, if◌then◌else◌, List, [], ◌∷◌, ◌++◌, Option, Some, None, codes, Result, Ok, Err}
use Rattle.std.specs.List.{list_all}
use Rattle.std.specs.Cmp.Lexicographic.{pointwise}
use Rattle.mh_tabfile_read.specs.code.Numbers.{number_of}
use Rattle.mh_tabfile_form.specs.Form.{Line}
use Rattle.mh_tabfile_read.specs.declared.advance.LineRefusal.{LineRefusal}
use Rattle.mh_tabfile_read.specs.declared.advance.LineRefusal.TheVariants.{Unexpected, Memory}
use Rattle.mh_resolve_cells.specs.declared.kinds.Mode.{Mode}
use Rattle.mh_resolve_cells.specs.declared.kinds.Mode.TheVariants.{Merged, Canonical}
use Rattle.mh_tables_core.specs.declared.parts.Action.{Action}
use Rattle.mh_tables_core.specs.declared.parts.Action.TheVariants as actions
use Rattle.mh_tables_core.specs.declared.parts.Fallback.{Fallback}
use Rattle.mh_tables_core.specs.declared.parts.Fallback.TheVariants as fallbacks
use Rattle.mh_tabfile_form.specs.declared.types.RawProduction.{RawProduction}
use Rattle.mh_tabfile_form.specs.declared.types.RawItem.{RawItem}
use Rattle.mh_tabfile_form.specs.declared.types.RawEdge.{RawEdge}
use Rattle.mh_tabfile_form.specs.declared.types.RawCell.{RawCell}
use Rattle.mh_tabfile_read.specs.declared.places.LineKind.{LineKind}
use Rattle.mh_tabfile_read.specs.declared.places.LineKind.TheVariants as kinds

infixl 10 ◌>>=◌
abbrev pub ◌>>=◌ : {A B : Type 0} → Option A → (A → Option B) → Option B
(Some x) >>= f = f x
None >>= f = None

abbrev pub same_word : List ℕ → List ℕ → Bool
same_word = pointwise nat_eq

abbrev pub is_name : List ℕ → Bool
is_name [] = false
is_name (b ∷ bs) = true

unfoldable pub names_of : Line → Option Line
names_of words = if list_all is_name words then Some words else None

abbrev pub numbers_of : Line → Option (List ℕ)
numbers_of [] = Some []
numbers_of (word ∷ words) = number_of word >>= λ n. numbers_of words >>= λ ns. Some (n ∷ ns)

unfoldable pub mode_of : List ℕ → Option Mode
mode_of word = if same_word word (codes "merged") then Some Merged else if same_word word (codes "canonical") then Some Canonical else None

unfoldable pub kind_of : List ℕ → LineKind
kind_of word =
    if same_word word (codes "item") then kinds.Item else
    if same_word word (codes "edge") then kinds.Edge else
    if same_word word (codes "cell") then kinds.Cell else
    if same_word word (codes "default") then kinds.Default else
    if same_word word (codes "state") then kinds.State else
    if same_word word (codes "end") then kinds.End else
    if same_word word (codes "menhir-tables") then kinds.Head else
    if same_word word (codes "tokens") then kinds.Tokens else
    if same_word word (codes "costs") then kinds.Costs else
    if same_word word (codes "starts") then kinds.Starts else
    if same_word word (codes "productions") then kinds.Productions else
    if same_word word (codes "states") then kinds.States else kinds.Other

-- The number, if the line has exactly one word and this word is a number.
unfoldable pub count_of : Line → Option ℕ
count_of [] = None
count_of (n ∷ []) = number_of n
count_of (n ∷ m ∷ ws) = None

-- Parsers of the words after the first word of a line; for a production, of all words.

unfoldable pub production_of : Line → Option RawProduction
production_of [] = None
production_of (lhs ∷ []) = None
production_of (lhs ∷ arrow ∷ rhs) = if is_name lhs && same_word arrow (codes "->") then (names_of rhs >>= λ names. Some (record { lhs = lhs; rhs = names })) else None

unfoldable pub item_of : Line → Option RawItem
item_of [] = None
item_of (p ∷ []) = None
item_of (p ∷ d ∷ looks) = number_of p >>= λ production. number_of d >>= λ dot. names_of looks >>= λ names. Some (record { production = production; dot = dot; looks = names })

unfoldable pub edge_of : Line → Option RawEdge
edge_of [] = None
edge_of (x ∷ []) = None
edge_of (x ∷ t ∷ []) = if is_name x then (number_of t >>= λ target. Some (record { symbol = x; target = target })) else None
edge_of (x ∷ t ∷ w ∷ ws) = None

unfoldable pub action_of : List ℕ → List ℕ → Option Action
action_of verb n =
    if same_word verb (codes "shift") then (number_of n >>= λ j. Some (actions.Shift j)) else
    if same_word verb (codes "reduce") then (number_of n >>= λ p. Some (actions.Reduce p)) else None

unfoldable pub cell_of : Line → Option RawCell
cell_of [] = None
cell_of (z ∷ []) = None
cell_of (z ∷ verb ∷ []) = None
cell_of (z ∷ verb ∷ n ∷ []) = if is_name z then (action_of verb n >>= λ a. Some (record { token = z; action = a })) else None
cell_of (z ∷ verb ∷ n ∷ w ∷ ws) = None

unfoldable pub fallback_of : Line → Option Fallback
fallback_of [] = None
fallback_of (verb ∷ []) = if same_word verb (codes "accept") then Some fallbacks.Accept else None
fallback_of (verb ∷ n ∷ []) = if same_word verb (codes "reduce") then (number_of n >>= λ p. Some (fallbacks.Reduce p)) else None
fallback_of (verb ∷ n ∷ w ∷ ws) = None

-- The call returned what the definition gives, unless memory ran out.
abbrev pub AgreesWith : {X : Type 0} → Option X → Result X LineRefusal → Type 0
AgreesWith found (Ok x) = found ≡ Some x
AgreesWith found (Err Unexpected) = found ≡ None
AgreesWith found (Err Memory) = Unit {0}

-- The numbers `front` before the other numbers, if these were read.
abbrev pub then_numbers : List ℕ → Option (List ℕ) → Option (List ℕ)
then_numbers front None = None
then_numbers front (Some ns) = Some (front ++ ns)
