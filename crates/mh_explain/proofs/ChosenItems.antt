-- Lemmas on the loops that choose items of a closure, and on the actions of these items.
use Rattle.std.proofs.Common.{◌≡◌, ◌∙◌, ◌<◌, ◌≤◌, ◌+◌, ◌⊎◌, ◌++◌, ℕ, inl, inr, suc, List, [], ◌∷◌, Option, Some, length, take, drop, get_or, ap, sym, subst, refl, append_assoc}
use Rattle.std.specs.List.{All, AllByRecursion, Contains}
use Rattle.std.proofs.lemmas.List.{take_all}
use Rattle.std.proofs.lemmas.List.Elements.{All-from_recursion}
use Rattle.mh_grammar.specs.declared.types.Grammar.{Grammar}
use Rattle.mh_grammar.specs.declared.types.Look.{Look}
use Rattle.mh_grammar.specs.declared.types.Look.TheVariants.{Token, End}
use Rattle.mh_grammar.specs.Edges.{IsRising}
use Rattle.mh_grammar.specs.ItemSets.{AreSameItems, Close}
use Rattle.mh_grammar.specs.declared.edges.Edge.{Edge}
use Rattle.mh_grammar.specs.Plain.{plain_of}
use Rattle.mh_grammar.specs.Text.{Text}
use Rattle.mh_grammar.proofs.Lists.{at_contains, contains_at, contains_cases, contains_last, contains_none, contains_push, get_left, recursion_contains, recursion-from, rising-push, some_item, split_at, take_step}
use Rattle.mh_items_kernels.specs.KernelTypes.{Automaton, Kernel, KernelItem}
use Rattle.mh_items_kernels.specs.Automaton.{closure_of, edges_at}
use Rattle.mh_items_kernels.specs.Kernels.{Holds, IsItemBefore, IsItemList, IsKernelItem}
use Rattle.mh_resolve_cells.specs.States.{core_item_of, shift_on}
use Rattle.mh_resolve_cells.proofs.AreResolved.{kernel_is}
use Rattle.mh_tables_core.specs.Table.{TableData}
use Rattle.mh_tables_core.specs.Run.{run_move_of}
use Rattle.mh_tables_core.specs.declared.parts.Place.{Place}
use Rattle.mh_explain.specs.StateActions.{AreActionLines, IsPlaceBefore, IsReductionItem, IsShiftItem, reduction_lines, shift_lines, taken_line}
use Rattle.mh_explain.specs.Explanations.{AreNextLines}
use Rattle.mh_explain.specs.code.Searched.{AppendsText}
use Rattle.mh_explain.specs.code.ChosenItems.{AreChosen, AreItemActions, IsBeforeLook, IsCompleteOn, IsPlaceIn}

-- The items that a closure lists are those of the closure as a set.
module _ (g : Grammar) (a : Automaton) (s : ℕ) (closed : Kernel) (list : IsItemList (plain_of g) closed) (same : AreSameItems (Holds closed) (closure_of (plain_of g) a s)) where
  -- An item of the closure has at least one look.
  some_look : (item : KernelItem) → Contains closed.items item → (look : Look) × closure_of (plain_of g) a s item.production item.dot look
  some_look item c =
      let known = recursion_contains (IsKernelItem (plain_of g)) closed.items list.items item c in
      let look = some_item item.looks known.some in
      (look.0, (same item.production item.dot look.0).0 (item, c, refl, refl, look.1))

  shift_to : (look : Look) (x : Place) → ((item : KernelItem) × Contains closed.items item × (core_item_of item ≡ x) × IsBeforeLook g look item) → IsShiftItem g (closure_of (plain_of g) a s) look x
  shift_to (Token z) x (item, c, e, is) = subst (IsShiftItem g (closure_of (plain_of g) a s) (Token z)) e (some_look item c, is)
  shift_to End x (item, c, e, is) = absurd is

  shift_from : (look : Look) (x : Place) → IsShiftItem g (closure_of (plain_of g) a s) look x → (item : KernelItem) × Contains closed.items item × (core_item_of item ≡ x) × IsBeforeLook g look item
  shift_from (Token z) x ((look, c), is) = let h = (same x.production x.dot look).1 c in (h.0, h.1, (λ i. record { production = h.2 i; dot = h.3 i }), rw (h.2, h.3) is)
  shift_from End x is = absurd is

  reduction_to : (look : Look) (x : Place) → ((item : KernelItem) × Contains closed.items item × (core_item_of item ≡ x) × IsCompleteOn g look item) → IsReductionItem g (closure_of (plain_of g) a s) look x
  reduction_to look x (item, c, e, (whole, has)) = subst (IsReductionItem g (closure_of (plain_of g) a s) look) e ((same item.production item.dot look).0 (item, c, refl, refl, has), whole)

  reduction_from : (look : Look) (x : Place) → IsReductionItem g (closure_of (plain_of g) a s) look x → (item : KernelItem) × Contains closed.items item × (core_item_of item ≡ x) × IsCompleteOn g look item
  reduction_from look x (c, whole) = let h = (same x.production x.dot look).1 c in (h.0, h.1, (λ i. record { production = h.2 i; dot = h.3 i }), (rw (h.2, h.3) whole, h.4))

  -- The action lines that are computed from the listed items are the action lines of the state.
  pub item_actions_are_lines : (look : Look) (text : Text) → AreItemActions g closed.items (edges_at a s) look text → AreActionLines g a s look text
  item_actions_are_lines look text h = record {
    shifts = h.shifts;
    are_shifts = record { rising = h.are_shifts.rising; exact = λ x. ((λ c. shift_to look x ((h.are_shifts.exact x).0 c)), (λ is. (h.are_shifts.exact x).1 (shift_from look x is))) };
    reductions = h.reductions;
    are_reductions = record { rising = h.are_reductions.rising; exact = λ x. ((λ c. reduction_to look x ((h.are_reductions.exact x).0 c)), (λ is. (h.are_reductions.exact x).1 (reduction_from look x is))) };
    is = h.is;
  }

  -- If the lines that are computed from the listed items and the edges are appended, the action lines of the state are
  -- appended.
  pub appends_actions : (edges : List Edge) → edges_at a s ≡ edges → (look : Look) (old new : Text) → AppendsText (AreItemActions g closed.items edges look) old new → AppendsText (AreActionLines g a s look) old new
  appends_actions edges e look old new (text, is, written) = (text, item_actions_are_lines look text (subst (λ (es : List Edge). AreItemActions g closed.items es look text) (sym e) is), written)

  -- The lines on the next token are appended: the actions, and then the action of the table.
  pub appends_next : (t : TableData) (edges : List Edge) → edges_at a s ≡ edges → (z : ℕ) (old middle new : Text) → AppendsText (AreItemActions g closed.items edges (Token z)) old middle → new ≡ middle ++ taken_line g (run_move_of t s (z ∷ [])) → AppendsText (AreNextLines g a t s (Some z)) old new
  appends_next t edges e z old middle new actions taken =
      let lines = appends_actions edges e (Token z) old middle actions in
      let line = taken_line g (run_move_of t s (z ∷ [])) in
      (lines.0 ++ line, (lines.0, lines.1, refl), taken ∙ ap (λ (l : Text). l ++ line) lines.2 ∙ append_assoc old lines.0 line)

-- The closure of the kernel of a state is the closure of the state.
pub closed_of : (g : Grammar) (a : Automaton) (n : ℕ) (kernel closed : Kernel) → n < length a.kernels → kernel ≡ get_or a.kernels n kernel → AreSameItems (Holds closed) (Close (plain_of g) (Holds kernel)) → AreSameItems (Holds closed) (closure_of (plain_of g) a n)
closed_of g a n kernel closed lt e same = subst (λ (k : Kernel). AreSameItems (Holds closed) (Close (plain_of g) (Holds k))) (sym (kernel_is a n kernel lt e)) same

-- ---- The loops over the items.

contains_left : {X : Type 0} (xs ys : List X) (x : X) → Contains xs x → Contains (xs ++ ys) x
contains_left xs ys x c = let at = at_contains xs x c in contains_at (xs ++ ys) at.0 x (get_left xs ys at.0 x at.1)

-- In a rising list, each item is before the last one.
before_last : {X : Type 0} (R : X → X → Type 0) (xs : List X) (y : X) → IsRising R (xs ++ y ∷ []) → (x : X) → Contains xs x → R x y
before_last R [] y rise x c = absurd (contains_none x c)
before_last R (z ∷ xs) y rise x c = elim (contains_cases z xs x c) [
  | inl e ↦ subst (λ (k : _). R k y) e (recursion_contains (R z) (xs ++ y ∷ []) rise.0 y (contains_last xs y))
  | inr l ↦ before_last R xs y rise.1 x l
]

-- If all elements of a list have a property, all elements of each prefix have the property. A prefix of a rising list
-- rises.
recursion_front : {X : Type 0} (P : X → Type 0) (xs ys : List X) → AllByRecursion P (xs ++ ys) → AllByRecursion P xs
recursion_front P [] ys all = tt
recursion_front P (x ∷ xs) ys all = (all.0, recursion_front P xs ys all.1)

rising_front : {X : Type 0} (R : X → X → Type 0) (xs ys : List X) → IsRising R (xs ++ ys) → IsRising R xs
rising_front R [] ys rise = tt
rising_front R (x ∷ xs) ys rise = (recursion_front (R x) xs ys rise.0, rising_front R xs ys rise.1)

pub chosen_none : (Is : KernelItem → Type 0) → AreChosen Is [] []
chosen_none Is = record { rising = tt; exact = λ x. ((λ c. absurd (contains_none x c)), (λ h. absurd (contains_none h.0 h.1))) }

module _ (Is : KernelItem → Type 0) (items : List KernelItem) (item : KernelItem) where
  abbrev more : List KernelItem
  more = items ++ item ∷ []

  of_more : (x : Place) → ((i : KernelItem) × Contains more i × (core_item_of i ≡ x) × Is i) → ((i : KernelItem) × Contains items i × (core_item_of i ≡ x) × Is i) ⊎ ((core_item_of item ≡ x) × Is item)
  of_more x (i, c, e, is) = elim (contains_push items item i c) [ inl l ↦ inl (i, l, e, is) | inr r ↦ inr (subst (λ (k : KernelItem). core_item_of k ≡ x) r e, subst Is r is) ]

  -- The item is not chosen.
  pub chosen_not : (places : List Place) → (Is item → ⊥) → AreChosen Is items places → AreChosen Is more places
  chosen_not places not h = record {
    rising = h.rising;
    exact = λ x. (
      (λ c. let o = (h.exact x).0 c in (o.0, contains_left items (item ∷ []) o.0 o.1, o.2, o.3)),
      (λ o. elim (of_more x o) [ inl l ↦ (h.exact x).1 l | inr r ↦ absurd (not r.1) ]),
    );
  }

  -- The item is chosen; all items before it have lower places.
  pub chosen_more : (places : List Place) → Is item → IsRising IsItemBefore more → AreChosen Is items places → AreChosen Is more (places ++ core_item_of item ∷ [])
  chosen_more places is rise h = record {
    rising = rising-push IsPlaceBefore places (core_item_of item) h.rising (λ x c. (let o = (h.exact x).0 c in subst (λ (y : Place). IsPlaceBefore y (core_item_of item)) o.2 (before_last IsItemBefore items item rise o.0 o.1)));
    exact = λ x. (
      (λ c. elim (contains_push places (core_item_of item) x c) [
        | inl l ↦ (let o = (h.exact x).0 l in (o.0, contains_left items (item ∷ []) o.0 o.1, o.2, o.3))
        | inr r ↦ (item, contains_last items item, sym r, is)
      ]),
      (λ o. elim (of_more x o) [
        | inl l ↦ contains_left places (core_item_of item ∷ []) x ((h.exact x).1 l)
        | inr r ↦ subst (Contains (places ++ core_item_of item ∷ [])) r.0 (contains_last places (core_item_of item))
      ]),
    );
  }

-- The loop step: the next item of a rising list is chosen, or is not chosen.
module _ (Is : KernelItem → Type 0) (all : List KernelItem) (i : ℕ) (item : KernelItem) (lt : i < length all) (is : item ≡ get_or all i item) where
  pub item_chosen : (places new : List Place) → Is item → IsRising IsItemBefore all → AreChosen Is (take i all) places → new ≡ places ++ core_item_of item ∷ [] → AreChosen Is (take (i + 1) all) new
  item_chosen places new chosen rise h written =
      let front = take i all ++ item ∷ [] in
      let parts : all ≡ front ++ drop (suc i) all = split_at all i item lt is ∙ sym (append_assoc (take i all) (item ∷ []) (drop (suc i) all)) in
      let rises = rising_front IsItemBefore front (drop (suc i) all) (subst (IsRising IsItemBefore) parts rise) in
      subst (λ (l : List KernelItem). AreChosen Is l new) (sym (take_step all i item lt is)) (subst (AreChosen Is front) (sym written) (chosen_more Is (take i all) item places chosen rises h))

  pub item_not_chosen : (places : List Place) → (Is item → ⊥) → AreChosen Is (take i all) places → AreChosen Is (take (i + 1) all) places
  item_not_chosen places not h = subst (λ (l : List KernelItem). AreChosen Is l places) (sym (take_step all i item lt is)) (chosen_not Is (take i all) item places not h)

pub chosen_all : (Is : KernelItem → Type 0) (all : List KernelItem) (i : ℕ) (places : List Place) → length all ≤ i → AreChosen Is (take i all) places → AreChosen Is all places
chosen_all Is all i places le h = subst (λ (l : List KernelItem). AreChosen Is l places) (take_all i all le) h

-- The dots of chosen items are within their right sides.
pub places_in : (g : Grammar) (Is : KernelItem → Type 0) (items : List KernelItem) (places : List Place) → AllByRecursion (IsKernelItem (plain_of g)) items → AreChosen Is items places → All (IsPlaceIn g) places
places_in g Is items places all h =
    All-from_recursion (IsPlaceIn g) places
    (recursion-from (IsPlaceIn g) places (λ x c. let o = (h.exact x).0 c in subst (IsPlaceIn g) o.2 (recursion_contains (IsKernelItem (plain_of g)) items all o.0 o.1).dot))

-- The lines of the chosen items are appended, first those of shifts.
pub actions_written : (g : Grammar) (items : List KernelItem) (edges : List Edge) (look : Look) (shifts reductions : List Place) → AreChosen (IsBeforeLook g look) items shifts → AreChosen (IsCompleteOn g look) items reductions → (target : Option ℕ) → target ≡ shift_on edges look → (old middle new : Text)
    → middle ≡ old ++ shift_lines g target shifts → new ≡ middle ++ reduction_lines g reductions → AppendsText (AreItemActions g items edges look) old new
actions_written g items edges look shifts reductions are_shifts are_reductions target e old middle new first last = (
  shift_lines g (shift_on edges look) shifts ++ reduction_lines g reductions,
  record { shifts = shifts; are_shifts = are_shifts; reductions = reductions; are_reductions = are_reductions; is = refl },
  last
      ∙ ap (λ (l : Text). l ++ reduction_lines g reductions) (first ∙ ap (λ (o : Option ℕ). old ++ shift_lines g o shifts) e)
      ∙ append_assoc old (shift_lines g (shift_on edges look) shifts) (reduction_lines g reductions),
)
