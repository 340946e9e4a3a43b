-- Lemmas on looks and items that are read from names and lines.
use Rattle.std.specs.Prelude.{◌==◌}
use Rattle.std.proofs.Common.{false, ◌≡◌, ◌↔◌, ◌⊎◌, ◌<◌, ◌≤◌, ◌+◌, ◌-◌, ℕ, zero, suc, List, [], ◌∷◌, ◌++◌, map, take, length, Option, Some, None, get_or, refl, sym, ap, ◌∙◌, subst, arith, inl, inr}
use Rattle.std.specs.List.{Contains, slice_get}
use Rattle.std.specs.Option.{option_map}
use Rattle.std.proofs.lemmas.List.{length-map, length-take-le, get_or-take}
use Rattle.std.proofs.lemmas.Option.{slice_get-get_or, slice_get-map, get_or_from_slice_get}
use Rattle.mh_grammar.specs.declared.types.Look.{Look}
use Rattle.mh_grammar.specs.declared.types.Look.TheVariants.{Token, End}
use Rattle.mh_grammar.specs.declared.types.Grammar.{Grammar}
use Rattle.mh_grammar.specs.declared.types.Production.{Production}
use Rattle.mh_grammar.specs.Edges.{IsRising, IsLookBefore}
use Rattle.mh_grammar.specs.Plain.{plain_of, rhs_of, IsLookBelow, production_count}
use Rattle.mh_grammar.proofs.Lists.{contains_push, contains_last, at_contains, contains_at, get_left, recursion_contains, rising-push, rising_same}
use Rattle.mh_grammar.proofs.ProductionNumbers.{rhs_of-ordinary, rhs_of-start}
use Rattle.mh_sets.specs.Sets.{IsSet}
use Rattle.mh_grammar.proofs.EdgeOrder.{look_order_asymmetric}
use Rattle.mh_items_kernels.specs.KernelTypes.{KernelItem}
use Rattle.mh_items_kernels.specs.Kernels.{IsKernelItem, IsItemBefore}
use Rattle.mh_items_kernels.proofs.UniqueItemList.{before_trans}
use Rattle.mh_tabfile_form.specs.declared.types.RawItem.{RawItem}
use Rattle.mh_resolve_cells.specs.Names.{look_name}
use Rattle.mh_tabfile_form.specs.TableContent.{raw_item}
use Rattle.mh_validate_valid.specs.Valid.{AreTokenNamesDistinct}
use Rattle.mh_validate_valid.proofs.KernelUnique.{same_look, same_item}
use Rattle.mh_validate.specs.code.LooksAndItems.{IsLookOf, AreLooksOf, IsItemOf, AreItemsOf, IsLast, IsAfterLast}
use Rattle.mh_validate.proofs.RisingValues.{read-none, read-more, read-never, read-all, all_before_new_last, all_before_next, last_pushed, last_contained}

look_along : (x y z : Look) → IsLookBefore x y → IsLookBefore y z → IsLookBefore x z
look_along (Token a) (Token b) (Token c) h k = omega arith
look_along (Token a) (Token b) End h k = tt
look_along (Token a) End z h k = absurd k
look_along End y z h k = absurd h

contains_left : {X : Type 0} (xs : List X) (y x : X) → Contains xs x → Contains (xs ++ y ∷ []) x
contains_left xs y x c = let (k, at) = at_contains xs x c in contains_at (xs ++ y ∷ []) k x (get_left xs (y ∷ []) k x at)

-- A look that is greater than all others of a set is inserted at its end.
inserted_last : {W : ℕ} (old new : List Look) (look : Look) → IsRising IsLookBefore old → IsSet W new → ((b : Look) → Contains new b ↔ (Contains old b ⊎ (b ≡ look))) → ((b : Look) → Contains old b → IsLookBefore b look) → new ≡ old ++ look ∷ []
inserted_last {W = W} old new look r set members behind = rising_same IsLookBefore look_order_asymmetric new (old ++ look ∷ []) set.rising (rising-push IsLookBefore old look r behind) (λ b. (
  (λ c. elim ((members b).0 c) [ inl h ↦ contains_left old look b h | inr e ↦ subst (λ x. Contains (old ++ look ∷ []) x) (sym e) (contains_last old look) ]),
  (λ c. (members b).1 (contains_push old look b c)),
))

-- The looks of the names read so far, and the last of them.
pub record LooksSoFar (g : Grammar) (names : List (List ℕ)) (looks : List Look) (last : Option Look) : Type 0 where
  pub read : AreLooksOf g names looks
  pub ends : IsLast last looks

look_before_next : (last : Option Look) (look : Look) → IsAfterLast last look → (l : Look) → last ≡ Some l → IsLookBefore l look
look_before_next None look h l e = cc
look_before_next (Some k) look h l e = let same : k ≡ l = cc in subst (λ x. IsLookBefore x look) same h

module _ (g : Grammar) (apart : AreTokenNamesDistinct g) where
  abbrev Below : Look → Type 0
  Below = IsLookBelow (length g.tokens)

  pub looks_none : LooksSoFar g [] [] None
  looks_none = record { read = read-none (look_name g) Below IsLookBefore; ends = refl }

  pub looks_more : {W : ℕ} (names : List (List ℕ)) (i : ℕ) (name : List ℕ) (old new : List Look) (last : Option Look) (look : Look) → i < length names → name ≡ get_or names i name → LooksSoFar g (take i names) old last
      → IsLookOf g name look → IsAfterLast last look → IsSet W new → ((b : Look) → Contains new b ↔ (Contains old b ⊎ (b ≡ look))) → LooksSoFar g (take (i + 1) names) new (Some look)
  looks_more {W = W} names i name old new last look lt e h is behind set members =
      let all = all_before_new_last IsLookBefore look_along last old look h.read.rising h.ends (look_before_next last look behind) in
      let pushed : new ≡ old ++ look ∷ [] = inserted_last {W = W} old new look h.read.rising set members all in
      subst (λ (ls : List Look). LooksSoFar g (take (i + 1) names) ls (Some look)) (sym pushed)
      (record { read = read-more (look_name g) Below IsLookBefore names i name old look lt e h.read is.named is.below all; ends = last_pushed old look })

  pub looks_never : (names : List (List ℕ)) (i : ℕ) (name : List ℕ) (old : List Look) (last : Option Look) (ls : List Look) → i < length names → name ≡ get_or names i name → LooksSoFar g (take i names) old last
      → ((look : Look) → IsLookOf g name look → IsAfterLast last look → ⊥) → AreLooksOf g names ls → ⊥
  looks_never names i name old last ls lt e h none k = read-never (look_name g) Below IsLookBefore (same_look g apart) names i name old ls lt e h.read
      (λ y below named behind. none y (record { below = below; named = named }) (first_behind last y h.ends behind)) k
    where
      first_behind : (o : Option Look) (y : Look) → IsLast o old → ((z : Look) → Contains old z → IsLookBefore z y) → IsAfterLast o y
      first_behind None y is b = tt
      first_behind (Some l) y is b = b l (last_contained old l is)

  pub looks_all : (names : List (List ℕ)) (i : ℕ) (looks : List Look) (last : Option Look) → length names ≤ i → LooksSoFar g (take i names) looks last → AreLooksOf g names looks
  looks_all names i looks last past h = read-all (look_name g) Below IsLookBefore names looks i past h.read

  -- Lemmas on the items of a list that are read.

  pub items_never : (raws : List RawItem) (i : ℕ) (raw : RawItem) (old items : List KernelItem) → i < length raws → raw ≡ get_or raws i raw → AreItemsOf g (take i raws) old
      → ((item : KernelItem) → IsItemOf g raw item → ((z : KernelItem) → Contains old z → IsItemBefore z item) → ⊥) → AreItemsOf g raws items → ⊥
  items_never raws i raw old items lt e h none k = read-never (raw_item g) (IsKernelItem (plain_of g)) IsItemBefore (same_item g apart) raws i raw old items lt e h
      (λ y is spelled behind. none y (record { spelled = spelled; kept = is }) behind) k

-- One more item is read.
pub items_more : (g : Grammar) (raws : List RawItem) (i : ℕ) (raw : RawItem) (old : List KernelItem) (item : KernelItem) → i < length raws → raw ≡ get_or raws i raw → AreItemsOf g (take i raws) old
    → IsItemOf g raw item → ((z : KernelItem) → Contains old z → IsItemBefore z item) → AreItemsOf g (take (i + 1) raws) (old ++ item ∷ [])
items_more g raws i raw old item lt e h is behind = read-more (raw_item g) (IsKernelItem (plain_of g)) IsItemBefore raws i raw old item lt e h is.spelled is.kept behind

pub items_none : (g : Grammar) → AreItemsOf g [] []
items_none g = read-none (raw_item g) (IsKernelItem (plain_of g)) IsItemBefore

pub items_all : (g : Grammar) (raws : List RawItem) (i : ℕ) (items : List KernelItem) → length raws ≤ i → AreItemsOf g (take i raws) items → AreItemsOf g raws items
items_all g raws i items past h = read-all (raw_item g) (IsKernelItem (plain_of g)) IsItemBefore raws items i past h

-- An item after the last one of a rising list is after all of them.
pub IsRising-push_item : (items : List KernelItem) (last item : KernelItem) → IsRising IsItemBefore items → 0 < length items → last ≡ get_or items (length items - 1) last → IsItemBefore last item ↔ ((z : KernelItem) → Contains items z → IsItemBefore z item)
IsRising-push_item items last item r some e =
    let at : slice_get items (length items - 1) ≡ Some last = slice_get-get_or items (length items - 1) last (omega arith) ∙ ap Some (sym e) in
    (λ h. all_before_next IsItemBefore before_trans items last item r at h, λ h. h last (contains_at items (length items - 1) last at))

-- Lemmas on one item.

pub item_from : (g : Grammar) (raw : RawItem) (looks : List Look) → raw.production < production_count (plain_of g) → raw.dot ≤ length (rhs_of (plain_of g) raw.production) → 0 < length raw.looks → AreLooksOf g raw.looks looks
    → IsItemOf g raw (record { production = raw.production; dot = raw.dot; looks = looks })
item_from g raw looks known within some h = record {
  spelled = ap (λ (names : List (List ℕ)). record { production = raw.production; dot = raw.dot; looks = names }) h.spelled;
  kept = record { production = known; dot = within; looks = h.each; rising = h.rising; some = (let n = length-map looks (look_name g) in let e = ap length h.spelled in omega arith) };
}

pub item_place : (g : Grammar) (raw : RawItem) (item : KernelItem) → IsItemOf g raw item → (raw.production < production_count (plain_of g)) × (raw.dot ≤ length (rhs_of (plain_of g) raw.production))
item_place g raw item is =
    let p : raw.production ≡ item.production = ap (λ (r : RawItem). r.production) is.spelled in
    let d : raw.dot ≡ item.dot = ap (λ (r : RawItem). r.dot) is.spelled in
    rw (p, d) (is.kept.production, is.kept.dot)

pub item_looks : (g : Grammar) (raw : RawItem) (item : KernelItem) → IsItemOf g raw item → AreLooksOf g raw.looks item.looks × (0 < length raw.looks)
item_looks g raw item is =
    let e : raw.looks ≡ map (look_name g) item.looks = ap (λ (r : RawItem). r.looks) is.spelled in
    (record { spelled = e; each = is.kept.looks; rising = is.kept.rising }, (let n = length-map item.looks (look_name g) in let f = ap length e in let s = is.kept.some in omega arith))

-- The looks of an item that was read are those that its line names.
pub looks_known : (g : Grammar) (raws : List RawItem) (items : List KernelItem) (last : ℕ) (raw : RawItem) (item : KernelItem) → AreItemsOf g (take (length items) raws) items → last < length items → slice_get raws last ≡ Some raw → item ≡ get_or items last item
    → AreLooksOf g raw.looks item.looks
looks_known g raws items last raw item h lt at e =
    let there : slice_get items last ≡ Some item = slice_get-get_or items last item lt ∙ ap Some (sym e) in
    let line : get_or (take (length items) raws) last raw ≡ raw = get_or-take (length items) raws last raw lt ∙ get_or_from_slice_get raws last raw raw at in
    let spelled : slice_get (map (raw_item g) items) last ≡ Some (raw_item g item) = slice_get-map (raw_item g) items last ∙ ap (option_map (raw_item g)) there in
    let same : raw ≡ raw_item g item = sym line ∙ ap (λ (rs : List RawItem). get_or rs last raw) h.spelled ∙ get_or_from_slice_get (map (raw_item g) items) last (raw_item g item) raw spelled in
    (item_looks g raw item (record { spelled = same; kept = recursion_contains (IsKernelItem (plain_of g)) items h.each item (contains_at items last item there) })).0

-- The number of items that were read is the number of their lines.
pub count_read : (g : Grammar) (raws : List RawItem) (items : List KernelItem) (i : ℕ) → AreItemsOf g (take i raws) items → i < length raws → length items ≡ i
count_read g raws items i h lt = sym (length-map items (raw_item g)) ∙ sym (ap length h.spelled) ∙ length-take-le i raws (omega (arith, lt))

-- A start production has length 1, and each other production has the length of the grammar's production.

pub start_length : (g : Grammar) (p : ℕ) → p < length g.starts → 1 ≡ length (rhs_of (plain_of g) p)
start_length g p lt = sym (ap length (rhs_of-start (plain_of g) p lt))

pub ordinary_length : (g : Grammar) (p : ℕ) (q : Production) → length g.starts ≤ p → p < length g.starts + length g.productions → q ≡ get_or g.productions (p - length g.starts) q → length q.rhs ≡ length (rhs_of (plain_of g) p)
ordinary_length g p q over lt e =
    let k = p - length g.starts in
    let at : slice_get g.productions k ≡ Some q = slice_get-get_or g.productions k q (omega arith) ∙ ap Some (sym e) in
    let number : length g.starts + k ≡ p = omega arith in
    sym (ap length (subst (λ n. rhs_of (plain_of g) n ≡ q.rhs) number (rhs_of-ordinary (plain_of g) k q at)))

pub look_wide : (n m : ℕ) → n ≤ m → (look : Look) → IsLookBelow n look → IsLookBelow m look
look_wide n m le (Token z) h = omega (arith, le, h)
look_wide n m le End h = tt

pub look_unique : (g : Grammar) → AreTokenNamesDistinct g → (name : List ℕ) (l m : Look) → IsLookOf g name l → IsLookOf g name m → l ≡ m
look_unique g n name l m h k = same_look g n l m h.below k.below (sym h.named ∙ k.named)

pub item_unique : (g : Grammar) → AreTokenNamesDistinct g → (raw : RawItem) (i j : KernelItem) → IsItemOf g raw i → IsItemOf g raw j → i ≡ j
item_unique g n raw i j h k = same_item g n i j h.kept k.kept (sym h.spelled ∙ k.spelled)

pub positive_count : (n : ℕ) → (n == 0) ≡ false → 0 < n
positive_count zero h = cc
positive_count (suc n) h = omega arith
