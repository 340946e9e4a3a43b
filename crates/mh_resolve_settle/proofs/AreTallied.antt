-- Loop invariants for tallying the looks of an item, and the items of a state.
use Rattle.std.proofs.Common.{◌≡◌, ℕ, ◌<◌, ◌+◌, List, [], ◌∷◌, ◌++◌, subst, length, take, get_or, replicate, Option, refl, ap, sym, ◌∙◌, arith, inl, inr}
use Rattle.std.proofs.lemmas.List.{get_or-replicate, append_assoc, append-nil}
use Rattle.std.proofs.lemmas.List.Elements.{Contains-append_left, Contains-append_right}
use Rattle.std.specs.List.{AllByRecursion}
use Rattle.mh_grammar.proofs.EdgeOrder.{equal_look_or_not}
use Rattle.mh_grammar.specs.declared.types.Grammar.{Grammar}
use Rattle.mh_grammar.specs.declared.types.Look.{Look}
use Rattle.mh_grammar.specs.declared.types.Look.TheVariants.{Token, End}
use Rattle.mh_grammar.specs.Plain.{plain_of, rhs_of, IsLookBelow}
use Rattle.mh_grammar.specs.ItemSets.{ItemSet}
use Rattle.mh_items_kernels.specs.KernelTypes.{KernelItem}
use Rattle.mh_items_kernels.specs.Kernels.{Holds}
use Rattle.mh_resolve_cells.specs.declared.cells.Tallies.{Tallies}
use Rattle.mh_resolve_cells.specs.Precedence.{comparison_on}
use Rattle.mh_resolve_cells.specs.code.Tallies.{empty_tally, tally_with, comparison_with_shift, IsTally}
use Rattle.mh_resolve_cells.specs.code.LookTallies.{IsCompleteOn, shift_in, tally_on, IsChanged, AreTallied, WithItem}
use Rattle.mh_resolve_settle.proofs.IsTally.{IsMore, empty_is, more_is, same_is}
use Rattle.mh_grammar.proofs.Lists.{contains_here, contains_last, contains_push, recursion_contains, take_step_keeps, take_step_cases, take_step_last}

-- The item set of the first i items.
abbrev pub Front : List KernelItem → ℕ → ItemSet
Front xs i = Holds (record { items = take i xs })

-- Tallies are correct for every set with the same reductions.
pub tallied_same : (g : Grammar) (I J : ItemSet) (shifts : List (Option ℕ)) (t : Tallies) → ((look : Look) (p : ℕ) → IsCompleteOn g J look p → IsCompleteOn g I look p) → ((look : Look) (p : ℕ) → IsCompleteOn g I look p → IsCompleteOn g J look p) → AreTallied g I shifts t → AreTallied g J shifts t
tallied_same g I J shifts t new old h = record {
  len = h.len;
  each = λ look known. same_is (comparison_with_shift (comparison_on g look) (shift_in shifts look)) (IsCompleteOn g I look) (IsCompleteOn g J look) (tally_on t look) (new look) (old look) (h.each look known);
}

-- Empty tallies are correct for no items.
pub none_tallied : (g : Grammar) (shifts : List (Option ℕ)) (t : Tallies) → length t.tokens.items ≡ length g.tokens → t.tokens.items ≡ replicate (length g.tokens) empty_tally → t.last ≡ empty_tally → AreTallied g (Holds (record { items = [] })) shifts t
none_tallied g shifts t len tokens last = record { len = len; each = each }
  where
    nothing : (look : Look) (p : ℕ) → IsCompleteOn g (Holds (record { items = [] })) look p → ⊥
    nothing look p h = let c = h.1 in omega (arith, c.1)

    each : (look : Look) → IsLookBelow (length g.tokens) look → IsTally (comparison_with_shift (comparison_on g look) (shift_in shifts look)) (IsCompleteOn g (Holds (record { items = [] })) look) (tally_on t look)
    each (Token z) known =
        let is : get_or t.tokens.items z empty_tally ≡ empty_tally = ap (λ xs. get_or xs z empty_tally) tokens ∙ get_or-replicate (length g.tokens) z empty_tally empty_tally known in
        rw is (empty_is _ _ (nothing (Token z)))
    each End known = rw last (empty_is _ _ (nothing End))

-- Tallies are still correct when an item is added without looks.
looks_begin : (g : Grammar) (I : ItemSet) (item : KernelItem) (shifts : List (Option ℕ)) (t : Tallies) → AreTallied g I shifts t → AreTallied g (WithItem I item []) shifts t
looks_begin g I item shifts t = tallied_same g I (WithItem I item []) shifts t
    (λ look p h. elim h [ inl x ↦ x | inr x ↦ absurd (omega (arith, x.2.1)) ])
    (λ look p h. inl h)

-- Tallies are still correct when one more look of an item is counted.
looks_more : (g : Grammar) (I : ItemSet) (item : KernelItem) (shifts : List (Option ℕ)) (front : List Look) (look : Look) (old new : Tallies) → item.dot ≡ length (rhs_of (plain_of g) item.production)
    → IsChanged look (tally_with (tally_on old look) item.production (comparison_with_shift (comparison_on g look) (shift_in shifts look) item.production)) old new → AreTallied g (WithItem I item front) shifts old → AreTallied g (WithItem I item (front ++ look ∷ [])) shifts new
looks_more g I item shifts front look old new complete changed h = record { len = changed.len ∙ h.len; each = each }
  where
    still : (p : ℕ) (l : Look) → IsCompleteOn g (WithItem I item front) l p → IsCompleteOn g (WithItem I item (front ++ look ∷ [])) l p
    still p l (inl x) = inl x
    still p l (inr x) = inr (x.0, x.1, Contains-append_left front (look ∷ []) l x.2)

    kept : (l : Look) → (l ≡ look → ⊥) → (p : ℕ) → IsCompleteOn g (WithItem I item (front ++ look ∷ [])) l p → IsCompleteOn g (WithItem I item front) l p
    kept l ne p (inl x) = inl x
    kept l ne p (inr x) = elim (contains_push front look l x.2) [ inl c ↦ inr (x.0, x.1, c) | inr e ↦ absurd (ne e) ]

    more : IsMore (IsCompleteOn g (WithItem I item front) look) (IsCompleteOn g (WithItem I item (front ++ look ∷ [])) look) item.production
    more = record {
      new = λ q x. elim x [ inl y ↦ inl (inl y) | inr y ↦ inr (sym y.0) ];
      old = λ q x. still q look x;
      added = inr (refl, complete, contains_last front look);
    }

    each : (l : Look) → IsLookBelow (length g.tokens) l → IsTally (comparison_with_shift (comparison_on g l) (shift_in shifts l)) (IsCompleteOn g (WithItem I item (front ++ look ∷ [])) l) (tally_on new l)
    each l known =
        elim (equal_look_or_not l look) [
          | inl e ↦ (
              let there = h.each look (rw (← e) known) in
              rw (e, changed.tally_is) (more_is (comparison_with_shift (comparison_on g look) (shift_in shifts look)) (IsCompleteOn g (WithItem I item front) look) (IsCompleteOn g (WithItem I item (front ++ look ∷ [])) look) item.production _ (tally_on old look) more refl there))
          | inr ne ↦ rw (changed.elsewhere l ne) (same_is (comparison_with_shift (comparison_on g l) (shift_in shifts l)) (IsCompleteOn g (WithItem I item front) l) (IsCompleteOn g (WithItem I item (front ++ look ∷ [])) l) (tally_on old l) (kept l ne) (λ p x. still p l x) (h.each l known))
        ]

-- The tallies after the looks of an item before `left` were counted.
pub record AreCounted (g : Grammar) (shifts : List (Option ℕ)) (item : KernelItem) (left : List Look) (old new : Tallies) : Type 0 where
  pub counted : List Look
  pub split : item.looks ≡ counted ++ left
  pub size : length new.tokens.items ≡ length g.tokens
  pub tallied : (xs : List KernelItem) → AreTallied g (Holds (record { items = xs })) shifts old → AreTallied g (WithItem (Holds (record { items = xs })) item counted) shifts new

pub counted_none : (g : Grammar) (shifts : List (Option ℕ)) (item : KernelItem) (t : Tallies) → length t.tokens.items ≡ length g.tokens → AreCounted g shifts item item.looks t t
counted_none g shifts item t size = record { counted = []; split = refl; size = size; tallied = λ xs h. looks_begin g (Holds (record { items = xs })) item shifts t h }

pub counted_more : (g : Grammar) (shifts : List (Option ℕ)) (item : KernelItem) (look : Look) (left : List Look) (first old new : Tallies) → item.dot ≡ length (rhs_of (plain_of g) item.production)
    → IsChanged look (tally_with (tally_on old look) item.production (comparison_with_shift (comparison_on g look) (shift_in shifts look) item.production)) old new → AreCounted g shifts item (look ∷ left) first old → AreCounted g shifts item left first new
counted_more g shifts item look left first old new complete changed h = record {
  counted = h.counted ++ look ∷ [];
  split = h.split ∙ sym (append_assoc h.counted (look ∷ []) left);
  size = changed.len ∙ h.size;
  tallied = λ xs t. looks_more g (Holds (record { items = xs })) item shifts h.counted look old new complete changed (h.tallied xs t);
}

-- The next look is in the grammar's range.
pub counted_known : (g : Grammar) (shifts : List (Option ℕ)) (item : KernelItem) (look : Look) (left : List Look) (old new : Tallies) → AllByRecursion (IsLookBelow (length g.tokens)) item.looks → AreCounted g shifts item (look ∷ left) old new → IsLookBelow (length new.tokens.items) look
counted_known g shifts item look left old new known h =
    rw h.size (recursion_contains (IsLookBelow (length g.tokens)) item.looks known look (rw h.split (Contains-append_right h.counted (look ∷ left) look (contains_here look left))))

pub counted_all : (g : Grammar) (shifts : List (Option ℕ)) (item : KernelItem) (left : List Look) (old new : Tallies) → left ≡ [] → AreCounted g shifts item left old new → (xs : List KernelItem) → AreTallied g (Holds (record { items = xs })) shifts old → AreTallied g (WithItem (Holds (record { items = xs })) item item.looks) shifts new
counted_all g shifts item left old new none h xs t =
    let all : h.counted ≡ item.looks = sym (append-nil h.counted) ∙ ap (λ l. h.counted ++ l) (sym none) ∙ sym h.split in
    let P : List Look → Type 0 = λ l. AreTallied g (WithItem (Holds (record { items = xs })) item l) shifts new in
    subst P all (h.tallied xs t)

-- Tallies are correct for one item more when all its looks are counted.
pub looks_end : (g : Grammar) (xs : List KernelItem) (i : ℕ) (item : KernelItem) (shifts : List (Option ℕ)) (t : Tallies) → i < length xs → item ≡ get_or xs i item → AreTallied g (WithItem (Front xs i) item item.looks) shifts t → AreTallied g (Front xs (i + 1)) shifts t
looks_end g xs i item shifts t lt is = tallied_same g (WithItem (Front xs i) item item.looks) (Front xs (i + 1)) shifts t to from
  where
    to : (look : Look) (p : ℕ) → IsCompleteOn g (Front xs (i + 1)) look p → IsCompleteOn g (WithItem (Front xs i) item item.looks) look p
    to look p h =
        elim (take_step_cases xs i item lt is h.0 h.1) [
          | inl c ↦ inl (h.0, c, h.2, h.3, h.4)
          | inr e ↦ inr (ap (λ (k : KernelItem). k.production) e ∙ h.2, ap (λ (k : KernelItem). k.dot) e ∙ h.3, rw e h.4)
        ]

    from : (look : Look) (p : ℕ) → IsCompleteOn g (WithItem (Front xs i) item item.looks) look p → IsCompleteOn g (Front xs (i + 1)) look p
    from look p (inl h) = (h.0, take_step_keeps xs i h.0 lt h.1, h.2, h.3, h.4)
    from look p (inr h) = (item, take_step_last xs i item lt is, h.0, h.1, h.2)

-- An item that is not complete changes no tally.
pub item_passed : (g : Grammar) (xs : List KernelItem) (i : ℕ) (item : KernelItem) (shifts : List (Option ℕ)) (t : Tallies) → i < length xs → item ≡ get_or xs i item → (item.dot ≡ length (rhs_of (plain_of g) item.production) → ⊥) → AreTallied g (Front xs i) shifts t → AreTallied g (Front xs (i + 1)) shifts t
item_passed g xs i item shifts t lt is incomplete = tallied_same g (Front xs i) (Front xs (i + 1)) shifts t to from
  where
    to : (look : Look) (p : ℕ) → IsCompleteOn g (Front xs (i + 1)) look p → IsCompleteOn g (Front xs i) look p
    to look p h =
        elim (take_step_cases xs i item lt is h.0 h.1) [
          | inl c ↦ (h.0, c, h.2, h.3, h.4)
          | inr e ↦ (
              let same : item.production ≡ p = ap (λ (k : KernelItem). k.production) e ∙ h.2 in
              let dot : item.dot ≡ length (rhs_of (plain_of g) p) = ap (λ (k : KernelItem). k.dot) e ∙ h.3 in
              absurd (incomplete (dot ∙ ap (λ n. length (rhs_of (plain_of g) n)) (sym same))))
        ]

    from : (look : Look) (p : ℕ) → IsCompleteOn g (Front xs i) look p → IsCompleteOn g (Front xs (i + 1)) look p
    from look p h = (h.0, take_step_keeps xs i h.0 lt h.1, h.2, h.3, h.4)
