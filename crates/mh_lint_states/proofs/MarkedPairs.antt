-- Lemmas on pairs of a production and a token whose levels are compared: those of the looks of an item, and those of
-- the items of a state.
use Rattle.std.proofs.Common.{◌≡◌, ℕ, ◌+◌, ◌<◌, ◌⊎◌, List, [], ◌∷◌, ◌++◌, Bool, Option, None, Some, true, length, get_or, take, refl, sym, ap, ◌∙◌, append_assoc, inl, inr}
use Rattle.std.proofs.lemmas.List.{append-nil}
use Rattle.std.proofs.lemmas.List.Elements.{Contains-append_left, Contains-append_right, Contains-append_cases}
use Rattle.std.specs.List.{AllByRecursion}
use Rattle.std.specs.Prelude.{is_some}
use Rattle.mh_grammar.proofs.Lists.{contains_here, contains_none, contains_one, recursion_contains, take_step_cases, take_step_keeps, take_step_last}
use Rattle.mh_grammar.specs.declared.types.Grammar.{Grammar}
use Rattle.mh_grammar.specs.declared.types.Look.{Look}
use Rattle.mh_grammar.specs.declared.types.Look.TheVariants.{Token}
use Rattle.mh_grammar.specs.Plain.{plain_of, rhs_of, production_count, IsLookBelow}
use Rattle.mh_items_kernels.specs.KernelTypes.{KernelItem}
use Rattle.mh_lint_states.specs.code.ComparedPairs.{CanShiftIn, HasFlags, IsComparable, ItemsCompare, LooksCompare, MarksPairs}
use Rattle.mh_lint_states.specs.declared.comparisons.ComparedLevels.{ComparedLevels}
use Rattle.mh_lint_states.proofs.MarkedFlags.{marks_none, marks_then, marks_same}

-- ---- Pairs in general.

pub pairs_none : (Is : ℕ → ℕ → Type 0) (c : ComparedLevels) → ((p z : ℕ) → Is p z → ⊥) → MarksPairs Is c c
pairs_none Is c none = record {
  tokens = marks_none _ c.tokens.items (λ z h. none h.0 z h.1);
  productions = marks_none _ c.productions.items (λ p h. none p h.0 h.1);
}

pub pairs_then : (P Q R : ℕ → ℕ → Type 0) (a b c : ComparedLevels) → ((p z : ℕ) → R p z → P p z ⊎ Q p z) → ((p z : ℕ) → P p z → R p z) → ((p z : ℕ) → Q p z → R p z) → MarksPairs P a b → MarksPairs Q b c → MarksPairs R a c
pairs_then P Q R a b c split pr qr h k = record {
  tokens = marks_same _ _ a.tokens.items c.tokens.items
      (λ z x. elim x [ inl y ↦ (y.0, pr y.0 z y.1) | inr y ↦ (y.0, qr y.0 z y.1) ])
      (λ z x. elim (split x.0 z x.1) [ inl y ↦ inl (x.0, y) | inr y ↦ inr (x.0, y) ])
      (marks_then _ _ a.tokens.items b.tokens.items c.tokens.items h.tokens k.tokens);
  productions = marks_same _ _ a.productions.items c.productions.items
      (λ p x. elim x [ inl y ↦ (y.0, pr p y.0 y.1) | inr y ↦ (y.0, qr p y.0 y.1) ])
      (λ p x. elim (split p x.0 x.1) [ inl y ↦ inl (x.0, y) | inr y ↦ inr (x.0, y) ])
      (marks_then _ _ a.productions.items b.productions.items c.productions.items h.productions k.productions);
}

pub pairs_same : (P Q : ℕ → ℕ → Type 0) (a b : ComparedLevels) → ((p z : ℕ) → P p z → Q p z) → ((p z : ℕ) → Q p z → P p z) → MarksPairs P a b → MarksPairs Q a b
pairs_same P Q a b pq qp h = record {
  tokens = marks_same _ _ a.tokens.items b.tokens.items (λ z x. (x.0, pq x.0 z x.1)) (λ z x. (x.0, qp x.0 z x.1)) h.tokens;
  productions = marks_same _ _ a.productions.items b.productions.items (λ p x. (x.0, pq p x.0 x.1)) (λ p x. (x.0, qp p x.0 x.1)) h.productions;
}

pub pairs_flags : (Is : ℕ → ℕ → Type 0) (tokens productions : ℕ) (a b : ComparedLevels) → HasFlags tokens productions a → MarksPairs Is a b → HasFlags tokens productions b
pairs_flags Is tokens productions a b f h = record { tokens_are = h.tokens.len ∙ f.tokens_are; productions_are = h.productions.len ∙ f.productions_are }

-- ---- One pair.

module _ (g : Grammar) (production token : ℕ) where
  abbrev pub IsPair : ℕ → ℕ → Type 0
  IsPair p z = (p ≡ production) × (z ≡ token) × IsComparable g p z

-- ---- One look.

pub some_from : (o : Option ℕ) → is_some o ≡ true → (j : ℕ) × (o ≡ Some j)
some_from None e = absurd cc
some_from (Some j) e = (j, refl)

module _ (g : Grammar) (shifts : List (Option ℕ)) (production : ℕ) (c : ComparedLevels) where
  pub look_shifted : (token place : ℕ) (answer : Bool) (new : ComparedLevels) → answer ≡ is_some (get_or shifts place None) → answer ≡ true → place ≡ token → MarksPairs (IsPair g production token) c new → MarksPairs (LooksCompare g shifts production (Token token ∷ [])) c new
  look_shifted token place answer new test has same marks = pairs_same _ _ c new to from marks
    where
      shift : (z : ℕ) → z ≡ token → CanShiftIn shifts z
      shift z e = (let some = some_from (get_or shifts place None) (sym test ∙ has) in (some.0, ap (λ n. get_or shifts n None) (e ∙ sym same) ∙ some.1))

      to : (p z : ℕ) → IsPair g production token p z → LooksCompare g shifts production (Token token ∷ []) p z
      to p z h = record { production_is = h.0; look = rw h.1 (contains_here (Token token) []); shift = shift z h.1; comparable = h.2 }

      from : (p z : ℕ) → LooksCompare g shifts production (Token token ∷ []) p z → IsPair g production token p z
      from p z h =
          let e = contains_one (Token token) (Token z) h.look in
          let at : z ≡ token = cc in
          (h.production_is, at, h.comparable)

-- ---- The looks of an item.

module _ (g : Grammar) (shifts : List (Option ℕ)) (production : ℕ) where
  no_looks : (p z : ℕ) → LooksCompare g shifts production [] p z → ⊥
  no_looks p z h = contains_none (Token z) h.look

  looks_split : (front back : List Look) (p z : ℕ) → LooksCompare g shifts production (front ++ back) p z → LooksCompare g shifts production front p z ⊎ LooksCompare g shifts production back p z
  looks_split front back p z h = elim (Contains-append_cases front back (Token z) h.look) [
    | inl c ↦ inl (record { production_is = h.production_is; look = c; shift = h.shift; comparable = h.comparable })
    | inr c ↦ inr (record { production_is = h.production_is; look = c; shift = h.shift; comparable = h.comparable })
  ]

  looks_front : (front back : List Look) (p z : ℕ) → LooksCompare g shifts production front p z → LooksCompare g shifts production (front ++ back) p z
  looks_front front back p z h = record { production_is = h.production_is; look = Contains-append_left front back (Token z) h.look; shift = h.shift; comparable = h.comparable }

  looks_back : (front back : List Look) (p z : ℕ) → LooksCompare g shifts production back p z → LooksCompare g shifts production (front ++ back) p z
  looks_back front back p z h = record { production_is = h.production_is; look = Contains-append_right front back (Token z) h.look; shift = h.shift; comparable = h.comparable }

-- The pairs of the looks of an item before `left` are marked.
pub record AreLooksMarked (g : Grammar) (shifts : List (Option ℕ)) (item : KernelItem) (left : List Look) (old new : ComparedLevels) : Type 0 where
  pub done : List Look
  pub split : item.looks ≡ done ++ left
  pub pairs : MarksPairs (LooksCompare g shifts item.production done) old new
  pub flags : HasFlags (length g.tokens) (production_count (plain_of g)) new

module _ (g : Grammar) (shifts : List (Option ℕ)) (item : KernelItem) where
  pub looks_init : (c : ComparedLevels) → HasFlags (length g.tokens) (production_count (plain_of g)) c → AreLooksMarked g shifts item item.looks c c
  looks_init c f = record { done = []; split = refl; pairs = pairs_none _ c (no_looks g shifts item.production); flags = f }

  pub looks_known : (look : Look) (left : List Look) (old new : ComparedLevels) → AllByRecursion (IsLookBelow (length g.tokens)) item.looks → AreLooksMarked g shifts item (look ∷ left) old new → IsLookBelow (length g.tokens) look
  looks_known look left old new known h = recursion_contains (IsLookBelow (length g.tokens)) item.looks known look (rw h.split (Contains-append_right h.done (look ∷ left) look (contains_here look left)))

  pub looks_more : (look : Look) (left : List Look) (old mid new : ComparedLevels) → MarksPairs (LooksCompare g shifts item.production (look ∷ [])) mid new → AreLooksMarked g shifts item (look ∷ left) old mid → AreLooksMarked g shifts item left old new
  looks_more look left old mid new marks h = record {
    done = h.done ++ look ∷ [];
    split = h.split ∙ sym (append_assoc h.done (look ∷ []) left);
    pairs = pairs_then _ _ _ old mid new (looks_split g shifts item.production h.done (look ∷ [])) (looks_front g shifts item.production h.done (look ∷ [])) (looks_back g shifts item.production h.done (look ∷ [])) h.pairs marks;
    flags = pairs_flags _ _ _ mid new h.flags marks;
  }

  pub looks_all : (left : List Look) (old new : ComparedLevels) → left ≡ [] → AreLooksMarked g shifts item left old new → MarksPairs (LooksCompare g shifts item.production item.looks) old new
  looks_all left old new none h =
      let all : item.looks ≡ h.done = h.split ∙ ap (λ l. h.done ++ l) none ∙ append-nil h.done in
      rw all h.pairs

-- ---- The items of a state.

module _ (g : Grammar) (shifts : List (Option ℕ)) (items : List KernelItem) (i : ℕ) (item : KernelItem) (within : i < length items) (at : item ≡ get_or items i item) (old mid : ComparedLevels) (h : MarksPairs (ItemsCompare g shifts (take i items)) old mid) where
  keeps : (p z : ℕ) → ItemsCompare g shifts (take i items) p z → ItemsCompare g shifts (take (i + 1) items) p z
  keeps p z x = record { item = x.item; of_items = take_step_keeps items i x.item within x.of_items; complete = x.complete; compares = x.compares }

  -- A complete item is added.
  pub items_more : (new : ComparedLevels) → item.dot ≡ length (rhs_of (plain_of g) item.production) → MarksPairs (LooksCompare g shifts item.production item.looks) mid new → MarksPairs (ItemsCompare g shifts (take (i + 1) items)) old new
  items_more new complete marks = pairs_then _ _ _ old mid new split keeps added h marks
    where
      split : (p z : ℕ) → ItemsCompare g shifts (take (i + 1) items) p z → ItemsCompare g shifts (take i items) p z ⊎ LooksCompare g shifts item.production item.looks p z
      split p z x = elim (take_step_cases items i item within at x.item x.of_items) [
        | inl before ↦ inl (record { item = x.item; of_items = before; complete = x.complete; compares = x.compares })
        | inr same ↦ inr (rw same x.compares)
      ]

      added : (p z : ℕ) → LooksCompare g shifts item.production item.looks p z → ItemsCompare g shifts (take (i + 1) items) p z
      added p z x = record { item = item; of_items = take_step_last items i item within at; complete = complete; compares = x }

  -- An item that is not complete is passed.
  pub items_passed : (item.dot ≡ length (rhs_of (plain_of g) item.production) → ⊥) → MarksPairs (ItemsCompare g shifts (take (i + 1) items)) old mid
  items_passed incomplete = pairs_same _ _ old mid keeps only h
    where
      only : (p z : ℕ) → ItemsCompare g shifts (take (i + 1) items) p z → ItemsCompare g shifts (take i items) p z
      only p z x = elim (take_step_cases items i item within at x.item x.of_items) [
        | inl before ↦ record { item = x.item; of_items = before; complete = x.complete; compares = x.compares }
        | inr same ↦ absurd (incomplete (rw same x.complete))
      ]
