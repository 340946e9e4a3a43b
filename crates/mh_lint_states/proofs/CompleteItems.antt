-- The complete items of a list: those of one production, with their looks, and those on one look.
use Rattle.std.proofs.Common.{◌≡◌, ℕ, ◌+◌, ◌<◌, ◌≤◌, ◌⊎◌, ◌↔◌, Bool, true, false, List, [], MatchBool, Some, length, get_or, take, refl, sym, ap, ◌∙◌, arith, inl, inr}
use Rattle.std.specs.List.{Contains}
use Rattle.std.proofs.lemmas.Bool.{cases_eq}
use Rattle.std.proofs.lemmas.Option.{slice_get-get_or, slice_get_within}
use Rattle.mh_grammar.proofs.Lists.{contains_none, get_unique, take_step_cases, take_step_keeps, take_step_last}
use Rattle.mh_grammar.specs.declared.types.Grammar.{Grammar}
use Rattle.mh_grammar.specs.declared.types.Look.{Look}
use Rattle.mh_grammar.specs.declared.types.Look.TheVariants.{Token, End}
use Rattle.mh_grammar.specs.Plain.{IsLookBelow}
use Rattle.mh_items_kernels.specs.KernelTypes.{KernelItem}
use Rattle.mh_lint_states.specs.code.ClosedStates.{IsCompleteOn}
use Rattle.mh_lint_states.specs.code.CompleteItems.{HasTwoOn, IsOneOn}
use Rattle.mh_lint_states.specs.code.FilledCells.{IsCompleteItem, IsLookOf}

-- A look of the grammar fits sets of enough words.
pub look_fits : (few many : ℕ) (look : Look) → few ≤ many → IsLookBelow few look → IsLookBelow many look
look_fits few many (Token z) l below = omega (arith, l, below)
look_fits few many End l below = tt

-- ---- The looks of the complete item of a production.

module _ (g : Grammar) (production : ℕ) where
  -- The looks are those of the items.
  abbrev pub AreLooksOf : List KernelItem → List Look → Type 0
  AreLooksOf items looks = (look : Look) → Contains looks look ↔ IsLookOf g items production look

  pub looks_none : AreLooksOf [] []
  looks_none = λ look. (λ c. absurd (contains_none look c), λ h. absurd (contains_none h.item h.of_items))

  module _ (items : List KernelItem) (i : ℕ) (item : KernelItem) (within : i < length items) (at : item ≡ get_or items i item) (looks : List Look) (h : AreLooksOf (take i items) looks) where
    keeps : (look : Look) → IsLookOf g (take i items) production look → IsLookOf g (take (i + 1) items) production look
    keeps look x = record { item = x.item; of_items = take_step_keeps items i x.item within x.of_items; production_is = x.production_is; complete = x.complete }

    pub looks_more : (new : List Look) → IsCompleteItem g production item → ((look : Look) → Contains new look ↔ (Contains looks look ⊎ Contains item.looks look)) → AreLooksOf (take (i + 1) items) new
    looks_more new is exact = λ look. (to look, from look)
      where
        to : (look : Look) → Contains new look → IsLookOf g (take (i + 1) items) production look
        to look c = elim ((exact look).0 c) [
          | inl old ↦ keeps look ((h look).0 old)
          | inr here ↦ record { item = item; of_items = take_step_last items i item within at; production_is = is.0; complete = record { complete = is.1; has_look = here } }
        ]

        from : (look : Look) → IsLookOf g (take (i + 1) items) production look → Contains new look
        from look x = elim (take_step_cases items i item within at x.item x.of_items) [
          | inl before ↦ (exact look).1 (inl ((h look).1 (record { item = x.item; of_items = before; production_is = x.production_is; complete = x.complete })))
          | inr same ↦ (exact look).1 (inr (rw same x.complete.has_look))
        ]

    pub looks_passed : (IsCompleteItem g production item → ⊥) → AreLooksOf (take (i + 1) items) looks
    looks_passed other = λ look. (λ c. keeps look ((h look).0 c), from look)
      where
        from : (look : Look) → IsLookOf g (take (i + 1) items) production look → Contains looks look
        from look x = elim (take_step_cases items i item within at x.item x.of_items) [
          | inl before ↦ (h look).1 (record { item = x.item; of_items = before; production_is = x.production_is; complete = x.complete })
          | inr same ↦ absurd (other (rw same x.production_is, rw same x.complete.complete))
        ]

-- ---- Two complete items on a look.

module _ (g : Grammar) (items : List KernelItem) (look : Look) where
  -- Of the first n items at most one is complete on the look; the flag says whether there is one.
  pub record HasAtMostOne (n : ℕ) (has_one : Bool) : Type 0 where
    pub flag : MatchBool has_one ((i : ℕ) × (i < n) × IsOneOn g items look i) ((i : ℕ) → i < n → IsOneOn g items look i → ⊥)
    pub at_most : (i j : ℕ) → i < j → j < n → IsOneOn g items look i → IsOneOn g items look j → ⊥

  pub at_most_none : HasAtMostOne 0 false
  at_most_none = record { flag = λ i l x. omega (arith, l); at_most = λ i j l k x y. omega (arith, k) }

  none_before : (n : ℕ) (has_one : Bool) → has_one ≡ false → HasAtMostOne n has_one → (i : ℕ) → i < n → IsOneOn g items look i → ⊥
  none_before n false e h = h.flag
  none_before n true e h = cc

  one_before : (n : ℕ) (has_one : Bool) → has_one ≡ true → HasAtMostOne n has_one → (i : ℕ) × (i < n) × IsOneOn g items look i
  one_before n true e h = h.flag
  one_before n false e h = cc

  module _ (n : ℕ) (has_one : Bool) (item : KernelItem) (within : n < length items) (at : item ≡ get_or items n item) (h : HasAtMostOne n has_one) where
    here : IsCompleteOn g item look → IsOneOn g items look n
    here is = record { item = item; at = slice_get-get_or items n item within ∙ ap Some (sym at); complete = is }

    there : IsOneOn g items look n → IsCompleteOn g item look
    there x = (let same : x.item ≡ item = get_unique items n x.item item x.at (slice_get-get_or items n item within ∙ ap Some (sym at)) in rw (← same) x.complete)

    -- A second item is complete on the look.
    pub two_found : has_one ≡ true → IsCompleteOn g item look → HasTwoOn g items look
    two_found e is = (let one = one_before n has_one e h in record { one = one.0; other = n; is_one = one.2; is_other = here is; below = one.1 })

    -- The first item that is complete on the look.
    pub one_found : has_one ≡ false → IsCompleteOn g item look → HasAtMostOne (n + 1) true
    one_found e is = record {
      flag = (n, omega arith, here is);
      at_most = λ i j l k x y. elim (cases_eq j n) [
        | inl same ↦ none_before n has_one e h i (omega (arith, l, same)) x
        | inr differ ↦ h.at_most i j l (omega (arith, k, differ)) x y
      ];
    }

    -- An item that is not complete on the look is passed.
    pub one_passed : (IsCompleteOn g item look → ⊥) → HasAtMostOne (n + 1) has_one
    one_passed other = record {
      flag = passed has_one refl;
      at_most = λ i j l k x y. elim (cases_eq j n) [
        | inl same ↦ absurd (other (there (rw (← same) y)))
        | inr differ ↦ h.at_most i j l (omega (arith, k, differ)) x y
      ];
    }
      where
        passed : (b : Bool) → b ≡ has_one → MatchBool b ((i : ℕ) × (i < n + 1) × IsOneOn g items look i) ((i : ℕ) → i < n + 1 → IsOneOn g items look i → ⊥)
        passed true e = (let one = one_before n has_one (sym e) h in (one.0, omega (arith, one.1), one.2))
        passed false e = λ i l x. elim (cases_eq i n) [
          | inl same ↦ other (there (rw (← same) x))
          | inr differ ↦ none_before n has_one (sym e) h i (omega (arith, l, differ)) x
        ]

  -- No two items are complete on the look.
  pub not_two : (n : ℕ) (has_one : Bool) → length items ≤ n → HasAtMostOne n has_one → HasTwoOn g items look → ⊥
  not_two n has_one all h x = h.at_most x.one x.other x.below (let l = slice_get_within items x.other x.is_other.item x.is_other.at in omega (arith, l, all)) x.is_one x.is_other
