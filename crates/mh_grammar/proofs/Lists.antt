-- Lemmas on lists, for every crate that depends on this one: elements by index, elements that a list contains, prefixes
-- that grow by one element, elements that are set, pairs at equal indices of two lists, rising lists, and the keys of
-- an ordered set. Lemmas that std has are not repeated here: see `List.Elements` for `Contains`, `++` and `All`; `Bool`
-- for `and_parts` and `or_parts`; `Math.Bool` for `or-false` and `or_assoc`; `Option` for `same_Some` and `none-some`.
use Rattle.std.proofs.Common.{◌≡◌, ℕ, zero, suc, ◌+◌, ◌<◌, ◌≤◌, ◌⊎◌, ◌↔◌, List, [], ◌∷◌, ◌++◌, Option, None, Some, length, get_or, take, drop, map, set, flat_map, refl, sym, ap, ◌∙◌, arith, inl, inr}
use Rattle.std.specs.List.{slice_get, All, AllByRecursion, AllZip, Contains}
use Rattle.std.specs.declared.cmp.Ordering.{Ordering}
use Rattle.std.specs.declared.cmp.Ordering.TheVariants.{Less, Equal, Greater}
use Rattle.std.specs.Option.{option_map}
use Rattle.std.specs.Ordering.{match_ordering}
use Rattle.std.specs.BTreeSet.{BTreeSet, IsOrdered, insert_key}
use Rattle.std.specs.List.Sorted.{IsStrictlySortedBy}
use Rattle.std.proofs.lemmas.Bool.{cases_eq, cases_lt}
use Rattle.std.proofs.lemmas.List.{get_or_append_left, get_or_push, get_or_default, length_push, length-append, length-take, drop_more, take_more, map_more}
use Rattle.std.proofs.lemmas.List.Elements.{All-nil, All-cons, All-weaker, All-contains, All-from_recursion, recursion_from_All, Contains-append_left, Contains-append_right, Contains-append_cases, Contains-push, Contains-push_cases}
use Rattle.std.proofs.lemmas.Map.Keys.{sorted_tail}
use Rattle.std.proofs.lemmas.Map.Views.{All-after_first}
use Rattle.std.proofs.lemmas.Option.{slice_get-get_or, get_or_from_slice_get, slice_get_within, slice_get-map}
use Rattle.mh_grammar.specs.Edges.{IsRising}

module _ {X : Type 0} where
  -- An element of the first of two lists has the same index in the appended list.
  pub get_left : (xs ys : List X) (i : ℕ) (x : X) → slice_get xs i ≡ Some x → slice_get (xs ++ ys) i ≡ Some x
  get_left xs ys i x e =
      let l = slice_get_within xs i x e in
      let m : i < length (xs ++ ys) = omega (arith, length-append xs ys) in
      slice_get-get_or (xs ++ ys) i x m ∙ ap Some (get_or_append_left xs ys x i l ∙ get_or_from_slice_get xs i x x e)

  -- The last element of a list has the index of the list before it was appended.
  pub get_last : (xs : List X) (y : X) (i : ℕ) → i ≡ length xs → slice_get (xs ++ y ∷ []) i ≡ Some y
  get_last xs y i e = let m : i < length (xs ++ y ∷ []) = omega (arith, length_push xs y) in slice_get-get_or (xs ++ y ∷ []) i y m ∙ ap Some (get_or_push xs y y i (sym e))

  -- An element of a list with one appended element is an element of the list, or is the appended one.
  pub get_cases : (xs : List X) (y : X) (i : ℕ) (x : X) → slice_get (xs ++ y ∷ []) i ≡ Some x → (slice_get xs i ≡ Some x) ⊎ ((i ≡ length xs) × (x ≡ y))
  get_cases xs y i x e =
      let at = get_or_from_slice_get (xs ++ y ∷ []) i x x e in
      elim (cases_eq i (length xs)) [
        | inl same ↦ inr (same, sym at ∙ get_or_push xs y x i (sym same))
        | inr other ↦ (let l : i < length xs = omega (arith, slice_get_within (xs ++ y ∷ []) i x e, length_push xs y) in
            inl (slice_get-get_or xs i x l ∙ ap Some (sym (get_or_append_left xs (y ∷ []) x i l) ∙ at)))
      ]

  -- The element after a prefix has the prefix's length as its index.
  pub get_after_prefix : (before : List X) (x : X) (xs : List X) → slice_get (before ++ x ∷ xs) (length before) ≡ Some x
  get_after_prefix [] x xs = refl
  get_after_prefix (y ∷ before) x xs = get_after_prefix before x xs

  -- Two elements at one index are equal.
  pub get_unique : (xs : List X) (i : ℕ) (x y : X) → slice_get xs i ≡ Some x → slice_get xs i ≡ Some y → x ≡ y
  get_unique xs i x y e f = cc

  -- Each index below the length has an element.
  pub get_within : (xs : List X) (i : ℕ) → i < length xs → (x : X) × (slice_get xs i ≡ Some x)
  get_within [] i l = absurd (omega arith)
  get_within (x ∷ xs) zero l = (x, refl)
  get_within (x ∷ xs) (suc i) l = get_within xs i (omega arith)

  -- An element that was read does not depend on the default value.
  pub get_or_own_default : (xs : List X) (i : ℕ) (d : X) → i < length xs → get_or xs i d ≡ get_or xs i (get_or xs i d)
  get_or_own_default xs i d l = get_or_default xs i d (get_or xs i d) l

  -- The suffix from an index begins with the element at this index.
  pub drop_step : (xs : List X) (i : ℕ) (x : X) → i < length xs → x ≡ get_or xs i x → drop i xs ≡ x ∷ drop (i + 1) xs
  drop_step xs i x l at = drop_more xs i x l ∙ ap (λ (y : X). y ∷ drop (i + 1) xs) (sym at)

  -- A prefix of n elements has at most n elements.
  pub take_few : (xs : List X) (n : ℕ) → length (take n xs) ≤ n
  take_few xs n = omega (arith, length-take n xs)

  -- The first element of the suffix from an index has this index.
  pub get_from_drop : (xs : List X) (i : ℕ) (x : X) (ys : List X) → drop i xs ≡ x ∷ ys → slice_get xs i ≡ Some x
  get_from_drop [] zero x ys e = cc
  get_from_drop [] (suc i) x ys e = cc
  get_from_drop (z ∷ xs) zero x ys e = cc
  get_from_drop (z ∷ xs) (suc i) x ys e = get_from_drop xs i x ys e

  -- A list contains the element at each index, and each element that it contains has an index.
  pub contains_at : (xs : List X) (i : ℕ) (x : X) → slice_get xs i ≡ Some x → Contains xs x
  contains_at xs i x e = (i, slice_get_within xs i x e, get_or_from_slice_get xs i x x e)

  pub at_contains : (xs : List X) (x : X) → Contains xs x → (i : ℕ) × (slice_get xs i ≡ Some x)
  at_contains xs x c = (c.0, slice_get-get_or xs c.0 x c.1 ∙ ap Some c.2)

  -- A list contains its first element and the elements of its rest, and no others.
  pub contains_here : (x : X) (xs : List X) → Contains (x ∷ xs) x
  contains_here x xs = (0, omega arith, refl)

  pub contains_there : (x : X) (xs : List X) (y : X) → Contains xs y → Contains (x ∷ xs) y
  contains_there x xs y c = (suc c.0, omega (arith, c.1), c.2)

  pub contains_cases : (x : X) (xs : List X) (y : X) → Contains (x ∷ xs) y → (x ≡ y) ⊎ Contains xs y
  contains_cases x xs y c = go c.0 c.1 c.2
    where
      go : (k : ℕ) → k < length (x ∷ xs) → get_or (x ∷ xs) k y ≡ y → (x ≡ y) ⊎ Contains xs y
      go zero l e = inl e
      go (suc k) l e = inr (k, omega arith, e)

  pub contains_none : (y : X) → Contains [] y → ⊥
  contains_none y c = omega (arith, c.1)

  pub contains_one : (x y : X) → Contains (x ∷ []) y → x ≡ y
  contains_one x y c = elim (contains_cases x [] y c) [ inl e ↦ e | inr d ↦ absurd (contains_none y d) ]

  -- A list contains its last element and the elements before the last, and no others.
  pub contains_last : (xs : List X) (y : X) → Contains (xs ++ y ∷ []) y
  contains_last xs y = Contains-append_right xs (y ∷ []) y (contains_here y [])

  pub contains_push : (xs : List X) (y x : X) → Contains (xs ++ y ∷ []) x → Contains xs x ⊎ (x ≡ y)
  contains_push xs y x c =
      let at = at_contains (xs ++ y ∷ []) x c in
      elim (get_cases xs y at.0 x at.1) [ inl e ↦ inl (contains_at xs at.0 x e) | inr l ↦ inr l.1 ]

  -- A list that is not empty contains an element.
  pub some_item : (xs : List X) → 0 < length xs → (x : X) × Contains xs x
  some_item [] l = absurd (omega arith)
  some_item (x ∷ xs) l = (x, contains_here x xs)

  -- A list that is not empty has a positive length.
  pub some_length : (xs : List X) → (xs ≡ [] → ⊥) → 0 < length xs
  some_length [] h = absurd (h refl)
  some_length (x ∷ xs) h = omega arith

  -- Equal lists have equal parts, and lists with equal parts are equal.
  pub first_same : (x y : X) (xs ys : List X) → x ∷ xs ≡ y ∷ ys → x ≡ y
  first_same x y xs ys e = cc

  pub cons_same : (x y : X) (xs ys : List X) → x ≡ y → xs ≡ ys → x ∷ xs ≡ y ∷ ys
  cons_same x y xs ys e f = λ i. e i ∷ f i

  pub nil_parts : (xs ys : List X) → xs ++ ys ≡ [] → (xs ≡ []) × (ys ≡ [])
  nil_parts [] ys e = (refl, e)
  nil_parts (x ∷ xs) ys e = cc

  -- A list that ends with y is split at an element in one of two ways: at y, or at an element before y.
  pub split_push : (xs : List X) (y : X) (before : List X) (x : X) (after : List X) → xs ++ y ∷ [] ≡ before ++ x ∷ after → ((xs ≡ before) × (y ≡ x)) ⊎ ((rest : List X) × (xs ≡ before ++ x ∷ rest))
  split_push [] y [] x after e = let same : y ≡ x = cc in inl (refl, same)
  split_push [] y (z ∷ []) x after e = cc
  split_push [] y (z ∷ w ∷ before) x after e = cc
  split_push (z ∷ xs) y [] x after e = let same : z ≡ x = cc in inr (xs, ap (λ v. v ∷ xs) same)
  split_push (z ∷ xs) y (w ∷ before) x after e =
      let same : z ≡ w = cc in
      let rest : xs ++ y ∷ [] ≡ before ++ x ∷ after = cc in
      elim (split_push xs y before x after rest) [
        | inl l ↦ inl ((λ i. same i ∷ l.0 i), l.1)
        | inr r ↦ inr (r.0, (λ i. same i ∷ r.1 i))
      ]

  -- A prefix of length i + 1 is the prefix of length i with the element of index i after it.
  pub take_step : (xs : List X) (i : ℕ) (x : X) → i < length xs → x ≡ get_or xs i x → take (i + 1) xs ≡ take i xs ++ x ∷ []
  take_step xs i x l e = take_more xs i x l ∙ ap (λ z. take i xs ++ z ∷ []) (sym e)

  -- The invariant of a loop that copies a list still holds after one more element is copied.
  pub copy_step : (xs : List X) (i : ℕ) (x y : X) (old new : List X) → i < length xs → x ≡ get_or xs i x → old ≡ take i xs → y ≡ x → new ≡ old ++ y ∷ [] → new ≡ take (i + 1) xs
  copy_step xs i x y old new l at before is e = e ∙ (λ j. before j ++ is j ∷ []) ∙ sym (take_step xs i x l at)

  pub take_step_cases : (xs : List X) (i : ℕ) (x : X) → i < length xs → x ≡ get_or xs i x → (y : X) → Contains (take (i + 1) xs) y → Contains (take i xs) y ⊎ (x ≡ y)
  take_step_cases xs i x l e y c = let more = take_step xs i x l e in Contains-push_cases (take i xs) x y (rw more at c)

  pub take_step_last : (xs : List X) (i : ℕ) (x : X) → i < length xs → x ≡ get_or xs i x → Contains (take (i + 1) xs) x
  take_step_last xs i x l e = let more = take_step xs i x l e in rw more (Contains-push (take i xs) x)

  pub take_step_keeps : (xs : List X) (i : ℕ) (x : X) → i < length xs → Contains (take i xs) x → Contains (take (i + 1) xs) x
  take_step_keeps xs i x l c = let more = take_more xs i x l in rw more (Contains-append_left (take i xs) (get_or xs i x ∷ []) x c)

  -- A list is the elements before an index, the element at it, and the elements after it.
  pub split_at : (xs : List X) (i : ℕ) (x : X) → i < length xs → x ≡ get_or xs i x → xs ≡ take i xs ++ x ∷ drop (suc i) xs
  split_at [] i x l e = absurd (omega arith)
  split_at (y ∷ xs) zero x l e = λ i. sym e i ∷ xs
  split_at (y ∷ xs) (suc n) x l e = ap (λ zs. y ∷ zs) (split_at xs n x (omega arith) e)

  -- Setting the element of index n changes this element and no other.
  pub set_here : (xs : List X) (n : ℕ) (y : X) → n < length xs → slice_get (set xs n y) n ≡ Some y
  set_here [] n y l = absurd (omega arith)
  set_here (z ∷ xs) zero y l = refl
  set_here (z ∷ xs) (suc n) y l = set_here xs n y (omega arith)

  pub set_elsewhere : (xs : List X) (n : ℕ) (y : X) (m : ℕ) → (m ≡ n → ⊥) → slice_get (set xs n y) m ≡ slice_get xs m
  set_elsewhere [] n y m h = refl
  set_elsewhere (x ∷ xs) zero y zero h = absurd (h refl)
  set_elsewhere (x ∷ xs) zero y (suc m) h = refl
  set_elsewhere (x ∷ xs) (suc n) y zero h = refl
  set_elsewhere (x ∷ xs) (suc n) y (suc m) h = set_elsewhere xs n y m (λ f. h (omega arith))

  pub set_cases : (xs : List X) (n : ℕ) (y : X) (m : ℕ) (z : X) → slice_get (set xs n y) m ≡ Some z → ((m ≡ n) × (y ≡ z)) ⊎ ((m ≡ n → ⊥) × (slice_get xs m ≡ Some z))
  set_cases [] n y m z e = cc
  set_cases (x ∷ xs) zero y zero z e = inl (refl, cc)
  set_cases (x ∷ xs) zero y (suc m) z e = inr ((λ h. omega arith), e)
  set_cases (x ∷ xs) (suc n) y zero z e = inr ((λ h. omega arith), e)
  set_cases (x ∷ xs) (suc n) y (suc m) z e = elim (set_cases xs n y m z e) [
    | inl h ↦ inl ((let f : m ≡ n = h.0 in omega arith), h.1)
    | inr h ↦ inr ((λ f. h.0 (omega arith)), h.1)
  ]

  -- A property of every value is a property of all elements of a list.
  pub all_always : (P : X → Type 0) → ((x : X) → P x) → (xs : List X) → All P xs
  all_always P h [] = All-nil P
  all_always P h (x ∷ xs) = All-cons P x xs (h x) (all_always P h xs)

  pub all_at : (P : X → Type 0) (xs : List X) (i : ℕ) (x : X) → All P xs → i < length xs → x ≡ get_or xs i x → P x
  all_at P xs i x h l e = rw (← e) at (h i x l)

  -- `AllByRecursion` gives the property of each element.
  pub recursion_contains : (P : X → Type 0) (xs : List X) → AllByRecursion P xs → (x : X) → Contains xs x → P x
  recursion_contains P xs a x c = All-contains P xs x (All-from_recursion P xs a) c

  pub recursion_at : (P : X → Type 0) (xs : List X) → AllByRecursion P xs → (k : ℕ) (x : X) → slice_get xs k ≡ Some x → P x
  recursion_at P xs a k x e = recursion_contains P xs a x (contains_at xs k x e)

  -- `AllByRecursion` holds for a list if each element has the property, for two lists appended if it holds for both,
  -- and for a weaker property.
  pub recursion-from : (P : X → Type 0) (xs : List X) → ((x : X) → Contains xs x → P x) → AllByRecursion P xs
  recursion-from P [] h = tt
  recursion-from P (x ∷ xs) h = (h x (contains_here x xs), recursion-from P xs (λ z c. h z (contains_there x xs z c)))

  pub recursion-append : (P : X → Type 0) (xs ys : List X) → AllByRecursion P xs → AllByRecursion P ys → AllByRecursion P (xs ++ ys)
  recursion-append P [] ys h k = k
  recursion-append P (x ∷ xs) ys h k = (h.0, recursion-append P xs ys h.1 k)

  pub recursion-push : (P : X → Type 0) (xs : List X) (y : X) → AllByRecursion P xs → P y → AllByRecursion P (xs ++ y ∷ [])
  recursion-push P xs y h p = recursion-append P xs (y ∷ []) h (p, tt)

  pub recursion-weaker : (P Q : X → Type 0) → ((x : X) → P x → Q x) → (xs : List X) → AllByRecursion P xs → AllByRecursion Q xs
  recursion-weaker P Q w [] h = tt
  recursion-weaker P Q w (x ∷ xs) h = (w x h.0, recursion-weaker P Q w xs h.1)

  -- Two rising lists append to a rising list if each element of the first is before each of the second.
  pub rising-append : (R : X → X → Type 0) (xs ys : List X) → IsRising R xs → IsRising R ys → ((x y : X) → Contains xs x → Contains ys y → R x y) → IsRising R (xs ++ ys)
  rising-append R [] ys h k b = k
  rising-append R (x ∷ xs) ys h k b = (
    recursion-append (R x) xs ys h.0 (recursion-from (R x) ys (λ y c. b x y (contains_here x xs) c)),
    rising-append R xs ys h.1 k (λ z y c d. b z y (contains_there x xs z c) d),
  )

  pub rising-push : (R : X → X → Type 0) (xs : List X) (y : X) → IsRising R xs → ((x : X) → Contains xs x → R x y) → IsRising R (xs ++ y ∷ [])
  rising-push R xs y h b = rising-append R xs (y ∷ []) h (tt, tt) (λ x z c d. let same : z ≡ y = sym (contains_one y z d) in rw same (b x c))

  -- In a rising list, an element of lower index is before an element of higher index.
  pub rising_at : (R : X → X → Type 0) (xs : List X) → IsRising R xs → (i j : ℕ) (x y : X) → i < j → slice_get xs i ≡ Some x → slice_get xs j ≡ Some y → R x y
  rising_at R [] h i j x y l e f = cc
  rising_at R (z ∷ xs) h i zero x y l e f = absurd (let n : ⊥ = omega (arith, l) in n)
  rising_at R (z ∷ xs) h zero (suc j) x y l e f = let same : z ≡ x = cc in rw same at (recursion_at (R z) xs h.0 j y f)
  rising_at R (z ∷ xs) h (suc i) (suc j) x y l e f = rising_at R xs h.1 i j x y (omega arith) e f

  -- Two rising lists with the same elements are equal.
  module _ (R : X → X → Type 0) (never : (x y : X) → R x y → R y x → ⊥) where
    behind_first : (x y : X) (xs ys : List X) → x ≡ y → AllByRecursion (R x) xs → (z : X) → Contains xs z → Contains (y ∷ ys) z → Contains ys z
    behind_first x y xs ys e below z c d = elim (contains_cases y ys z d) [
      | inl f ↦ (let r = recursion_contains (R x) xs below z c in let same : z ≡ x = sym f ∙ sym e in let s : R x x = rw same at r in absurd (never x x s s))
      | inr f ↦ f
    ]

    pub rising_same : (xs ys : List X) → IsRising R xs → IsRising R ys → ((x : X) → Contains xs x ↔ Contains ys x) → xs ≡ ys
    rising_same [] [] r s h = refl
    rising_same [] (y ∷ ys) r s h = absurd (contains_none y ((h y).1 (contains_here y ys)))
    rising_same (x ∷ xs) [] r s h = absurd (contains_none x ((h x).0 (contains_here x xs)))
    rising_same (x ∷ xs) (y ∷ ys) r s h =
        let same : x ≡ y = elim (contains_cases y ys x ((h x).0 (contains_here x xs))) [
          | inl e ↦ sym e
          | inr c ↦ elim (contains_cases x xs y ((h y).1 (contains_here y ys))) [
            | inl e ↦ e
            | inr d ↦ absurd (never x y (recursion_contains (R x) xs r.0 y d) (recursion_contains (R y) ys s.0 x c))
          ]
        ] in
        let rest : xs ≡ ys = rising_same xs ys r.1 s.1 (λ z. (
          (λ c. behind_first x y xs ys same r.0 z c ((h z).0 (contains_there x xs z c))),
          (λ c. behind_first y x ys xs (sym same) s.0 z c ((h z).1 (contains_there y ys z c))),
        )) in
        λ i. same i ∷ rest i

  -- The keys of an ordered set rise in every relation that the order implies.
  pub rising_keys : (compare : X → X → Ordering) (R : X → X → Type 0) → ((x y : X) → compare x y ≡ Less → R x y) → (s : BTreeSet X) → IsOrdered compare s → IsRising R s.keys
  rising_keys compare R less s o = go s.keys o
    where
      go : (xs : List X) → IsStrictlySortedBy compare xs → IsRising R xs
      go [] o = tt
      go (x ∷ xs) o = (recursion_from_All (R x) xs (All-weaker (λ y. compare x y ≡ Less) (R x) (less x) xs (All-after_first compare x xs o)), go xs (sorted_tail compare x xs o))

  -- The keys after one key was inserted, in an order in which only equal keys compare as equal.
  module _ (compare : X → X → Ordering) (same : (x y : X) → compare x y ≡ Equal → x ≡ y) where
    pub inserted_contains : (xs : List X) (x y : X) → Contains (insert_key compare xs x) y ↔ ((x ≡ y) ⊎ Contains xs y)
    inserted_contains [] x y = ((λ c. elim (contains_cases x [] y c) [ inl e ↦ inl e | inr d ↦ absurd (contains_none y d) ]), (λ c. elim c [ inl e ↦ rw (← e) (contains_here x []) | inr d ↦ absurd (contains_none y d) ]))
    inserted_contains (z ∷ xs) x y = go (compare x z) refl (inserted_contains xs x y)
      where
        go : (o : Ordering) → compare x z ≡ o → (Contains (insert_key compare xs x) y ↔ ((x ≡ y) ⊎ Contains xs y)) → Contains (match_ordering o (x ∷ z ∷ xs) (z ∷ xs) (z ∷ insert_key compare xs x)) y ↔ ((x ≡ y) ⊎ Contains (z ∷ xs) y)
        go Less e r = (contains_cases x (z ∷ xs) y, (λ c. elim c [ inl f ↦ rw (← f) (contains_here x (z ∷ xs)) | inr d ↦ contains_there x (z ∷ xs) y d ]))
        go Equal e r = (inr, (λ c. elim c [ inl f ↦ (let one : z ≡ y = sym (same x z e) ∙ f in rw (← one) (contains_here z xs)) | inr d ↦ d ]))
        go Greater e r = (
          (λ c. elim (contains_cases z (insert_key compare xs x) y c) [
            | inl f ↦ inr (rw (← f) (contains_here z xs))
            | inr d ↦ elim (r.0 d) [ inl f ↦ inl f | inr h ↦ inr (contains_there z xs y h) ]
          ]),
          (λ c. elim c [
            | inl f ↦ contains_there z (insert_key compare xs x) y (r.1 (inl f))
            | inr d ↦ elim (contains_cases z xs y d) [
              | inl f ↦ rw (← f) (contains_here z (insert_key compare xs x))
              | inr h ↦ contains_there z (insert_key compare xs x) y (r.1 (inr h))
            ]
          ]),
        )

-- The elements of a mapped list are the values of the function at the elements of the list. The elements of a
-- concatenation of lists are those of the lists.
pub option_map_some : {X Y : Type 0} (f : X → Y) (o : Option X) (y : Y) → option_map f o ≡ Some y → (x : X) × (o ≡ Some x) × (f x ≡ y)
option_map_some f None y h = cc
option_map_some f (Some x) y h = (x, refl, cc)

pub contains_map : {X Y : Type 0} (f : X → Y) (xs : List X) (x : X) → Contains xs x → Contains (map f xs) (f x)
contains_map f xs x c =
    let at = at_contains xs x c in
    contains_at (map f xs) at.0 (f x) (slice_get-map f xs at.0 ∙ ap (option_map f) at.1)

pub map_contains : {X Y : Type 0} (f : X → Y) (xs : List X) (y : Y) → Contains (map f xs) y → (x : X) × Contains xs x × (f x ≡ y)
map_contains f xs y c =
    let at = at_contains (map f xs) y c in
    let found = option_map_some f (slice_get xs at.0) y (sym (slice_get-map f xs at.0) ∙ at.1) in
    (found.0, contains_at xs at.0 found.0 found.1, found.2)

pub flat_map_contains : {X Y : Type 0} (f : X → List Y) (xs : List X) (y : Y) → Contains (flat_map f xs) y → (x : X) × Contains xs x × Contains (f x) y
flat_map_contains f [] y c = absurd (contains_none y c)
flat_map_contains f (x ∷ xs) y c = elim (Contains-append_cases (f x) (flat_map f xs) y c) [
  | inl d ↦ (x, contains_here x xs, d)
  | inr d ↦ (let r = flat_map_contains f xs y d in (r.0, contains_there x xs r.0 r.1, r.2))
]

pub contains_flat_map : {X Y : Type 0} (f : X → List Y) (xs : List X) (x : X) (y : Y) → Contains xs x → Contains (f x) y → Contains (flat_map f xs) y
contains_flat_map f [] x y c d = absurd (contains_none x c)
contains_flat_map f (z ∷ xs) x y c d = elim (contains_cases z xs x c) [
  | inl e ↦ (let here : Contains (f z) y = rw e d in Contains-append_left (f z) (flat_map f xs) y here)
  | inr h ↦ Contains-append_right (f z) (flat_map f xs) y (contains_flat_map f xs x y h d)
]

-- Mapping a list that is not empty gives a list that is not empty.
pub map_some : {X Y : Type 0} (f : X → Y) (xs : List X) → (xs ≡ [] → ⊥) → map f xs ≡ [] → ⊥
map_some f [] h e = h refl
map_some f (x ∷ xs) h e = absurd (cc)

-- A number below n + 1 is below n or equal to n.
pub below_next : (i n : ℕ) → i < n + 1 → (i < n) ⊎ (i ≡ n)
below_next i n lt = elim (cases_lt i n) [ inl l ↦ inl l | inr le ↦ inr (omega arith) ]

-- Pairs of elements at equal indices of two lists.
module _ {A B : Type 0} (R : A → B → Type 0) where
  pub zip_push : (xs : List A) (ys : List B) (x : A) (y : B) → AllZip R xs ys → R x y → AllZip R (xs ++ x ∷ []) (ys ++ y ∷ [])
  zip_push [] [] x y z r = (r, tt)
  zip_push [] (w ∷ ys) x y z r = absurd z
  zip_push (v ∷ xs) [] x y z r = absurd z
  zip_push (v ∷ xs) (w ∷ ys) x y z r = (z.0, zip_push xs ys x y z.1 r)

  pub zip_weaker : (S : A → B → Type 0) → ((x : A) (y : B) → R x y → S x y) → (xs : List A) (ys : List B) → AllZip R xs ys → AllZip S xs ys
  zip_weaker S h [] [] z = tt
  zip_weaker S h [] (w ∷ ys) z = absurd z
  zip_weaker S h (v ∷ xs) [] z = absurd z
  zip_weaker S h (v ∷ xs) (w ∷ ys) z = (h v w z.0, zip_weaker S h xs ys z.1)

  pub zip_left : (xs : List A) (ys : List B) → AllZip R xs ys → (i : ℕ) (x : A) → slice_get xs i ≡ Some x → (y : B) × (slice_get ys i ≡ Some y) × R x y
  zip_left [] [] z i x e = cc
  zip_left [] (y ∷ ys) z i x e = absurd z
  zip_left (w ∷ xs) [] z i x e = absurd z
  zip_left (w ∷ xs) (y ∷ ys) z zero x e = let same : w ≡ x = cc in (y, refl, rw (← same) z.0)
  zip_left (w ∷ xs) (y ∷ ys) z (suc i) x e = zip_left xs ys z.1 i x e

  pub zip_right : (xs : List A) (ys : List B) → AllZip R xs ys → (i : ℕ) (y : B) → slice_get ys i ≡ Some y → (x : A) × (slice_get xs i ≡ Some x) × R x y
  zip_right [] [] z i y e = cc
  zip_right [] (w ∷ ys) z i y e = absurd z
  zip_right (x ∷ xs) [] z i y e = absurd z
  zip_right (x ∷ xs) (w ∷ ys) z zero y e = let same : w ≡ y = cc in (x, refl, rw (← same) z.0)
  zip_right (x ∷ xs) (w ∷ ys) z (suc i) y e = zip_right xs ys z.1 i y e

  pub zip_length : (xs : List A) (ys : List B) → AllZip R xs ys → length xs ≡ length ys
  zip_length [] [] z = refl
  zip_length [] (y ∷ ys) z = absurd z
  zip_length (x ∷ xs) [] z = absurd z
  zip_length (x ∷ xs) (y ∷ ys) z = ap suc (zip_length xs ys z.1)

  pub zip_unique : ((x : A) (y z : B) → R x y → R x z → y ≡ z) → (xs : List A) (ys zs : List B) → AllZip R xs ys → AllZip R xs zs → ys ≡ zs
  zip_unique one [] [] [] p q = refl
  zip_unique one [] [] (z ∷ zs) p q = absurd q
  zip_unique one [] (y ∷ ys) zs p q = absurd p
  zip_unique one (x ∷ xs) [] zs p q = absurd p
  zip_unique one (x ∷ xs) (y ∷ ys) [] p q = absurd q
  zip_unique one (x ∷ xs) (y ∷ ys) (z ∷ zs) p q = let here = one x y z p.0 q.0 in let more = zip_unique one xs ys zs p.1 q.1 in λ i. here i ∷ more i

-- The invariant of a loop that maps a list still holds after one more element is mapped.
pub map_step : {A B : Type 0} (f : A → B) (xs : List A) (i : ℕ) (d x : A) (old new : List B) (y : B) → i < length xs → x ≡ get_or xs i d → old ≡ map f (take i xs) → y ≡ f x → new ≡ old ++ y ∷ [] → new ≡ map f (take (i + 1) xs)
map_step f xs i d x old new y l at before is e = e ∙ (λ j. before j ++ is j ∷ []) ∙ ap (λ z. map f (take i xs) ++ f z ∷ []) at ∙ sym (map_more f xs i d l)
