-- Lemmas on the effect of each call of `TokenSet` on the lookaheads of the set.
use Rattle.std.proofs.Common.{◌≡◌, ℕ, ◌^◌, ◌<◌, ◌≤◌, ◌⊎◌, ◌↔◌, ◌||◌, ◌&&◌, ◌==◌, Bool, true, false, not, List, [], ◌∷◌, Some, None, length, get_or, replicate, IsTrue, refl, sym, ap, ap₂, subst, ◌∙◌, arith, inl, inr}
use Rattle.std.specs.Prelude.{slice_get}
use Rattle.std.specs.List.{Contains}
use Rattle.std.proofs.lemmas.Bool.Decides.{Decides-eqb}
use Rattle.std.proofs.lemmas.List.{get_or-replicate, length-replicate}
use Rattle.std.proofs.lemmas.List.Elements.{All-replicate}
use Rattle.std.proofs.lemmas.Bool.{and_parts, and_from, or_right, or_left, or_cases, both_ways}
use Rattle.mh_grammar.specs.declared.types.Look.{Look}
use Rattle.mh_grammar.specs.declared.types.Look.TheVariants.{Token, End}
use Rattle.mh_grammar.specs.Edges.{IsRising, IsLookBefore}
use Rattle.mh_sets.specs.BitWords.{has_token, looks_of, AreBitWords}
use Rattle.mh_sets.specs.Sets.{IsSet}
use Rattle.mh_grammar.proofs.Lists.{contains_here, contains_cases, recursion_contains}
use Rattle.mh_sets.proofs.LooksFrom.{Has, one_set}
use Rattle.mh_sets.proofs.WordBits.{no_bits}
use Rattle.mh_sets.proofs.LooksOf.{member_sound, member_complete, is_set, looks_of_rising, looks_grown, words_same}

-- Lemmas on booleans.

of_not : (t : Bool) → not t ≡ true → t ≡ true → ⊥
of_not true e f = cc
of_not false e f = cc

to_not : (t : Bool) → (t ≡ true → ⊥) → not t ≡ true
to_not true h = absurd (h refl)
to_not false h = refl

decide_not : (t : Bool) → (t ≡ true) ⊎ (not t ≡ true)
decide_not true = inl refl
decide_not false = inr refl

-- Lemmas on the words of one set.

module _ (words : List ℕ) (end : Bool) (looks : List Look) (is : looks_of words end ≡ looks) where
  pub has_of_contains : (b : Look) → Contains looks b → Has (has_token words) end b
  has_of_contains b c = let P : List Look → Type 0 = λ xs. Contains xs b in member_sound words end b (subst P (sym is) c)

  pub contains_of_has : (b : Look) → Has (has_token words) end b → Contains looks b
  contains_of_has b h = let P : List Look → Type 0 = λ xs. Contains xs b in subst P is (member_complete words end b h)

  pub set_is : (W : ℕ) → AreBitWords W words → IsSet W looks
  set_is W h = subst (IsSet W) is (is_set words end W h)

  pub looks_rising : IsRising IsLookBefore looks
  looks_rising = subst (IsRising IsLookBefore) is (looks_of_rising words end)

  -- A look is in the set of looks exactly if its bit, or the flag of the end of the stream, is set.
  pub contains_token : (look : Look) (a : ℕ) (r : Bool) → look ≡ Token a → r ≡ has_token words a → IsTrue r ↔ Contains looks look
  contains_token look a r e k = let P : Look → Type 0 = λ b. IsTrue r ↔ Contains looks b in subst P (sym e) ((λ h. contains_of_has (Token a) (sym k ∙ h)), (λ c. k ∙ has_of_contains (Token a) c))

  pub contains_end : (look : Look) → look ≡ End → IsTrue end ↔ Contains looks look
  contains_end look e = let P : Look → Type 0 = λ b. IsTrue end ↔ Contains looks b in subst P (sym e) ((λ h. contains_of_has End h), (λ c. has_of_contains End c))

  -- A look is new to the set of looks exactly if its bit, or the flag of the end of the stream, is not set.
  pub fresh_token : (look : Look) (a : ℕ) (r : Bool) → look ≡ Token a → r ≡ not (has_token words a) → IsTrue r ↔ (Contains looks look → ⊥)
  fresh_token look a r e k = let P : Look → Type 0 = λ b. IsTrue r ↔ (Contains looks b → ⊥) in
      subst P (sym e) ((λ h c. of_not (has_token words a) (sym k ∙ h) (has_of_contains (Token a) c)), (λ n. k ∙ to_not (has_token words a) (λ h. n (contains_of_has (Token a) h))))

  pub fresh_end : (look : Look) → look ≡ End → IsTrue (not end) ↔ (Contains looks look → ⊥)
  fresh_end look e = let P : Look → Type 0 = λ b. IsTrue (not end) ↔ (Contains looks b → ⊥) in
      subst P (sym e) ((λ h c. of_not end h (has_of_contains End c)), (λ n. to_not end (λ h. n (contains_of_has End h))))

  insert_to : (new : List ℕ) (a : ℕ) → ((b : ℕ) → has_token new b ≡ (has_token words b || a == b)) → (b : Look) → Has (has_token new) end b → Contains looks b ⊎ (b ≡ Token a)
  insert_to new a bits (Token c) h = elim (or_cases (has_token words c) (a == c) (sym (bits c) ∙ h)) [
    | inl k ↦ inl (contains_of_has (Token c) k)
    | inr k ↦ inr (ap Token (sym ((Decides-eqb a c).0 k)))
  ]
  insert_to new a bits End h = inl (contains_of_has End h)

  insert_kept : (new : List ℕ) (a : ℕ) → ((b : ℕ) → has_token new b ≡ (has_token words b || a == b)) → (b : Look) → Has (has_token words) end b → Has (has_token new) end b
  insert_kept new a bits (Token c) h = bits c ∙ or_left (has_token words c) (a == c) h
  insert_kept new a bits End h = h

  pub insert_token : (new : List ℕ) (look : Look) (a : ℕ) → look ≡ Token a → ((b : ℕ) → has_token new b ≡ (has_token words b || a == b)) → (b : Look) → Contains (looks_of new end) b ↔ (Contains looks b ⊎ (b ≡ look))
  insert_token new look a e bits b = (
    (λ c. elim (insert_to new a bits b (member_sound new end b c)) [ inl k ↦ inl k | inr k ↦ inr (k ∙ sym e) ]),
    (λ s. elim s [
      | inl k ↦ member_complete new end b (insert_kept new a bits b (has_of_contains b k))
      | inr k ↦ (let P : Look → Type 0 = Contains (looks_of new end) in subst P (sym (k ∙ e)) (member_complete new end (Token a) (bits a ∙ or_right (has_token words a) (a == a) ((Decides-eqb a a).1 refl))))
    ]),
  )

  end_to : (b : Look) → Has (has_token words) true b → Contains looks b ⊎ (b ≡ End)
  end_to (Token c) h = inl (contains_of_has (Token c) h)
  end_to End h = inr refl

  end_kept : (b : Look) → Has (has_token words) end b → Has (has_token words) true b
  end_kept (Token c) h = h
  end_kept End h = refl

  pub insert_end : (look : Look) → look ≡ End → (b : Look) → Contains (looks_of words true) b ↔ (Contains looks b ⊎ (b ≡ look))
  insert_end look e b = (
    (λ c. elim (end_to b (member_sound words true b c)) [ inl k ↦ inl k | inr k ↦ inr (k ∙ sym e) ]),
    (λ s. elim s [
      | inl k ↦ member_complete words true b (end_kept b (has_of_contains b k))
      | inr k ↦ (let P : Look → Type 0 = Contains (looks_of words true) in subst P (sym (k ∙ e)) (member_complete words true End refl))
    ]),
  )

  -- Lemmas on the first lookahead of the set.
  first_from : (a : Look) → Contains looks a → ((b : Look) → Contains looks b → IsLookBefore b a → ⊥) → (xs : List Look) → xs ≡ looks → IsRising IsLookBefore xs → Some a ≡ slice_get looks 0
  first_from a c least [] e r = absurd (let P : List Look → Type 0 = λ ys. Contains ys a in let k = (subst P (sym e) c).1 in omega arith)
  first_from a c least (x ∷ xs) e r =
      let P : List Look → Type 0 = λ ys. Contains ys a in
      let here : Contains looks x = (let Q : List Look → Type 0 = λ ys. Contains ys x in subst Q e (contains_here x xs)) in
      elim (contains_cases x xs a (subst P (sym e) c)) [
        | inl same ↦ ap Some (sym same) ∙ ap (λ ys. slice_get ys 0) e
        | inr d ↦ absurd (least x here (recursion_contains (IsLookBefore x) xs r.0 a d))
      ]

  not_before : (a : ℕ) → ((b : ℕ) → b < a → has_token words b ≡ false) → (b : Look) → Contains looks b → IsLookBefore b (Token a) → ⊥
  not_before a least (Token c) k l = both_ways (has_token words c) (least c l) (has_of_contains (Token c) k)
  not_before a least End k l = l

  pub first_token : (a : ℕ) → has_token words a ≡ true → ((b : ℕ) → b < a → has_token words b ≡ false) → Some (Token a) ≡ slice_get looks 0
  first_token a h least = first_from (Token a) (contains_of_has (Token a) h) (not_before a least) looks refl looks_rising

  not_before_end : ((b : ℕ) → has_token words b ≡ false) → (b : Look) → Contains looks b → IsLookBefore b End → ⊥
  not_before_end empty (Token c) k l = both_ways (has_token words c) (empty c) (has_of_contains (Token c) k)
  not_before_end empty End k l = l

  pub first_end : ((b : ℕ) → has_token words b ≡ false) → end ≡ true → Some End ≡ slice_get looks 0
  first_end empty h = first_from End (contains_of_has End h) (not_before_end empty) looks refl looks_rising

  nothing : ((b : ℕ) → has_token words b ≡ false) → end ≡ false → (b : Look) → Contains looks b → ⊥
  nothing empty h (Token c) k = both_ways (has_token words c) (empty c) (has_of_contains (Token c) k)
  nothing empty h End k = both_ways end h (has_of_contains End k)

  pub none_left : ((b : ℕ) → has_token words b ≡ false) → end ≡ false → looks ≡ []
  none_left empty h = one_set looks [] looks_rising tt (λ b. ((λ c. absurd (nothing empty h b c)), (λ c. absurd (let l = c.1 in omega arith))))

  pub first_none : ((b : ℕ) → has_token words b ≡ false) → end ≡ false → None ≡ slice_get looks 0
  first_none empty h = ap (λ ys. slice_get ys 0) (sym (none_left empty h))

-- Lemmas on two sets.

module _ (words : List ℕ) (end : Bool) (looks : List Look) (is : looks_of words end ≡ looks) (other : List ℕ) (late : Bool) (theirs : List Look) (are : looks_of other late ≡ theirs) where
  union_to : (new : List ℕ) → ((b : ℕ) → has_token new b ≡ (has_token words b || has_token other b)) → (b : Look) → Has (has_token new) (end || late) b → Contains looks b ⊎ Contains theirs b
  union_to new bits (Token c) h = elim (or_cases (has_token words c) (has_token other c) (sym (bits c) ∙ h)) [
    | inl k ↦ inl (contains_of_has words end looks is (Token c) k)
    | inr k ↦ inr (contains_of_has other late theirs are (Token c) k)
  ]
  union_to new bits End h = elim (or_cases end late h) [ inl k ↦ inl (contains_of_has words end looks is End k) | inr k ↦ inr (contains_of_has other late theirs are End k) ]

  union_left : (new : List ℕ) → ((b : ℕ) → has_token new b ≡ (has_token words b || has_token other b)) → (b : Look) → Has (has_token words) end b → Has (has_token new) (end || late) b
  union_left new bits (Token c) h = bits c ∙ or_left (has_token words c) (has_token other c) h
  union_left new bits End h = or_left end late h

  union_right : (new : List ℕ) → ((b : ℕ) → has_token new b ≡ (has_token words b || has_token other b)) → (b : Look) → Has (has_token other) late b → Has (has_token new) (end || late) b
  union_right new bits (Token c) h = bits c ∙ or_right (has_token words c) (has_token other c) h
  union_right new bits End h = or_right end late h

  pub union_members : (new : List ℕ) → ((b : ℕ) → has_token new b ≡ (has_token words b || has_token other b)) → (b : Look) → Contains (looks_of new (end || late)) b ↔ (Contains looks b ⊎ Contains theirs b)
  union_members new bits b = (
    (λ c. union_to new bits b (member_sound new (end || late) b c)),
    (λ s. elim s [
      | inl k ↦ member_complete new (end || late) b (union_left new bits b (has_of_contains words end looks is b k))
      | inr k ↦ member_complete new (end || late) b (union_right new bits b (has_of_contains other late theirs are b k))
    ]),
  )

  -- If the second set brings no new end of the stream, the end stays as it is.
  same_end : (e d : Bool) → (d && not e) ≡ false → (e || d) ≡ e
  same_end true d h = refl
  same_end false true h = cc
  same_end false false h = refl

  new_end : (e d : Bool) → (d && not e) ≡ true → (e || d) ≡ e → ⊥
  new_end true true h k = cc
  new_end true false h k = cc
  new_end false true h k = cc
  new_end false false h k = cc

  or_false : (p q : Bool) → (p || q) ≡ false → (p ≡ false) × (q ≡ false)
  or_false true q e = cc
  or_false false q e = (refl, e)

  pub union_same : (new : List ℕ) (fresh : Bool) → (fresh ≡ false → new ≡ words) → (fresh || (late && not end)) ≡ false → looks_of new (end || late) ≡ looks
  union_same new fresh h e = let f = or_false fresh (late && not end) e in ap₂ looks_of (h f.0) (same_end end late f.1) ∙ is

  pub union_grew : (W : ℕ) (new : List ℕ) (fresh : Bool) → AreBitWords W words → AreBitWords W new → ((b : ℕ) → has_token new b ≡ (has_token words b || has_token other b))
      → (fresh ≡ true → new ≡ words → ⊥) → (fresh || (late && not end)) ≡ true → length looks < length (looks_of new (end || late))
  union_grew W new fresh hw hn bits differs e =
      let long = looks_grown words new end (end || late) (hw.width ∙ sym hn.width) (λ a h. bits a ∙ or_left (has_token words a) (has_token other a) h) (or_left end late) in
      let same = ap (λ ys. length ys) is in
      elim long [
        | inl l ↦ omega arith
        | inr k ↦ absurd (let one = words_same W words new end (end || late) hw hn k in elim (or_cases fresh (late && not end) e) [
          | inl f ↦ differs f (sym one.0)
          | inr f ↦ new_end end late f (sym one.1)
        ])
      ]

  shared_from : (b : Look) → Has (has_token words) end b → Has (has_token other) late b → (share : Bool) → (((a : ℕ) × (has_token words a ≡ true) × (has_token other a ≡ true)) → IsTrue share) → (share || (end && late)) ≡ true
  shared_from (Token a) h k share back = or_left share (end && late) (back (a, h, k))
  shared_from End h k share back = or_right share (end && late) (and_from end late h k)

  pub meets_is : (share : Bool) → IsTrue share ↔ ((a : ℕ) × (has_token words a ≡ true) × (has_token other a ≡ true)) → IsTrue (share || (end && late)) ↔ ((b : Look) × Contains looks b × Contains theirs b)
  meets_is share exact = (
    (λ h. elim (or_cases share (end && late) h) [
      | inl k ↦ (let f = exact.0 k in (Token f.0, contains_of_has words end looks is (Token f.0) f.1, contains_of_has other late theirs are (Token f.0) f.2))
      | inr k ↦ (let f = and_parts end late k in (End, contains_of_has words end looks is End f.0, contains_of_has other late theirs are End f.1))
    ]),
    (λ f. shared_from f.0 (has_of_contains words end looks is f.0 f.1) (has_of_contains other late theirs are f.0 f.2) share exact.1),
  )

  within_to : (within : Bool) → (IsTrue within → (a : ℕ) → has_token words a ≡ true → has_token other a ≡ true) → (within && (not end || late)) ≡ true → (b : Look) → Has (has_token words) end b → Has (has_token other) late b
  within_to within h e (Token a) k = h (and_parts within (not end || late) e).0 a k
  within_to within h e End k = elim (or_cases (not end) late (and_parts within (not end || late) e).1) [ inl n ↦ absurd (of_not end n k) | inr l ↦ l ]

  pub subset_is : (within : Bool) → IsTrue within ↔ ((a : ℕ) → has_token words a ≡ true → has_token other a ≡ true) → IsTrue (within && (not end || late)) ↔ ((b : Look) → Contains looks b → Contains theirs b)
  subset_is within exact = (
    (λ h b c. contains_of_has other late theirs are b (within_to within exact.0 h b (has_of_contains words end looks is b c))),
    (λ s. and_from within (not end || late) (exact.1 (λ a h. has_of_contains other late theirs are (Token a) (s (Token a) (contains_of_has words end looks is (Token a) h))))
        (elim (decide_not end) [ inl k ↦ or_right (not end) late (has_of_contains other late theirs are End (s End (contains_of_has words end looks is End k))) | inr n ↦ or_left (not end) late n ])),
  )

-- Lemmas on the empty set.

abbrev zeros : ℕ → List ℕ
zeros W = replicate W 0

no_words : (W k : ℕ) → k < W → get_or (zeros W) k 0 ≡ 0
no_words W k l = get_or-replicate W k 0 0 l

pub empty_words : (W : ℕ) → W ≤ 8 → AreBitWords W (zeros W)
empty_words W few = record { few = few; width = length-replicate W 0; each = All-replicate (λ w. w < 2 ^ 64) W 0 (omega arith) }

pub empty_is : (W : ℕ) → W ≤ 8 → looks_of (zeros W) false ≡ []
empty_is W few = none_left (zeros W) false (looks_of (zeros W) false) refl (no_bits (zeros W) (empty_words W few).each (λ k l. no_words W k (let e : length (zeros W) ≡ W = length-replicate W 0 in omega arith))) refl
