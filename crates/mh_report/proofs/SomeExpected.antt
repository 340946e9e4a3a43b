-- Proves that there is a list of the tokens that are expected after some tokens.
use Rattle.std.proofs.Common.{◌≡◌, ◌↔◌, ℕ, zero, suc, ◌+◌, ◌<◌, ◌≤◌, ◌⊎◌, inl, inr, List, [], ◌∷◌, ◌++◌, Option, Some, None, drop, refl, ap, sym, subst, arith, length, ◌∙◌}
use Rattle.std.specs.List.{AllByRecursion, Contains}
use Rattle.std.proofs.lemmas.Bool.{cases_lt}
use Rattle.mh_grammar.specs.Edges.{IsRising}
use Rattle.mh_grammar.proofs.Lists.{at_contains, contains_at, contains_last, contains_none, contains_push, get_left, recursion-push, rising-push}
use Rattle.mh_tables_core.specs.Table.{TableData}
use Rattle.mh_tables_core.specs.Halting.{HaltingFacts}
use Rattle.mh_tables_core.specs.Run.{Config, Ending, Ends, RunMove, Accepts, Asks, Refuses, Shifts, Reduces, Step, after, goes_to, initial, next_of, reduce, run_move_of, step, step_by, top_of}
use Rattle.mh_tables_core.proofs.RunEnds.{after_ended, has_verdict, step_moves}
use Rattle.mh_tables_core.proofs.Reductions.{after-add}
use Rattle.mh_expected.specs.Expected.{IsExpected, ExpectedTokens}

-- If a run has no input tokens left, it has none left after more steps.
left_after : (c : Config) (o : Option (List ℕ)) → c.left ≡ [] → (next_of c (goes_to c o)).left ≡ []
left_after c None e = e
left_after c (Some stack) e = e

left_after_step : (t : TableData) (c : Config) (m : RunMove) → c.left ≡ [] → (next_of c (step_by t c m)).left ≡ []
left_after_step t c Accepts e = e
left_after_step t c Asks e = e
left_after_step t c Refuses e = e
left_after_step t c (Shifts j) e = ap (drop 1) e
left_after_step t c (Reduces p) e = left_after c (reduce t p c.stack) e

stays_none : (t : TableData) (n : ℕ) (c : Config) → c.left ≡ [] → (after t n c).left ≡ []
stays_none t zero c e = e
stays_none t (suc n) c e =
    let m : RunMove = run_move_of t (top_of c.stack) c.left in
    stays_none t n (next_of c (step t c)) (ap (λ (s : Step). (next_of c s).left) (step_moves t c m refl) ∙ left_after_step t c m e)

module _ (t : TableData) (h : HaltingFacts t) (start : ℕ) (known : start < length t.grammar.starts) (u : List ℕ) (tokens : AllByRecursion (λ z. z < t.grammar.tokens) u) where
  module _ (z : ℕ) (lt : z < t.grammar.tokens) where
    abbrev first : Config
    first = initial start (u ++ z ∷ [])

    -- The run reads `u` followed by z. The token z is expected exactly if no input token is left when the run ends.
    by_left : (n : ℕ) (how : Ending) → step t (after t n first) ≡ Ends how → (left : List ℕ) → (after t n first).left ≡ left → IsExpected t start u z ⊎ (IsExpected t start u z → ⊥)
    by_left n how ended [] e = inl (record { known = lt; steps = n; shifted = e })
    by_left n how ended (y ∷ ys) e =
        inr (λ x.
        let stays : after t (n + x.steps) first ≡ after t n first = after-add t n x.steps first ∙ after_ended t x.steps (after t n first) how ended in
        let none : (after t (x.steps + n) first).left ≡ [] = ap (λ (c : Config). c.left) (after-add t x.steps n first) ∙ stays_none t n (after t x.steps first) x.shifted in
        let order : n + x.steps ≡ x.steps + n = omega arith in
        let both : y ∷ ys ≡ [] = sym e ∙ sym (ap (λ (c : Config). c.left) stays) ∙ ap (λ (k : ℕ). (after t k first).left) order ∙ none in cc)

    decided : IsExpected t start u z ⊎ (IsExpected t start u z → ⊥)
    decided = let v = has_verdict t h start (u ++ z ∷ []) known (recursion-push (λ (y : ℕ). y < t.grammar.tokens) u z tokens lt) in by_left v.1.0 v.0 v.1.1 _ refl

  -- The list has exactly the expected tokens below n.
  record ExpectedBelow (n : ℕ) (list : List ℕ) : Type 0 where
    rising : IsRising (λ y z. y < z) list
    exact : (z : ℕ) → Contains list z ↔ ((z < n) × IsExpected t start u z)

  with_token : (n : ℕ) (list : List ℕ) → IsExpected t start u n → ExpectedBelow n list → ExpectedBelow (suc n) (list ++ n ∷ [])
  with_token n list is h = record {
    rising = rising-push (λ (y z : ℕ). y < z) list n h.rising (λ y c. ((h.exact y).0 c).0);
    exact = λ z. (
      (λ c. elim (contains_push list n z c) [
        | inl l ↦ (let o = (h.exact z).0 l in let lt = o.0 in (omega (arith, lt), o.1))
        | inr e ↦ (omega (arith, e), subst (IsExpected t start u) (sym e) is)
      ]),
      (λ o. by_place z o.1 (below_or n z o.0)),
    );
  }
    where
      below_or : (n z : ℕ) → z < suc n → (z < n) ⊎ (n ≡ z)
      below_or n z lt = elim (cases_lt z n) [ inl l ↦ inl l | inr ge ↦ inr (omega (arith, lt, ge)) ]

      by_place : (z : ℕ) → IsExpected t start u z → (z < n) ⊎ (n ≡ z) → Contains (list ++ n ∷ []) z
      by_place z x (inl l) = let at = at_contains list z ((h.exact z).1 (l, x)) in contains_at (list ++ n ∷ []) at.0 z (get_left list (n ∷ []) at.0 z at.1)
      by_place z x (inr e) = subst (Contains (list ++ n ∷ [])) e (contains_last list n)

  without_token : (n : ℕ) (list : List ℕ) → (IsExpected t start u n → ⊥) → ExpectedBelow n list → ExpectedBelow (suc n) list
  without_token n list not h = record {
    rising = h.rising;
    exact = λ z. (
      (λ c. let o = (h.exact z).0 c in let lt = o.0 in (omega (arith, lt), o.1)),
      (λ o. elim (cases_lt z n) [
        | inl l ↦ (h.exact z).1 (l, o.1)
        | inr ge ↦ absurd (not (let lt = o.0 in let e : z ≡ n = omega (arith, lt, ge) in subst (IsExpected t start u) e o.1))
      ]),
    );
  }

  below : (n : ℕ) → n ≤ t.grammar.tokens → (list : List ℕ) × ExpectedBelow n list
  below zero le = ([], record { rising = tt; exact = λ z. ((λ c. absurd (contains_none z c)), (λ o. absurd (let lt = o.0 in omega (arith, lt)))) })
  below (suc n) le =
      let rest = below n (omega (arith, le)) in elim (decided n (omega (arith, le))) [
        | inl is ↦ (rest.0 ++ n ∷ [], with_token n rest.0 is rest.1)
        | inr not ↦ (rest.0, without_token n rest.0 not rest.1)
      ]

  pub some_expected : (list : List ℕ) × ExpectedTokens t start u list
  some_expected =
      let all = below t.grammar.tokens (omega arith) in (
        all.0,
        record { rising = all.1.rising; exact = λ z. ((λ c. ((all.1.exact z).0 c).1), (λ x. (all.1.exact z).1 (x.known, x))) },
      )
