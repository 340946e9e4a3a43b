-- Lemmas on the list of the tokens that are shifted on a stack, as the list grows.
use Rattle.std.proofs.Common.{◌≡◌, ◌↔◌, ℕ, ◌+◌, ◌<◌, inl, inr, List, [], ◌∷◌, ◌++◌, Bool, true, false, refl, arith}
use Rattle.std.specs.List.{Contains}
use Rattle.std.proofs.lemmas.Bool.{cases_eq}
use Rattle.std.proofs.lemmas.List.Elements.{Contains-append_left, Contains-push, Contains-push_cases}
use Rattle.mh_grammar.proofs.Lists.{contains_none, rising-push}
use Rattle.mh_tables_core.specs.Table.{TableData}
use Rattle.mh_expected.specs.code.Trials.{IsTried, AreTried}

pub tried_none : (t : TableData) (stack list : List ℕ) → list ≡ [] → AreTried t stack list 0
tried_none t stack list e = rw e (record {
  rising = tt;
  below = λ z c. absurd (contains_none z c);
  each = λ z l. absurd (omega arith);
})

module _ (t : TableData) (stack list : List ℕ) (i : ℕ) (h : AreTried t stack list i) where
  -- The list does not contain the next token yet.
  not_yet : Contains list i → ⊥
  not_yet c = let below = h.below i c in omega arith

  -- If the next token is shifted, the token is appended to the list.
  pub tried_shifted : (more : List ℕ) → IsTried t stack i true → more ≡ list ++ i ∷ [] → AreTried t stack more (i + 1)
  tried_shifted more tried e = rw e (record {
    rising = rising-push (λ y z. y < z) list i h.rising h.below;
    below = λ z c. elim (Contains-push_cases list i z c) [ inl there ↦ (let before = h.below z there in omega arith) | inr same ↦ omega arith ];
    each = λ z l. elim (cases_eq z i) [
      | inl same ↦ rw same (true, tried, (λ c. refl, λ e. Contains-push list i))
      | inr other ↦ (let before = h.each z (omega arith) in (before.0, before.1, (λ c. before.2.0 (elim (Contains-push_cases list i z c) [ inl there ↦ there | inr same ↦ absurd (omega arith) ]), λ s. Contains-append_left list (i ∷ []) z (before.2.1 s))))
    ];
  })

  -- If the next token is not shifted, the list stays the same.
  pub tried_not : IsTried t stack i false → AreTried t stack list (i + 1)
  tried_not tried = record {
    rising = h.rising;
    below = λ z c. let before = h.below z c in omega arith;
    each = λ z l. elim (cases_eq z i) [
      | inl same ↦ rw same (false, tried, (λ c. absurd (not_yet c), λ e. cc))
      | inr other ↦ h.each z (omega arith)
    ];
  }
