-- The tokens that have one of some names, as flags, one token after another.
use Rattle.std.proofs.Common.{◌≡◌, ◌↔◌, ◌⊎◌, ℕ, ◌+◌, ◌<◌, ◌≤◌, Bool, true, false, List, Option, Some, length, get_or, arith, sym, subst, ◌∙◌, inl, inr}
use Rattle.std.specs.List.{slice_get}
use Rattle.std.specs.HashSet.{HashSet, contains}
use Rattle.std.proofs.lemmas.Map.Keys.{any_passes_from_place}
use Rattle.std.proofs.lemmas.Option.{same_Some, slice_get_within}
use Rattle.mh_grammar.specs.Text.{Text}
use Rattle.mh_grammar.proofs.Lists.{below_next}
use Rattle.mh_grammar.proofs.TextEquality.{same_refl}
use Rattle.mh_join_names.specs.Names.{same}
use Rattle.mh_reader_places.specs.declared.reading.PlacedModule.{PlacedModule}
use Rattle.mh_rules.specs.declared.joined.Joined.{Joined}
use Rattle.mh_lint_states.specs.code.Marks.{AreMarked, Marks}
use Rattle.mh_lint_states.proofs.MarkedFlags.{marks_none, marks_same, marks_then}
use Rattle.mh_lint.specs.Uses.{IsTokenUsed}
use Rattle.mh_lint.specs.code.Uses.{ArePrecTokens, IsTokenInUse}

module _ {S : Type 0} (tokens : List Text) (names : HashSet Text S) where
  -- The token has one of the names.
  abbrev pub IsNamed : ℕ → Type 0
  IsNamed z = (x : Text) × (slice_get tokens z ≡ Some x) × (contains same names x ≡ true)

  abbrev pub IsNamedBelow : ℕ → ℕ → Type 0
  IsNamedBelow n z = (z < n) × IsNamed z

  pub none_named : (used : List Bool) → Marks (IsNamedBelow 0) used used
  none_named used = marks_none (IsNamedBelow 0) used (λ z h. (let l = h.0 in omega (arith, l)))

  pub more_named : (n : ℕ) (name : Text) (used mid new : List Bool) → slice_get tokens n ≡ Some name → Marks (IsNamedBelow n) used mid → Marks (λ z. (z ≡ n) × (contains same names name ≡ true)) mid new → Marks (IsNamedBelow (n + 1)) used new
  more_named n name used mid new at h m = marks_same (λ z. IsNamedBelow n z ⊎ ((z ≡ n) × (contains same names name ≡ true))) (IsNamedBelow (n + 1)) used new to back (marks_then (IsNamedBelow n) (λ z. (z ≡ n) × (contains same names name ≡ true)) used mid new h m)
    where
      to : (z : ℕ) → IsNamedBelow n z ⊎ ((z ≡ n) × (contains same names name ≡ true)) → IsNamedBelow (n + 1) z
      to z (inl below) = ((let l = below.0 in omega (arith, l)), below.1)
      to z (inr here) = ((let e = here.0 in omega (arith, e)), (name, subst (λ k. slice_get tokens k ≡ Some name) (sym here.0) at, here.1))

      back : (z : ℕ) → IsNamedBelow (n + 1) z → IsNamedBelow n z ⊎ ((z ≡ n) × (contains same names name ≡ true))
      back z one = elim (below_next z n one.0) [
        | inl l ↦ inl (l, one.1)
        | inr e ↦ inr (e, (let named = one.1 in subst (λ x. contains same names x ≡ true) (same_Some named.0 name (sym named.1 ∙ subst (λ k. slice_get tokens k ≡ Some name) (sym e) at)) named.2))
      ]

  pub all_named : (n : ℕ) (used new : List Bool) → length tokens ≤ n → Marks (IsNamedBelow n) used new → Marks IsNamed used new
  all_named n used new past = marks_same (IsNamedBelow n) IsNamed used new (λ z below. below.1) (λ z named. ((let l = slice_get_within tokens z named.0 named.1 in omega (arith, l, past)), named))

  -- The tokens that are marked for an alternative, and then those that are named.
  pub in_use : (j : Joined) (aliased : Text → Option Text) (found : List PlacedModule) (used new : List Bool) → AreMarked (IsTokenUsed j) used → ((x : Text) → (contains same names x ≡ true) ↔ ArePrecTokens tokens aliased found x) → Marks IsNamed used new → AreMarked (IsTokenInUse j tokens aliased found) new
  in_use j aliased found used new h are m z = (to, back)
    where
      to : get_or new z false ≡ true → IsTokenInUse j tokens aliased found z
      to e = elim ((m.each z).0 e) [
        | inl was ↦ inl ((h z).0 was)
        | inr named ↦ inr (named.0, named.1, ((are named.0).0 named.2).0)
      ]

      back : IsTokenInUse j tokens aliased found z → get_or new z false ≡ true
      back (inl is) = (m.each z).1 (inl ((h z).1 is))
      back (inr (x, at, is)) = (m.each z).1 (inr (x, at, (are x).1 (is, any_passes_from_place (same x) tokens z x at (same_refl x))))
