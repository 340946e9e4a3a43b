-- The nonterminals that are reduced on errors and have their ranks by declarations, one nonterminal after another.
use Rattle.std.proofs.Common.{◌≡◌, ◌↔◌, ◌⊎◌, ℕ, ◌+◌, ◌<◌, ◌≤◌, Bool, true, List, [], None, Some, length, arith, sym, ap, subst, ◌∙◌, inl, inr}
use Rattle.std.specs.List.{Contains, slice_get}
use Rattle.std.proofs.lemmas.Option.{same_Some, slice_get_within}
use Rattle.mh_grammar.specs.Text.{Text}
use Rattle.mh_grammar.specs.declared.types.Grammar.{Grammar}
use Rattle.mh_grammar.specs.declared.types.NontermInfo.{NontermInfo}
use Rattle.mh_grammar.proofs.Lists.{below_next, contains_none}
use Rattle.mh_lint.specs.code.Declarations.{HasRank, IsUsedDeclaration, declared}
use Rattle.mh_lint.specs.declared.on_error.DeclaredName.{DeclaredName}

module _ (info : NontermInfo) (old new : List DeclaredName) where
  -- The name of the nonterminal is added.
  pub rank_added : (n : ℕ) → info.on_error ≡ Some n → ((x : DeclaredName) → Contains new x ↔ (Contains old x ⊎ (x ≡ declared n info.name))) → (k : ℕ) (name : Text) → Contains new (declared k name) ↔ (Contains old (declared k name) ⊎ HasRank info k name)
  rank_added n at keys k name = (to, from)
    where
      to : Contains new (declared k name) → Contains old (declared k name) ⊎ HasRank info k name
      to c = elim ((keys (declared k name)).0 c) [
        | inl had ↦ inl had
        | inr same ↦ inr (record { name_is = sym (ap (λ (x : DeclaredName). x.name) same); rank_is = at ∙ ap Some (sym (ap (λ (x : DeclaredName). x.declaration) same)) })
      ]

      from : Contains old (declared k name) ⊎ HasRank info k name → Contains new (declared k name)
      from (inl had) = (keys (declared k name)).1 (inl had)
      from (inr rank) = (keys (declared k name)).1 (inr (let number : k ≡ n = same_Some k n (sym rank.rank_is ∙ at) in λ i. declared (number i) (sym rank.name_is i)))

  -- The nonterminal has no rank.
  pub no_rank : info.on_error ≡ None → old ≡ new → (k : ℕ) (name : Text) → Contains new (declared k name) ↔ (Contains old (declared k name) ⊎ HasRank info k name)
  no_rank none same k name = (λ c. inl (subst (λ keys. Contains keys (declared k name)) (sym same) c), from)
    where
      from : Contains old (declared k name) ⊎ HasRank info k name → Contains new (declared k name)
      from (inl had) = subst (λ keys. Contains keys (declared k name)) same had
      from (inr rank) = (let bad : None ≡ Some k = sym none ∙ rank.rank_is in cc)

module _ (g : Grammar) (reduced : List Bool) where
  -- Nonterminal z is reduced on errors, and has its rank by declaration n and this name.
  abbrev pub UsedAt : ℕ → ℕ → Text → Type 0
  UsedAt z n name = (info : NontermInfo) × (slice_get g.nonterminals z ≡ Some info) × (slice_get reduced z ≡ Some true) × HasRank info n name

  -- The keys are those of the nonterminals with numbers below i.
  abbrev pub AreUsedBelow : ℕ → List DeclaredName → Type 0
  AreUsedBelow i keys = (n : ℕ) (name : Text) → Contains keys (declared n name) ↔ ((z : ℕ) × (z < i) × UsedAt z n name)

  pub none_used : AreUsedBelow 0 []
  none_used n name = (λ c. absurd (contains_none (declared n name) c), λ h. absurd (let l = h.1 in omega (arith, l)))

  pub more_used : (i : ℕ) (info : NontermInfo) (old new : List DeclaredName) → slice_get g.nonterminals i ≡ Some info → slice_get reduced i ≡ Some true → AreUsedBelow i old → ((n : ℕ) (name : Text) → Contains new (declared n name) ↔ (Contains old (declared n name) ⊎ HasRank info n name)) → AreUsedBelow (i + 1) new
  more_used i info old new at flag h put n name = (to, from)
    where
      to : Contains new (declared n name) → (z : ℕ) × (z < i + 1) × UsedAt z n name
      to c = elim ((put n name).0 c) [
        | inl had ↦ (let one = (h n name).0 had in (one.0, (let l = one.1 in omega (arith, l)), one.2))
        | inr rank ↦ (i, omega arith, (info, at, flag, rank))
      ]

      from : (z : ℕ) × (z < i + 1) × UsedAt z n name → Contains new (declared n name)
      from one = elim (below_next one.0 i one.1) [
        | inl l ↦ (put n name).1 (inl ((h n name).1 (one.0, l, one.2)))
        | inr same ↦ (let here = subst (λ z. UsedAt z n name) same one.2 in (put n name).1 (inr (subst (λ v. HasRank v n name) (same_Some here.0 info (sym here.1 ∙ at)) here.3)))
      ]

  pub skipped : (i : ℕ) (keys : List DeclaredName) → (slice_get reduced i ≡ Some true → ⊥) → AreUsedBelow i keys → AreUsedBelow (i + 1) keys
  skipped i keys unset h n name = (λ c. (let one = (h n name).0 c in (one.0, (let l = one.1 in omega (arith, l)), one.2)), from)
    where
      from : (z : ℕ) × (z < i + 1) × UsedAt z n name → Contains keys (declared n name)
      from one = elim (below_next one.0 i one.1) [
        | inl l ↦ (h n name).1 (one.0, l, one.2)
        | inr same ↦ (let here = subst (λ z. UsedAt z n name) same one.2 in absurd (unset here.2))
      ]

  pub all_used : (i : ℕ) (keys : List DeclaredName) → length g.nonterminals ≤ i → AreUsedBelow i keys → (n : ℕ) (name : Text) → Contains keys (declared n name) ↔ IsUsedDeclaration g reduced n name
  all_used i keys past h n name = (to, from)
    where
      to : Contains keys (declared n name) → IsUsedDeclaration g reduced n name
      to c = let one = (h n name).0 c in record { number = one.0; info = (one.2).0; of_grammar = (one.2).1; name_is = ((one.2).3).name_is; rank_is = ((one.2).3).rank_is; is_reduced = (one.2).2 }

      from : IsUsedDeclaration g reduced n name → Contains keys (declared n name)
      from u = (h n name).1 (u.number, (let l = slice_get_within g.nonterminals u.number u.info u.of_grammar in omega (arith, l, past)), (u.info, u.of_grammar, u.is_reduced, record { name_is = u.name_is; rank_is = u.rank_is }))
