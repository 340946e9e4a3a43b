-- The `%prec` that give levels that are compared.
use Rattle.std.proofs.Common.{◌≡◌, ◌↔◌, ◌≤◌, ℕ, List, [], ◌∷◌, length, sym, subst, ◌∙◌}
use Rattle.std.specs.List.{Contains}
use Rattle.mh_grammar.proofs.Lists.{contains_none}
use Rattle.mh_reader_places.specs.declared.mentions.Role.{Role}
use Rattle.mh_reader_places.specs.declared.mentions.Role.TheVariants as roles
use Rattle.mh_lint.specs.code.LevelUses.{IsPrecUsed}
use Rattle.mh_lint.specs.code.LevelUses as levels
use Rattle.mh_lint.specs.code.Uses.{HasPlace}
use Rattle.mh_lint.specs.declared.alternatives.AlternativeOf.{AlternativeOf}

-- An alternative of the group that has no `%prec` of its own is in the list.
abbrev pub HasMember : List AlternativeOf → ℕ → List ℕ → ℕ → ℕ → Type 0
HasMember alternatives file own low high = (n : ℕ) × (low ≤ n) × (n ≤ high) × (Contains own n → ⊥) × HasPlace alternatives file n

module _ (alternatives : List AlternativeOf) (file : ℕ) (own : List ℕ) (role : Role) where
  pub used_own : (n : ℕ) → role ≡ roles.Prec n → HasPlace alternatives file n ↔ IsPrecUsed alternatives file own role
  used_own n e = (λ h. levels.IsPrecUsed.of_one n e h, back)
    where
      back : IsPrecUsed alternatives file own role → HasPlace alternatives file n
      back (levels.IsPrecUsed.of_one m f h) = (let same : roles.Prec m ≡ roles.Prec n = sym f ∙ e in let number : m ≡ n = cc in subst (HasPlace alternatives file) number h)
      back (levels.IsPrecUsed.of_group low high m f l k free h) = (let bad : roles.GroupPrec low high ≡ roles.Prec n = sym f ∙ e in cc)

  pub used_group : (low high : ℕ) → role ≡ roles.GroupPrec low high → HasMember alternatives file own low high ↔ IsPrecUsed alternatives file own role
  used_group low high e = (λ h. levels.IsPrecUsed.of_group low high h.0 e h.1 h.2 h.3 h.4, back)
    where
      back : IsPrecUsed alternatives file own role → HasMember alternatives file own low high
      back (levels.IsPrecUsed.of_one m f h) = (let bad : roles.Prec m ≡ roles.GroupPrec low high = sym f ∙ e in cc)
      back (levels.IsPrecUsed.of_group a b m f l k free h) =
          (let same : roles.GroupPrec a b ≡ roles.GroupPrec low high = sym f ∙ e in
          let first : a ≡ low = cc in
          let last : b ≡ high = cc in
          (m, subst (λ v. v ≤ m) first l, subst (λ v. m ≤ v) last k, free, h))

  pub used_never : ((n : ℕ) → role ≡ roles.Prec n → ⊥) → ((low high : ℕ) → role ≡ roles.GroupPrec low high → ⊥) → IsPrecUsed alternatives file own role → ⊥
  used_never one group (levels.IsPrecUsed.of_one m f h) = one m f
  used_never one group (levels.IsPrecUsed.of_group a b m f l k free h) = group a b f

-- Without alternatives no `%prec` is used.
pub used_nowhere : (alternatives : List AlternativeOf) (file : ℕ) (own : List ℕ) (r : Role) → length alternatives ≡ 0 → IsPrecUsed alternatives file own r → ⊥
used_nowhere [] file own r none (levels.IsPrecUsed.of_one n e h) = contains_none _ h
used_nowhere [] file own r none (levels.IsPrecUsed.of_group low high n e l k free h) = contains_none _ h
used_nowhere (a ∷ alternatives) file own r none used = let bad : length (a ∷ alternatives) ≡ 0 = none in cc

-- The same alternatives, and the same that have a `%prec` of their own.
pub used_same : (alternatives others : List AlternativeOf) (file : ℕ) (own mine : List ℕ) (role : Role) → ((n : ℕ) → HasPlace alternatives file n → HasPlace others file n) → ((n : ℕ) → Contains mine n → Contains own n) → IsPrecUsed alternatives file own role → IsPrecUsed others file mine role
used_same alternatives others file own mine _ places owns (levels.IsPrecUsed.of_one n e h) = levels.IsPrecUsed.of_one n e (places n h)
used_same alternatives others file own mine _ places owns (levels.IsPrecUsed.of_group low high n e l k free h) = levels.IsPrecUsed.of_group low high n e l k (λ c. free (owns n c)) (places n h)
