-- The names after the `%prec` that give levels that are compared, one mention after another and one file after another.
use Rattle.std.proofs.Common.{◌≡◌, ◌↔◌, ℕ, ◌+◌, ◌<◌, ◌≤◌, List, ◌∷◌, Option, Some, length, take, drop, suc, sym, ap, subst, ◌∙◌, arith, inl, inr}
use Rattle.std.proofs.Math.Seq.{take-append_seam}
use Rattle.std.specs.List.{slice_get}
use Rattle.std.proofs.lemmas.Option.{get_or_from_slice_get, same_Some, slice_get_within}
use Rattle.mh_grammar.specs.Text.{Text}
use Rattle.mh_grammar.proofs.Lists.{get_after_prefix, split_at}
use Rattle.mh_join_names.specs.Names.{name_by}
use Rattle.mh_reader_places.specs.declared.mentions.Mention.{Mention}
use Rattle.mh_lint_faults.specs.code.MentionContexts.{HasOwnPrecs}
use Rattle.mh_lint.specs.code.LevelUses.{AddsUses, IsPrecUsed, IsUsedPrecName, NoPlace}
use Rattle.mh_lint.specs.code.Uses.{HasPlace}
use Rattle.mh_lint.specs.declared.alternatives.AlternativeOf.{AlternativeOf}
use Rattle.mh_lint.specs.declared.levels.UsedLevels.{UsedLevels}
use Rattle.mh_lint.proofs.AddsUses.{AddsBelow, HasAlternative, adds_same, all_below, more_below}
use Rattle.mh_lint.proofs.IsPrecUsed.{used_same}

-- The alternatives of the file are the same after names alone are added.
pub same_places : (N : Text → Type 0) (P : ℕ → ℕ → Type 0) (a b : UsedLevels) → ((file n : ℕ) → P file n → ⊥) → AddsUses N P a b → (file n : ℕ) → HasAlternative b file n ↔ HasAlternative a file n
same_places N P a b none g file n = (λ h. elim ((g.alternatives file n).0 h) [ inl had ↦ had | inr place ↦ absurd (none file n place) ], λ h. (g.alternatives file n).1 (inl h))

module _ (aliased : Text → Option Text) (file : ℕ) where
  -- A mention is a `%prec` that is used, with this name.
  abbrev pub IsNamed : List AlternativeOf → List ℕ → Mention → Text → Type 0
  IsNamed alternatives own x name = IsPrecUsed alternatives file own x.role × (name_by aliased x.name ≡ Some name)

  -- The mention with this number is such a `%prec`.
  pub record IsNamedAt (alternatives : List AlternativeOf) (mentions : List Mention) (z : ℕ) (name : Text) : Type 0 where
    pub mention : Mention
    pub own : List ℕ
    pub at : slice_get mentions z ≡ Some mention
    pub own_are : HasOwnPrecs (take z mentions) own
    pub named : IsNamed alternatives own mention name

  module _ (mentions : List Mention) where
    pub named_within : (alternatives : List AlternativeOf) (z : ℕ) (name : Text) → IsNamedAt alternatives mentions z name → z < length mentions
    named_within alternatives z name h = slice_get_within mentions z h.mention h.at

    pub name_used : (alternatives : List AlternativeOf) (z : ℕ) (name : Text) → IsNamedAt alternatives mentions z name → IsUsedPrecName aliased alternatives file mentions name
    name_used alternatives z name h = record {
      before = take z mentions;
      mention = h.mention;
      after = drop (suc z) mentions;
      own = h.own;
      split = split_at mentions z h.mention (named_within alternatives z name h) (sym (get_or_from_slice_get mentions z h.mention h.mention h.at));
      own_are = h.own_are;
      used = h.named.0;
      name_is = h.named.1;
    }

    pub used_named : (alternatives : List AlternativeOf) (name : Text) → IsUsedPrecName aliased alternatives file mentions name → (z : ℕ) × IsNamedAt alternatives mentions z name
    used_named alternatives name u = (
      length u.before,
      record {
        mention = u.mention;
        own = u.own;
        at = subst (λ ms. slice_get ms (length u.before) ≡ Some u.mention) (sym u.split) (get_after_prefix u.before u.mention u.after);
        own_are = subst (λ ms. HasOwnPrecs ms u.own) (sym (ap (take (length u.before)) u.split ∙ take-append_seam u.before (u.mention ∷ u.after))) u.own_are;
        named = (u.used, u.name_is);
      },
    )

    -- One more mention.
    pub more_named : (i : ℕ) (x : Mention) (own : List ℕ) (a b c : UsedLevels) → slice_get mentions i ≡ Some x → HasOwnPrecs (take i mentions) own → AddsBelow (IsNamedAt a.alternatives.keys mentions) (λ z. NoPlace) i a b → AddsUses (IsNamed b.alternatives.keys own x) NoPlace b c → AddsBelow (IsNamedAt a.alternatives.keys mentions) (λ z. NoPlace) (i + 1) a c
    more_named i x own a b c at owns g h = more_below (IsNamedAt a.alternatives.keys mentions) (λ z. NoPlace) i a b c g (adds_same (IsNamed b.alternatives.keys own x) (IsNamedAt a.alternatives.keys mentions i) NoPlace NoPlace b c to from (λ file n p. p) (λ file n p. p) h)
      where
        places : (n : ℕ) → HasPlace b.alternatives.keys file n ↔ HasPlace a.alternatives.keys file n
        places n = same_places _ _ a b (λ k m p. p.2) g file n

        to : (name : Text) → IsNamed b.alternatives.keys own x name → IsNamedAt a.alternatives.keys mentions i name
        to name named = record {
          mention = x;
          own = own;
          at = at;
          own_are = owns;
          named = (used_same b.alternatives.keys a.alternatives.keys file own own x.role (λ n p. (places n).0 p) (λ n p. p) named.0, named.1);
        }

        from : (name : Text) → IsNamedAt a.alternatives.keys mentions i name → IsNamed b.alternatives.keys own x name
        from name k =
            let same : k.mention ≡ x = same_Some k.mention x (sym k.at ∙ at) in
            let used : IsPrecUsed b.alternatives.keys file own k.mention.role = used_same a.alternatives.keys b.alternatives.keys file k.own own k.mention.role (λ n p. (places n).1 p) (λ n p. (k.own_are n).1 ((owns n).0 p)) k.named.0 in
            (subst (λ (m : Mention). IsPrecUsed b.alternatives.keys file own m.role) same used, subst (λ (m : Mention). name_by aliased m.name ≡ Some name) same k.named.1)

    -- All mentions.
    pub all_named : (i : ℕ) (a b : UsedLevels) → length mentions ≤ i → AddsBelow (IsNamedAt a.alternatives.keys mentions) (λ z. NoPlace) i a b → AddsUses (IsUsedPrecName aliased a.alternatives.keys file mentions) NoPlace a b
    all_named i a b past g = all_below (IsNamedAt a.alternatives.keys mentions) (λ z. NoPlace) i (IsUsedPrecName aliased a.alternatives.keys file mentions) NoPlace a b (λ z x h. (let l = named_within a.alternatives.keys z x h in omega (arith, l, past))) (λ z k n p. absurd p) (λ z x h. name_used a.alternatives.keys z x h) (λ x u. used_named a.alternatives.keys x u) (λ z k n p. p) (λ k n p. absurd p) g

  -- The names do not depend on the order of the alternatives.
  pub names_same : (alternatives others : List AlternativeOf) (mentions : List Mention) (name : Text) → ((n : ℕ) → HasPlace alternatives file n → HasPlace others file n) → IsUsedPrecName aliased alternatives file mentions name → IsUsedPrecName aliased others file mentions name
  names_same alternatives others mentions name places u = record {
    before = u.before;
    mention = u.mention;
    after = u.after;
    own = u.own;
    split = u.split;
    own_are = u.own_are;
    used = used_same alternatives others file u.own u.own u.mention.role places (λ n p. p) u.used;
    name_is = u.name_is;
  }
