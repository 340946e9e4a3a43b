-- What the names are used for, after one more mention.
use Rattle.std.proofs.Common.{◌≡◌, ◌↔◌, ◌⊎◌, ℕ, ◌+◌, true, false, List, [], ◌∷◌, ◌++◌, Some, length, get_or, refl, sym, ap, subst, ◌∙◌, inl, inr, append_assoc}
use Rattle.std.specs.List.{Contains, slice_get}
use Rattle.std.specs.HashSet.{contains}
use Rattle.std.proofs.lemmas.List.Elements.{Contains-append_left}
use Rattle.mh_grammar.specs.Text.{Text}
use Rattle.mh_grammar.proofs.Lists.{contains_last, contains_push, split_push}
use Rattle.mh_join_names.specs.Names.{same}
use Rattle.mh_join_names.specs.Faults.{Meanings, text_of}
use Rattle.mh_rules.specs.declared.joined.JoinedRule.{JoinedRule}
use Rattle.mh_reader_places.specs.declared.mentions.Mention.{Mention}
use Rattle.mh_reader_places.specs.declared.mentions.Role.TheVariants as roles
use Rattle.mh_lint_faults.specs.FaultLines.{IsDefinition}
use Rattle.mh_lint_faults.specs.Stages.{Stages}
use Rattle.mh_lint.specs.Built.{Built}
use Rattle.mh_lint.specs.MentionWarnings.{IsNamedByPrec}
use Rattle.mh_lint.specs.Uses.{HasInstance, IsTokenUsed}
use Rattle.mh_lint.specs.code.Declarations.{declared}
use Rattle.mh_lint.specs.code.MentionUses.{AreUses, IsRuleBefore, IsTokenBefore}
use Rattle.mh_lint.specs.code.MentionUses as uses
use Rattle.mh_lint.specs.code.Uses.{HasPlace}
use Rattle.mh_lint.specs.declared.warning_walk.Uses.{Uses}
use Rattle.mh_lint.proofs.HasOwnPrecs.{own_more}

module _ (s : Stages) (b : Built) (w : Meanings) (file : ℕ) (before : List Mention) (x : Mention) where
  -- A token before is one before the mention, or that of the mention.
  token_more : (name : Text) → IsTokenBefore s file (before ++ x ∷ []) name → IsTokenBefore s file before name ⊎ ((x.role ≡ roles.Token) × (text_of x.name ≡ name))
  token_more name (uses.IsTokenBefore.here y c role is) = elim (contains_push before x y c) [
    | inl d ↦ inl (uses.IsTokenBefore.here y d role is)
    | inr e ↦ inr (subst (λ (m : Mention). m.role ≡ roles.Token) e role, subst (λ (m : Mention). text_of m.name ≡ name) e is)
  ]
  token_more name (uses.IsTokenBefore.earlier other others y l m role is) = inl (uses.IsTokenBefore.earlier other others y l m role is)

  token_from : (name : Text) → IsTokenBefore s file before name ⊎ ((x.role ≡ roles.Token) × (text_of x.name ≡ name)) → IsTokenBefore s file (before ++ x ∷ []) name
  token_from name (inl (uses.IsTokenBefore.here y c role is)) = uses.IsTokenBefore.here y (Contains-append_left before (x ∷ []) y c) role is
  token_from name (inl (uses.IsTokenBefore.earlier other others y l m role is)) = uses.IsTokenBefore.earlier other others y l m role is
  token_from name (inr here) = uses.IsTokenBefore.here x (contains_last before x) here.0 here.1

  -- A rule before is one before the mention, or that of the mention.
  rule_more : (n : ℕ) → IsRuleBefore s w file (before ++ x ∷ []) n → IsRuleBefore s w file before n ⊎ IsDefinition w s.found file before x n
  rule_more n (uses.IsRuleBefore.here earlier y later e d) = elim (split_push before x earlier y later e) [
    | inl same ↦ inr (subst (λ (m : Mention). IsDefinition w s.found file before m n) (sym same.1) (subst (λ ms. IsDefinition w s.found file ms y n) (sym same.0) d))
    | inr rest ↦ inl (uses.IsRuleBefore.here earlier y rest.0 rest.1 d)
  ]
  rule_more n (uses.IsRuleBefore.earlier other others y l d) = inl (uses.IsRuleBefore.earlier other others y l d)

  longer : (earlier : List Mention) (y : Mention) (later : List Mention) → before ≡ earlier ++ y ∷ later → before ++ x ∷ [] ≡ earlier ++ y ∷ (later ++ x ∷ [])
  longer earlier y later e = ap (λ ms. ms ++ x ∷ []) e ∙ append_assoc earlier (y ∷ later) (x ∷ [])

  rule_from : (n : ℕ) → IsRuleBefore s w file before n ⊎ IsDefinition w s.found file before x n → IsRuleBefore s w file (before ++ x ∷ []) n
  rule_from n (inl (uses.IsRuleBefore.here earlier y later e d)) = uses.IsRuleBefore.here earlier y (later ++ x ∷ []) (longer earlier y later e) d
  rule_from n (inl (uses.IsRuleBefore.earlier other others y l d)) = uses.IsRuleBefore.earlier other others y l d
  rule_from n (inr d) = uses.IsRuleBefore.here before x [] refl d

  -- What a mention changes.
  pub record ChangesUses (old new : Uses) : Type 0 where
    pub token_flags : length new.tokens.items ≡ length old.tokens.items
    pub tokens : (z : ℕ) (name : Text) → w.numbers.token name ≡ Some z → (get_or new.tokens.items z false ≡ true) ↔ ((get_or old.tokens.items z false ≡ true) ⊎ ((x.role ≡ roles.Token) × (text_of x.name ≡ name)))
    pub rule_flags : length new.rules.items ≡ length old.rules.items
    pub rules : (n : ℕ) (r : JoinedRule) → slice_get s.joined.rules n ≡ Some r → (get_or new.rules.items n false ≡ true) ↔ ((get_or old.rules.items n false ≡ true) ⊎ IsDefinition w s.found file before x n)
    pub names : (y : Text) → contains same new.levels.names y ≡ contains same old.levels.names y
    pub alternatives : new.levels.alternatives.keys ≡ old.levels.alternatives.keys
    pub declarations : new.declarations.keys ≡ old.declarations.keys
    pub declarations_before : new.declarations_before ≡ old.declarations_before
    pub own : (n : ℕ) → Contains new.own.keys n ↔ (Contains old.own.keys n ⊎ (x.role ≡ roles.Prec n))
    pub actuals : (rank item : ℕ) → Contains new.actuals.keys (record { rank = rank; item = item }) ↔ (Contains old.actuals.keys (record { rank = rank; item = item }) ⊎ (x.role ≡ roles.OnError rank item))

  pub uses_after : (old new : Uses) → AreUses s b w file before old → ChangesUses old new → AreUses s b w file (before ++ x ∷ []) new
  uses_after old new h c = record {
    but = record {
      token_flags = c.token_flags ∙ h.but.token_flags;
      tokens = λ z name at. (tokens_to z name at, tokens_back z name at);
      rule_flags = c.rule_flags ∙ h.but.rule_flags;
      rules = λ n r at. (rules_to n r at, rules_back n r at);
      names = λ y. (λ e. (h.but.names y).0 (sym (c.names y) ∙ e), λ is. c.names y ∙ (h.but.names y).1 is);
      alternatives = λ k n. (λ e. (h.but.alternatives k n).0 (subst (λ ks. HasPlace ks (k + 1) n) c.alternatives e), λ is. subst (λ ks. HasPlace ks (k + 1) n) (sym c.alternatives) ((h.but.alternatives k n).1 is));
      declarations = λ n name. (λ e. (h.but.declarations n name).0 (subst (λ ks. Contains ks (declared n name)) c.declarations e), λ is. subst (λ ks. Contains ks (declared n name)) (sym c.declarations) ((h.but.declarations n name).1 is));
      declarations_are = c.declarations_before ∙ h.but.declarations_are;
    };
    own = own_more before x old.own.keys new.own.keys h.own c.own;
    actuals = λ rank item. (actuals_to rank item, actuals_back rank item);
  }
    where
      tokens_to : (z : ℕ) (name : Text) → w.numbers.token name ≡ Some z → get_or new.tokens.items z false ≡ true → IsTokenUsed s.joined z ⊎ (IsNamedByPrec w s.found name ⊎ IsTokenBefore s file (before ++ x ∷ []) name)
      tokens_to z name at e = elim ((c.tokens z name at).0 e) [
        | inl was ↦ elim ((h.but.tokens z name at).0 was) [ inl t ↦ inl t | inr other ↦ elim other [ inl p ↦ inr (inl p) | inr d ↦ inr (inr (token_from name (inl d))) ] ]
        | inr here ↦ inr (inr (token_from name (inr here)))
      ]

      tokens_back : (z : ℕ) (name : Text) → w.numbers.token name ≡ Some z → IsTokenUsed s.joined z ⊎ (IsNamedByPrec w s.found name ⊎ IsTokenBefore s file (before ++ x ∷ []) name) → get_or new.tokens.items z false ≡ true
      tokens_back z name at (inl t) = (c.tokens z name at).1 (inl ((h.but.tokens z name at).1 (inl t)))
      tokens_back z name at (inr (inl p)) = (c.tokens z name at).1 (inl ((h.but.tokens z name at).1 (inr (inl p))))
      tokens_back z name at (inr (inr d)) = elim (token_more name d) [
        | inl was ↦ (c.tokens z name at).1 (inl ((h.but.tokens z name at).1 (inr (inr was))))
        | inr here ↦ (c.tokens z name at).1 (inr here)
      ]

      rules_to : (n : ℕ) (r : JoinedRule) → slice_get s.joined.rules n ≡ Some r → get_or new.rules.items n false ≡ true → HasInstance s.expanded r ⊎ IsRuleBefore s w file (before ++ x ∷ []) n
      rules_to n r at e = elim ((c.rules n r at).0 e) [
        | inl was ↦ elim ((h.but.rules n r at).0 was) [ inl i ↦ inl i | inr d ↦ inr (rule_from n (inl d)) ]
        | inr here ↦ inr (rule_from n (inr here))
      ]

      rules_back : (n : ℕ) (r : JoinedRule) → slice_get s.joined.rules n ≡ Some r → HasInstance s.expanded r ⊎ IsRuleBefore s w file (before ++ x ∷ []) n → get_or new.rules.items n false ≡ true
      rules_back n r at (inl i) = (c.rules n r at).1 (inl ((h.but.rules n r at).1 (inl i)))
      rules_back n r at (inr d) = elim (rule_more n d) [
        | inl was ↦ (c.rules n r at).1 (inl ((h.but.rules n r at).1 (inr was)))
        | inr here ↦ (c.rules n r at).1 (inr here)
      ]

      actuals_to : (rank item : ℕ) → Contains new.actuals.keys (record { rank = rank; item = item }) → (y : Mention) × Contains (before ++ x ∷ []) y × (y.role ≡ roles.OnError rank item)
      actuals_to rank item e = elim ((c.actuals rank item).0 e) [
        | inl was ↦ (let one = (h.actuals rank item).0 was in (one.0, Contains-append_left before (x ∷ []) one.0 one.1, one.2))
        | inr role ↦ (x, contains_last before x, role)
      ]

      actuals_back : (rank item : ℕ) → (y : Mention) × Contains (before ++ x ∷ []) y × (y.role ≡ roles.OnError rank item) → Contains new.actuals.keys (record { rank = rank; item = item })
      actuals_back rank item one = elim (contains_push before x one.0 one.1) [
        | inl was ↦ (c.actuals rank item).1 (inl ((h.actuals rank item).1 (one.0, was, one.2)))
        | inr same ↦ (c.actuals rank item).1 (inr (subst (λ (m : Mention). m.role ≡ roles.OnError rank item) same one.2))
      ]
