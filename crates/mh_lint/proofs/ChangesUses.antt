-- What a mention changes of the uses, by the role of the mention.
use Rattle.std.proofs.Common.{◌≡◌, ◌↔◌, ◌⊎◌, ℕ, ◌+◌, ◌<◌, true, false, List, [], Some, length, get_or, refl, sym, ap, subst, ◌∙◌, inl, inr, arith}
use Rattle.std.specs.List.{Contains, position, slice_get}
use Rattle.std.specs.HashSet.{contains}
use Rattle.std.proofs.lemmas.List.Quantifiers.{position-Some}
use Rattle.std.proofs.lemmas.Option.{same_Some, slice_get_within}
use Rattle.mh_grammar.specs.Text.{Text}
use Rattle.mh_grammar.proofs.TextEquality.{equal_from_same}
use Rattle.mh_join_names.specs.Names.{same}
use Rattle.mh_join_names.specs.Faults.{Meanings, text_of}
use Rattle.mh_join_names.specs.code.SymbolTables.{meanings_in}
use Rattle.mh_join_names.specs.declared.names.SymbolTables.{SymbolTables}
use Rattle.mh_rules.specs.declared.joined.JoinedRule.{JoinedRule}
use Rattle.mh_reader_places.specs.declared.mentions.Mention.{Mention}
use Rattle.mh_reader_places.specs.declared.mentions.Role.{Role}
use Rattle.mh_reader_places.specs.declared.mentions.Role.TheVariants as roles
use Rattle.mh_lint_faults.specs.FaultLines.{IsDefinition, rule_at}
use Rattle.mh_lint_faults.specs.Stages.{Mentions, Stages}
use Rattle.mh_lint_states.specs.code.Marks.{Marks}
use Rattle.mh_lint.specs.Built.{Built}
use Rattle.mh_lint.specs.declared.levels.UsedLevels.{UsedLevels}
use Rattle.mh_lint.specs.declared.warning_walk.Uses.{Uses}
use Rattle.mh_lint.proofs.UsesAfter.{ChangesUses}
use Rattle.mh_lint.proofs.WarningKinds.{kind, rule_kind}

-- The number of a token's name is its place in the list of names.
module _ (names : SymbolTables) (w : Meanings) (are : meanings_in names ≡ w) where
  token_at : (name : Text) → w.numbers.token name ≡ position (same name) names.tokens.keys
  token_at name = ap (λ (m : Meanings). m.numbers.token name) (sym are)

  pub token_name : (name : Text) (z : ℕ) → w.numbers.token name ≡ Some z → (z < length names.tokens.keys) × (name ≡ get_or names.tokens.keys z [])
  token_name name z e = let p = position-Some (same name) names.tokens.keys z [] (sym (token_at name) ∙ e) in (p.0, equal_from_same name (get_or names.tokens.keys z []) p.1)

  pub one_name : (m n : Text) (z : ℕ) → w.numbers.token m ≡ Some z → w.numbers.token n ≡ Some z → m ≡ n
  one_name m n z e f = (token_name m z e).1 ∙ sym (token_name n z f).1

-- Two mentions of different kinds have different roles.
apart : (k n : ℕ) (role other : Role) → kind role ≡ k → kind other ≡ n → (k ≡ n → ⊥) → role ≡ other → ⊥
apart k n role other a b ne e = ne (sym a ∙ ap kind e ∙ b)

module _ (s : Stages) (b : Built) (w : Meanings) (file : ℕ) (before : List Mention) (x : Mention) (old new : Uses) where
  -- The flags of the tokens stay.
  tokens_stay : (k : ℕ) → kind x.role ≡ k → (k ≡ 0 → ⊥) → new.tokens.items ≡ old.tokens.items → (z : ℕ) (name : Text) → w.numbers.token name ≡ Some z → (get_or new.tokens.items z false ≡ true) ↔ ((get_or old.tokens.items z false ≡ true) ⊎ ((x.role ≡ roles.Token) × (text_of x.name ≡ name)))
  tokens_stay k is ne stay z name at = (
    λ e. inl (ap (λ fs. get_or fs z false) (sym stay) ∙ e),
    λ h. elim h [ inl e ↦ ap (λ fs. get_or fs z false) stay ∙ e | inr here ↦ absurd (apart k 0 x.role roles.Token is refl ne here.0) ],
  )

  -- The flags of the rules stay.
  rules_stay : (k : ℕ) → kind x.role ≡ k → (k ≡ 1 → ⊥) → new.rules.items ≡ old.rules.items → (n : ℕ) (r : JoinedRule) → slice_get s.joined.rules n ≡ Some r → (get_or new.rules.items n false ≡ true) ↔ ((get_or old.rules.items n false ≡ true) ⊎ IsDefinition w s.found file before x n)
  rules_stay k is ne stay n r at = (
    λ e. inl (ap (λ fs. get_or fs n false) (sym stay) ∙ e),
    λ h. elim h [ inl e ↦ ap (λ fs. get_or fs n false) stay ∙ e | inr d ↦ absurd (ne (sym is ∙ rule_kind w (file + 1) d.of_file.placed.module (text_of x.name) x.role n d.number_is)) ],
  )

  own_stays : (k : ℕ) → kind x.role ≡ k → (k ≡ 3 → ⊥) → new.own.keys ≡ old.own.keys → (n : ℕ) → Contains new.own.keys n ↔ (Contains old.own.keys n ⊎ (x.role ≡ roles.Prec n))
  own_stays k is ne stay n = (
    λ c. inl (subst (λ ks. Contains ks n) stay c),
    λ h. elim h [ inl c ↦ subst (λ ks. Contains ks n) (sym stay) c | inr e ↦ absurd (apart k 3 x.role (roles.Prec n) is refl ne e) ],
  )

  actuals_stay : (k : ℕ) → kind x.role ≡ k → (k ≡ 4 → ⊥) → new.actuals.keys ≡ old.actuals.keys → (rank item : ℕ) → Contains new.actuals.keys (record { rank = rank; item = item }) ↔ (Contains old.actuals.keys (record { rank = rank; item = item }) ⊎ (x.role ≡ roles.OnError rank item))
  actuals_stay k is ne stay rank item = (
    λ c. inl (subst (λ ks. Contains ks (record { rank = rank; item = item })) stay c),
    λ h. elim h [ inl c ↦ subst (λ ks. Contains ks (record { rank = rank; item = item })) (sym stay) c | inr e ↦ absurd (apart k 4 x.role (roles.OnError rank item) is refl ne e) ],
  )

  -- What no mention changes.
  pub record Stays : Type 0 where
    pub levels : new.levels ≡ old.levels
    pub declarations : new.declarations.keys ≡ old.declarations.keys
    pub declarations_before : new.declarations_before ≡ old.declarations_before

  -- A declared token.
  pub token_changes : (names : SymbolTables) → meanings_in names ≡ w → x.role ≡ roles.Token → length old.tokens.items ≡ length w.tokens → Stays → new.rules.items ≡ old.rules.items → new.own.keys ≡ old.own.keys → new.actuals.keys ≡ old.actuals.keys
      → Marks (λ z. (w.numbers.token (text_of x.name) ≡ Some z) × (z < length old.tokens.items)) old.tokens.items new.tokens.items → ChangesUses s b w file before x old new
  token_changes names are role sized stays rules own actuals marks = record {
    token_flags = marks.len;
    tokens = λ z name at. (
      λ e. elim ((marks.each z).0 e) [ inl was ↦ inl was | inr is ↦ inr (role, one_name names w are (text_of x.name) name z is.0 at) ],
      λ h. elim h [
        | inl was ↦ (marks.each z).1 (inl was)
        | inr here ↦ (marks.each z).1 (inr (ap (λ m. w.numbers.token m) here.1 ∙ at, (let p = (token_name names w are name z at).0 in let l = ap (λ (m : Meanings). length m.tokens) are in omega (arith, p, l, sized))))
      ],
    );
    rule_flags = ap length rules;
    rules = rules_stay 0 (ap kind role) (λ e. omega (arith, e)) rules;
    names = λ y. ap (λ (v : UsedLevels). contains same v.names y) stays.levels;
    alternatives = ap (λ (v : UsedLevels). v.alternatives.keys) stays.levels;
    declarations = stays.declarations;
    declarations_before = stays.declarations_before;
    own = own_stays 0 (ap kind role) (λ e. omega (arith, e)) own;
    actuals = actuals_stay 0 (ap kind role) (λ e. omega (arith, e)) actuals;
  }

  -- The name of a definition.
  pub rule_changes : x.role ≡ roles.Rule → (m : Mentions s.found file before x) → length old.rules.items ≡ length s.joined.rules → Stays → new.tokens.items ≡ old.tokens.items → new.own.keys ≡ old.own.keys → new.actuals.keys ≡ old.actuals.keys
      → Marks (λ n. (rule_at w (file + 1) m.placed.module x ≡ Some n) × (n < length old.rules.items)) old.rules.items new.rules.items → ChangesUses s b w file before x old new
  rule_changes role m sized stays tokens own actuals marks = record {
    token_flags = ap length tokens;
    tokens = tokens_stay 1 (ap kind role) (λ e. omega (arith, e)) tokens;
    rule_flags = marks.len;
    rules = λ n r at. (
      λ e. elim ((marks.each n).0 e) [ inl was ↦ inl was | inr is ↦ inr (record { of_file = m; number_is = is.0 }) ],
      λ h. elim h [
        | inl was ↦ (marks.each n).1 (inl was)
        | inr d ↦ (
            let placed : d.of_file.placed ≡ m.placed = same_Some _ _ (sym d.of_file.of_files ∙ m.of_files) in
            (marks.each n).1 (inr (ap (λ p. rule_at w (file + 1) p.module x) (sym placed) ∙ d.number_is, (let l = slice_get_within s.joined.rules n r at in omega (arith, l, sized)))))
      ],
    );
    names = λ y. ap (λ (v : UsedLevels). contains same v.names y) stays.levels;
    alternatives = ap (λ (v : UsedLevels). v.alternatives.keys) stays.levels;
    declarations = stays.declarations;
    declarations_before = stays.declarations_before;
    own = own_stays 1 (ap kind role) (λ e. omega (arith, e)) own;
    actuals = actuals_stay 1 (ap kind role) (λ e. omega (arith, e)) actuals;
  }

  -- A name after `%prec`.
  pub prec_changes : kind x.role ≡ 3 → Stays → new.tokens.items ≡ old.tokens.items → new.rules.items ≡ old.rules.items → new.actuals.keys ≡ old.actuals.keys → ((n : ℕ) → Contains new.own.keys n ↔ (Contains old.own.keys n ⊎ (x.role ≡ roles.Prec n))) → ChangesUses s b w file before x old new
  prec_changes role stays tokens rules actuals own = record {
    token_flags = ap length tokens;
    tokens = tokens_stay 3 role (λ e. omega (arith, e)) tokens;
    rule_flags = ap length rules;
    rules = rules_stay 3 role (λ e. omega (arith, e)) rules;
    names = λ y. ap (λ (v : UsedLevels). contains same v.names y) stays.levels;
    alternatives = ap (λ (v : UsedLevels). v.alternatives.keys) stays.levels;
    declarations = stays.declarations;
    declarations_before = stays.declarations_before;
    own = own;
    actuals = actuals_stay 3 role (λ e. omega (arith, e)) actuals;
  }

  -- A head of an actual of an `%on_error_reduce` declaration.
  pub on_error_changes : kind x.role ≡ 4 → Stays → new.tokens.items ≡ old.tokens.items → new.rules.items ≡ old.rules.items → new.own.keys ≡ old.own.keys → ((rank item : ℕ) → Contains new.actuals.keys (record { rank = rank; item = item }) ↔ (Contains old.actuals.keys (record { rank = rank; item = item }) ⊎ (x.role ≡ roles.OnError rank item))) → ChangesUses s b w file before x old new
  on_error_changes role stays tokens rules own actuals = record {
    token_flags = ap length tokens;
    tokens = tokens_stay 4 role (λ e. omega (arith, e)) tokens;
    rule_flags = ap length rules;
    rules = rules_stay 4 role (λ e. omega (arith, e)) rules;
    names = λ y. ap (λ (v : UsedLevels). contains same v.names y) stays.levels;
    alternatives = ap (λ (v : UsedLevels). v.alternatives.keys) stays.levels;
    declarations = stays.declarations;
    declarations_before = stays.declarations_before;
    own = own_stays 4 role (λ e. omega (arith, e)) own;
    actuals = actuals;
  }

  -- Any other mention.
  pub nothing_changes : (k : ℕ) → kind x.role ≡ k → (k ≡ 2) ⊎ (k ≡ 5) → new ≡ old → ChangesUses s b w file before x old new
  nothing_changes k role other stay = record {
    token_flags = ap (λ (u : Uses). length u.tokens.items) stay;
    tokens = tokens_stay k role (not_kind 0 (λ e. omega (arith, e)) (λ e. omega (arith, e))) (ap (λ (u : Uses). u.tokens.items) stay);
    rule_flags = ap (λ (u : Uses). length u.rules.items) stay;
    rules = rules_stay k role (not_kind 1 (λ e. omega (arith, e)) (λ e. omega (arith, e))) (ap (λ (u : Uses). u.rules.items) stay);
    names = λ y. ap (λ (u : Uses). contains same u.levels.names y) stay;
    alternatives = ap (λ (u : Uses). u.levels.alternatives.keys) stay;
    declarations = ap (λ (u : Uses). u.declarations.keys) stay;
    declarations_before = ap (λ (u : Uses). u.declarations_before) stay;
    own = own_stays k role (not_kind 3 (λ e. omega (arith, e)) (λ e. omega (arith, e))) (ap (λ (u : Uses). u.own.keys) stay);
    actuals = actuals_stay k role (not_kind 4 (λ e. omega (arith, e)) (λ e. omega (arith, e))) (ap (λ (u : Uses). u.actuals.keys) stay);
  }
    where
      not_kind : (n : ℕ) → (2 ≡ n → ⊥) → (5 ≡ n → ⊥) → k ≡ n → ⊥
      not_kind n two five e = elim other [ inl is ↦ two (sym is ∙ e) | inr is ↦ five (sym is ∙ e) ]
