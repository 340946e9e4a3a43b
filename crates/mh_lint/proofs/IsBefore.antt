-- The warning at a mention and the uses after the mention, by the role of the mention.
use Rattle.std.proofs.Common.{◌≡◌, ◌↔◌, ◌⊎◌, ℕ, ◌+◌, ◌<◌, true, List, [], ◌∷◌, ◌++◌, Option, None, Some, length, refl, sym, ap, subst, ◌∙◌, inl, inr, arith}
use Rattle.std.specs.Prelude.{codes}
use Rattle.std.specs.List.{Contains, position}
use Rattle.std.specs.HashMap.{get}
use Rattle.std.specs.HashSet.{contains}
use Rattle.std.proofs.lemmas.List.Quantifiers.{position-Some}
use Rattle.mh_grammar.specs.Text.{Text}
use Rattle.mh_join_names.specs.Names.{name_by, same}
use Rattle.mh_join_names.specs.Faults.{Meanings, text_of}
use Rattle.mh_join_names.specs.code.SymbolTables.{meanings_in}
use Rattle.mh_rules.specs.declared.modules.Module.{Module}
use Rattle.mh_reader_places.specs.declared.mentions.Mention.{Mention}
use Rattle.mh_reader_places.specs.declared.mentions.Role.TheVariants as roles
use Rattle.mh_lint_faults.specs.FaultLines.{rule_at}
use Rattle.mh_lint_faults.specs.declared.front.AcceptedFiles.{AcceptedFiles}
use Rattle.mh_lint_states.specs.code.Marks.{Marks}
use Rattle.mh_lint.specs.MentionWarnings.{is_prec}
use Rattle.mh_lint.specs.code.LevelUses.{PutsOwn}
use Rattle.mh_lint.specs.code.MentionUses.{AreUses, Checked, IsActualWarning, IsBefore, IsUnusedPrec, IsWarningFound, flag_at, level_text, text_unless_set}
use Rattle.mh_lint.specs.declared.warning_walk.ActualOf.{ActualOf}
use Rattle.mh_lint.specs.declared.warning_walk.Uses.{Uses}
use Rattle.mh_lint.proofs.ChangesUses.{Stays, nothing_changes, on_error_changes, prec_changes, rule_changes, token_changes}
use Rattle.mh_lint.proofs.UsesAfter.{uses_after}
use Rattle.mh_lint.proofs.WarningKinds.{kind, prec_kind}
use Rattle.mh_lint.proofs.WarningsFound.{level_found, on_error_found, other_found, prec_found, rule_found, token_found}

module _ (c : Checked) (files : AcceptedFiles) (k : ℕ) (m : Module) (before : List Mention) (x : Mention) (old : Uses) (h : IsBefore c files k m before x old) where
  abbrev Found : Option Text → Type 0
  Found = IsWarningFound c.stages c.built c.meanings c.file before x

  abbrev After : Uses → Type 0
  After = AreUses c.stages c.built c.meanings c.file (before ++ x ∷ [])

  abbrev token_place : Option ℕ
  token_place = position (same (text_of x.name)) files.names.tokens.keys

  token_is : c.meanings.numbers.token (text_of x.name) ≡ token_place
  token_is = ap (λ (w : Meanings). w.numbers.token (text_of x.name)) (sym h.stages.names)

  token_within : (n : ℕ) → token_place ≡ Some n → n < length old.tokens.items
  token_within n e =
      let p = (position-Some (same (text_of x.name)) files.names.tokens.keys n [] e).0 in
      let count = ap (λ (w : Meanings). length w.tokens) h.stages.names in
      let flags = h.uses.but.token_flags in
      omega (arith, p, count, flags)

  pub token_warned : x.role ≡ roles.Token → (found : Option Text) → found ≡ text_unless_set (flag_at old.tokens.items token_place) (codes "unused token: " ++ text_of x.name) → Found found
  token_warned role found e = token_found c.stages c.built c.meanings c.file before x old h.uses role token_place token_is token_within found e

  pub token_after : x.role ≡ roles.Token → (new : Uses) → Stays c.stages c.built c.meanings c.file before x old new → new.rules.items ≡ old.rules.items → new.own.keys ≡ old.own.keys → new.actuals.keys ≡ old.actuals.keys
      → Marks (λ n. (token_place ≡ Some n) × (n < length old.tokens.items)) old.tokens.items new.tokens.items → After new
  token_after role new stays rules own actuals marks =
      uses_after c.stages c.built c.meanings c.file before x old new h.uses
      (token_changes c.stages c.built c.meanings c.file before x old new files.names h.stages.names role h.uses.but.token_flags stays rules own actuals
      (subst (λ o. Marks (λ z. (o ≡ Some z) × (z < length old.tokens.items)) old.tokens.items new.tokens.items) (sym token_is) marks))

  abbrev rule_number : Option ℕ
  rule_number = rule_at (meanings_in files.names) k m x

  rule_is : rule_number ≡ rule_at c.meanings (c.file + 1) h.of_file.placed.module x
  rule_is = λ i. rule_at (h.stages.names i) (h.number i) (sym h.module_is i) x

  pub rule_warned : x.role ≡ roles.Rule → (found : Option Text) → found ≡ text_unless_set (flag_at old.rules.items rule_number) (codes "unreachable rule: " ++ text_of x.name) → Found found
  rule_warned role found e = rule_found c.stages c.built c.meanings c.file before x old h.uses role h.of_file found (e ∙ ap (λ o. text_unless_set (flag_at old.rules.items o) (codes "unreachable rule: " ++ text_of x.name)) rule_is)

  pub rule_after : x.role ≡ roles.Rule → (new : Uses) → Stays c.stages c.built c.meanings c.file before x old new → new.tokens.items ≡ old.tokens.items → new.own.keys ≡ old.own.keys → new.actuals.keys ≡ old.actuals.keys
      → Marks (λ n. (rule_number ≡ Some n) × (n < length old.rules.items)) old.rules.items new.rules.items → After new
  rule_after role new stays tokens own actuals marks =
      uses_after c.stages c.built c.meanings c.file before x old new h.uses
      (rule_changes c.stages c.built c.meanings c.file before x old new role h.of_file h.uses.but.rule_flags stays tokens own actuals
      (subst (λ o. Marks (λ n. (o ≡ Some n) × (n < length old.rules.items)) old.rules.items new.rules.items) rule_is marks))

  pub level_warned : (rank : ℕ) → x.role ≡ roles.Level rank → (found : Option Text) → found ≡ level_text (λ y. contains same old.levels.names y) (name_by (λ a. get same files.names.aliases a) x.name) → Found found
  level_warned rank role found e = level_found c.stages c.built c.meanings c.file before x old h.uses rank role found (e ∙ ap (λ (w : Meanings). level_text (λ y. contains same old.levels.names y) (name_by w.aliased x.name)) h.stages.names)

  -- A mention that changes nothing.
  pub same_after : (n : ℕ) → kind x.role ≡ n → (n ≡ 2) ⊎ (n ≡ 5) → After old
  same_after n is other = uses_after c.stages c.built c.meanings c.file before x old old h.uses (nothing_changes c.stages c.built c.meanings c.file before x old old n is other refl)

  pub other_warned : kind x.role ≡ 5 → Found None
  other_warned is = other_found c.stages c.built c.meanings c.file before x old h.uses is

  pub prec_warned : is_prec x.role ≡ true → (found : Option Text) → IsUnusedPrec old.levels.alternatives.keys k old.own.keys x found → Found found
  prec_warned role found is = prec_found c.stages c.built c.meanings c.file before x old h.uses role found (subst (λ n. IsUnusedPrec old.levels.alternatives.keys n old.own.keys x found) h.number is)

  pub prec_after : is_prec x.role ≡ true → (new : Uses) → Stays c.stages c.built c.meanings c.file before x old new → new.tokens.items ≡ old.tokens.items → new.rules.items ≡ old.rules.items → new.actuals.keys ≡ old.actuals.keys → PutsOwn x.role old.own.keys new.own.keys → After new
  prec_after role new stays tokens rules actuals own = uses_after c.stages c.built c.meanings c.file before x old new h.uses (prec_changes c.stages c.built c.meanings c.file before x old new (prec_kind x.role role) stays tokens rules actuals own)

  pub on_error_warned : (rank item : ℕ) → x.role ≡ roles.OnError rank item → (found : Option Text) → IsActualWarning files.joined old.declarations.keys old.declarations_before old.actuals.keys (record { rank = rank; item = item }) found → Found found
  on_error_warned rank item role found is = on_error_found c.stages c.built c.meanings c.file before x old h.uses rank item role found (subst (λ j. IsActualWarning j old.declarations.keys old.declarations_before old.actuals.keys (record { rank = rank; item = item }) found) h.stages.joined is)

  pub on_error_after : (rank item : ℕ) → x.role ≡ roles.OnError rank item → (new : Uses) → Stays c.stages c.built c.meanings c.file before x old new → new.tokens.items ≡ old.tokens.items → new.rules.items ≡ old.rules.items → new.own.keys ≡ old.own.keys
      → ((a : ActualOf) → Contains new.actuals.keys a ↔ (Contains old.actuals.keys a ⊎ (a ≡ record { rank = rank; item = item }))) → After new
  on_error_after rank item role new stays tokens rules own actuals = uses_after c.stages c.built c.meanings c.file before x old new h.uses (on_error_changes c.stages c.built c.meanings c.file before x old new (ap kind role) stays tokens rules own put)
    where
      same_actual : (r i : ℕ) → roles.OnError r i ≡ roles.OnError rank item → ◌≡◌ {A = ActualOf} (record { rank = r; item = i }) (record { rank = rank; item = item })
      same_actual r i e = (let first : r ≡ rank = cc in let second : i ≡ item = cc in λ j. record { rank = first j; item = second j })

      put : (r i : ℕ) → Contains new.actuals.keys (record { rank = r; item = i }) ↔ (Contains old.actuals.keys (record { rank = r; item = i }) ⊎ (x.role ≡ roles.OnError r i))
      put r i = (
        λ d. elim ((actuals (record { rank = r; item = i })).0 d) [ inl had ↦ inl had | inr e ↦ inr (role ∙ (λ j. roles.OnError (sym (ap (λ (a : ActualOf). a.rank) e) j) (sym (ap (λ (a : ActualOf). a.item) e) j))) ],
        λ d. (actuals (record { rank = r; item = i })).1 (elim d [ inl had ↦ inl had | inr e ↦ inr (same_actual r i (sym e ∙ role)) ]),
      )
