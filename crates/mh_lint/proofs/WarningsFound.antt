-- The warning that is found at a mention, by the role of the mention.
use Rattle.std.proofs.Common.{◌≡◌, ℕ, ◌+◌, ◌<◌, ◌≤◌, Bool, true, false, List, ◌++◌, Option, None, Some, length, get_or, refl, sym, ap, subst, ◌∙◌, inl, inr, arith}
use Rattle.std.specs.Prelude.{codes, if◌then◌else◌}
use Rattle.std.specs.List.{Contains, slice_get}
use Rattle.std.specs.Option.{option_and_then}
use Rattle.std.specs.HashSet.{contains}
use Rattle.std.proofs.lemmas.Bool.{cases_Bool, cases_lt}
use Rattle.std.proofs.lemmas.Option.{get_or_from_slice_get, slice_get-get_or, slice_get_within, same_Some}
use Rattle.mh_grammar.specs.Text.{Text}
use Rattle.mh_grammar.proofs.Lists.{get_within}
use Rattle.mh_expand.specs.Terms.{term_of, text}
use Rattle.mh_join_names.specs.Names.{name_by, same}
use Rattle.mh_join_names.specs.Faults.{Meanings, text_of}
use Rattle.mh_rules.specs.declared.joined.Applied.{Applied}
use Rattle.mh_reader_places.specs.declared.mentions.Mention.{Mention}
use Rattle.mh_reader_places.specs.declared.mentions.Role.TheVariants as roles
use Rattle.mh_lint_faults.specs.FaultLines.{IsFirstDefinition, rule_at}
use Rattle.mh_lint_faults.specs.Stages.{Mentions, Stages}
use Rattle.mh_lint.specs.Built.{Built}
use Rattle.mh_lint.specs.MentionWarnings.{IsActualAt, IsAlternativeCompared, IsFirstToken, IsNameCompared, IsPrecCompared, IsWarning, declarations_before, is_prec}
use Rattle.mh_lint.specs.MentionWarnings as warnings
use Rattle.mh_lint.specs.Uses.{IsTokenUsed}
use Rattle.mh_lint.specs.code.Declarations.{actual_of, declared}
use Rattle.mh_lint.specs.code.MentionUses.{AreUses, IsActualWarning, IsUnusedDeclaration, IsUnusedPrec, IsWarningFound, flag_at, level_text, text_unless_set}
use Rattle.mh_lint.specs.code.MentionUses as uses
use Rattle.mh_lint.specs.declared.warning_walk.Uses.{Uses}
use Rattle.mh_lint.proofs.PrecsCompared.{prec_compared, prec_used}
use Rattle.mh_lint.proofs.WarningKinds.{kind, prec_kind, level_none, on_error_none, other_none, prec_none, rule_none, token_none}

-- A flag, and the text for the flag.
pub data IsFlagText (flags : List Bool) (number : Option ℕ) (words : Text) : Option Text → Type 0 where
  unset : (n : ℕ) → number ≡ Some n → get_or flags n false ≡ false → n < length flags → IsFlagText flags number words (Some words)
  set : (n : ℕ) → number ≡ Some n → get_or flags n false ≡ true → IsFlagText flags number words None
  absent : ((n : ℕ) → number ≡ Some n → length flags ≤ n) → IsFlagText flags number words None

none_past : (xs : List Bool) (k : ℕ) → slice_get xs k ≡ None → length xs ≤ k
none_past xs k f = elim (cases_lt k (length xs)) [
  | inl l ↦ (let bad : Some (get_or xs k false) ≡ None = sym (slice_get-get_or xs k false l) ∙ f in cc)
  | inr m ↦ m
]

flag_text_at : (flags : List Bool) (n : ℕ) (words : Text) (o : Option Bool) → slice_get flags n ≡ o → IsFlagText flags (Some n) words (text_unless_set o words)
flag_text_at flags n words None e = IsFlagText.absent (λ m same. subst (λ j. length flags ≤ j) (same_Some n m same) (none_past flags n e))
flag_text_at flags n words (Some true) e = IsFlagText.set n refl (get_or_from_slice_get flags n true false e)
flag_text_at flags n words (Some false) e = IsFlagText.unset n refl (get_or_from_slice_get flags n false false e) (slice_get_within flags n false e)

pub flag_text : (flags : List Bool) (number : Option ℕ) (words : Text) → IsFlagText flags number words (text_unless_set (flag_at flags number) words)
flag_text flags None words = IsFlagText.absent (λ n e. cc)
flag_text flags (Some n) words = flag_text_at flags n words (slice_get flags n) refl

module _ (s : Stages) (b : Built) (w : Meanings) (file : ℕ) (before : List Mention) (x : Mention) (u : Uses) (h : AreUses s b w file before u) where
  abbrev Found : Option Text → Type 0
  Found found = IsWarningFound s b w file before x found

  -- ---- Tokens.

  token_by : x.role ≡ roles.Token → (number : Option ℕ) → w.numbers.token (text_of x.name) ≡ number → ((n : ℕ) → number ≡ Some n → n < length u.tokens.items) → (found : Option Text) → IsFlagText u.tokens.items number (codes "unused token: " ++ text_of x.name) found → Found found
  token_by role number is within found (IsFlagText.unset n at flag l) =
      let used = h.but.tokens n (text_of x.name) (is ∙ at) in
      let not_true : get_or u.tokens.items n false ≡ true → ⊥ = λ e. (let bad : false ≡ true = sym flag ∙ e in cc) in
      uses.IsWarningFound.some (codes "unused token: " ++ text_of x.name) (warnings.IsWarning.unused_token n (record {
        role_is = role;
        first_here = λ y c r e. not_true (used.1 (inr (inr (uses.IsTokenBefore.here y c r e))));
        first_file = λ other others y l m r e. not_true (used.1 (inr (inr (uses.IsTokenBefore.earlier other others y l m r e))));
      }) (is ∙ at) (λ t. not_true (used.1 (inl t))) (λ p. not_true (used.1 (inr (inl p)))))
  token_by role number is within found (IsFlagText.set n at flag) =
      let used = h.but.tokens n (text_of x.name) (is ∙ at) in
      uses.IsWarningFound.none (token_none s b w file before x (ap kind role) (λ z first has unused unnamed.
      (let same : z ≡ n = same_Some z n (sym has ∙ is ∙ at) in
      elim (used.0 flag) [
        | inl t ↦ unused (subst (IsTokenUsed s.joined) (sym same) t)
        | inr other ↦ elim other [
          | inl p ↦ unnamed p
          | inr before_here ↦ never before_here first
        ]
      ])))
    where
      never : uses.IsTokenBefore s file before (text_of x.name) → IsFirstToken s.found file before x → ⊥
      never (uses.IsTokenBefore.here y c r e) first = first.first_here y c r e
      never (uses.IsTokenBefore.earlier other others y l m r e) first = first.first_file other others y l m r e
  token_by role number is within found (IsFlagText.absent past) =
      uses.IsWarningFound.none (token_none s b w file before x (ap kind role) (λ z first has unused unnamed.
      (let at : number ≡ Some z = sym is ∙ has in omega (arith, past z at, within z at))))

  pub token_found : x.role ≡ roles.Token → (number : Option ℕ) → w.numbers.token (text_of x.name) ≡ number → ((n : ℕ) → number ≡ Some n → n < length u.tokens.items) → (found : Option Text) → found ≡ text_unless_set (flag_at u.tokens.items number) (codes "unused token: " ++ text_of x.name) → Found found
  token_found role number is within found e = token_by role number is within found (subst (λ f. IsFlagText u.tokens.items number (codes "unused token: " ++ text_of x.name) f) (sym e) (flag_text u.tokens.items number (codes "unused token: " ++ text_of x.name)))

  -- ---- Rules.

  rule_by : x.role ≡ roles.Rule → (m : Mentions s.found file before x) → (found : Option Text) → IsFlagText u.rules.items (rule_at w (file + 1) m.placed.module x) (codes "unreachable rule: " ++ text_of x.name) found → Found found
  rule_by role m found (IsFlagText.unset n at flag l) =
      let one = get_within s.joined.rules n (omega (arith, l, h.but.rule_flags)) in
      let used = h.but.rules n one.0 one.1 in
      let not_true : get_or u.rules.items n false ≡ true → ⊥ = λ e. (let bad : false ≡ true = sym flag ∙ e in cc) in
      uses.IsWarningFound.some (codes "unreachable rule: " ++ text_of x.name) (warnings.IsWarning.unreachable_rule n one.0 (record {
        is = record { of_file = m; number_is = at };
        first_here = λ earlier y later e d. not_true (used.1 (inr (uses.IsRuleBefore.here earlier y later e d)));
        first_file = λ other others y l d. not_true (used.1 (inr (uses.IsRuleBefore.earlier other others y l d)));
      }) one.1 (λ i. not_true (used.1 (inl i))))
  rule_by role m found (IsFlagText.set n at flag) =
      uses.IsWarningFound.none (rule_none s b w file before x (ap kind role) (λ number rule first here none.
      (let same : number ≡ n = number_same number n first at in
      let used = h.but.rules number rule here in
      elim (used.0 (subst (λ k. get_or u.rules.items k false ≡ true) (sym same) flag)) [
        | inl i ↦ none i
        | inr before_here ↦ never number before_here first
      ])))
    where
      number_same : (number n : ℕ) → IsFirstDefinition w s.found file before x number → rule_at w (file + 1) m.placed.module x ≡ Some n → number ≡ n
      number_same number n first at =
          let placed : first.is.of_file.placed ≡ m.placed = same_Some _ _ (sym first.is.of_file.of_files ∙ m.of_files) in
          same_Some _ _ (sym first.is.number_is ∙ ap (λ p. rule_at w (file + 1) p.module x) placed ∙ at)

      never : (number : ℕ) → uses.IsRuleBefore s w file before number → IsFirstDefinition w s.found file before x number → ⊥
      never number (uses.IsRuleBefore.here earlier y later e d) first = first.first_here earlier y later e d
      never number (uses.IsRuleBefore.earlier other others y l d) first = first.first_file other others y l d
  rule_by role m found (IsFlagText.absent past) =
      uses.IsWarningFound.none (rule_none s b w file before x (ap kind role) (λ number rule first here none.
      (let placed : first.is.of_file.placed ≡ m.placed = same_Some _ _ (sym first.is.of_file.of_files ∙ m.of_files) in
      let at : rule_at w (file + 1) m.placed.module x ≡ Some number = sym (ap (λ p. rule_at w (file + 1) p.module x) placed) ∙ first.is.number_is in
      omega (arith, past number at, slice_get_within s.joined.rules number rule here, h.but.rule_flags))))

  pub rule_found : x.role ≡ roles.Rule → (m : Mentions s.found file before x) → (found : Option Text) → found ≡ text_unless_set (flag_at u.rules.items (rule_at w (file + 1) m.placed.module x)) (codes "unreachable rule: " ++ text_of x.name) → Found found
  rule_found role m found e =
      let words = codes "unreachable rule: " ++ text_of x.name in
      rule_by role m found (subst (λ f. IsFlagText u.rules.items (rule_at w (file + 1) m.placed.module x) words f) (sym e) (flag_text u.rules.items (rule_at w (file + 1) m.placed.module x) words))

  -- ---- Levels.

  abbrev if_used : Bool → Text → Option Text
  if_used c name = if c then None else Some (codes "level without use: " ++ name)

  level_by : (rank : ℕ) → x.role ≡ roles.Level rank → (o : Option Text) → name_by w.aliased x.name ≡ o → (found : Option Text) → found ≡ level_text (λ y. contains same u.levels.names y) o → Found found
  level_by rank role None is found e = subst Found (sym e) (uses.IsWarningFound.none (level_none s b w file before x (ap kind role) (λ name has none. (let bad : None ≡ Some name = sym is ∙ has in cc))))
  level_by rank role (Some name) is found e = elim (cases_Bool (contains same u.levels.names name)) [
    | inl known ↦ subst Found (sym (e ∙ ap (λ c. if_used c name) known)) (uses.IsWarningFound.none (level_none s b w file before x (ap kind role) (λ other has none.
        (let equal : other ≡ name = same_Some other name (sym has ∙ is) in none (subst (IsNameCompared s b w) (sym equal) ((h.but.names name).0 known))))))
    | inr unknown ↦ subst Found (sym (e ∙ ap (λ c. if_used c name) unknown)) (uses.IsWarningFound.some (codes "level without use: " ++ name) (warnings.IsWarning.level rank name role is (λ compared. (let bad : false ≡ true = sym unknown ∙ (h.but.names name).1 compared in cc))))
  ]

  pub level_found : (rank : ℕ) → x.role ≡ roles.Level rank → (found : Option Text) → found ≡ level_text (λ y. contains same u.levels.names y) (name_by w.aliased x.name) → Found found
  level_found rank role found e = level_by rank role (name_by w.aliased x.name) refl found e

  -- ---- Names after `%prec`.

  pub prec_found : is_prec x.role ≡ true → (found : Option Text) → IsUnusedPrec u.levels.alternatives.keys (file + 1) u.own.keys x found → Found found
  prec_found role found (uses.IsUnusedPrec.used used) = uses.IsWarningFound.none (prec_none s b w file before x (prec_kind x.role role) (λ none. none (prec_used s b file before x u.levels.alternatives.keys u.own.keys (h.but.alternatives file) h.own used)))
  prec_found role found (uses.IsUnusedPrec.unused none) = uses.IsWarningFound.some _ (warnings.IsWarning.prec role (λ compared. none (prec_compared s b file before x u.levels.alternatives.keys u.own.keys (h.but.alternatives file) h.own compared)))

  -- ---- Actuals of `%on_error_reduce` declarations.

  -- What is known of the actual of a mention.
  record IsKnownActual (rank item declaration : ℕ) (name : Text) : Type 0 where
    declaration_is : declaration ≡ u.declarations_before + rank
    actual : Applied
    at : actual_of s.joined u.declarations_before rank item ≡ Some actual
    name_is : name ≡ text s.joined (term_of actual)

  known_actual : (rank item declaration : ℕ) (name : Text) → x.role ≡ roles.OnError rank item → IsActualAt s file before x declaration name → IsKnownActual rank item declaration name
  known_actual rank item declaration name role a =
      let same : roles.OnError a.rank a.item ≡ roles.OnError rank item = sym a.role_is ∙ role in
      let rank_is : a.rank ≡ rank = cc in
      let item_is : a.item ≡ item = cc in
      let number : declaration ≡ u.declarations_before + rank = a.declaration_is ∙ ap (λ n. n + a.rank) (sym h.but.declarations_are) ∙ ap (λ n. u.declarations_before + n) rank_is in
      record {
        declaration_is = number;
        actual = a.actual;
        at = ap (λ n. option_and_then (λ (actuals : List Applied). slice_get actuals item) (slice_get s.joined.on_error n)) (sym number)
            ∙ ap (option_and_then (λ (actuals : List Applied). slice_get actuals item)) a.of_joined ∙ ap (slice_get a.actuals) (sym item_is) ∙ a.of_declaration;
        name_is = a.name_is;
      }

  -- The actual is one of the joined rules.
  actual_at : (rank item : ℕ) (o : Option (List Applied)) (actual : Applied) → x.role ≡ roles.OnError rank item → ((y : Mention) → Contains before y → y.role ≡ x.role → ⊥) → slice_get s.joined.on_error (u.declarations_before + rank) ≡ o → option_and_then (λ (actuals : List Applied). slice_get actuals item) o ≡ Some actual
      → IsActualAt s file before x (u.declarations_before + rank) (text s.joined (term_of actual))
  actual_at rank item None actual role first here e = cc
  actual_at rank item (Some actuals) actual role first here e = record {
    rank = rank;
    item = item;
    role_is = role;
    first = first;
    declaration_is = ap (λ n. n + rank) h.but.declarations_are;
    actuals = actuals;
    actual = actual;
    of_joined = here;
    of_declaration = e;
    name_is = refl;
  }

  declaration_found : (rank item : ℕ) → x.role ≡ roles.OnError rank item → ((y : Mention) → Contains before y → y.role ≡ x.role → ⊥) → (found : Option Text) → IsUnusedDeclaration s.joined u.declarations.keys u.declarations_before rank item found → Found found
  declaration_found rank item role first found (uses.IsUnusedDeclaration.absent none) = uses.IsWarningFound.none (on_error_none s b w file before x (ap kind role) (λ declaration name at unused.
      (let known = known_actual rank item declaration name role at in let bad : None ≡ Some known.actual = sym none ∙ known.at in cc)))
  declaration_found rank item role first found (uses.IsUnusedDeclaration.used actual at has) = uses.IsWarningFound.none (on_error_none s b w file before x (ap kind role) (λ declaration name a unused.
      (let known = known_actual rank item declaration name role a in
      let same : actual ≡ known.actual = same_Some _ _ (sym at ∙ known.at) in
      unused ((h.but.declarations declaration name).0 (subst (λ d. Contains u.declarations.keys d) (λ i. declared (sym known.declaration_is i) ((ap (λ v. text s.joined (term_of v)) same ∙ sym known.name_is) i)) has)))))
  declaration_found rank item role first found (uses.IsUnusedDeclaration.unused actual at lacks) =
      uses.IsWarningFound.some _ (warnings.IsWarning.on_error (u.declarations_before + rank) (text s.joined (term_of actual)) (actual_at rank item (slice_get s.joined.on_error (u.declarations_before + rank)) actual role first refl at)
      (λ used. lacks ((h.but.declarations (u.declarations_before + rank) (text s.joined (term_of actual))).1 used)))

  pub on_error_found : (rank item : ℕ) → x.role ≡ roles.OnError rank item → (found : Option Text) → IsActualWarning s.joined u.declarations.keys u.declarations_before u.actuals.keys (record { rank = rank; item = item }) found → Found found
  on_error_found rank item role found (uses.IsActualWarning.again has) = uses.IsWarningFound.none (on_error_none s b w file before x (ap kind role) (λ declaration name at unused.
      has (λ seen. (let one = (h.actuals rank item).0 seen in at.first one.0 one.1 (one.2 ∙ sym role)))))
  on_error_found rank item role found (uses.IsActualWarning.first text lacks is) = declaration_found rank item role (λ y c e. lacks ((h.actuals rank item).1 (y, c, e ∙ role))) found is

  -- ---- Other mentions.

  pub other_found : kind x.role ≡ 5 → Found None
  other_found k = uses.IsWarningFound.none (other_none s b w file before x k)
