-- What the names are used for before the first file, by the flags and sets that the code collects.
use Rattle.std.proofs.Common.{◌≡◌, ◌↔◌, ◌⊎◌, ℕ, ◌+◌, Bool, true, false, List, [], ◌∷◌, Option, Some, length, get_or, drop, arith, refl, sym, ap, subst, ◌∙◌, inl, inr}
use Rattle.std.specs.List.{Contains, slice_get}
use Rattle.std.specs.HashMap.{get}
use Rattle.std.specs.HashSet.{contains}
use Rattle.std.specs.Option.{option_map}
use Rattle.std.proofs.lemmas.List.{get_or-drop}
use Rattle.std.proofs.lemmas.List.Elements.{Contains-append_right}
use Rattle.std.proofs.lemmas.Option.{same_Some, slice_get-get_or, slice_get-map}
use Rattle.mh_grammar.specs.Text.{Text}
use Rattle.mh_grammar.specs.declared.types.Grammar.{Grammar}
use Rattle.mh_grammar.proofs.Lists.{contains_here, contains_none, option_map_some}
use Rattle.mh_inline.specs.Inlined.{IsInlined}
use Rattle.mh_inline.proofs.UniqueGrammar.{one_grammar}
use Rattle.mh_join_names.specs.Names.{name_by, same}
use Rattle.mh_join_names.specs.Faults.{Meanings}
use Rattle.mh_join_names.specs.code.SymbolTables.{meanings_in}
use Rattle.mh_join_names.specs.declared.names.SymbolTables.{SymbolTables}
use Rattle.mh_rules.specs.declared.joined.JoinedRule.{JoinedRule}
use Rattle.mh_reader_places.specs.declared.mentions.Mention.{Mention}
use Rattle.mh_reader_places.specs.declared.reading.PlacedModule.{PlacedModule}
use Rattle.mh_lint_faults.specs.Stages.{Mentions, Stages}
use Rattle.mh_lint_faults.specs.code.ReadFiles.{IsSplit}
use Rattle.mh_lint_faults.specs.declared.front.AcceptedFiles.{AcceptedFiles}
use Rattle.mh_lint_faults.specs.declared.reading.ReadFiles.{ReadFiles}
use Rattle.mh_lint_states.specs.code.Marks.{AreMarked}
use Rattle.mh_lint_states.specs.code.ShownStates.{IsShown}
use Rattle.mh_lint_states.specs.declared.all_states.ShownByStates.{ShownByStates}
use Rattle.mh_lint.specs.Built.{Built}
use Rattle.mh_lint.specs.LevelSources.{HasSource, sources_in, with_sources}
use Rattle.mh_lint.specs.MentionWarnings.{IsAlternativeCompared, IsDeclarationUsed, IsNameCompared, IsNamedByPrec, ordinary}
use Rattle.mh_lint.specs.MentionWarnings as warnings
use Rattle.mh_lint.specs.Uses.{HasInstance, IsTokenUsed}
use Rattle.mh_lint.specs.code.Declarations.{IsUsedDeclaration, declared}
use Rattle.mh_lint.specs.code.LevelUses.{AreUsedLevels, IsMarkedSource, IsNameUsed, IsPrecSource, IsUsedPrecName}
use Rattle.mh_lint.specs.code.LevelUses as levels
use Rattle.mh_lint.specs.code.MentionUses.{AreUsesBut, Checked, IsRuleBefore, IsShownBy, IsTokenBefore}
use Rattle.mh_lint.specs.code.MentionUses as uses
use Rattle.mh_lint.specs.code.Uses.{ArePrecNames, AreUsedRules, HasPlace, IsTokenInUse}
use Rattle.mh_lint.specs.declared.levels.UsedLevels.{UsedLevels}
use Rattle.mh_lint.specs.declared.sources.LevelSource.{LevelSource}
use Rattle.mh_lint.specs.declared.sources.LevelSource.TheVariants as sources
use Rattle.mh_lint.specs.declared.warning_walk.Uses.{Uses}
use Rattle.mh_lint.proofs.ChangesUses.{token_name}
use Rattle.mh_lint.proofs.HasOwnPrecs.{some_own}
use Rattle.mh_lint.proofs.IsBeforeFile.{flag_set, set_flag}
use Rattle.mh_lint.proofs.PrecsCompared.{prec_compared, prec_used}

-- The mentions of a file that was read, as a list and as those of the module.
mentions_read : (found : List PlacedModule) (read : ReadFiles) → IsSplit found read → (n : ℕ) (p : PlacedModule) → slice_get found n ≡ Some p → slice_get read.mentions.items n ≡ Some p.mentions
mentions_read found read split n p at = ap (λ ys. slice_get ys n) split.mentions ∙ slice_get-map (λ (q : PlacedModule). q.mentions) found n ∙ ap (option_map (λ (q : PlacedModule). q.mentions)) at

read_mentions : (found : List PlacedModule) (read : ReadFiles) → IsSplit found read → (n : ℕ) (ms : List Mention) → slice_get read.mentions.items n ≡ Some ms → (p : PlacedModule) × (slice_get found n ≡ Some p) × (p.mentions ≡ ms)
read_mentions found read split n ms at = option_map_some (λ (q : PlacedModule). q.mentions) (slice_get found n) ms (sym (slice_get-map (λ (q : PlacedModule). q.mentions) found n) ∙ sym (ap (λ ys. slice_get ys n) split.mentions) ∙ at)

module _ (s : Stages) (b : Built) (names : SymbolTables) (read : ReadFiles) (split : IsSplit s.found read) where
  abbrev W : Meanings
  W = meanings_in names

  abbrev aliased : Text → Option Text
  aliased a = get same names.aliases a

  -- ---- Tokens.

  none_before : (name : Text) → IsTokenBefore s 0 [] name → ⊥
  none_before name (uses.IsTokenBefore.here y c role is) = contains_none y c
  none_before name (uses.IsTokenBefore.earlier other others y l m role is) = omega (arith, l)

  named_to : (name : Text) → ArePrecNames aliased s.found name → IsNamedByPrec W s.found name
  named_to name (file, before, x, m, named) = record { file = file; before = before; mention = x; of_file = m; role_is = named.0; name_is = named.1 }

  named_from : (name : Text) → IsNamedByPrec W s.found name → ArePrecNames aliased s.found name
  named_from name h = (h.file, h.before, h.mention, h.of_file, (h.role_is, h.name_is))

  pub tokens_first : (used : List Bool) → AreMarked (IsTokenInUse s.joined names.tokens.keys aliased s.found) used
      → (z : ℕ) (name : Text) → W.numbers.token name ≡ Some z → (get_or used z false ≡ true) ↔ (IsTokenUsed s.joined z ⊎ (IsNamedByPrec W s.found name ⊎ IsTokenBefore s 0 [] name))
  tokens_first used h z name is = (to, from)
    where
      here : slice_get names.tokens.keys z ≡ Some name
      here = let p = token_name names W refl name z is in slice_get-get_or names.tokens.keys z [] p.0 ∙ ap Some (sym p.1)

      to : get_or used z false ≡ true → IsTokenUsed s.joined z ⊎ (IsNamedByPrec W s.found name ⊎ IsTokenBefore s 0 [] name)
      to e = elim ((h z).0 e) [
        | inl t ↦ inl t
        | inr one ↦ inr (inl (named_to name (subst (λ x. ArePrecNames aliased s.found x) (same_Some one.0 name (sym one.1 ∙ here)) one.2)))
      ]

      from : IsTokenUsed s.joined z ⊎ (IsNamedByPrec W s.found name ⊎ IsTokenBefore s 0 [] name) → get_or used z false ≡ true
      from (inl t) = (h z).1 (inl t)
      from (inr (inl p)) = (h z).1 (inr (name, here, named_from name p))
      from (inr (inr d)) = absurd (none_before name d)

  -- ---- Rules.

  none_defined : (w : Meanings) (n : ℕ) → IsRuleBefore s w 0 [] n → ⊥
  none_defined w n (uses.IsRuleBefore.here earlier y later e d) = contains_none y (subst (λ ms. Contains ms y) (sym e) (Contains-append_right earlier (y ∷ later) y (contains_here y later)))
  none_defined w n (uses.IsRuleBefore.earlier other others y l d) = omega (arith, l)

  pub rules_first : (used : List Bool) → AreUsedRules s.joined s.expanded used → (n : ℕ) (r : JoinedRule) → slice_get s.joined.rules n ≡ Some r → (get_or used n false ≡ true) ↔ (HasInstance s.expanded r ⊎ IsRuleBefore s W 0 [] n)
  rules_first used h n r at = (
    λ e. inl ((h.each n r at).0 (set_flag used n e)),
    λ e. elim e [ inl i ↦ flag_set used n ((h.each n r at).1 i) | inr d ↦ absurd (none_defined W n d) ],
  )

  -- ---- Declarations.

  module _ (shown : ShownByStates) (is_shown : IsShown s.grammar b.automaton b.table shown) where
    pub declarations_first : (n : ℕ) (name : Text) → IsUsedDeclaration s.grammar shown.on_errors.items n name ↔ IsDeclarationUsed s b n name
    declarations_first n name = (
      λ h. record { number = h.number; info = h.info; of_grammar = h.of_grammar; name_is = h.name_is; rank_is = h.rank_is; reduced = (is_shown.on_errors h.number).0 (flag_set shown.on_errors.items h.number h.is_reduced) },
      λ h. record { number = h.number; info = h.info; of_grammar = h.of_grammar; name_is = h.name_is; rank_is = h.rank_is; is_reduced = set_flag shown.on_errors.items h.number ((is_shown.on_errors h.number).1 h.reduced) },
    )

    -- ---- Levels.

    module _ (all : List LevelSource) (g : Grammar) (inlined : IsInlined (with_sources s.expanded) g) (all_is : all ≡ sources_in g) where
      abbrev ordinary_flags : List Bool
      ordinary_flags = drop (length s.grammar.starts) shown.compared.productions.items

      -- A production that is compared, by its flag.
      flag_at : (p : ℕ) → slice_get ordinary_flags p ≡ Some true → get_or shown.compared.productions.items (ordinary s p) false ≡ true
      flag_at p e = sym (get_or-drop (length s.grammar.starts) shown.compared.productions.items p false) ∙ flag_set ordinary_flags p e

      at_flag : (p : ℕ) → get_or shown.compared.productions.items (ordinary s p) false ≡ true → slice_get ordinary_flags p ≡ Some true
      at_flag p e = set_flag ordinary_flags p (get_or-drop (length s.grammar.starts) shown.compared.productions.items p false ∙ e)

      source_of : (p : ℕ) (source : LevelSource) → slice_get all p ≡ Some source → HasSource s.expanded p source
      source_of p source at = record { grammar = g; inlined = inlined; is = ap (λ xs. slice_get xs p) (sym all_is) ∙ at }

      of_source : (p : ℕ) (source : LevelSource) → HasSource s.expanded p source → slice_get all p ≡ Some source
      of_source p source h = ap (λ xs. slice_get xs p) all_is ∙ ap (λ (v : Grammar). slice_get (sources_in v) p) (one_grammar (with_sources s.expanded) g h.grammar inlined h.inlined) ∙ h.is

      abbrev Marked : LevelSource → Type 0
      Marked source = IsMarkedSource all ordinary_flags source

      compared_source : (source : LevelSource) → Marked source → (p : ℕ) × (get_or shown.compared.productions.items (ordinary s p) false ≡ true) × HasSource s.expanded p source
      compared_source source m = (m.0, flag_at m.0 m.1, source_of m.0 source m.2)

      source_compared : (source : LevelSource) (p : ℕ) → get_or shown.compared.productions.items (ordinary s p) false ≡ true → HasSource s.expanded p source → Marked source
      source_compared source p e h = (p, at_flag p e, of_source p source h)

      module _ (used : UsedLevels) (are : AreUsedLevels names.tokens.keys aliased read all shown.compared.tokens.items ordinary_flags used) where
        pub alternatives_first : (k n : ℕ) → HasPlace used.alternatives.keys (k + 1) n ↔ IsAlternativeCompared s b k n
        alternatives_first k n = (to, from)
          where
            to : HasPlace used.alternatives.keys (k + 1) n → IsAlternativeCompared s b k n
            to h =
                let one = (are.alternatives (k + 1) n).0 h in
                let c = compared_source one.0 one.1 in
                record { production = c.0; compared = (is_shown.productions (ordinary s c.0)).0 c.1; source = subst (HasSource s.expanded c.0) one.2 c.2 }

            from : IsAlternativeCompared s b k n → HasPlace used.alternatives.keys (k + 1) n
            from h = (are.alternatives (k + 1) n).1 (sources.Prec (k + 1) n, source_compared (sources.Prec (k + 1) n) h.production ((is_shown.productions (ordinary s h.production)).1 h.compared) h.source, refl)

        abbrev Used : Text → Type 0
        Used x = IsNameUsed names.tokens.keys aliased read all shown.compared.tokens.items ordinary_flags used.alternatives.keys x

        named_compared : (x : Text) → Used x → IsNameCompared s b W x
        named_compared x (levels.IsNameUsed.of_token marked) = warnings.IsNameCompared.of_token marked.0 ((is_shown.tokens marked.0).0 (flag_set shown.compared.tokens.items marked.0 marked.1)) marked.2
        named_compared x (levels.IsNameUsed.of_source source marked is) =
            let c = compared_source source marked in
            warnings.IsNameCompared.of_last_token c.0 is.0 ((is_shown.productions (ordinary s c.0)).0 c.1) (subst (HasSource s.expanded c.0) is.1 c.2) is.2
        named_compared x (levels.IsNameUsed.of_prec at mentions is u) =
            let p = read_mentions s.found read split at mentions is in
            warnings.IsNameCompared.of_prec at u.before u.mention (record { placed = p.0; after = u.after; of_files = p.1; split = p.2 ∙ u.split })
            (prec_used s b at u.before u.mention used.alternatives.keys u.own (alternatives_first at) u.own_are u.used) u.name_is

        prec_named : (file : ℕ) (before : List Mention) (x : Mention) (name : Text) → Mentions s.found file before x → warnings.IsPrecCompared s b file before x → name_by aliased x.name ≡ Some name → Used name
        prec_named file before x name m compared is =
            let own = some_own before in
            levels.IsNameUsed.of_prec file m.placed.mentions (mentions_read s.found read split file m.placed m.of_files) (record {
              before = before;
              mention = x;
              after = m.after;
              own = own.0;
              split = m.split;
              own_are = own.1;
              used = prec_compared s b file before x used.alternatives.keys own.0 (alternatives_first file) own.1 compared;
              name_is = is;
            })

        compared_named : (x : Text) → IsNameCompared s b W x → Used x
        compared_named x (warnings.IsNameCompared.of_token z compared at) = levels.IsNameUsed.of_token (z, set_flag shown.compared.tokens.items z ((is_shown.tokens z).1 compared), at)
        compared_named x (warnings.IsNameCompared.of_last_token p z compared h at) = levels.IsNameUsed.of_source (sources.Token z) (source_compared (sources.Token z) p ((is_shown.productions (ordinary s p)).1 compared) h) (z, refl, at)
        compared_named x (warnings.IsNameCompared.of_prec file before y m compared is) = prec_named file before y x m compared is

        pub names_first : (x : Text) → (contains same used.names x ≡ true) ↔ IsNameCompared s b W x
        names_first x = (λ e. named_compared x ((are.names x).0 e), λ c. (are.names x).1 (compared_named x c))

-- ---- All uses.

-- What the code collects for the first file.
pub record AreCollected (files : AcceptedFiles) (g : Grammar) (shown : ShownByStates) (found : List PlacedModule) (u : Uses) : Type 0 where
  pub all : List LevelSource
  pub flags : length u.tokens.items ≡ length files.names.tokens.keys
  pub tokens : AreMarked (IsTokenInUse files.joined files.names.tokens.keys (λ a. get same files.names.aliases a) found) u.tokens.items
  pub rules : AreUsedRules files.joined files.expanded u.rules.items
  pub sources : (v : Grammar) × IsInlined (with_sources files.expanded) v × (all ≡ sources_in v)
  pub levels : AreUsedLevels files.names.tokens.keys (λ a. get same files.names.aliases a) files.read all shown.compared.tokens.items (drop (length g.starts) shown.compared.productions.items) u.levels
  pub declarations : (n : ℕ) (name : Text) → Contains u.declarations.keys (declared n name) ↔ IsUsedDeclaration g shown.on_errors.items n name
  pub count : u.declarations_before ≡ 0

module _ (c : Checked) (files : AcceptedFiles) (g : Grammar) (shown : ShownByStates) (u : Uses) (by : IsShownBy c files g shown) (h : AreCollected files g shown c.stages.found u) where
  abbrev s : Stages
  s = c.stages

  abbrev b : Built
  b = c.built

  abbrev aliases : Text → Option Text
  aliases a = get same files.names.aliases a

  split_is : IsSplit s.found files.read
  split_is = by.stages.read

  shown_is : IsShown s.grammar b.automaton b.table shown
  shown_is = subst (λ v. IsShown v b.automaton b.table shown) (sym by.grammar_is) by.is_shown

  inlined_is : (v : Grammar) × IsInlined (with_sources s.expanded) v × (h.all ≡ sources_in v)
  inlined_is = subst (λ e. (v : Grammar) × IsInlined (with_sources e) v × (h.all ≡ sources_in v)) by.stages.expanded h.sources

  levels_are : AreUsedLevels files.names.tokens.keys aliases files.read h.all shown.compared.tokens.items (drop (length s.grammar.starts) shown.compared.productions.items) u.levels
  levels_are = subst (λ (v : Grammar). AreUsedLevels files.names.tokens.keys aliases files.read h.all shown.compared.tokens.items (drop (length v.starts) shown.compared.productions.items) u.levels) (sym by.grammar_is) h.levels

  tokens_are : AreMarked (IsTokenInUse s.joined files.names.tokens.keys aliases s.found) u.tokens.items
  tokens_are = subst (λ j. AreMarked (IsTokenInUse j files.names.tokens.keys aliases s.found) u.tokens.items) by.stages.joined h.tokens

  rules_are : AreUsedRules s.joined s.expanded u.rules.items
  rules_are = subst (λ e. AreUsedRules s.joined e u.rules.items) by.stages.expanded (subst (λ j. AreUsedRules j files.expanded u.rules.items) by.stages.joined h.rules)

  declared_first : (n : ℕ) (name : Text) → Contains u.declarations.keys (declared n name) ↔ IsDeclarationUsed s b n name
  declared_first n name =
      let here = subst (λ (v : Grammar). Contains u.declarations.keys (declared n name) ↔ IsUsedDeclaration v shown.on_errors.items n name) (sym by.grammar_is) (h.declarations n name) in
      let known = declarations_first s b files.names files.read split_is shown shown_is n name in
      (λ e. known.0 (here.0 e), λ e. here.1 (known.1 e))

  collected : AreUsesBut s b (meanings_in files.names) 0 [] u
  collected = record {
    token_flags = h.flags;
    tokens = tokens_first s b files.names files.read split_is u.tokens.items tokens_are;
    rule_flags = rules_are.len;
    rules = rules_first s b files.names files.read split_is u.rules.items rules_are;
    names = names_first s b files.names files.read split_is shown shown_is h.all inlined_is.0 inlined_is.1 inlined_is.2 u.levels levels_are;
    alternatives = alternatives_first s b files.names files.read split_is shown shown_is h.all inlined_is.0 inlined_is.1 inlined_is.2 u.levels levels_are;
    declarations = declared_first;
    declarations_are = h.count;
  }

  pub first_uses : AreUsesBut s b c.meanings 0 [] u
  first_uses = subst (λ w. AreUsesBut s b w 0 [] u) by.stages.names collected
