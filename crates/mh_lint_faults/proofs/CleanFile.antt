-- If no mention of a file has a fault, then joining finds none in the file.
use Rattle.std.proofs.Common.{◌≡◌, ℕ, suc, ◌+◌, ◌-◌, ◌||◌, Bool, true, false, List, [], ◌∷◌, ◌++◌, Option, Some, length, take, map, flat_map, refl, sym, ap, subst, ◌∙◌, arith, append_assoc}
use Rattle.std.specs.Prelude.{not, if◌then◌else◌}
use Rattle.std.specs.List.{enumerate_from, list_any, slice_get}
use Rattle.std.proofs.lemmas.List.{append-nil, length-append, length-map, take_at}
use Rattle.std.proofs.lemmas.List.Concat.{flat_map-append}
use Rattle.std.proofs.lemmas.Option.{slice_get_within}
use Rattle.mh_grammar.specs.Text.{Text}
use Rattle.mh_grammar.proofs.Lists.{get_after_prefix, nil_parts}
use Rattle.mh_join_names.proofs.Lists.{enumerate-push}
use Rattle.mh_lex.specs.declared.kinds.Lexeme.{Lexeme}
use Rattle.mh_rules.specs.declared.modules.Alternative.{Alternative}
use Rattle.mh_rules.specs.declared.modules.Module.{Module}
use Rattle.mh_rules.specs.declared.modules.Ref.{Ref}
use Rattle.mh_rules.specs.declared.modules.Ref.TheVariants.{Plain}
use Rattle.mh_rules.specs.declared.modules.Rule.{Rule}
use Rattle.mh_join_names.specs.Names.{formal_number, is_public, same}
use Rattle.mh_join_names.specs.Faults.{Meanings, levels_in_declaration, meant_by, other_kind, other_shape, own_name, own_names, repeats, undefined_in_level, undefined_in_on_error, undefined_start, unless}
use Rattle.mh_join_names.specs.declared.fault.JoinFault.{JoinFault}
use Rattle.mh_join_names.specs.declared.fault.JoinFault.TheVariants as faults
use Rattle.mh_join_names.specs.declared.kinds.NameKind.TheVariants as kinds
use Rattle.mh_reader_parser.specs.Spelling as spelling
use Rattle.mh_reader_parser.specs.Spelling.{Declaration, File, Formals, Groups, IsPrec, IsRule, OptionalFormals, Rules, with_prec}
use Rattle.mh_reader_parser.specs.TokenKinds.{FileToken}
use Rattle.mh_reader_places.specs.Mentions.{in_declaration, in_file, in_formals, in_groups, in_on_error, in_optional_formals, in_prec, in_productions, in_ref, in_rule, in_rules, in_start, in_token, named}
use Rattle.mh_reader_places.specs.Places.{mention_of}
use Rattle.mh_reader_places.specs.declared.mentions.Mention.{Mention}
use Rattle.mh_reader_places.specs.declared.mentions.Role.TheVariants as roles
use Rattle.mh_lint_faults.specs.NameFaults.{formals_after, formals_at, formals_of, private_again, rule_faults, rule_numbered, rules_in}
use Rattle.mh_lint_faults.proofs.CleanMentions.{Clean, after_both, after_none, after_one, clean_both, clean_first, clean_rest, list_clean, nil_both, nil_push, placed}
use Rattle.mh_lint_faults.proofs.CleanModule.{IsAt, IsKnown, alternative_faults, at_role, group_given, group_none, level_clean, level_faults, levels_push, on_error_clean, own_kept, productions_clean, repeats_append, start_clean, token_clean, token_faults, unless_true}
use Rattle.mh_lint_faults.proofs.MentionSteps.{formals_step, rules_step}

-- A list of faults without its first is empty if the list is.
take_nil : {X : Type 0} (xs : List X) → take 1 xs ≡ [] → xs ≡ []
take_nil [] e = refl
take_nil (x ∷ xs) e = cc

-- No name of a private rule is that of another private rule, if it is that of no rule.
own_apart : (test : Text → Bool) (x : Text) (rs : List Rule) → list_any (λ (q : Rule). same x q.name) rs ≡ false → list_any (same x) (own_names test rs) ≡ false
own_apart test x [] e = refl
own_apart test x (r ∷ rs) e = by_case (test r.name) (same x r.name) refl refl (own_apart test x rs)
  where
    by_case : (p s : Bool) → test r.name ≡ p → same x r.name ≡ s → (list_any (λ (q : Rule). same x q.name) rs ≡ false → list_any (same x) (own_names test rs) ≡ false) → list_any (same x) (own_names test (r ∷ rs)) ≡ false
    by_case p true f g rest = let bad : true ≡ false = sym (ap (λ b. b || list_any (λ (q : Rule). same x q.name) rs) g) ∙ e in cc
    by_case true false f g rest = ap (λ p. list_any (same x) ((if p then [] else r.name ∷ []) ++ own_names test rs)) f ∙ rest (sym (ap (λ b. b || list_any (λ (q : Rule). same x q.name) rs) g) ∙ e)
    by_case false false f g rest =
        ap (λ p. list_any (same x) ((if p then [] else r.name ∷ []) ++ own_names test rs)) f ∙ ap (λ b. b || list_any (same x) (own_names test rs)) g
        ∙ rest (sym (ap (λ b. b || list_any (λ (q : Rule). same x q.name) rs) g) ∙ e)

not_is : (b : Bool) → not b ≡ true → b ≡ false
not_is true e = let bad : false ≡ true = e in cc
not_is false e = refl

module _ (w : Meanings) (k : ℕ) (m : Module) (ls : List Lexeme) where
  -- ---- Groups of alternatives.

  module _ (i : ℕ) (formals : List Text) (formals_are : (before : List Mention) → rules_in before ≡ i → formals_at m before ≡ formals) where
    -- The first alternative of a group.
    no_alternative : (a : ℕ) (before : List Mention) → IsAt w k m ls a i before → IsKnown w k m ls i formals formals_are a before []
    no_alternative a before h = record { rules = h.rules; free = λ n l. h.free n (omega (arith, l)); clean = refl; none = λ j b at is. absurd (omega (arith, slice_get_within [] j b at)) }

    after_group : (a : ℕ) (before : List Mention) (ks : List Alternative) → IsKnown w k m ls i formals formals_are a before ks → IsAt w k m ls (a + length ks) i before
    after_group a before ks h = record { rules = h.rules; free = h.free }

    group_prec : (a : ℕ) {xs rest : List FileToken} {g : Option Ref} (ks : List Alternative) (s : IsPrec xs rest g) (before : List Mention) → IsKnown w k m ls i formals formals_are a before ks → Clean w k m ls before (placed w k m ls (in_prec (roles.GroupPrec a (a + length ks - 1)) s))
        → (flat_map (alternative_faults w k m ls formals) (map (with_prec g) ks) ≡ []) × IsAt w k m ls (a + length ks) i (before ++ placed w k m ls (in_prec (roles.GroupPrec a (a + length ks - 1)) s))
    group_prec a ks spelling.IsPrec.absent before h clean = (group_none w k m ls i formals formals_are a before ks h, after_none w k m ls (IsAt w k m ls (a + length ks) i) before (after_group a before ks h))
    group_prec a ks (spelling.IsPrec.given {y = y} {xs = xs} {r = r} is of) before h clean =
        let x = mention_of ls (named (y ∷ xs) (roles.GroupPrec a (a + length ks - 1)) r) in
        (group_given w k m ls i formals formals_are a before ks r h (clean_first w k m ls before x [] clean), at_role w k m ls (a + length ks) i before x (roles.GroupPrec a (a + length ks - 1)) refl (λ n. refl) (λ n. refl) (after_group a before ks h))

    groups_clean : (c a : ℕ) {done all : List Alternative} {xs rest : List FileToken} (d : Groups done xs rest all) (before : List Mention) → a ≡ c + length done → IsAt w k m ls a i before → Clean w k m ls before (placed w k m ls (in_groups a d)) → flat_map (alternative_faults w k m ls formals) done ≡ []
        → (flat_map (alternative_faults w k m ls formals) all ≡ []) × IsAt w k m ls (c + length all) i (before ++ placed w k m ls (in_groups a d))
    groups_clean c a {done = done} (spelling.Groups.last {ks = ks} {g = g} productions prec) before number h clean e =
        let parts = clean_both w k m ls before (in_productions a productions) (in_prec (roles.GroupPrec a (a + length ks - 1)) prec) clean in
        let known = productions_clean w k m ls i formals formals_are a a productions before (omega arith) (no_alternative a before h) parts.0 in
        let group = group_prec a ks prec (before ++ placed w k m ls (in_productions a productions)) known parts.1 in
        let total : a + length ks ≡ c + length (done ++ map (with_prec g) ks) = omega (arith, number, length-append done (map (with_prec g) ks), length-map ks (with_prec g)) in (
          flat_map-append (alternative_faults w k m ls formals) done (map (with_prec g) ks) ∙ nil_both (flat_map (alternative_faults w k m ls formals) done) _ e group.0,
          subst (λ n. IsAt w k m ls n i (before ++ placed w k m ls (in_productions a productions ++ in_prec (roles.GroupPrec a (a + length ks - 1)) prec))) total
              (after_both w k m ls (IsAt w k m ls (a + length ks) i) before (in_productions a productions) (in_prec (roles.GroupPrec a (a + length ks - 1)) prec) group.1),
        )
    groups_clean c a {done = done} (spelling.Groups.more {ks = ks} {all = all} {g = g} productions prec bar rest) before number h clean e =
        let alternatives = in_productions a productions in
        let own = in_prec (roles.GroupPrec a (a + length ks - 1)) prec in
        let parts = clean_both w k m ls before (alternatives ++ own) (in_groups (a + length ks) rest) clean in
        let first = clean_both w k m ls before alternatives own parts.0 in
        let known = productions_clean w k m ls i formals formals_are a a productions before (omega arith) (no_alternative a before h) first.0 in
        let group = group_prec a ks prec (before ++ placed w k m ls alternatives) known first.1 in
        let next = after_both w k m ls (IsAt w k m ls (a + length ks) i) before alternatives own group.1 in
        let total : a + length ks ≡ c + length (done ++ map (with_prec g) ks) = omega (arith, number, length-append done (map (with_prec g) ks), length-map ks (with_prec g)) in
        let later = groups_clean c (a + length ks) rest (before ++ placed w k m ls (alternatives ++ own)) total next parts.1
        (flat_map-append (alternative_faults w k m ls formals) done (map (with_prec g) ks) ∙ nil_both (flat_map (alternative_faults w k m ls formals) done) _ e group.0) in (
          later.0,
          after_both w k m ls (IsAt w k m ls (c + length all) i) before (alternatives ++ own) (in_groups (a + length ks) rest) later.1,
        )

  -- ---- Rules.

  -- The formals so far.
  formals_clean : (a i : ℕ) {done all : List Text} {xs rest : List FileToken} (d : Formals done xs rest all) (before : List Mention) → IsAt w k m ls a i before → formals_after before ≡ done → Clean w k m ls before (placed w k m ls (in_formals d)) → repeats [] done ≡ []
      → (repeats [] all ≡ []) × IsAt w k m ls a i (before ++ placed w k m ls (in_formals d))
  formals_clean a i {done = done} (spelling.Formals.last {x = x} {y = y} {xs = xs} word close) before h are clean e =
      let z = mention_of ls (named (x ∷ y ∷ xs) roles.Formal (Plain x.text)) in
      let new = ap (λ fs. unless (not (list_any (same x.text) fs)) (faults.Duplicate x.text)) (sym are) ∙ clean_first w k m ls before z [] clean in (
        repeats_append [] done (x.text ∷ []) ∙ nil_both (repeats [] done) (unless (not (list_any (same x.text) done)) (faults.Duplicate x.text) ++ []) e (append-nil (unless (not (list_any (same x.text) done)) (faults.Duplicate x.text)) ∙ new),
        at_role w k m ls a i before z roles.Formal refl (λ n. refl) (λ n. refl) h,
      )
  formals_clean a i {done = done} (spelling.Formals.more {x = x} {y = y} {xs = xs} word comma rest) before h are clean e =
      let one = named (x ∷ y ∷ xs) roles.Formal (Plain x.text) in
      let z = mention_of ls one in
      let new = ap (λ fs. unless (not (list_any (same x.text) fs)) (faults.Duplicate x.text)) (sym are) ∙ clean_first w k m ls before z (placed w k m ls (in_formals rest)) clean in
      let next = repeats_append [] done (x.text ∷ []) ∙ nil_both (repeats [] done) (unless (not (list_any (same x.text) done)) (faults.Duplicate x.text) ++ []) e (append-nil (unless (not (list_any (same x.text) done)) (faults.Duplicate x.text)) ∙ new) in
      let later = formals_clean a i rest (before ++ z ∷ []) (at_role w k m ls a i before z roles.Formal refl (λ n. refl) (λ n. refl) h) (formals_step before z ∙ ap (λ fs. fs ++ x.text ∷ []) are) (clean_rest w k m ls before z (placed w k m ls (in_formals rest)) clean) next in
      (later.0, after_one w k m ls (IsAt w k m ls a i) before one (in_formals rest) later.1)

  optional_clean : (a i : ℕ) {all : List Text} {xs rest : List FileToken} (d : OptionalFormals [] xs rest all) (before : List Mention) → IsAt w k m ls a i before → formals_after before ≡ [] → Clean w k m ls before (placed w k m ls (in_optional_formals d)) → (repeats [] all ≡ []) × IsAt w k m ls a i (before ++ placed w k m ls (in_optional_formals d))
  optional_clean a i spelling.OptionalFormals.absent before h are clean = (refl, after_none w k m ls (IsAt w k m ls a i) before h)
  optional_clean a i (spelling.OptionalFormals.empty bracket close) before h are clean = (refl, after_none w k m ls (IsAt w k m ls a i) before h)
  optional_clean a i (spelling.OptionalFormals.given bracket formals) before h are clean = formals_clean a i formals before h are clean refl

  -- The faults of a rule, but for the private rules before.
  abbrev pub rule_list : Rule → List JoinFault
  rule_list r = other_kind w kinds.Rule r.name ++ (repeats [] r.formals ++ (other_shape w (is_public w.starts m.rules) r ++ flat_map (alternative_faults w k m ls r.formals) r.alternatives))

  -- What is known after a rule.
  record IsRuleClean (a i : ℕ) (r : Rule) (after : List Mention) : Type 0 where
    each : rule_list r ≡ []
    private : private_again w m i r.name ≡ []
    next : IsAt w k m ls (a + length r.alternatives) (suc i) after

  rule_clean : (a i : ℕ) {xs rest : List FileToken} {r : Rule} (d : IsRule xs rest r) (before : List Mention) → slice_get m.rules i ≡ Some r → IsAt w k m ls a i before → Clean w k m ls before (placed w k m ls (in_rule a d)) → IsRuleClean a i r (before ++ placed w k m ls (in_rule a d))
  rule_clean a i {r = r} (spelling.IsRule.rule {x = x} {named = later} {fs = fs} {ks = ks} modifiers word formals colon bar groups semicolons) before at h clean =
      let one = named (x ∷ later) roles.Rule (Plain x.text) in
      let y = mention_of ls one in
      let kind = other_kind w kinds.Rule r.name in
      let private = private_again w m i r.name in
      let shape = other_shape w (is_public w.starts m.rules) r in
      let found : rule_faults w m i (Some r) ≡ [] = sym (ap (rule_faults w m i) at) ∙ ap (λ n. rule_faults w m n (slice_get m.rules n)) (sym h.rules) ∙ clean_first w k m ls before y (placed w k m ls (in_optional_formals formals ++ in_groups a groups)) clean in
      let parts = nil_parts (kind ++ private) shape (take_nil ((kind ++ private) ++ shape) found) in
      let names = nil_parts kind private parts.0 in
      let inside : IsAt w k m ls a (suc i) (before ++ y ∷ []) = record {
        rules = rules_step before y ∙ ap suc h.rules;
        free = λ n l. own_kept w k m ls before y n refl ∙ h.free n l;
      } in
      let rest = clean_both w k m ls (before ++ y ∷ []) (in_optional_formals formals) (in_groups a groups) (clean_rest w k m ls before y (placed w k m ls (in_optional_formals formals ++ in_groups a groups)) clean) in
      let given = optional_clean a (suc i) formals (before ++ y ∷ []) inside (formals_step before y) rest.0 in
      let body = groups_clean (suc i) fs (λ b e. ap (λ n. formals_of (rule_numbered m.rules n)) e ∙ ap formals_of at) a a groups ((before ++ y ∷ []) ++ placed w k m ls (in_optional_formals formals)) (omega arith) given.1 rest.1 refl in
      record {
        each = nil_both kind _ names.0 (nil_both (repeats [] fs) _ given.0 (nil_both shape _ parts.1 body.0));
        private = names.1;
        next = after_one w k m ls (IsAt w k m ls (a + length ks) (suc i)) before one (in_optional_formals formals ++ in_groups a groups) (after_both w k m ls (IsAt w k m ls (a + length ks) (suc i)) (before ++ y ∷ []) (in_optional_formals formals) (in_groups a groups) body.1);
      }

  -- No fault in these rules.
  pub record AreRulesClean (rs : List Rule) : Type 0 where
    pub each : flat_map rule_list rs ≡ []
    pub own : repeats [] (own_names (is_public w.starts m.rules) rs) ≡ []

  own_push : (rs : List Rule) (r : Rule) (i : ℕ) → take i m.rules ≡ rs → private_again w m i r.name ≡ [] → repeats [] (own_names (is_public w.starts m.rules) rs) ≡ [] → repeats [] (own_names (is_public w.starts m.rules) (rs ++ r ∷ [])) ≡ []
  own_push rs r i before private e =
      ap (repeats []) (flat_map-append (own_name (is_public w.starts m.rules)) rs (r ∷ [])) ∙ repeats_append [] (own_names (is_public w.starts m.rules) rs) (own_name (is_public w.starts m.rules) r ++ [])
      ∙ nil_both (repeats [] (own_names (is_public w.starts m.rules) rs)) _ e (by_case (is_public w.starts m.rules r.name) refl)
    where
      by_case : (p : Bool) → is_public w.starts m.rules r.name ≡ p → repeats (own_names (is_public w.starts m.rules) rs) (own_name (is_public w.starts m.rules) r ++ []) ≡ []
      by_case true f = ap (λ v. repeats (own_names (is_public w.starts m.rules) rs) ((if v then [] else r.name ∷ []) ++ [])) f
      by_case false f =
          let new : (false || not (list_any (λ (q : Rule). same r.name q.name) (take i m.rules))) ≡ true = unless_true _ (faults.Duplicate r.name) (ap (λ v. unless (v || not (list_any (λ (q : Rule). same r.name q.name) (take i m.rules))) (faults.Duplicate r.name)) (sym f) ∙ private) in
          let lacks : list_any (λ (q : Rule). same r.name q.name) rs ≡ false = ap (list_any (λ (q : Rule). same r.name q.name)) (sym before) ∙ not_is (list_any (λ (q : Rule). same r.name q.name) (take i m.rules)) new in
          ap (λ v. repeats (own_names (is_public w.starts m.rules) rs) ((if v then [] else r.name ∷ []) ++ [])) f
          ∙ ap (λ b. unless (not b) (faults.Duplicate r.name) ++ []) (own_apart (is_public w.starts m.rules) r.name rs lacks)

  -- The module has more rules than those so far.
  more_rules : {n out : Module} {xs : List FileToken} (d : Rules n xs out) → (later : List Rule) × (out.rules ≡ n.rules ++ later)
  more_rules {n = n} spelling.Rules.none = ([], sym (append-nil n.rules))
  more_rules {n = n} (spelling.Rules.trailer is) = ([], sym (append-nil n.rules))
  more_rules {n = n} (spelling.Rules.more {r = r} one rest) = let later = more_rules rest in (r ∷ later.0, later.1 ∙ append_assoc n.rules (r ∷ []) later.0)

  rules_clean : (a : ℕ) {n out : Module} {xs : List FileToken} (d : Rules n xs out) (before : List Mention) → out ≡ m → IsAt w k m ls a (length n.rules) before → Clean w k m ls before (placed w k m ls (in_rules a d)) → AreRulesClean n.rules → AreRulesClean out.rules
  rules_clean a spelling.Rules.none before is h clean done = done
  rules_clean a (spelling.Rules.trailer sign) before is h clean done = done
  rules_clean a {n = n} (spelling.Rules.more {r = r} one rest) before is h clean done =
      let i = length n.rules in
      let later = more_rules rest in
      let whole : m.rules ≡ n.rules ++ r ∷ later.0 = ap (λ (v : Module). v.rules) (sym is) ∙ later.1 ∙ append_assoc n.rules (r ∷ []) later.0 in
      let at : slice_get m.rules i ≡ Some r = ap (λ rs. slice_get rs i) whole ∙ get_after_prefix n.rules r later.0 in
      let earlier : take i m.rules ≡ n.rules = ap (take i) whole ∙ take_at n.rules (r ∷ later.0) i refl in
      let parts = clean_both w k m ls before (in_rule a one) (in_rules (a + length r.alternatives) rest) clean in
      let here = rule_clean a i one before at h parts.0 in
      let count : suc i ≡ length (n.rules ++ r ∷ []) = omega (arith, length-append n.rules (r ∷ [])) in
      rules_clean (a + length r.alternatives) rest (before ++ placed w k m ls (in_rule a one)) is (subst (λ j. IsAt w k m ls (a + length r.alternatives) j (before ++ placed w k m ls (in_rule a one))) count here.next) parts.1
      (record { each = nil_push rule_list n.rules r done.each here.each; own = own_push n.rules r i earlier here.private done.own })

  -- ---- Declarations.

  -- No fault in the declarations of a module.
  pub record AreDeclarationsClean (n : Module) : Type 0 where
    pub tokens : flat_map (token_faults w k m ls) n.tokens ≡ []
    pub starts : flat_map (undefined_start w) n.starts ≡ []
    pub strings : flat_map (undefined_in_level w) n.levels ≡ []
    pub levels : flat_map (levels_in_declaration w k) (enumerate_from 0 n.levels) ≡ []
    pub on_error : flat_map (undefined_in_on_error (meant_by w k (formal_number []))) n.on_error ≡ []

  record AreNextClean (n : Module) (after : List Mention) : Type 0 where
    clean : AreDeclarationsClean n
    rules : n.rules ≡ []
    next : IsAt w k m ls 0 0 after

  declaration_clean : {n o : Module} {xs rest : List FileToken} (d : Declaration n xs rest o) (before : List Mention) → n.rules ≡ [] → AreDeclarationsClean n → IsAt w k m ls 0 0 before → Clean w k m ls before (placed w k m ls (in_declaration d)) → AreNextClean o (before ++ placed w k m ls (in_declaration d))
  declaration_clean (spelling.Declaration.header is) before none c h clean = record { clean = c; rules = none; next = after_none w k m ls (IsAt w k m ls 0 0) before h }
  declaration_clean (spelling.Declaration.semicolon is) before none c h clean = record { clean = c; rules = none; next = after_none w k m ls (IsAt w k m ls 0 0) before h }
  declaration_clean (spelling.Declaration.types is type items) before none c h clean = record { clean = c; rules = none; next = after_none w k m ls (IsAt w k m ls 0 0) before h }
  declaration_clean (spelling.Declaration.parameter is type) before none c h clean = record { clean = c; rules = none; next = after_none w k m ls (IsAt w k m ls 0 0) before h }
  declaration_clean (spelling.Declaration.attribute is items) before none c h clean = record { clean = c; rules = none; next = after_none w k m ls (IsAt w k m ls 0 0) before h }
  declaration_clean (spelling.Declaration.tokens is type items) before none c h clean =
      let all = list_clean w k m ls in_token (IsAt w k m ls 0 0) (token_faults w k m ls) (token_clean w k m ls) 0 items before h clean c.tokens in
      record { clean = record { tokens = all.0; starts = c.starts; strings = c.strings; levels = c.levels; on_error = c.on_error }; rules = none; next = all.1 }
  declaration_clean (spelling.Declaration.starts is type items) before none c h clean =
      let all = list_clean w k m ls in_start (IsAt w k m ls 0 0) (undefined_start w) (start_clean w k m ls) 0 items before h clean c.starts in
      record { clean = record { tokens = c.tokens; starts = all.0; strings = c.strings; levels = c.levels; on_error = c.on_error }; rules = none; next = all.1 }
  declaration_clean {n = n} (spelling.Declaration.levels {g = g} {ks = ks} is items) before none c h clean =
      let rank = length n.levels in
      let all = list_clean w k m ls (in_ref (roles.Level rank)) (IsAt w k m ls 0 0) (level_faults w k m ls rank) (level_clean w k m ls rank) 0 items before h clean refl in
      let new = levels_push w k m ls n.levels g ks all.0 in
      record {
        clean = record {
          tokens = c.tokens;
          starts = c.starts;
          strings = nil_push (undefined_in_level w) n.levels (record { assoc = g; names = ks }) c.strings new.0;
          levels =
              ap (flat_map (levels_in_declaration w k)) (enumerate-push 0 n.levels (record { assoc = g; names = ks }))
              ∙ nil_push (levels_in_declaration w k) (enumerate_from 0 n.levels) (0 + rank, record { assoc = g; names = ks }) c.levels (let same : rank ≡ 0 + rank = omega arith in subst (λ v. levels_in_declaration w k (v, record { assoc = g; names = ks }) ≡ []) same new.1);
          on_error = c.on_error;
        };
        rules = none;
        next = all.1;
      }
  declaration_clean {n = n} (spelling.Declaration.on_error {ks = ks} is items) before none c h clean =
      let rank = length n.on_error in
      let all = list_clean w k m ls (in_on_error rank) (IsAt w k m ls 0 0) _ (on_error_clean w k m ls rank) 0 items before h clean refl in
      record {
        clean = record {
          tokens = c.tokens;
          starts = c.starts;
          strings = c.strings;
          levels = c.levels;
          on_error = nil_push (undefined_in_on_error (meant_by w k (formal_number []))) n.on_error ks c.on_error all.0;
        };
        rules = none;
        next = all.1;
      }

  -- ---- Files.

  pub record IsFileClean (out : Module) : Type 0 where
    pub declarations : AreDeclarationsClean out
    pub rules : AreRulesClean out.rules

  same_declarations : {n out : Module} {xs : List FileToken} (d : Rules n xs out) → AreDeclarationsClean n → AreDeclarationsClean out
  same_declarations spelling.Rules.none c = c
  same_declarations (spelling.Rules.trailer is) c = c
  same_declarations (spelling.Rules.more one rest) c = same_declarations rest (record { tokens = c.tokens; starts = c.starts; strings = c.strings; levels = c.levels; on_error = c.on_error })

  pub file_clean : {n out : Module} {xs : List FileToken} (d : File n xs out) (before : List Mention) → out ≡ m → n.rules ≡ [] → AreDeclarationsClean n → IsAt w k m ls 0 0 before → Clean w k m ls before (placed w k m ls (in_file d)) → IsFileClean out
  file_clean (spelling.File.declared declaration rest) before is none c h clean =
      let parts = clean_both w k m ls before (in_declaration declaration) (in_file rest) clean in
      let first = declaration_clean declaration before none c h parts.0 in
      file_clean rest (before ++ placed w k m ls (in_declaration declaration)) is first.rules first.clean first.next parts.1
  file_clean {n = n} (spelling.File.ruled percents rules) before is none c h clean = record {
    declarations = same_declarations rules c;
    rules = rules_clean 0 rules before is (subst (λ j. IsAt w k m ls 0 j before) (ap length (sym none)) h) clean
        (record { each = ap (flat_map rule_list) none; own = ap (λ rs. repeats [] (own_names (is_public w.starts m.rules) rs)) none });
  }
