-- If no mention of a file has a fault, then the declarations and the rules of its module have none.
use Rattle.std.proofs.Common.{◌≡◌, ℕ, suc, ◌+◌, ◌-◌, ◌<◌, ◌≤◌, ◌||◌, Bool, true, false, List, [], ◌∷◌, ◌++◌, Option, None, Some, length, take, map, flat_map, refl, sym, ap, subst, ◌∙◌, inl, inr, arith, append_assoc}
use Rattle.std.specs.Prelude.{not, if◌then◌else◌, ◌==◌}
use Rattle.std.specs.List.{list_any, slice_get}
use Rattle.std.proofs.Math.Bool.{or-false}
use Rattle.std.proofs.lemmas.Bool.{cases_Bool}
use Rattle.std.proofs.lemmas.List.{append-nil, length-append}
use Rattle.std.proofs.lemmas.Map.Views.{exact_unsigned_eq}
use Rattle.std.proofs.lemmas.Option.{slice_get_within}
use Rattle.mh_grammar.specs.Text.{Text}
use Rattle.mh_grammar.specs.declared.types.Assoc.{Assoc}
use Rattle.mh_grammar.specs.declared.types.Assoc.TheVariants.{Left}
use Rattle.mh_grammar.specs.declared.types.Level.{Level}
use Rattle.mh_grammar.proofs.Lists.{get_cases, nil_parts}
use Rattle.mh_lex.specs.declared.kinds.Lexeme.{Lexeme}
use Rattle.mh_rules.specs.Modules.{alternative}
use Rattle.mh_rules.specs.declared.modules.Actual.{Actual}
use Rattle.mh_rules.specs.declared.modules.Alternative.{Alternative}
use Rattle.mh_rules.specs.declared.modules.LevelDecl.{LevelDecl}
use Rattle.mh_rules.specs.declared.modules.Module.{Module}
use Rattle.mh_rules.specs.declared.modules.Ref.{Ref}
use Rattle.mh_rules.specs.declared.modules.Ref.TheVariants.{Alias, Plain}
use Rattle.mh_rules.specs.declared.modules.TokenDecl.{TokenDecl}
use Rattle.mh_join_names.specs.Names.{formal_number, level_in, name_by, same}
use Rattle.mh_join_names.specs.Faults.{Meanings, agrees, error_token, meant_by, other_kind, other_level, other_token, refs, repeats, same_level, undefined, undefined_in_actual, undefined_start, unknown_string, unless, unlevelled}
use Rattle.mh_join_names.specs.declared.fault.JoinFault.{JoinFault}
use Rattle.mh_join_names.specs.declared.fault.JoinFault.TheVariants as faults
use Rattle.mh_join_names.specs.declared.kinds.NameKind.TheVariants as kinds
use Rattle.mh_reader_parser.specs.Spelling as spelling
use Rattle.mh_reader_parser.specs.Spelling.{IsAlias, IsPrec, IsProducer, IsRef, IsTokenItem, IsWordItem, LimitedActual, Producers, Productions, own_or, with_prec}
use Rattle.mh_reader_parser.specs.TokenKinds.{FileToken}
use Rattle.mh_reader_places.specs.Mentions.{in_alias, in_on_error, in_prec, in_producer, in_producers, in_productions, in_ref, in_start, in_token, named}
use Rattle.mh_reader_places.specs.Places.{mention_of}
use Rattle.mh_reader_places.specs.declared.mentions.Mention.{Mention}
use Rattle.mh_reader_places.specs.declared.mentions.Role.{Role}
use Rattle.mh_reader_places.specs.declared.mentions.Role.TheVariants as roles
use Rattle.mh_lint_faults.specs.NameFaults.{formals_at, has_own_prec, is_own_prec, last_token, rules_in, rules_with, takes_group_prec}
use Rattle.mh_lint_faults.proofs.CleanMentions.{Clean, after_both, after_none, after_one, clean_both, clean_first, clean_rest, limited_clean, nil_both, nil_push, placed}
use Rattle.mh_lint_faults.proofs.MentionSteps.{own_step, rules_step, token_step}
use Rattle.mh_lint_faults.proofs.RoleFaults.{any_range}

-- ---- Lists of faults.

-- Each fault of the second kind is one of the first.
pub nil_weaker : {A X Y : Type 0} (f : A → List X) (h : A → List Y) (xs : List A) → ((a : A) → f a ≡ [] → h a ≡ []) → flat_map f xs ≡ [] → flat_map h xs ≡ []
nil_weaker f h [] weaker e = refl
nil_weaker f h (x ∷ xs) weaker e = let parts = nil_parts (f x) (flat_map f xs) e in nil_both (h x) (flat_map h xs) (weaker x parts.0) (nil_weaker f h xs weaker parts.1)

-- The associativity of a level plays no part in its faults.
agrees_assoc : (o : Option Level) (k rank : ℕ) (a b : Assoc) → agrees same_level o (level_in k rank a) ≡ agrees same_level o (level_in k rank b)
agrees_assoc None k rank a b = refl
agrees_assoc (Some l) k rank a b = refl

pub level_assoc : (w : Meanings) (k rank : ℕ) (a b : Assoc) (o : Option Text) → other_level w (level_in k rank a) o ≡ other_level w (level_in k rank b) o
level_assoc w k rank a b None = refl
level_assoc w k rank a b (Some x) = ap (λ v. unless v (faults.Duplicate x)) (agrees_assoc (w.level x) k rank a b)

pub unless_true : (v : Bool) (e : JoinFault) → unless v e ≡ [] → v ≡ true
unless_true true e h = refl
unless_true false e h = cc

pub repeats_append : (before xs ys : List Text) → repeats before (xs ++ ys) ≡ repeats before xs ++ repeats (before ++ xs) ys
repeats_append before [] ys = ap (λ b. repeats b ys) (sym (append-nil before))
repeats_append before (x ∷ xs) ys =
    let here = unless (not (list_any (same x) before)) (faults.Duplicate x) in
    ap (λ es. here ++ es) (repeats_append (before ++ x ∷ []) xs ys ∙ ap (λ b. repeats (before ++ x ∷ []) xs ++ repeats b ys) (append_assoc before (x ∷ []) xs)) ∙ sym (append_assoc here (repeats (before ++ x ∷ []) xs) (repeats (before ++ x ∷ xs) ys))

module _ (w : Meanings) (k : ℕ) (m : Module) (ls : List Lexeme) where
  -- ---- The number of rules and the alternatives before.

  -- There are i rules before, and no alternative from number a on has a `%prec` of its own yet.
  pub record IsAt (a i : ℕ) (before : List Mention) : Type 0 where
    pub rules : rules_in before ≡ i
    pub free : (n : ℕ) → a ≤ n → has_own_prec before n ≡ false

  pub own_kept : (before : List Mention) (x : Mention) (n : ℕ) → is_own_prec n x.role ≡ false → has_own_prec (before ++ x ∷ []) n ≡ has_own_prec before n
  own_kept before x n e = own_step before x n ∙ ap (λ v. has_own_prec before n || v) e ∙ or-false (has_own_prec before n)

  -- A mention that is no name of a rule and no `%prec` of an alternative.
  pub at_kept : (a i : ℕ) (before : List Mention) (x : Mention) → ((n : ℕ) → rules_with n x.role ≡ n) → ((n : ℕ) → is_own_prec n x.role ≡ false) → IsAt a i before → IsAt a i (before ++ x ∷ [])
  at_kept a i before x rules own h = record {
    rules = rules_step before x ∙ rules (rules_in before) ∙ h.rules;
    free = λ n l. own_kept before x n (own n) ∙ h.free n l;
  }

  pub at_role : (a i : ℕ) (before : List Mention) (x : Mention) (role : Role) → x.role ≡ role → ((n : ℕ) → rules_with n role ≡ n) → ((n : ℕ) → is_own_prec n role ≡ false) → IsAt a i before → IsAt a i (before ++ x ∷ [])
  at_role a i before x role e rules own h = at_kept a i before x (λ n. ap (rules_with n) e ∙ rules n) (λ n. ap (is_own_prec n) e ∙ own n) h

  -- ---- Declarations.

  abbrev pub token_faults : TokenDecl → List JoinFault
  token_faults t = other_kind w kinds.Token t.name ++ other_token w t.name t.alias

  -- The alias of a token.
  alias_clean : (t : Text) {xs rest : List FileToken} {o : Option Text} {c : Option ℕ} (s : IsAlias xs rest o c) (before : List Mention) → IsAt 0 0 before → last_token before ≡ t → Clean w k m ls before (placed w k m ls (in_alias s)) → (other_token w t o ≡ []) × IsAt 0 0 (before ++ placed w k m ls (in_alias s))
  alias_clean t spelling.IsAlias.absent before i last h = (refl, after_none w k m ls (IsAt 0 0) before i)
  alias_clean t (spelling.IsAlias.given {y = y} {xs = xs} is) before i last h =
      let x = mention_of ls (named (y ∷ xs) roles.Alias (Alias y.text)) in
      (ap (λ v. other_token w v (Some y.text)) (sym last) ∙ clean_first w k m ls before x [] h, at_role 0 0 before x roles.Alias refl (λ n. refl) (λ n. refl) i)

  pub token_clean : (n : ℕ) (ys zs : List FileToken) (t : TokenDecl) (one : IsTokenItem ys zs t) (before : List Mention) → IsAt 0 0 before → Clean w k m ls before (placed w k m ls (in_token n ys zs t one)) → (token_faults t ≡ []) × IsAt 0 0 (before ++ placed w k m ls (in_token n ys zs t one))
  token_clean n _ _ _ (spelling.IsTokenItem.token {x = x} {xs = xs} {o = o} is capital alias) before i h =
      let first = named (x ∷ xs) roles.Token (Plain x.text) in
      let y = mention_of ls first in
      let rest = clean_rest w k m ls before y (placed w k m ls (in_alias alias)) h in
      let next = at_role 0 0 before y roles.Token refl (λ v. refl) (λ v. refl) i in
      let later = alias_clean x.text alias (before ++ y ∷ []) next (token_step before y) rest in
      (nil_both (other_kind w kinds.Token x.text) (other_token w x.text o) (clean_first w k m ls before y (placed w k m ls (in_alias alias)) h) later.0, after_one w k m ls (IsAt 0 0) before first (in_alias alias) later.1)

  pub start_clean : (n : ℕ) (ys zs : List FileToken) (name : Text) (one : IsWordItem ys zs name) (before : List Mention) → IsAt 0 0 before → Clean w k m ls before (placed w k m ls (in_start n ys zs name one)) → (undefined_start w name ≡ []) × IsAt 0 0 (before ++ placed w k m ls (in_start n ys zs name one))
  start_clean n _ _ _ (spelling.IsWordItem.word {x = x} {xs = xs} is) before i h =
      let y = mention_of ls (named (x ∷ xs) roles.Start (Plain x.text)) in
      (clean_first w k m ls before y [] h, at_role 0 0 before y roles.Start refl (λ v. refl) (λ v. refl) i)

  abbrev pub level_faults : ℕ → Ref → List JoinFault
  level_faults rank r = unknown_string w.aliased r ++ other_level w (level_in k rank Left) (name_by w.aliased r)

  pub level_clean : (rank n : ℕ) (ys zs : List FileToken) (r : Ref) (one : IsRef ys zs r) (before : List Mention) → IsAt 0 0 before → Clean w k m ls before (placed w k m ls (in_ref (roles.Level rank) n ys zs r one)) → (level_faults rank r ≡ []) × IsAt 0 0 (before ++ placed w k m ls (in_ref (roles.Level rank) n ys zs r one))
  level_clean rank n _ _ r (spelling.IsRef.reference {x = x} {xs = xs} is) before i h =
      let y = mention_of ls (named (x ∷ xs) (roles.Level rank) r) in
      (clean_first w k m ls before y [] h, at_role 0 0 before y (roles.Level rank) refl (λ v. refl) (λ v. refl) i)

  pub on_error_clean : (rank n : ℕ) (ys zs : List FileToken) (a : Actual) (one : LimitedActual ys zs a) (before : List Mention) → IsAt 0 0 before → Clean w k m ls before (placed w k m ls (in_on_error rank n ys zs a one))
      → (undefined_in_actual false (meant_by w k (formal_number [])) a ≡ []) × IsAt 0 0 (before ++ placed w k m ls (in_on_error rank n ys zs a one))
  on_error_clean rank n ys zs a one before i h =
      limited_clean w k m ls (roles.OnError rank n) (IsAt 0 0) (λ b x e j. at_role 0 0 b x (roles.OnError rank n) e (λ v. refl) (λ v. refl) j) (undefined false (meant_by w k (formal_number []))) (λ b r j clean. clean) one before i h

  -- The faults of level declarations, with one more.
  pub levels_push : (levels : List LevelDecl) (assoc : Assoc) (names : List Ref) → flat_map (level_faults (length levels)) names ≡ [] → (flat_map (unknown_string w.aliased) names ≡ []) × (flat_map (λ (r : Ref). other_level w (level_in k (length levels) assoc) (name_by w.aliased r)) names ≡ [])
  levels_push levels assoc names e = (
    nil_weaker (level_faults (length levels)) (unknown_string w.aliased) names (λ r h. (nil_parts (unknown_string w.aliased r) _ h).0) e,
    nil_weaker (level_faults (length levels)) (λ (r : Ref). other_level w (level_in k (length levels) assoc) (name_by w.aliased r)) names
        (λ r h. level_assoc w k (length levels) assoc Left (name_by w.aliased r) ∙ (nil_parts (unknown_string w.aliased r) _ h).1) e,
  )

  -- ---- Alternatives.

  abbrev pub head_faults : List Text → Ref → List JoinFault
  head_faults formals r = undefined true (meant_by w k (formal_number formals)) r ++ error_token r

  abbrev pub prec_faults : Option Ref → List JoinFault
  prec_faults None = []
  prec_faults (Some r) = unknown_string w.aliased r ++ unlevelled w (Some r)

  abbrev pub producer_faults : List Text → Actual → List JoinFault
  producer_faults formals p = flat_map (head_faults formals) (refs p)

  abbrev pub alternative_faults : List Text → Alternative → List JoinFault
  alternative_faults formals a = flat_map (producer_faults formals) a.producers ++ prec_faults a.prec

  module _ (i : ℕ) (formals : List Text) (formals_are : (before : List Mention) → rules_in before ≡ i → formals_at m before ≡ formals) (s : ℕ) where
    -- The alternatives from number s on: those of the group so far.
    pub record IsKnown (before : List Mention) (ks : List Alternative) : Type 0 where
      pub rules : rules_in before ≡ i
      pub free : (n : ℕ) → s + length ks ≤ n → has_own_prec before n ≡ false
      pub clean : flat_map (alternative_faults formals) ks ≡ []
      pub none : (j : ℕ) (a : Alternative) → slice_get ks j ≡ Some a → a.prec ≡ None → has_own_prec before (s + j) ≡ false

    known_kept : (before : List Mention) (ks : List Alternative) (x : Mention) (role : Role) → x.role ≡ role → ((n : ℕ) → rules_with n role ≡ n) → ((n : ℕ) → is_own_prec n role ≡ false) → IsKnown before ks → IsKnown (before ++ x ∷ []) ks
    known_kept before ks x role e rules own h = record {
      rules = rules_step before x ∙ ap (rules_with (rules_in before)) e ∙ rules (rules_in before) ∙ h.rules;
      free = λ n l. own_kept before x n (ap (is_own_prec n) e ∙ own n) ∙ h.free n l;
      clean = h.clean;
      none = λ j a at is. own_kept before x (s + j) (ap (is_own_prec (s + j)) e ∙ own (s + j)) ∙ h.none j a at is;
    }

    producer_clean : (a n : ℕ) {xs rest : List FileToken} {p : Actual} (ks : List Alternative) (one : IsProducer xs rest p) (before : List Mention) → IsKnown before ks → Clean w k m ls before (placed w k m ls (in_producer (roles.Head a n) one)) → (producer_faults formals p ≡ []) × IsKnown (before ++ placed w k m ls (in_producer (roles.Head a n) one)) ks
    producer_clean a n ks (spelling.IsProducer.unnamed one) before h clean =
        limited_clean w k m ls (roles.Head a n) (λ d. IsKnown d ks) (λ d x e f. known_kept d ks x (roles.Head a n) e (λ u. refl) (λ u. refl) f) (head_faults formals) (λ d r f u. ap (λ fs. undefined true (meant_by w k (formal_number fs)) r ++ error_token r) (sym (formals_are d f.rules)) ∙ u) one before h clean
    producer_clean a n ks (spelling.IsProducer.named word equals one) before h clean =
        limited_clean w k m ls (roles.Head a n) (λ d. IsKnown d ks) (λ d x e f. known_kept d ks x (roles.Head a n) e (λ u. refl) (λ u. refl) f) (head_faults formals) (λ d r f u. ap (λ fs. undefined true (meant_by w k (formal_number fs)) r ++ error_token r) (sym (formals_are d f.rules)) ∙ u) one before h clean

    producers_clean : (a n : ℕ) {done all : List Actual} {xs rest : List FileToken} (ks : List Alternative) (ps : Producers done xs rest all) (before : List Mention) → IsKnown before ks → Clean w k m ls before (placed w k m ls (in_producers a n ps)) → flat_map (producer_faults formals) done ≡ []
        → (flat_map (producer_faults formals) all ≡ []) × IsKnown (before ++ placed w k m ls (in_producers a n ps)) ks
    producers_clean a n ks spelling.Producers.none before h clean e = (e, after_none w k m ls (λ b. IsKnown b ks) before h)
    producers_clean a n {done = done} ks (spelling.Producers.more {a = p} one semicolons rest) before h clean e =
        let parts = clean_both w k m ls before (in_producer (roles.Head a n) one) (in_producers a (suc n) rest) clean in
        let first = producer_clean a n ks one before h parts.0 in
        let later = producers_clean a (suc n) ks rest (before ++ placed w k m ls (in_producer (roles.Head a n) one)) first.1 parts.1 (nil_push (producer_faults formals) done p e first.0) in
        (later.0, after_both w k m ls (λ b. IsKnown b ks) before (in_producer (roles.Head a n) one) (in_producers a (suc n) rest) later.1)

    -- One more alternative, without a `%prec` of its own.
    known_absent : (before : List Mention) (ks : List Alternative) (ps : List Actual) → flat_map (producer_faults formals) ps ≡ [] → IsKnown before ks → IsKnown before (ks ++ alternative ps None ∷ [])
    known_absent before ks ps e h = record {
      rules = h.rules;
      free = λ n l. h.free n (omega (arith, l, length-append ks (alternative ps None ∷ [])));
      clean = nil_push (alternative_faults formals) ks (alternative ps None) h.clean (append-nil (flat_map (producer_faults formals) ps) ∙ e);
      none = λ j b at is. elim (get_cases ks (alternative ps None) j b at) [
        | inl old ↦ h.none j b old is
        | inr last ↦ h.free (s + j) (omega (arith, last.0))
      ];
    }

    -- One more alternative, with a `%prec` of its own.
    known_given : (before : List Mention) (x : Mention) (ks : List Alternative) (ps : List Actual) (r : Ref) → x.role ≡ roles.Prec (s + length ks) → flat_map (producer_faults formals) ps ≡ [] → unknown_string w.aliased r ++ unlevelled w (Some r) ≡ [] → IsKnown before ks → IsKnown (before ++ x ∷ []) (ks ++ alternative ps (Some r) ∷ [])
    known_given before x ks ps r role e f h = record {
      rules = rules_step before x ∙ ap (rules_with (rules_in before)) role ∙ h.rules;
      free = λ n l. (let big : s + length ks + 1 ≤ n = omega (arith, l, length-append ks (alternative ps (Some r) ∷ [])) in own_kept before x n (ap (is_own_prec n) role ∙ other n (s + length ks) (omega (arith, big))) ∙ h.free n (omega (arith, big)));
      clean = nil_push (alternative_faults formals) ks (alternative ps (Some r)) h.clean (nil_both (flat_map (producer_faults formals) ps) (prec_faults (Some r)) e f);
      none = λ j b at is. elim (get_cases ks (alternative ps (Some r)) j b at) [
        | inl old ↦ (let l = slice_get_within ks j b old in own_kept before x (s + j) (ap (is_own_prec (s + j)) role ∙ other (s + j) (s + length ks) (λ same. omega (arith, l, same))) ∙ h.none j b old is)
        | inr last ↦ (let bad : None ≡ Some r = sym is ∙ ap (λ (c : Alternative). c.prec) last.1 in cc)
      ];
    }
      where
        other : (n b : ℕ) → (n ≡ b → ⊥) → (n == b) ≡ false
        other n b apart = elim (cases_Bool (n == b)) [ inl same ↦ absurd (apart (exact_unsigned_eq n b same)) | inr differ ↦ differ ]

    -- The `%prec` of an alternative.
    prec_clean : (a : ℕ) {xs rest : List FileToken} {p : Option Ref} (ks : List Alternative) (ps : List Actual) (s' : IsPrec xs rest p) (before : List Mention) → a ≡ s + length ks → IsKnown before ks → Clean w k m ls before (placed w k m ls (in_prec (roles.Prec a) s')) → flat_map (producer_faults formals) ps ≡ []
        → IsKnown (before ++ placed w k m ls (in_prec (roles.Prec a) s')) (ks ++ alternative ps p ∷ [])
    prec_clean a ks ps spelling.IsPrec.absent before number h clean e = after_none w k m ls (λ b. IsKnown b (ks ++ alternative ps None ∷ [])) before (known_absent before ks ps e h)
    prec_clean a ks ps (spelling.IsPrec.given {y = y} {xs = xs} {r = r} is of) before number h clean e =
        let x = mention_of ls (named (y ∷ xs) (roles.Prec a) r) in
        known_given before x ks ps r (ap roles.Prec number) e (clean_first w k m ls before x [] clean) h

    pub productions_clean : (a : ℕ) {done all : List Alternative} {xs rest : List FileToken} (d : Productions done xs rest all) (before : List Mention) → a ≡ s + length done → IsKnown before done → Clean w k m ls before (placed w k m ls (in_productions a d)) → IsKnown (before ++ placed w k m ls (in_productions a d)) all
    productions_clean a {done = done} (spelling.Productions.last {ps = ps} {p = p} producers prec action) before number h clean =
        let parts = clean_both w k m ls before (in_producers a 0 producers) (in_prec (roles.Prec a) prec) clean in
        let heads = producers_clean a 0 done producers before h parts.0 refl in
        after_both w k m ls (λ b. IsKnown b (done ++ alternative ps p ∷ [])) before (in_producers a 0 producers) (in_prec (roles.Prec a) prec) (prec_clean a done ps prec (before ++ placed w k m ls (in_producers a 0 producers)) number heads.1 parts.1 heads.0)
    productions_clean a {done = done} (spelling.Productions.more {all = all} {ps = ps} {p = p} producers prec bar rest) before number h clean =
        let heads = in_producers a 0 producers in
        let own = in_prec (roles.Prec a) prec in
        let parts = clean_both w k m ls before (heads ++ own) (in_productions (suc a) rest) clean in
        let first = clean_both w k m ls before heads own parts.0 in
        let known = producers_clean a 0 done producers before h first.0 refl in
        let one = prec_clean a done ps prec (before ++ placed w k m ls heads) number known.1 first.1 known.0 in
        let next = after_both w k m ls (λ b. IsKnown b (done ++ alternative ps p ∷ [])) before heads own one in
        let later = productions_clean (suc a) rest (before ++ placed w k m ls (heads ++ own)) (omega (arith, number, length-append done (alternative ps p ∷ []))) next parts.1 in
        after_both w k m ls (λ b. IsKnown b all) before (heads ++ own) (in_productions (suc a) rest) later

    -- The alternatives of a group take the `%prec` of the group, if they have none of their own.
    pub group_none : (before : List Mention) (ks : List Alternative) → IsKnown before ks → flat_map (alternative_faults formals) (map (with_prec None) ks) ≡ []
    group_none before ks h = mapped ks h.clean
      where
        same_prec : (a : Alternative) → alternative_faults formals (with_prec None a) ≡ alternative_faults formals a
        same_prec a = ap (λ p. flat_map (producer_faults formals) a.producers ++ prec_faults p) (own_none a.prec)
          where
            own_none : (p : Option Ref) → own_or None p ≡ p
            own_none None = refl
            own_none (Some r) = refl

        mapped : (xs : List Alternative) → flat_map (alternative_faults formals) xs ≡ [] → flat_map (alternative_faults formals) (map (with_prec None) xs) ≡ []
        mapped [] e = refl
        mapped (x ∷ xs) e = let parts = nil_parts (alternative_faults formals x) (flat_map (alternative_faults formals) xs) e in nil_both (alternative_faults formals (with_prec None x)) _ (same_prec x ∙ parts.0) (mapped xs parts.1)

    pub group_given : (before : List Mention) (ks : List Alternative) (r : Ref) → IsKnown before ks → (if takes_group_prec before s (s + length ks - 1) then unknown_string w.aliased r ++ unlevelled w (Some r) else []) ≡ [] → flat_map (alternative_faults formals) (map (with_prec (Some r)) ks) ≡ []
    group_given before ks r h clean = mapped ks 0 h.clean (λ j a at. (let l = slice_get_within ks j a at in omega (arith, l))) (λ j a at is. (let same : s + j ≡ s + (0 + j) = omega arith in subst (λ v. has_own_prec before v ≡ false) same (h.none j a at is)))
      where
        taken : (n : ℕ) → s ≤ n → n < s + length ks → has_own_prec before n ≡ false → prec_faults (Some r) ≡ []
        taken n l below e =
            let takes : takes_group_prec before s (s + length ks - 1) ≡ true = any_range (λ v. not (has_own_prec before v)) s (s + length ks - 1 + 1 - s) n l (omega (arith, l, below)) (ap not e) in
            sym (ap (λ b. if b then unknown_string w.aliased r ++ unlevelled w (Some r) else []) takes) ∙ clean

        one : (a : Alternative) (n : ℕ) (p : Option Ref) → a.prec ≡ p → alternative_faults formals a ≡ [] → s ≤ n → n < s + length ks → (a.prec ≡ None → has_own_prec before n ≡ false) → alternative_faults formals (with_prec (Some r) a) ≡ []
        one a n None is e l below free =
            let parts = nil_parts (flat_map (producer_faults formals) a.producers) (prec_faults a.prec) e in
            ap (λ q. flat_map (producer_faults formals) a.producers ++ prec_faults (own_or (Some r) q)) is ∙ nil_both (flat_map (producer_faults formals) a.producers) (prec_faults (Some r)) parts.0 (taken n l below (free is))
        one a n (Some q) is e l below free =
            ap (λ v. flat_map (producer_faults formals) a.producers ++ prec_faults (own_or (Some r) v)) is ∙ ap (λ v. flat_map (producer_faults formals) a.producers ++ prec_faults v) (sym is) ∙ e

        mapped : (xs : List Alternative) (n : ℕ) → flat_map (alternative_faults formals) xs ≡ [] → ((j : ℕ) (a : Alternative) → slice_get xs j ≡ Some a → n + j < length ks) → ((j : ℕ) (a : Alternative) → slice_get xs j ≡ Some a → a.prec ≡ None → has_own_prec before (s + (n + j)) ≡ false) → flat_map (alternative_faults formals) (map (with_prec (Some r)) xs) ≡ []
        mapped [] n e within free = refl
        mapped (x ∷ xs) n e within free =
            let parts = nil_parts (alternative_faults formals x) (flat_map (alternative_faults formals) xs) e in
            let here : n < length ks = omega (arith, within 0 x refl) in
            let first = one x (s + n) x.prec refl parts.0 (omega arith) (omega (arith, here)) (λ is. (let same : s + (n + 0) ≡ s + n = omega arith in subst (λ v. has_own_prec before v ≡ false) same (free 0 x refl is))) in
            nil_both (alternative_faults formals (with_prec (Some r) x)) _ first
            (mapped xs (n + 1) parts.1 (λ j a at. omega (arith, within (suc j) a at)) (λ j a at is. (let same : s + (n + suc j) ≡ s + (n + 1 + j) = omega arith in subst (λ v. has_own_prec before v ≡ false) same (free (suc j) a at is))))
