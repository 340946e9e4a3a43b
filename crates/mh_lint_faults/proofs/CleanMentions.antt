-- If no mention of a part of a file has a fault, then the part of the module has none: actuals, and lists of items.
use Rattle.std.proofs.Common.{◌≡◌, ℕ, suc, ◌+◌, List, [], ◌∷◌, ◌++◌, map, flat_map, refl, sym, ap, subst, ◌∙◌, append_assoc}
use Rattle.std.proofs.lemmas.List.{append-nil, map-append}
use Rattle.std.proofs.lemmas.List.Concat.{flat_map-append}
use Rattle.std.proofs.lemmas.List.Folds.{flat_map-map}
use Rattle.mh_grammar.proofs.Lists.{nil_parts}
use Rattle.mh_lex.specs.declared.kinds.Lexeme.{Lexeme}
use Rattle.mh_rules.specs.Modules.{applied}
use Rattle.mh_rules.specs.declared.modules.Actual.{Actual}
use Rattle.mh_rules.specs.declared.modules.Actual.TheFolds.{fold-roll-Actual}
use Rattle.mh_rules.specs.declared.modules.Module.{Module}
use Rattle.mh_rules.specs.declared.modules.Ref.{Ref}
use Rattle.mh_rules.specs.declared.modules.Ref.TheVariants.{Plain}
use Rattle.mh_join_names.specs.Faults.{Meanings, refs, refs_step}
use Rattle.mh_join_names.specs.declared.fault.JoinFault.{JoinFault}
use Rattle.mh_reader_parser.specs.Spelling as spelling
use Rattle.mh_reader_parser.specs.Spelling.{Args, IsActual, LimitedActual, ListOf, Suffixed, Unsuffixed}
use Rattle.mh_reader_parser.specs.TokenKinds.{FileToken}
use Rattle.mh_reader_places.specs.Mentions.{Named, in_actual, in_args, in_limited, in_list, in_suffixed, in_unsuffixed, named}
use Rattle.mh_reader_places.specs.Places.{mention_of}
use Rattle.mh_reader_places.specs.declared.mentions.Mention.{Mention}
use Rattle.mh_reader_places.specs.declared.mentions.Role.{Role}
use Rattle.mh_lint_faults.specs.NameFaults.{faults_from, faults_in_role}

-- ---- Lists of faults.

pub map_nil : {X Y : Type 0} (f : X → Y) (xs : List X) → map f xs ≡ [] → xs ≡ []
map_nil f [] e = refl
map_nil f (x ∷ xs) e = cc

pub nil_both : {X : Type 0} (xs ys : List X) → xs ≡ [] → ys ≡ [] → xs ++ ys ≡ []
nil_both xs ys e f = ap (λ zs. zs ++ ys) e ∙ f

-- Items without faults, and one more.
pub nil_push : {A X : Type 0} (f : A → List X) (xs : List A) (a : A) → flat_map f xs ≡ [] → f a ≡ [] → flat_map f (xs ++ a ∷ []) ≡ []
nil_push f xs a e here = flat_map-append f xs (a ∷ []) ∙ nil_both (flat_map f xs) (f a ++ []) e (append-nil (f a) ∙ here)

pub refs_applied : (r : Ref) (ks : List Actual) → refs (applied r ks) ≡ r ∷ flat_map refs ks
refs_applied r ks = fold-roll-Actual (List Ref) refs_step (record { head = r; args = ks }) ∙ ap (λ rs. r ∷ rs) (flat_map-map (λ (rs : List Ref). rs) refs ks)

module _ (w : Meanings) (k : ℕ) (m : Module) (ls : List Lexeme) where
  -- The mentions of these names.
  abbrev pub placed : List Named → List Mention
  placed ns = map (mention_of ls) ns

  -- None of the mentions has a fault.
  abbrev pub Clean : List Mention → List Mention → Type 0
  Clean before xs = faults_from w k m before xs ≡ []

  pub clean_first : (before : List Mention) (x : Mention) (xs : List Mention) → Clean before (x ∷ xs) → faults_in_role w k m before x.name x.role ≡ []
  clean_first before x xs h = map_nil (λ (e : JoinFault). (x.start, e)) (faults_in_role w k m before x.name x.role) (nil_parts (map (λ (e : JoinFault). (x.start, e)) (faults_in_role w k m before x.name x.role)) (faults_from w k m (before ++ x ∷ []) xs) h).0

  pub clean_rest : (before : List Mention) (x : Mention) (xs : List Mention) → Clean before (x ∷ xs) → Clean (before ++ x ∷ []) xs
  clean_rest before x xs h = (nil_parts (map (λ (e : JoinFault). (x.start, e)) (faults_in_role w k m before x.name x.role)) (faults_from w k m (before ++ x ∷ []) xs) h).1

  pub clean_left : (before xs ys : List Mention) → Clean before (xs ++ ys) → Clean before xs
  clean_left before [] ys h = refl
  clean_left before (x ∷ xs) ys h =
      nil_both (map (λ (e : JoinFault). (x.start, e)) (faults_in_role w k m before x.name x.role)) (faults_from w k m (before ++ x ∷ []) xs)
      (nil_parts (map (λ (e : JoinFault). (x.start, e)) (faults_in_role w k m before x.name x.role)) (faults_from w k m (before ++ x ∷ []) (xs ++ ys)) h).0
      (clean_left (before ++ x ∷ []) xs ys (clean_rest before x (xs ++ ys) h))

  pub clean_right : (before xs ys : List Mention) → Clean before (xs ++ ys) → Clean (before ++ xs) ys
  clean_right before [] ys h = subst (λ b. Clean b ys) (sym (append-nil before)) h
  clean_right before (x ∷ xs) ys h = subst (λ b. Clean b ys) (append_assoc before (x ∷ []) xs) (clean_right (before ++ x ∷ []) xs ys (clean_rest before x (xs ++ ys) h))

  -- Of two parts in sequence, each is without faults.
  pub clean_both : (before : List Mention) (ns ps : List Named) → Clean before (placed (ns ++ ps)) → Clean before (placed ns) × Clean (before ++ placed ns) (placed ps)
  clean_both before ns ps h =
      let both = subst (Clean before) (map-append (mention_of ls) ns ps) h in
      (clean_left before (placed ns) (placed ps) both, clean_right before (placed ns) (placed ps) both)

  -- What holds after two parts in sequence.
  pub after_both : (I : List Mention → Type 0) (before : List Mention) (ns ps : List Named) → I ((before ++ placed ns) ++ placed ps) → I (before ++ placed (ns ++ ps))
  after_both I before ns ps h = subst I (append_assoc before (placed ns) (placed ps) ∙ ap (λ xs. before ++ xs) (sym (map-append (mention_of ls) ns ps))) h

  pub after_one : (I : List Mention → Type 0) (before : List Mention) (n : Named) (ps : List Named) → I ((before ++ mention_of ls n ∷ []) ++ placed ps) → I (before ++ placed (n ∷ ps))
  after_one I before n ps h = subst I (append_assoc before (mention_of ls n ∷ []) (placed ps)) h

  pub after_none : (I : List Mention → Type 0) (before : List Mention) → I before → I (before ++ [])
  after_none I before h = subst I (sym (append-nil before)) h

  -- ---- Actuals. Each head has this role; what is known before is kept; a head without a fault has no fault by g.

  module _ (role : Role) (I : List Mention → Type 0) (keep : (before : List Mention) (x : Mention) → x.role ≡ role → I before → I (before ++ x ∷ [])) (g : Ref → List JoinFault) (here : (before : List Mention) (r : Ref) → I before → faults_in_role w k m before r role ≡ [] → g r ≡ []) where
    -- One head, and what comes after it.
    abbrev HeadAndRest : List Mention → List FileToken → Ref → List Named → Type 0
    HeadAndRest before xs r ps = (g r ≡ []) × I (before ++ mention_of ls (named xs role r) ∷ []) × Clean (before ++ mention_of ls (named xs role r) ∷ []) (placed ps)

    head_clean : (before : List Mention) (xs : List FileToken) (r : Ref) (ps : List Named) → I before → Clean before (placed (named xs role r ∷ ps)) → HeadAndRest before xs r ps
    head_clean before xs r ps i h =
        let x = mention_of ls (named xs role r) in
        (here before r i (clean_first before x (placed ps) h), keep before x refl i, clean_rest before x (placed ps) h)

    nil_applied : (r : Ref) (ks : List Actual) → g r ≡ [] → flat_map g (flat_map refs ks) ≡ [] → flat_map g (refs (applied r ks)) ≡ []
    nil_applied r ks e f = ap (flat_map g) (refs_applied r ks) ∙ nil_both (g r) (flat_map g (flat_map refs ks)) e f

    suffixed_clean : {a b : Actual} {d e : ℕ} {xs rest : List FileToken} (s : Suffixed a d xs rest b e) (before : List Mention) → I before → Clean before (placed (in_suffixed role s)) → flat_map g (refs a) ≡ [] → (flat_map g (refs b) ≡ []) × I (before ++ placed (in_suffixed role s))
    suffixed_clean spelling.Suffixed.bare before i h e = (e, after_none I before i)
    suffixed_clean {a = a} {xs = x ∷ xs} (spelling.Suffixed.suffix {n = n} is more) before i h e =
        let one = head_clean before (x ∷ xs) (Plain n) (in_suffixed role more) i h in
        let whole : flat_map g (refs (applied (Plain n) (a ∷ []))) ≡ [] = nil_applied (Plain n) (a ∷ []) one.0 (ap (flat_map g) (append-nil (refs a)) ∙ e) in
        let later = suffixed_clean more (before ++ mention_of ls (named (x ∷ xs) role (Plain n)) ∷ []) one.1 one.2 whole in
        (later.0, after_one I before (named (x ∷ xs) role (Plain n)) (in_suffixed role more) later.1)

    args_push : (done : List Actual) (a : Actual) → flat_map g (flat_map refs done) ≡ [] → flat_map g (refs a) ≡ [] → flat_map g (flat_map refs (done ++ a ∷ [])) ≡ []
    args_push done a e f =
        ap (flat_map g) (flat_map-append refs done (a ∷ [])) ∙ flat_map-append g (flat_map refs done) (refs a ++ [])
        ∙ nil_both (flat_map g (flat_map refs done)) (flat_map g (refs a ++ [])) e (ap (flat_map g) (append-nil (refs a)) ∙ f)

    mutual
      unsuffixed_clean : {xs rest : List FileToken} {a : Actual} {d : ℕ} (s : Unsuffixed xs rest a d) (before : List Mention) → I before → Clean before (placed (in_unsuffixed role s)) → (flat_map g (refs a) ≡ []) × I (before ++ placed (in_unsuffixed role s))
      unsuffixed_clean (spelling.Unsuffixed.plain {x = x} {xs = xs} {r = r} is) before i h =
          let one = head_clean before (x ∷ xs) r [] i h in
          (nil_applied r [] one.0 refl, one.1)
      unsuffixed_clean (spelling.Unsuffixed.with_args {x = x} {y = y} {xs = xs} {r = r} {ks = ks} is bracket args) before i h =
          let one = head_clean before (x ∷ y ∷ xs) r (in_args role args) i h in
          let later = args_clean args (before ++ mention_of ls (named (x ∷ y ∷ xs) role r) ∷ []) one.1 one.2 refl in
          (nil_applied r ks one.0 later.0, after_one I before (named (x ∷ y ∷ xs) role r) (in_args role args) later.1)

      args_clean : {done ks : List Actual} {n d : ℕ} {xs rest : List FileToken} (s : Args done n xs rest ks d) (before : List Mention) → I before → Clean before (placed (in_args role s)) → flat_map g (flat_map refs done) ≡ [] → (flat_map g (flat_map refs ks) ≡ []) × I (before ++ placed (in_args role s))
      args_clean {done = done} (spelling.Args.last {a = a} one close) before i h e =
          let first = actual_clean one before i h in
          (args_push done a e first.0, first.1)
      args_clean {done = done} (spelling.Args.more {a = a} one comma more) before i h e =
          let parts = clean_both before (in_actual role one) (in_args role more) h in
          let first = actual_clean one before i parts.0 in
          let later = args_clean more (before ++ placed (in_actual role one)) first.1 parts.1 (args_push done a e first.0) in
          (later.0, after_both I before (in_actual role one) (in_args role more) later.1)

      actual_clean : {xs rest : List FileToken} {a : Actual} {d : ℕ} (s : IsActual xs rest a d) (before : List Mention) → I before → Clean before (placed (in_actual role s)) → (flat_map g (refs a) ≡ []) × I (before ++ placed (in_actual role s))
      actual_clean (spelling.IsActual.actual first suffixes) before i h =
          let parts = clean_both before (in_unsuffixed role first) (in_suffixed role suffixes) h in
          let one = unsuffixed_clean first before i parts.0 in
          let later = suffixed_clean suffixes (before ++ placed (in_unsuffixed role first)) one.1 parts.1 one.0 in
          (later.0, after_both I before (in_unsuffixed role first) (in_suffixed role suffixes) later.1)

    pub limited_clean : {xs rest : List FileToken} {a : Actual} (s : LimitedActual xs rest a) (before : List Mention) → I before → Clean before (placed (in_limited role s)) → (flat_map g (refs a) ≡ []) × I (before ++ placed (in_limited role s))
    limited_clean (spelling.LimitedActual.limited one within) before i h = actual_clean one before i h

  -- ---- Lists of items.

  module _ {A : Type 0} {X : List FileToken → List FileToken → A → Type 0} (of : ℕ → (ys zs : List FileToken) (a : A) → X ys zs a → List Named) (I : List Mention → Type 0) (f : A → List JoinFault)
      (item : (n : ℕ) (ys zs : List FileToken) (a : A) (one : X ys zs a) (before : List Mention) → I before → Clean before (placed (of n ys zs a one)) → (f a ≡ []) × I (before ++ placed (of n ys zs a one))) where
    pub list_clean : {done all : List A} {xs rest : List FileToken} (n : ℕ) (s : ListOf A X done xs rest all) (before : List Mention) → I before → Clean before (placed (in_list of n s)) → flat_map f done ≡ [] → (flat_map f all ≡ []) × I (before ++ placed (in_list of n s))
    list_clean n spelling.ListOf.none before i h e = (e, after_none I before i)
    list_clean {done = done} n (spelling.ListOf.next {xs = xs} {mid = mid} {a = a} one more) before i h e =
        let parts = clean_both before (of n xs mid a one) (in_list of (suc n) more) h in
        let first = item n xs mid a one before i parts.0 in
        let later = list_clean (suc n) more (before ++ placed (of n xs mid a one)) first.1 parts.1 (nil_push f done a e first.0) in
        (later.0, after_both I before (of n xs mid a one) (in_list of (suc n) more) later.1)
    list_clean {done = done} n (spelling.ListOf.comma {xs = xs} {mid = mid} {a = a} is one more) before i h e =
        let parts = clean_both before (of n xs mid a one) (in_list of (suc n) more) h in
        let first = item n xs mid a one before i parts.0 in
        let later = list_clean (suc n) more (before ++ placed (of n xs mid a one)) first.1 parts.1 (nil_push f done a e first.0) in
        (later.0, after_both I before (of n xs mid a one) (in_list of (suc n) more) later.1)
