-- The walk over the tokens of a file finds the names of each derivation of the file, in order.
use Rattle.std.proofs.Common.{◌≡◌, ℕ, suc, ◌+◌, ◌-◌, List, [], ◌∷◌, ◌++◌, length, map, take, Option, Some, None, Bool, true, false, refl, sym, ap, ◌∙◌, append_assoc, arith}
use Rattle.std.proofs.lemmas.List.{append-nil, length-append, length-map, take_at}
use Rattle.mh_rules.specs.Modules.{alternative, no_module}
use Rattle.mh_rules.specs.declared.modules.Ref.{Ref}
use Rattle.mh_rules.specs.declared.modules.Ref.TheVariants.{Plain, Alias}
use Rattle.mh_rules.specs.declared.modules.Actual.{Actual}
use Rattle.mh_rules.specs.declared.modules.Alternative.{Alternative}
use Rattle.mh_rules.specs.declared.modules.Rule.{Rule}
use Rattle.mh_rules.specs.declared.modules.TokenDecl.{TokenDecl}
use Rattle.mh_rules.specs.declared.modules.Module.{Module}
use Rattle.mh_reader_parser.specs.declared.token_kinds.TokenKind.{TokenKind}
use Rattle.mh_reader_parser.specs.declared.token_kinds.TokenKind.TheVariants as signs
use Rattle.mh_reader_parser.specs.TokenKinds.{FileToken}
use Rattle.mh_reader_parser.specs.Spelling as spelling
use Rattle.mh_reader_parser.specs.Spelling.{ref_by, ref_of, suffix_of, with_prec, starts_with_bar, Suffixed, Unsuffixed, Args, IsActual, LimitedActual, ListOf, IsAlias, IsTokenItem, IsWordItem, IsRef, OptionalType, Declaration, Semicolons, IsProducer, Producers, IsPrec, Productions, Groups, Modifiers, Formals, OptionalFormals, OptionalBar, IsRule, Rules, File}
use Rattle.mh_reader_parser.proofs.FollowKinds.{may_follow_list}
use Rattle.mh_reader_places.specs.Mentions.{Named, named, in_suffixed, in_unsuffixed, in_args, in_actual, in_list, in_alias, in_token, in_start, in_ref, in_on_error, in_declaration, in_producer, in_producers, in_prec, in_productions, in_groups, in_formals, in_optional_formals, in_rule, in_rules, in_file}
use Rattle.mh_reader_places.specs.code.ScanSteps.{one_less, counted, start, declared, with_count, taken_in, taken, word_role, token_role, reference_role, head_role, role_in, without_name, with_name, reference_of, names_after}
use Rattle.mh_reader_places.specs.code.Walks.{walk}
use Rattle.mh_reader_places.specs.declared.mentions.Role.{Role}
use Rattle.mh_reader_places.specs.declared.mentions.Role.TheVariants as roles
use Rattle.mh_reader_places.specs.declared.scan.Section.{Section}
use Rattle.mh_reader_places.specs.declared.scan.Section.TheVariants as sections
use Rattle.mh_reader_places.specs.declared.scan.Scan.{Scan}
use Rattle.mh_reader_places.proofs.ScanSteps.{one_less_is}

-- The walk in a section, with the other counts of c.
abbrev at : Section → Scan → ℕ → ℕ → Scan
at section c actuals brackets = record c { section = section; actuals = actuals; brackets = brackets }

-- The walk over a lexeme and a rest is the walk over the rest, after the step for the token kind of the lexeme.
walk-sign : (s : Scan) (found : List Named) (x : FileToken) (xs : List FileToken) (g : TokenKind) → x.sign ≡ g →
    walk s found (x ∷ xs) ≡ walk (taken s g) (names_after (named (x ∷ xs)) s g x.text found) xs
walk-sign s found x xs g e = ap (λ k. walk (taken s k) (names_after (named (x ∷ xs)) s k x.text found) xs) e

walk-step : (s t : Scan) (found more : List Named) (x : FileToken) (xs : List FileToken) → taken s x.sign ≡ t → names_after (named (x ∷ xs)) s x.sign x.text found ≡ more →
    walk s found (x ∷ xs) ≡ walk t more xs
walk-step s t found more x xs e f = ap (λ u. walk u (names_after (named (x ∷ xs)) s x.sign x.text found) xs) e ∙ ap (λ l. walk t l xs) f

walk-names : (s : Scan) (found more : List Named) (xs : List FileToken) → found ≡ more → walk s found xs ≡ walk s more xs
walk-names s found more xs e = ap (λ l. walk s l xs) e

some_value : {X : Type 0} (x y : X) → Some x ≡ Some y → x ≡ y
some_value x y e = cc

-- ---- Actuals: in a list of `%on_error_reduce`, or in the body of a rule.

abbrev section_of : Bool → Section
section_of true = sections.OnError
section_of false = sections.Body

abbrev now : Bool → Scan → ℕ → ℕ → Scan
now listed c actuals brackets = at (section_of listed) c actuals brackets

-- The role of a head, after the actual was counted.
abbrev role : Bool → Scan → ℕ → Role
role true c actuals = roles.OnError (one_less c.on_error) (one_less actuals)
role false c actuals = roles.Head c.alternatives (one_less actuals)

record NamesNext (s t : Scan) (g : TokenKind) (text : List ℕ) (of : Role → Ref → Named) (found more : List Named) : Type 0 where
  next : taken s g ≡ t
  names : names_after of s g text found ≡ more

walk-next : (s t : Scan) (found more : List Named) (x : FileToken) (xs : List FileToken) → NamesNext s t x.sign x.text (named (x ∷ xs)) found more → walk s found (x ∷ xs) ≡ walk t more xs
walk-next s t found more x xs h = walk-step s t found more x xs h.next h.names

suffix_next : (listed : Bool) (c : Scan) (ac br : ℕ) (g : TokenKind) (text n : List ℕ) (of : Role → Ref → Named) (found : List Named) → suffix_of g ≡ Some n →
    NamesNext (now listed c ac br) (now listed c ac br) g text of found (found ++ of (role listed c ac) (Plain n) ∷ [])
suffix_next true c ac br signs.Question text n of found e = record { next = refl; names = ap (λ k. found ++ of (role true c ac) (Plain k) ∷ []) (some_value _ n e) }
suffix_next true c ac br signs.Star text n of found e = record { next = refl; names = ap (λ k. found ++ of (role true c ac) (Plain k) ∷ []) (some_value _ n e) }
suffix_next true c ac br signs.Plus text n of found e = record { next = refl; names = ap (λ k. found ++ of (role true c ac) (Plain k) ∷ []) (some_value _ n e) }
suffix_next false c ac br signs.Question text n of found e = record { next = refl; names = ap (λ k. found ++ of (role false c ac) (Plain k) ∷ []) (some_value _ n e) }
suffix_next false c ac br signs.Star text n of found e = record { next = refl; names = ap (λ k. found ++ of (role false c ac) (Plain k) ∷ []) (some_value _ n e) }
suffix_next false c ac br signs.Plus text n of found e = record { next = refl; names = ap (λ k. found ++ of (role false c ac) (Plain k) ∷ []) (some_value _ n e) }
suffix_next listed c ac br g text n of found e = absurd (cc)

head_next : (listed : Bool) (c : Scan) (ac br : ℕ) (g : TokenKind) (text : List ℕ) (r : Ref) (of : Role → Ref → Named) (found : List Named) → ref_by g text ≡ Some r →
    NamesNext (now listed c ac br) (now listed c (counted br ac) br) g text of found (found ++ of (role listed c (counted br ac)) r ∷ [])
head_next true c ac br signs.Word text r of found e = record { next = refl; names = ap (λ k. found ++ of (role true c (counted br ac)) k ∷ []) (some_value (Plain text) r e) }
head_next true c ac br signs.Quoted text r of found e = record { next = refl; names = ap (λ k. found ++ of (role true c (counted br ac)) k ∷ []) (some_value (Alias text) r e) }
head_next false c ac br signs.Word text r of found e = record { next = refl; names = ap (λ k. found ++ of (role false c (counted br ac)) k ∷ []) (some_value (Plain text) r e) }
head_next false c ac br signs.Quoted text r of found e = record { next = refl; names = ap (λ k. found ++ of (role false c (counted br ac)) k ∷ []) (some_value (Alias text) r e) }
head_next listed c ac br g text r of found e = absurd (cc)

walk-bracket : (listed : Bool) (c : Scan) (ac br : ℕ) (found : List Named) (y : FileToken) (xs : List FileToken) → y.sign ≡ signs.Open → walk (now listed c ac br) found (y ∷ xs) ≡ walk (now listed c ac (suc br)) found xs
walk-bracket true c ac br found y xs e = walk-sign (now true c ac br) found y xs signs.Open e
walk-bracket false c ac br found y xs e = walk-sign (now false c ac br) found y xs signs.Open e

walk-close : (listed : Bool) (c : Scan) (ac br : ℕ) (found : List Named) (y : FileToken) (xs : List FileToken) → y.sign ≡ signs.Close → walk (now listed c ac (suc br)) found (y ∷ xs) ≡ walk (now listed c ac br) found xs
walk-close true c ac br found y xs e = walk-sign (now true c ac (suc br)) found y xs signs.Close e
walk-close false c ac br found y xs e = walk-sign (now false c ac (suc br)) found y xs signs.Close e

walk-comma : (listed : Bool) (c : Scan) (ac br : ℕ) (found : List Named) (y : FileToken) (xs : List FileToken) → y.sign ≡ signs.Comma → walk (now listed c ac br) found (y ∷ xs) ≡ walk (now listed c ac br) found xs
walk-comma true c ac br found y xs e = walk-sign (now true c ac br) found y xs signs.Comma e
walk-comma false c ac br found y xs e = walk-sign (now false c ac br) found y xs signs.Comma e

walk-suffixed : {a b : Actual} {d e : ℕ} {xs rest : List FileToken} (t : Suffixed a d xs rest b e) (listed : Bool) (c : Scan) (ac br : ℕ) (found : List Named) →
    walk (now listed c ac br) found xs ≡ walk (now listed c ac br) (found ++ in_suffixed (role listed c ac) t) rest
walk-suffixed (spelling.Suffixed.bare {xs = xs}) listed c ac br found = walk-names (now listed c ac br) found (found ++ []) xs (sym (append-nil found))
walk-suffixed (spelling.Suffixed.suffix {x = x} {xs = xs} {rest = rest} {n = n} is more) listed c ac br found =
    let s = now listed c ac br in
    let one = named (x ∷ xs) (role listed c ac) (Plain n) in
    walk-next s s found (found ++ one ∷ []) x xs (suffix_next listed c ac br x.sign x.text n (named (x ∷ xs)) found is)
    ∙ walk-suffixed more listed c ac br (found ++ one ∷ [])
    ∙ walk-names s ((found ++ one ∷ []) ++ in_suffixed (role listed c ac) more) (found ++ (one ∷ in_suffixed (role listed c ac) more)) rest (append_assoc found (one ∷ []) (in_suffixed (role listed c ac) more))

mutual
  walk-unsuffixed : {xs rest : List FileToken} {a : Actual} {d : ℕ} (t : Unsuffixed xs rest a d) (listed : Bool) (c : Scan) (ac br : ℕ) (found : List Named) →
      walk (now listed c ac br) found xs ≡ walk (now listed c (counted br ac) br) (found ++ in_unsuffixed (role listed c (counted br ac)) t) rest
  walk-unsuffixed (spelling.Unsuffixed.plain {x = x} {xs = xs} {r = r} is) listed c ac br found =
      walk-next (now listed c ac br) (now listed c (counted br ac) br) found (found ++ named (x ∷ xs) (role listed c (counted br ac)) r ∷ []) x xs (head_next listed c ac br x.sign x.text r (named (x ∷ xs)) found is)
  walk-unsuffixed (spelling.Unsuffixed.with_args {x = x} {y = y} {xs = xs} {rest = rest} {r = r} is bracket args) listed c ac br found =
      let n = counted br ac in
      let one = named (x ∷ y ∷ xs) (role listed c n) r in
      walk-next (now listed c ac br) (now listed c n br) found (found ++ one ∷ []) x (y ∷ xs) (head_next listed c ac br x.sign x.text r (named (x ∷ y ∷ xs)) found is)
      ∙ walk-bracket listed c n br (found ++ one ∷ []) y xs bracket
      ∙ walk-args args listed c n br (found ++ one ∷ [])
      ∙ walk-names (now listed c n br) ((found ++ one ∷ []) ++ in_args (role listed c n) args) (found ++ (one ∷ in_args (role listed c n) args)) rest (append_assoc found (one ∷ []) (in_args (role listed c n) args))

  -- The walk over the arguments after an opening bracket, up to the bracket that closes them, finds the names in the
  -- arguments.
  walk-args : {done ks : List Actual} {m d : ℕ} {xs rest : List FileToken} (t : Args done m xs rest ks d) (listed : Bool) (c : Scan) (ac br : ℕ) (found : List Named) →
      walk (now listed c ac (suc br)) found xs ≡ walk (now listed c ac br) (found ++ in_args (role listed c ac) t) rest
  walk-args (spelling.Args.last {y = y} {rest = rest} one close) listed c ac br found =
      walk-actual one listed c ac (suc br) found ∙ walk-close listed c ac br (found ++ in_actual (role listed c ac) one) y rest close
  walk-args (spelling.Args.more {y = y} {mid = mid} {rest = rest} one comma args) listed c ac br found =
      let names = in_actual (role listed c ac) one in
      walk-actual one listed c ac (suc br) found
      ∙ walk-comma listed c ac (suc br) (found ++ names) y mid comma
      ∙ walk-args args listed c ac br (found ++ names)
      ∙ walk-names (now listed c ac br) ((found ++ names) ++ in_args (role listed c ac) args) (found ++ (names ++ in_args (role listed c ac) args)) rest (append_assoc found names (in_args (role listed c ac) args))

  walk-actual : {xs rest : List FileToken} {a : Actual} {d : ℕ} (t : IsActual xs rest a d) (listed : Bool) (c : Scan) (ac br : ℕ) (found : List Named) →
      walk (now listed c ac br) found xs ≡ walk (now listed c (counted br ac) br) (found ++ in_actual (role listed c (counted br ac)) t) rest
  walk-actual (spelling.IsActual.actual {rest = rest} first suffixes) listed c ac br found =
      let n = counted br ac in
      let names = in_unsuffixed (role listed c n) first in
      walk-unsuffixed first listed c ac br found
      ∙ walk-suffixed suffixes listed c n br (found ++ names)
      ∙ walk-names (now listed c n br) ((found ++ names) ++ in_suffixed (role listed c n) suffixes) (found ++ (names ++ in_suffixed (role listed c n) suffixes)) rest (append_assoc found names (in_suffixed (role listed c n) suffixes))

-- ---- Actuals of declarations in which nothing is named.

-- A lexeme of this kind changes nothing in this section.
abbrev Stays : Section → TokenKind → Type 0
Stays section g = (c : Scan) (ac br : ℕ) (found : List Named) (x : FileToken) (xs : List FileToken) → x.sign ≡ g → walk (at section c ac br) found (x ∷ xs) ≡ walk (at section c ac br) found xs

unread_head : (c : Scan) (ac : ℕ) (g : TokenKind) (text : List ℕ) (r : Ref) (of : Role → Ref → Named) (found : List Named) → ref_by g text ≡ Some r →
    NamesNext (at sections.Unread c ac 0) (at sections.Unread c ac 0) g text of found found
unread_head c ac signs.Word text r of found e = record { next = refl; names = refl }
unread_head c ac signs.Quoted text r of found e = record { next = refl; names = refl }
unread_head c ac g text r of found e = absurd (cc)

unread_suffix : (c : Scan) (ac : ℕ) (g : TokenKind) (text n : List ℕ) (of : Role → Ref → Named) (found : List Named) → suffix_of g ≡ Some n →
    NamesNext (at sections.Unread c ac 0) (at sections.Unread c ac 0) g text of found found
unread_suffix c ac signs.Question text n of found e = record { next = refl; names = refl }
unread_suffix c ac signs.Star text n of found e = record { next = refl; names = refl }
unread_suffix c ac signs.Plus text n of found e = record { next = refl; names = refl }
unread_suffix c ac g text n of found e = absurd (cc)

unread-suffixed : {a b : Actual} {d e : ℕ} {xs rest : List FileToken} → Suffixed a d xs rest b e → (c : Scan) (ac : ℕ) (found : List Named) →
    walk (at sections.Unread c ac 0) found xs ≡ walk (at sections.Unread c ac 0) found rest
unread-suffixed spelling.Suffixed.bare c ac found = refl
unread-suffixed (spelling.Suffixed.suffix {x = x} {xs = xs} {n = n} is more) c ac found =
    walk-next (at sections.Unread c ac 0) (at sections.Unread c ac 0) found found x xs (unread_suffix c ac x.sign x.text n (named (x ∷ xs)) found is) ∙ unread-suffixed more c ac found

mutual
  unread-unsuffixed : {xs rest : List FileToken} {a : Actual} {d : ℕ} → Unsuffixed xs rest a d → (c : Scan) (ac : ℕ) (found : List Named) →
      walk (at sections.Unread c ac 0) found xs ≡ walk (at sections.Unread c ac 0) found rest
  unread-unsuffixed (spelling.Unsuffixed.plain {x = x} {xs = xs} {r = r} is) c ac found =
      walk-next (at sections.Unread c ac 0) (at sections.Unread c ac 0) found found x xs (unread_head c ac x.sign x.text r (named (x ∷ xs)) found is)
  unread-unsuffixed (spelling.Unsuffixed.with_args {x = x} {y = y} {xs = xs} {r = r} is bracket args) c ac found =
      walk-next (at sections.Unread c ac 0) (at sections.Unread c ac 0) found found x (y ∷ xs) (unread_head c ac x.sign x.text r (named (x ∷ y ∷ xs)) found is)
      ∙ walk-sign (at sections.Unread c ac 0) found y xs signs.Open bracket
      ∙ unread-args args c ac found

  unread-args : {done ks : List Actual} {m d : ℕ} {xs rest : List FileToken} → Args done m xs rest ks d → (c : Scan) (ac : ℕ) (found : List Named) →
      walk (at sections.Unread c ac 0) found xs ≡ walk (at sections.Unread c ac 0) found rest
  unread-args (spelling.Args.last {y = y} {rest = rest} one close) c ac found = unread-actual one c ac found ∙ walk-sign (at sections.Unread c ac 0) found y rest signs.Close close
  unread-args (spelling.Args.more {y = y} {mid = mid} one comma args) c ac found = unread-actual one c ac found ∙ walk-sign (at sections.Unread c ac 0) found y mid signs.Comma comma ∙ unread-args args c ac found

  unread-actual : {xs rest : List FileToken} {a : Actual} {d : ℕ} → IsActual xs rest a d → (c : Scan) (ac : ℕ) (found : List Named) →
      walk (at sections.Unread c ac 0) found xs ≡ walk (at sections.Unread c ac 0) found rest
  unread-actual (spelling.IsActual.actual first suffixes) c ac found = unread-unsuffixed first c ac found ∙ unread-suffixed suffixes c ac found

unread-list : {done all : List Actual} {xs rest : List FileToken} → ListOf Actual LimitedActual done xs rest all → (c : Scan) (ac : ℕ) (found : List Named) →
    walk (at sections.Unread c ac 0) found xs ≡ walk (at sections.Unread c ac 0) found rest
unread-list spelling.ListOf.none c ac found = refl
unread-list (spelling.ListOf.next (spelling.LimitedActual.limited one within) more) c ac found = unread-actual one c ac found ∙ unread-list more c ac found
unread-list (spelling.ListOf.comma {y = y} {xs = xs} is (spelling.LimitedActual.limited one within) more) c ac found =
    walk-sign (at sections.Unread c ac 0) found y xs signs.Comma is ∙ unread-actual one c ac found ∙ unread-list more c ac found

-- ---- Lists of declarations, in the walk `state n` after n items.

module _ (A : Type 0) (X : List FileToken → List FileToken → A → Type 0) (state : ℕ → Scan) (of : ℕ → (ys zs : List FileToken) (a : A) → X ys zs a → List Named)
    (comma : (n : ℕ) (y : FileToken) (ys : List FileToken) (found : List Named) → y.sign ≡ signs.Comma → walk (state n) found (y ∷ ys) ≡ walk (state n) found ys)
    (item : (n : ℕ) (ys zs : List FileToken) (a : A) (x : X ys zs a) (found : List Named) → walk (state n) found ys ≡ walk (state (suc n)) (found ++ of n ys zs a x) zs) where
  walk-list : {done all : List A} {xs rest : List FileToken} (t : ListOf A X done xs rest all) (n : ℕ) (found : List Named) →
      (k : ℕ) × (walk (state n) found xs ≡ walk (state k) (found ++ in_list of n t) rest)
  walk-list (spelling.ListOf.none {xs = xs}) n found = (n, walk-names (state n) found (found ++ []) xs (sym (append-nil found)))
  walk-list (spelling.ListOf.next {xs = xs} {mid = mid} {rest = rest} {a = a} one more) n found =
      let names = of n xs mid a one in
      let later = walk-list more (suc n) (found ++ names) in
      (later.0, item n xs mid a one found ∙ later.1 ∙ walk-names (state later.0) ((found ++ names) ++ in_list of (suc n) more) (found ++ (names ++ in_list of (suc n) more)) rest (append_assoc found names (in_list of (suc n) more)))
  walk-list (spelling.ListOf.comma {y = y} {xs = xs} {mid = mid} {rest = rest} {a = a} is one more) n found =
      let names = of n xs mid a one in
      let later = walk-list more (suc n) (found ++ names) in
      (later.0, comma n y xs found is ∙ item n xs mid a one found ∙ later.1 ∙ walk-names (state later.0) ((found ++ names) ++ in_list of (suc n) more) (found ++ (names ++ in_list of (suc n) more)) rest (append_assoc found names (in_list of (suc n) more)))

-- Tokens.

walk-alias : {xs rest : List FileToken} {o : Option (List ℕ)} {k : Option ℕ} (t : IsAlias xs rest o k) (c : Scan) (ac : ℕ) (found : List Named) →
    walk (at sections.Tokens c ac 0) found xs ≡ walk (at sections.Tokens c ac 0) (found ++ in_alias t) rest
walk-alias (spelling.IsAlias.absent {xs = xs}) c ac found = walk-names (at sections.Tokens c ac 0) found (found ++ []) xs (sym (append-nil found))
walk-alias (spelling.IsAlias.given {y = y} {xs = xs} is) c ac found = walk-sign (at sections.Tokens c ac 0) found y xs signs.Quoted is

walk-token : (c : Scan) (ac n : ℕ) (ys zs : List FileToken) (t : TokenDecl) (x : IsTokenItem ys zs t) (found : List Named) →
    walk (at sections.Tokens c ac 0) found ys ≡ walk (at sections.Tokens c ac 0) (found ++ in_token n ys zs t x) zs
walk-token c ac n _ rest _ (spelling.IsTokenItem.token {x = x} {xs = xs} is capital alias) found =
    let one = named (x ∷ xs) roles.Token (Plain x.text) in
    walk-sign (at sections.Tokens c ac 0) found x xs signs.Word is
    ∙ walk-alias alias c ac (found ++ one ∷ [])
    ∙ walk-names (at sections.Tokens c ac 0) ((found ++ one ∷ []) ++ in_alias alias) (found ++ (one ∷ in_alias alias)) rest (append_assoc found (one ∷ []) (in_alias alias))

-- Starts.

walk-start : (c : Scan) (ac n : ℕ) (ys zs : List FileToken) (name : List ℕ) (x : IsWordItem ys zs name) (found : List Named) →
    walk (at sections.Starts c ac 0) found ys ≡ walk (at sections.Starts c ac 0) (found ++ in_start n ys zs name x) zs
walk-start c ac n _ _ _ (spelling.IsWordItem.word {x = x} {xs = xs} is) found = walk-sign (at sections.Starts c ac 0) found x xs signs.Word is

-- Levels.

level_next : (c : Scan) (ac : ℕ) (g : TokenKind) (text : List ℕ) (r : Ref) (of : Role → Ref → Named) (found : List Named) → ref_by g text ≡ Some r →
    NamesNext (at sections.Levels c ac 0) (at sections.Levels c ac 0) g text of found (found ++ of (roles.Level (one_less c.levels)) r ∷ [])
level_next c ac signs.Word text r of found e = record { next = refl; names = ap (λ k. found ++ of (roles.Level (one_less c.levels)) k ∷ []) (some_value (Plain text) r e) }
level_next c ac signs.Quoted text r of found e = record { next = refl; names = ap (λ k. found ++ of (roles.Level (one_less c.levels)) k ∷ []) (some_value (Alias text) r e) }
level_next c ac g text r of found e = absurd (cc)

walk-level : (c : Scan) (ac n : ℕ) (ys zs : List FileToken) (r : Ref) (x : IsRef ys zs r) (found : List Named) →
    walk (at sections.Levels c ac 0) found ys ≡ walk (at sections.Levels c ac 0) (found ++ in_ref (roles.Level (one_less c.levels)) n ys zs r x) zs
walk-level c ac n _ _ r (spelling.IsRef.reference {x = x} {xs = xs} is) found =
    walk-next (at sections.Levels c ac 0) (at sections.Levels c ac 0) found (found ++ named (x ∷ xs) (roles.Level (one_less c.levels)) r ∷ []) x xs (level_next c ac x.sign x.text r (named (x ∷ xs)) found is)

-- Actuals after `%on_error_reduce`.

walk-on_error : (c : Scan) (n : ℕ) (ys zs : List FileToken) (a : Actual) (x : LimitedActual ys zs a) (found : List Named) →
    walk (at sections.OnError c n 0) found ys ≡ walk (at sections.OnError c (suc n) 0) (found ++ in_on_error (one_less c.on_error) n ys zs a x) zs
walk-on_error c n _ _ _ (spelling.LimitedActual.limited one within) found = walk-actual one true c n 0 found

-- ---- Declarations.

abbrev is_declaring : Section → Bool
is_declaring sections.Unread = true
is_declaring sections.Tokens = true
is_declaring sections.Starts = true
is_declaring sections.Levels = true
is_declaring sections.OnError = true
is_declaring _ = false

with_count-keyword : (s : Scan) (g : TokenKind) → may_follow_list g ≡ true → with_count s g ≡ s
with_count-keyword s signs.Open e = cc
with_count-keyword s signs.Close e = cc
with_count-keyword s signs.Word e = cc
with_count-keyword s signs.Quoted e = cc
with_count-keyword s signs.Equals e = cc
with_count-keyword s _ e = refl

taken_in-keyword : (section : Section) (s : Scan) (g : TokenKind) → is_declaring section ≡ true → may_follow_list g ≡ true → taken_in section s g ≡ declared s g
taken_in-keyword sections.Unread s g d e = refl
taken_in-keyword sections.Tokens s g d e = refl
taken_in-keyword sections.Starts s g d e = refl
taken_in-keyword sections.Levels s g d e = refl
taken_in-keyword sections.OnError s g d e = ap (λ t. declared t g) (with_count-keyword s g e)
taken_in-keyword _ s g d e = cc

token_role-keyword : (g : TokenKind) → may_follow_list g ≡ true → token_role g ≡ None
token_role-keyword signs.Word e = cc
token_role-keyword signs.Quoted e = cc
token_role-keyword _ e = refl

word_role-keyword : (g : TokenKind) (r : Role) → may_follow_list g ≡ true → word_role g r ≡ None
word_role-keyword signs.Word r e = cc
word_role-keyword _ r e = refl

reference_role-keyword : (g : TokenKind) (r : Role) → may_follow_list g ≡ true → reference_role g r ≡ None
reference_role-keyword signs.Word r e = cc
reference_role-keyword signs.Quoted r e = cc
reference_role-keyword _ r e = refl

head_role-keyword : (g : TokenKind) (r : Role) → may_follow_list g ≡ true → head_role g r ≡ None
head_role-keyword signs.Word r e = cc
head_role-keyword signs.Quoted r e = cc
head_role-keyword signs.Question r e = cc
head_role-keyword signs.Star r e = cc
head_role-keyword signs.Plus r e = cc
head_role-keyword _ r e = refl

role_in-keyword : (section : Section) (s : Scan) (g : TokenKind) → is_declaring section ≡ true → may_follow_list g ≡ true → role_in section s g ≡ None
role_in-keyword sections.Unread s g d e = refl
role_in-keyword sections.Tokens s g d e = token_role-keyword g e
role_in-keyword sections.Starts s g d e = word_role-keyword g roles.Start e
role_in-keyword sections.Levels s g d e = reference_role-keyword g (roles.Level (one_less s.levels)) e
role_in-keyword sections.OnError s g d e = head_role-keyword g (roles.OnError (one_less s.on_error) (one_less s.actuals)) e
role_in-keyword _ s g d e = cc

without_name-keyword : (g : TokenKind) (found : List Named) → may_follow_list g ≡ true → without_name g found ≡ found
without_name-keyword signs.Equals found e = cc
without_name-keyword _ found e = refl

-- The walk over a keyword of a declaration, or over the `%%` after the declarations, finds no name.
walk-keyword : (section : Section) (c : Scan) (ac : ℕ) (found : List Named) (x : FileToken) (xs : List FileToken) (g : TokenKind) → is_declaring section ≡ true → may_follow_list g ≡ true → x.sign ≡ g →
    walk (at section c ac 0) found (x ∷ xs) ≡ walk (declared (at section c ac 0) g) found xs
walk-keyword section c ac found x xs g d f e =
    let s = at section c ac 0 in
    walk-sign s found x xs g e
    ∙ ap (λ t. walk t (names_after (named (x ∷ xs)) s g x.text found) xs) (taken_in-keyword section s g d f)
    ∙ walk-names (declared s g) (names_after (named (x ∷ xs)) s g x.text found) found xs
    (ap (λ o. with_name (named (x ∷ xs)) o (reference_of g x.text) (without_name g found)) (role_in-keyword section (taken s g) g d f) ∙ without_name-keyword g found f)

-- The counts after the declarations of m.
abbrev counts_of : Module → Scan
counts_of m = record { section = sections.Unread; levels = length m.levels; on_error = length m.on_error; alternatives = 0; group = 0; actuals = 0; brackets = 0 }

length_more : {X : Type 0} (xs : List X) (x : X) → length (xs ++ x ∷ []) ≡ suc (length xs)
length_more xs x = omega (arith, length-append xs (x ∷ []))

record AfterDeclaration (n : Module) (from : Scan) (found names : List Named) (xs rest : List FileToken) : Type 0 where
  section : Section
  actuals : ℕ
  declares : is_declaring section ≡ true
  walks : walk from found xs ≡ walk (at section (counts_of n) actuals 0) (found ++ names) rest

type_of : {xs rest : List FileToken} → OptionalType xs rest → (section : Section) → Stays section signs.TypeText → (c : Scan) (ac : ℕ) (found : List Named) → walk (at section c ac 0) found xs ≡ walk (at section c ac 0) found rest
type_of spelling.OptionalType.absent section stays c ac found = refl
type_of (spelling.OptionalType.given {x = x} {xs = xs} is) section stays c ac found = stays c ac 0 found x xs is

nothing_named : (s : Scan) (found : List Named) (rest : List FileToken) → walk s found rest ≡ walk s (found ++ []) rest
nothing_named s found rest = walk-names s found (found ++ []) rest (sym (append-nil found))

walk-declaration : {m n : Module} {xs rest : List FileToken} (t : Declaration m xs rest n) (section : Section) (ac : ℕ) (found : List Named) → is_declaring section ≡ true →
    AfterDeclaration n (at section (counts_of m) ac 0) found (in_declaration t) xs rest
walk-declaration (spelling.Declaration.header {m = m} {x = x} {xs = xs} is) section ac found d = record {
  section = section;
  actuals = ac;
  declares = d;
  walks = walk-keyword section (counts_of m) ac found x xs signs.Header d refl is ∙ nothing_named (at section (counts_of m) ac 0) found xs;
}
walk-declaration (spelling.Declaration.semicolon {m = m} {x = x} {xs = xs} is) section ac found d = record {
  section = section;
  actuals = ac;
  declares = d;
  walks = walk-keyword section (counts_of m) ac found x xs signs.Semicolon d refl is ∙ nothing_named (at section (counts_of m) ac 0) found xs;
}
walk-declaration (spelling.Declaration.tokens {m = m} {x = x} {xs = xs} {mid = mid} {rest = rest} is type items) section ac found d =
    let c = counts_of m in
    let list = walk-list TokenDecl IsTokenItem (λ n. at sections.Tokens c ac 0) in_token (λ n y ys l e. walk-sign (at sections.Tokens c ac 0) l y ys signs.Comma e) (walk-token c ac) items 0 found in
    record {
      section = sections.Tokens;
      actuals = ac;
      declares = refl;
      walks = walk-keyword section c ac found x xs signs.Token d refl is ∙ type_of type sections.Tokens (λ c ac br l y ys e. walk-sign (at sections.Tokens c ac br) l y ys signs.TypeText e) c ac found ∙ list.1;
    }
walk-declaration (spelling.Declaration.starts {m = m} {x = x} {xs = xs} {mid = mid} {rest = rest} is type items) section ac found d =
    let c = counts_of m in
    let list = walk-list (List ℕ) IsWordItem (λ n. at sections.Starts c ac 0) in_start (λ n y ys l e. walk-sign (at sections.Starts c ac 0) l y ys signs.Comma e) (walk-start c ac) items 0 found in
    record {
      section = sections.Starts;
      actuals = ac;
      declares = refl;
      walks = walk-keyword section c ac found x xs signs.Start d refl is ∙ type_of type sections.Starts (λ c ac br l y ys e. walk-sign (at sections.Starts c ac br) l y ys signs.TypeText e) c ac found ∙ list.1;
    }
walk-declaration (spelling.Declaration.types {m = m} {x = x} {y = y} {xs = xs} {rest = rest} is type items) section ac found d =
    let c = counts_of m in record {
      section = sections.Unread;
      actuals = ac;
      declares = refl;
      walks = walk-keyword section c ac found x (y ∷ xs) signs.Type d refl is ∙ walk-sign (at sections.Unread c ac 0) found y xs signs.TypeText type ∙ unread-list items c ac found ∙ nothing_named (at sections.Unread c ac 0) found rest;
    }
walk-declaration (spelling.Declaration.levels {m = m} {x = x} {xs = xs} {rest = rest} {g = g} {ks = ks} is items) section ac found d =
    let c = record (counts_of m) { levels = suc (length m.levels) } in
    let list = walk-list Ref IsRef (λ n. at sections.Levels c ac 0) (in_ref (roles.Level (length m.levels))) (λ n y ys l e. walk-sign (at sections.Levels c ac 0) l y ys signs.Comma e) (walk-level c ac) items 0 found in
    record {
      section = sections.Levels;
      actuals = ac;
      declares = refl;
      walks = walk-keyword section (counts_of m) ac found x xs (signs.Level g) d refl is ∙ list.1
          ∙ ap (λ k. walk (at sections.Levels (record (counts_of m) { levels = k }) ac 0) (found ++ in_list (in_ref (roles.Level (length m.levels))) 0 items) rest) (sym (length_more m.levels (record { assoc = g; names = ks })));
    }
walk-declaration (spelling.Declaration.on_error {m = m} {x = x} {xs = xs} {rest = rest} {ks = ks} is items) section ac found d =
    let c = record (counts_of m) { on_error = suc (length m.on_error) } in
    let list = walk-list Actual LimitedActual (λ n. at sections.OnError c n 0) (in_on_error (length m.on_error)) (λ n y ys l e. walk-sign (at sections.OnError c n 0) l y ys signs.Comma e) (walk-on_error c) items 0 found in
    record {
      section = sections.OnError;
      actuals = list.0;
      declares = refl;
      walks = walk-keyword section (counts_of m) ac found x xs signs.OnErrorReduce d refl is ∙ list.1
          ∙ ap (λ k. walk (at sections.OnError (record (counts_of m) { on_error = k }) list.0 0) (found ++ in_list (in_on_error (length m.on_error)) 0 items) rest) (sym (length_more m.on_error ks));
    }
walk-declaration (spelling.Declaration.parameter {m = m} {x = x} {y = y} {xs = xs} is type) section ac found d =
    let c = counts_of m in record {
      section = sections.Unread;
      actuals = ac;
      declares = refl;
      walks = walk-keyword section c ac found x (y ∷ xs) signs.Parameter d refl is ∙ walk-sign (at sections.Unread c ac 0) found y xs signs.TypeText type ∙ nothing_named (at sections.Unread c ac 0) found xs;
    }
walk-declaration (spelling.Declaration.attribute {m = m} {x = x} {xs = xs} {rest = rest} is items) section ac found d =
    let c = counts_of m in record {
      section = sections.Unread;
      actuals = ac;
      declares = refl;
      walks = walk-keyword section c ac found x xs signs.Attribute d refl is ∙ unread-list items c ac found ∙ nothing_named (at sections.Unread c ac 0) found rest;
    }

-- ---- Bodies of rules.

take_last : (found : List Named) (x : Named) → take (length (found ++ x ∷ []) - 1) (found ++ x ∷ []) ≡ found
take_last found x = take_at found (x ∷ []) (length (found ++ x ∷ []) - 1) (omega (arith, length-append found (x ∷ [])))

walk-producer : {xs rest : List FileToken} {a : Actual} (t : IsProducer xs rest a) (c : Scan) (n : ℕ) (found : List Named) →
    walk (at sections.Body c n 0) found xs ≡ walk (at sections.Body c (suc n) 0) (found ++ in_producer (roles.Head c.alternatives n) t) rest
walk-producer (spelling.IsProducer.unnamed (spelling.LimitedActual.limited one within)) c n found = walk-actual one false c n 0 found
walk-producer (spelling.IsProducer.named {x = x} {y = y} {xs = xs} word equals (spelling.LimitedActual.limited one within)) c n found =
    let name = named (x ∷ y ∷ xs) (roles.Head c.alternatives n) (Plain x.text) in
    walk-sign (at sections.Body c n 0) found x (y ∷ xs) signs.Word word
    ∙ walk-sign (at sections.Body c (suc n) 0) (found ++ name ∷ []) y xs signs.Equals equals
    ∙ walk-names (at sections.Body c n 0) (take (length (found ++ name ∷ []) - 1) (found ++ name ∷ [])) found xs (take_last found name)
    ∙ walk-actual one false c n 0 found

walk-semicolons : {xs rest : List FileToken} → Semicolons xs rest → (section : Section) → Stays section signs.Semicolon → (c : Scan) (ac : ℕ) (found : List Named) → walk (at section c ac 0) found xs ≡ walk (at section c ac 0) found rest
walk-semicolons spelling.Semicolons.none section stays c ac found = refl
walk-semicolons (spelling.Semicolons.more {x = x} {xs = xs} is others) section stays c ac found = stays c ac 0 found x xs is ∙ walk-semicolons others section stays c ac found

body_semicolon : Stays sections.Body signs.Semicolon
body_semicolon c ac br found x xs e = walk-sign (at sections.Body c ac br) found x xs signs.Semicolon e

walk-producers : {done all : List Actual} {xs rest : List FileToken} (t : Producers done xs rest all) (c : Scan) (n : ℕ) (found : List Named) →
    (k : ℕ) × (walk (at sections.Body c n 0) found xs ≡ walk (at sections.Body c k 0) (found ++ in_producers c.alternatives n t) rest)
walk-producers (spelling.Producers.none {xs = xs}) c n found = (n, nothing_named (at sections.Body c n 0) found xs)
walk-producers (spelling.Producers.more {rest = rest} one semicolons remaining) c n found =
    let names = in_producer (roles.Head c.alternatives n) one in
    let later = walk-producers remaining c (suc n) (found ++ names) in
    let others = in_producers c.alternatives (suc n) remaining in (
      later.0,
      walk-producer one c n found ∙ walk-semicolons semicolons sections.Body body_semicolon c (suc n) (found ++ names) ∙ later.1
          ∙ walk-names (at sections.Body c later.0 0) ((found ++ names) ++ others) (found ++ (names ++ others)) rest (append_assoc found names others),
    )

-- The section after an alternative: with a `%prec`, or without.
abbrev section_by : Bool → Section
section_by true = sections.Prec
section_by false = sections.Body

prec_next : (c : Scan) (ac : ℕ) (g : TokenKind) (text : List ℕ) (r : Ref) (of : Role → Ref → Named) (found : List Named) → ref_by g text ≡ Some r →
    NamesNext (at sections.Prec c ac 0) (at sections.Prec c ac 0) g text of found (found ++ of (roles.Prec c.alternatives) r ∷ [])
prec_next c ac signs.Word text r of found e = record { next = refl; names = ap (λ k. found ++ of (roles.Prec c.alternatives) k ∷ []) (some_value (Plain text) r e) }
prec_next c ac signs.Quoted text r of found e = record { next = refl; names = ap (λ k. found ++ of (roles.Prec c.alternatives) k ∷ []) (some_value (Alias text) r e) }
prec_next c ac g text r of found e = absurd (cc)

walk-prec : {xs rest : List FileToken} {p : Option Ref} (t : IsPrec xs rest p) (c : Scan) (ac : ℕ) (found : List Named) →
    (b : Bool) × (walk (at sections.Body c ac 0) found xs ≡ walk (at (section_by b) c ac 0) (found ++ in_prec (roles.Prec c.alternatives) t) rest)
walk-prec (spelling.IsPrec.absent {xs = xs}) c ac found = (false, nothing_named (at sections.Body c ac 0) found xs)
walk-prec (spelling.IsPrec.given {x = x} {y = y} {xs = xs} {r = r} is of) c ac found = (
  true,
  walk-sign (at sections.Body c ac 0) found x (y ∷ xs) signs.Prec is
      ∙ walk-next (at sections.Prec c ac 0) (at sections.Prec c ac 0) found (found ++ named (y ∷ xs) (roles.Prec c.alternatives) r ∷ []) y xs (prec_next c ac y.sign y.text r (named (y ∷ xs)) found of),
)

abbrev with_alternatives : Scan → ℕ → Scan
with_alternatives c n = record c { alternatives = n }

walk-action : (b : Bool) (c : Scan) (ac : ℕ) (found : List Named) (y : FileToken) (xs : List FileToken) → y.sign ≡ signs.Action →
    walk (at (section_by b) c ac 0) found (y ∷ xs) ≡ walk (at sections.Group (with_alternatives c (suc c.alternatives)) 0 0) found xs
walk-action true c ac found y xs e = walk-sign (at sections.Prec c ac 0) found y xs signs.Action e
walk-action false c ac found y xs e = walk-sign (at sections.Body c ac 0) found y xs signs.Action e

walk-bar : (b : Bool) (c : Scan) (ac : ℕ) (found : List Named) (y : FileToken) (xs : List FileToken) → y.sign ≡ signs.Bar →
    walk (at (section_by b) c ac 0) found (y ∷ xs) ≡ walk (at sections.Body (with_alternatives c (suc c.alternatives)) 0 0) found xs
walk-bar true c ac found y xs e = walk-sign (at sections.Prec c ac 0) found y xs signs.Bar e
walk-bar false c ac found y xs e = walk-sign (at sections.Body c ac 0) found y xs signs.Bar e

-- The alternatives are numbered from n, and there were `length done` after number b.
walk-productions : {done all : List Alternative} {xs rest : List FileToken} (t : Productions done xs rest all) (c : Scan) (b n : ℕ) (found : List Named) → n ≡ b + length done →
    walk (at sections.Body (with_alternatives c n) 0 0) found xs ≡ walk (at sections.Group (with_alternatives c (b + length all)) 0 0) (found ++ in_productions n t) rest
walk-productions (spelling.Productions.last {done = done} {y = y} {rest = rest} {ps = ps} {p = p} producers prec action) c b n found e =
    let s = with_alternatives c n in
    let names = in_producers n 0 producers in
    let level = in_prec (roles.Prec n) prec in
    let body = walk-producers producers s 0 found in
    let end = walk-prec prec s body.0 (found ++ names) in
    let next : suc n ≡ b + length (done ++ alternative ps p ∷ []) = omega (arith, length-append done (alternative ps p ∷ [])) in
    body.1 ∙ end.1 ∙ walk-action end.0 s body.0 ((found ++ names) ++ level) y rest action
    ∙ ap (λ k. walk (at sections.Group (with_alternatives c k) 0 0) ((found ++ names) ++ level) rest) next
    ∙ walk-names (at sections.Group (with_alternatives c (b + length (done ++ alternative ps p ∷ []))) 0 0) ((found ++ names) ++ level) (found ++ (names ++ level)) rest (append_assoc found names level)
walk-productions (spelling.Productions.more {done = done} {all = all} {y = y} {next = after} {rest = rest} {ps = ps} {p = p} producers prec bar remaining) c b n found e =
    let s = with_alternatives c n in
    let names = in_producers n 0 producers in
    let level = in_prec (roles.Prec n) prec in
    let others = in_productions (suc n) remaining in
    let body = walk-producers producers s 0 found in
    let end = walk-prec prec s body.0 (found ++ names) in
    let next : suc n ≡ b + length (done ++ alternative ps p ∷ []) = omega (arith, length-append done (alternative ps p ∷ [])) in
    body.1 ∙ end.1 ∙ walk-bar end.0 s body.0 ((found ++ names) ++ level) y after bar
    ∙ walk-productions remaining c b (suc n) ((found ++ names) ++ level) next
    ∙ walk-names (at sections.Group (with_alternatives c (b + length all)) 0 0) (((found ++ names) ++ level) ++ others) (found ++ (names ++ level ++ others)) rest
    (ap (λ l. l ++ others) (append_assoc found names level) ∙ append_assoc found (names ++ level) others)

group_prec_next : (c : Scan) (g : TokenKind) (text : List ℕ) (r : Ref) (of : Role → Ref → Named) (found : List Named) → ref_by g text ≡ Some r →
    NamesNext (at sections.GroupPrec c 0 0) (at sections.Group c 0 0) g text of found (found ++ of (roles.GroupPrec c.group (one_less c.alternatives)) r ∷ [])
group_prec_next c signs.Word text r of found e = record { next = refl; names = ap (λ k. found ++ of (roles.GroupPrec c.group (one_less c.alternatives)) k ∷ []) (some_value (Plain text) r e) }
group_prec_next c signs.Quoted text r of found e = record { next = refl; names = ap (λ k. found ++ of (roles.GroupPrec c.group (one_less c.alternatives)) k ∷ []) (some_value (Alias text) r e) }
group_prec_next c g text r of found e = absurd (cc)

walk-group_prec : {xs rest : List FileToken} {p : Option Ref} (t : IsPrec xs rest p) (c : Scan) (found : List Named) →
    walk (at sections.Group c 0 0) found xs ≡ walk (at sections.Group c 0 0) (found ++ in_prec (roles.GroupPrec c.group (c.alternatives - 1)) t) rest
walk-group_prec (spelling.IsPrec.absent {xs = xs}) c found = nothing_named (at sections.Group c 0 0) found xs
walk-group_prec (spelling.IsPrec.given {x = x} {y = y} {xs = xs} {r = r} is of) c found =
    walk-sign (at sections.Group c 0 0) found x (y ∷ xs) signs.Prec is
    ∙ walk-next (at sections.GroupPrec c 0 0) (at sections.Group c 0 0) found (found ++ named (y ∷ xs) (roles.GroupPrec c.group (one_less c.alternatives)) r ∷ []) y xs (group_prec_next c y.sign y.text r (named (y ∷ xs)) found of)
    ∙ ap (λ k. walk (at sections.Group c 0 0) (found ++ named (y ∷ xs) (roles.GroupPrec c.group k) r ∷ []) xs) (one_less_is c.alternatives)

abbrev with_group : Scan → ℕ → ℕ → Scan
with_group c group n = record c { alternatives = n; group = group }

length_group : (done ks : List Alternative) (p : Option Ref) (b n : ℕ) → n ≡ b + length done → n + length ks ≡ b + length (done ++ map (with_prec p) ks)
length_group done ks p b n e = omega (arith, length-append done (map (with_prec p) ks), length-map ks (with_prec p))

-- The walk over the groups of a rule, of which the first begins with alternative n, finds the names in the groups.
walk-groups : {done all : List Alternative} {xs rest : List FileToken} (t : Groups done xs rest all) (c : Scan) (b n : ℕ) (found : List Named) → n ≡ b + length done →
    (group : ℕ) × (walk (at sections.Body (with_group c n n) 0 0) found xs ≡ walk (at sections.Group (with_group c group (b + length all)) 0 0) (found ++ in_groups n t) rest)
walk-groups (spelling.Groups.last {done = done} {ks = ks} {rest = rest} {g = g} productions prec) c b n found e =
    let names = in_productions n productions in
    let level = in_prec (roles.GroupPrec n (n + length ks - 1)) prec in (
      n,
      walk-productions productions (with_group c n n) n n found (omega arith)
          ∙ walk-group_prec prec (with_group c n (n + length ks)) (found ++ names)
          ∙ ap (λ k. walk (at sections.Group (with_group c n k) 0 0) ((found ++ names) ++ level) rest) (length_group done ks g b n e)
          ∙ walk-names (at sections.Group (with_group c n (b + length (done ++ map (with_prec g) ks))) 0 0) ((found ++ names) ++ level) (found ++ (names ++ level)) rest (append_assoc found names level),
    )
walk-groups (spelling.Groups.more {done = done} {ks = ks} {all = all} {y = y} {next = after} {rest = rest} {g = g} productions prec bar remaining) c b n found e =
    let names = in_productions n productions in
    let level = in_prec (roles.GroupPrec n (n + length ks - 1)) prec in
    let others = in_groups (n + length ks) remaining in
    let later = walk-groups remaining c b (n + length ks) ((found ++ names) ++ level) (length_group done ks g b n e) in (
      later.0,
      walk-productions productions (with_group c n n) n n found (omega arith)
          ∙ walk-group_prec prec (with_group c n (n + length ks)) (found ++ names)
          ∙ walk-sign (at sections.Group (with_group c n (n + length ks)) 0 0) ((found ++ names) ++ level) y after signs.Bar bar
          ∙ later.1
          ∙ walk-names (at sections.Group (with_group c later.0 (b + length all)) 0 0) (((found ++ names) ++ level) ++ others) (found ++ (names ++ level ++ others)) rest
          (ap (λ l. l ++ others) (append_assoc found names level) ∙ append_assoc found (names ++ level) others),
    )

-- ---- Rules.

-- The section before a rule: after the action of the rule before, or not.
abbrev section_before : Bool → Section
section_before true = sections.Group
section_before false = sections.RuleStart

walk-modifiers : {p i q j : Bool} {xs rest : List FileToken} → Modifiers p i xs rest q j → (b : Bool) (c : Scan) (ac : ℕ) (found : List Named) →
    (k : Bool) × (walk (at (section_before b) c ac 0) found xs ≡ walk (at (section_before k) c ac 0) found rest)
walk-modifiers spelling.Modifiers.none b c ac found = (b, refl)
walk-modifiers (spelling.Modifiers.public {x = x} {xs = xs} is more) true c ac found = let later = walk-modifiers more false c ac found in (later.0, walk-sign (at sections.Group c ac 0) found x xs signs.Public is ∙ later.1)
walk-modifiers (spelling.Modifiers.public {x = x} {xs = xs} is more) false c ac found = let later = walk-modifiers more false c ac found in (later.0, walk-sign (at sections.RuleStart c ac 0) found x xs signs.Public is ∙ later.1)
walk-modifiers (spelling.Modifiers.inlined {x = x} {xs = xs} is more) true c ac found = let later = walk-modifiers more false c ac found in (later.0, walk-sign (at sections.Group c ac 0) found x xs signs.Inline is ∙ later.1)
walk-modifiers (spelling.Modifiers.inlined {x = x} {xs = xs} is more) false c ac found = let later = walk-modifiers more false c ac found in (later.0, walk-sign (at sections.RuleStart c ac 0) found x xs signs.Inline is ∙ later.1)

walk-rule_name : (b : Bool) (c : Scan) (ac : ℕ) (found : List Named) (x : FileToken) (xs : List FileToken) → x.sign ≡ signs.Word →
    walk (at (section_before b) c ac 0) found (x ∷ xs) ≡ walk (at sections.Formals c ac 0) (found ++ named (x ∷ xs) roles.Rule (Plain x.text) ∷ []) xs
walk-rule_name true c ac found x xs e = walk-sign (at sections.Group c ac 0) found x xs signs.Word e
walk-rule_name false c ac found x xs e = walk-sign (at sections.RuleStart c ac 0) found x xs signs.Word e

walk-formals : {done all : List (List ℕ)} {xs rest : List FileToken} (t : Formals done xs rest all) (c : Scan) (ac : ℕ) (found : List Named) →
    walk (at sections.Formals c ac 0) found xs ≡ walk (at sections.Formals c ac 0) (found ++ in_formals t) rest
walk-formals (spelling.Formals.last {x = x} {y = y} {xs = xs} word close) c ac found =
    let s = at sections.Formals c ac 0 in
    walk-sign s found x (y ∷ xs) signs.Word word ∙ walk-sign s (found ++ named (x ∷ y ∷ xs) roles.Formal (Plain x.text) ∷ []) y xs signs.Close close
walk-formals (spelling.Formals.more {x = x} {y = y} {xs = xs} {rest = rest} word comma others) c ac found =
    let s = at sections.Formals c ac 0 in
    let one = named (x ∷ y ∷ xs) roles.Formal (Plain x.text) in
    walk-sign s found x (y ∷ xs) signs.Word word ∙ walk-sign s (found ++ one ∷ []) y xs signs.Comma comma ∙ walk-formals others c ac (found ++ one ∷ [])
    ∙ walk-names s ((found ++ one ∷ []) ++ in_formals others) (found ++ (one ∷ in_formals others)) rest (append_assoc found (one ∷ []) (in_formals others))

walk-optional_formals : {done all : List (List ℕ)} {xs rest : List FileToken} (t : OptionalFormals done xs rest all) (c : Scan) (ac : ℕ) (found : List Named) →
    walk (at sections.Formals c ac 0) found xs ≡ walk (at sections.Formals c ac 0) (found ++ in_optional_formals t) rest
walk-optional_formals (spelling.OptionalFormals.absent {xs = xs}) c ac found = nothing_named (at sections.Formals c ac 0) found xs
walk-optional_formals (spelling.OptionalFormals.empty {x = x} {y = y} {xs = xs} bracket close) c ac found =
    let s = at sections.Formals c ac 0 in
    walk-sign s found x (y ∷ xs) signs.Open bracket ∙ walk-sign s found y xs signs.Close close ∙ nothing_named s found xs
walk-optional_formals (spelling.OptionalFormals.given {x = x} {xs = xs} bracket formals) c ac found =
    walk-sign (at sections.Formals c ac 0) found x xs signs.Open bracket ∙ walk-formals formals c ac found

body_start_next : (c : Scan) (g : TokenKind) (text : List ℕ) (of : Role → Ref → Named) (found : List Named) → spelling.is_bar g ≡ false →
    NamesNext (at sections.BodyStart c 0 0) (taken (at sections.Body c 0 0) g) g text of found (names_after of (at sections.Body c 0 0) g text found)
body_start_next c signs.Bar text of found e = absurd (cc)
body_start_next c g text of found e = record { next = refl; names = refl }

walk-body_start : (c : Scan) (found : List Named) (xs : List FileToken) → starts_with_bar xs ≡ false → walk (at sections.BodyStart c 0 0) found xs ≡ walk (at sections.Body c 0 0) found xs
walk-body_start c found [] e = refl
walk-body_start c found (x ∷ xs) e =
    let s = at sections.Body c 0 0 in
    walk-next (at sections.BodyStart c 0 0) (taken s x.sign) found (names_after (named (x ∷ xs)) s x.sign x.text found) x xs (body_start_next c x.sign x.text (named (x ∷ xs)) found e)

walk-bar_if_any : {xs rest : List FileToken} → OptionalBar xs rest → (c : Scan) (found : List Named) → walk (at sections.BodyStart c 0 0) found xs ≡ walk (at sections.Body c 0 0) found rest
walk-bar_if_any (spelling.OptionalBar.absent {xs = xs} e) c found = walk-body_start c found xs e
walk-bar_if_any (spelling.OptionalBar.given {x = x} {xs = xs} is) c found = walk-sign (at sections.BodyStart c 0 0) found x xs signs.Bar is

rule_semicolon : Stays sections.RuleStart signs.Semicolon
rule_semicolon c ac br found x xs e = walk-sign (at sections.RuleStart c ac br) found x xs signs.Semicolon e

walk-rule_end : {xs rest : List FileToken} → Semicolons xs rest → (c : Scan) (found : List Named) → (b : Bool) × (walk (at sections.Group c 0 0) found xs ≡ walk (at (section_before b) c 0 0) found rest)
walk-rule_end spelling.Semicolons.none c found = (true, refl)
walk-rule_end (spelling.Semicolons.more {x = x} {xs = xs} is others) c found =
    (false, walk-sign (at sections.Group c 0 0) found x xs signs.Semicolon is ∙ walk-semicolons others sections.RuleStart rule_semicolon c 0 found)

-- The walk after a rule that has this many alternatives.
record AfterRule (from : Scan) (n : ℕ) (found names : List Named) (xs rest : List FileToken) : Type 0 where
  after_action : Bool
  counts : Scan
  alternatives : counts.alternatives ≡ n
  walks : walk from found xs ≡ walk (at (section_before after_action) counts 0 0) (found ++ names) rest

walk-rule : {xs rest : List FileToken} {r : Rule} (t : IsRule xs rest r) (b : Bool) (c : Scan) (ac : ℕ) (found : List Named) →
    AfterRule (at (section_before b) c ac 0) (c.alternatives + length r.alternatives) found (in_rule c.alternatives t) xs rest
walk-rule (spelling.IsRule.rule {x = x} {y = y} {named = after} {formed = formed} {rest = rest} {ks = ks} modifiers word formals colon bar groups semicolons) b c ac found =
    let n = c.alternatives in
    let name = named (x ∷ after) roles.Rule (Plain x.text) in
    let fs = in_optional_formals formals in
    let gs = in_groups n groups in
    let before = walk-modifiers modifiers b c ac found in
    let two = (found ++ name ∷ []) ++ fs in
    let body = walk-groups groups c n n two (omega arith) in
    let end = walk-rule_end semicolons (with_group c body.0 (n + length ks)) (two ++ gs) in
    record {
      after_action = end.0;
      counts = with_group c body.0 (n + length ks);
      alternatives = refl;
      walks = before.1
          ∙ walk-rule_name before.0 c ac found x after word
          ∙ walk-optional_formals formals c ac (found ++ name ∷ [])
          ∙ walk-sign (at sections.Formals c ac 0) two y formed signs.Colon colon
          ∙ walk-bar_if_any bar (with_group c n n) two
          ∙ body.1
          ∙ end.1
          ∙ walk-names (at (section_before end.0) (with_group c body.0 (n + length ks)) 0 0) (two ++ gs) (found ++ (name ∷ (fs ++ gs))) rest
          (ap (λ l. l ++ gs) (append_assoc found (name ∷ []) fs) ∙ append_assoc found (name ∷ fs) gs);
    }

walk-trailer : (b : Bool) (c : Scan) (ac : ℕ) (found : List Named) (x : FileToken) → x.sign ≡ signs.Percents → walk (at (section_before b) c ac 0) found (x ∷ []) ≡ found ++ []
walk-trailer true c ac found x e = walk-sign (at sections.Group c ac 0) found x [] signs.Percents e ∙ sym (append-nil found)
walk-trailer false c ac found x e = walk-sign (at sections.RuleStart c ac 0) found x [] signs.Percents e ∙ sym (append-nil found)

walk-rules : {m out : Module} {xs : List FileToken} (t : Rules m xs out) (b : Bool) (c : Scan) (ac : ℕ) (found : List Named) → walk (at (section_before b) c ac 0) found xs ≡ found ++ in_rules c.alternatives t
walk-rules spelling.Rules.none b c ac found = sym (append-nil found)
walk-rules (spelling.Rules.trailer {x = x} is) b c ac found = walk-trailer b c ac found x is
walk-rules (spelling.Rules.more {r = r} first remaining) b c ac found =
    let names = in_rule c.alternatives first in
    let one = walk-rule first b c ac found in
    one.walks ∙ walk-rules remaining one.after_action one.counts 0 (found ++ names)
    ∙ ap (λ n. (found ++ names) ++ in_rules n remaining) one.alternatives
    ∙ append_assoc found names (in_rules (c.alternatives + length r.alternatives) remaining)

-- ---- Files.

walk-file : {m out : Module} {xs : List FileToken} (t : File m xs out) (section : Section) (ac : ℕ) (found : List Named) → is_declaring section ≡ true →
    walk (at section (counts_of m) ac 0) found xs ≡ found ++ in_file t
walk-file (spelling.File.declared declaration more) section ac found d =
    let names = in_declaration declaration in
    let one = walk-declaration declaration section ac found d in
    one.walks ∙ walk-file more one.section one.actuals (found ++ names) one.declares ∙ append_assoc found names (in_file more)
walk-file (spelling.File.ruled {m = m} {x = x} {xs = xs} is rules) section ac found d =
    walk-keyword section (counts_of m) ac found x xs signs.Percents d refl is ∙ walk-rules rules false (counts_of m) ac found

-- The walk from the beginning of a file finds the names of the file.
pub walk-in_file : {out : Module} {xs : List FileToken} (t : File no_module xs out) → walk start [] xs ≡ in_file t
walk-in_file t = walk-file t sections.Unread 0 [] refl
