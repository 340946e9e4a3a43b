-- Proves that the right sides of a module are no longer than its file.
use Rattle.std.proofs.Common.{◌≡◌, ℕ, ◌+◌, ◌<◌, ◌≤◌, List, [], ◌∷◌, ◌++◌, length, Option, Some, None, Bool, refl, sym, subst, arith, length-append, map}
use Rattle.std.specs.List.{All}
use Rattle.std.proofs.lemmas.List.Elements.{All-nil, All-cons, All-head, All-tail, All-push, All-append}
use Rattle.mh_lex.specs.declared.kinds.Lexeme.{Lexeme}
use Rattle.mh_lex.proofs.LexesTotal.{lexes_few}
use Rattle.mh_lex.specs.LexemeTexts.{bytes_of}
use Rattle.mh_rules.specs.declared.modules.Ref.{Ref}
use Rattle.mh_rules.specs.declared.modules.Actual.{Actual}
use Rattle.mh_rules.specs.declared.modules.Alternative.{Alternative}
use Rattle.mh_rules.specs.declared.modules.Rule.{Rule}
use Rattle.mh_rules.specs.declared.modules.TokenDecl.{TokenDecl}
use Rattle.mh_rules.specs.declared.modules.Module.{Module}
use Rattle.mh_reader_parser.specs.declared.token_kinds.TokenKind.{TokenKind}
use Rattle.mh_reader_parser.specs.TokenKinds.{cost_after, FileToken, file_tokens, file_tokens_of, file_token_by, token_kind_by, text_by}
use Rattle.mh_rules.specs.Modules.{alternative, no_module}
use Rattle.mh_reader_parser.specs.Spelling.{Suffixed, Unsuffixed, Args, IsActual, LimitedActual, ListOf, IsAlias, IsTokenItem, IsWordItem, IsRef, OptionalType, Declaration, Semicolons, IsProducer, Producers, IsPrec, Productions, Groups, with_prec, Modifiers, Formals, OptionalFormals, OptionalBar, IsRule, Rules, File, Spells}

abbrev Short : ℕ → List Alternative → Type 0
Short n ks = All (λ k. length k.producers ≤ n) ks

abbrev pub AreShort : ℕ → List Rule → Type 0
AreShort n rs = All (λ r. All (λ k. length k.producers ≤ n) r.alternatives) rs

suffixed_less : (a : Actual) (d : ℕ) (xs rest : List FileToken) (b : Actual) (e : ℕ) → Suffixed a d xs rest b e → length rest ≤ length xs
suffixed_less a d xs rest b e Suffixed.bare = omega arith
suffixed_less a d xs rest b e (Suffixed.suffix {xs = ys} s t) = omega (arith, suffixed_less _ _ ys rest b e t)

mutual
  base_less : (xs rest : List FileToken) (a : Actual) (d : ℕ) → Unsuffixed xs rest a d → length rest < length xs
  base_less xs rest a d (Unsuffixed.plain e) = omega arith
  base_less xs rest a d (Unsuffixed.with_args {xs = ys} {ks = ks} {d = e} r o h) = omega (arith, args_less [] 0 ys rest ks e h)

  args_less : (done : List Actual) (m : ℕ) (xs rest : List FileToken) (all : List Actual) (e : ℕ) → Args done m xs rest all e → length rest < length xs
  args_less done m xs rest all e (Args.last {d = d} {y = y} {a = a} h c) = omega (arith, actual_less xs (y ∷ rest) a d h)
  args_less done m xs rest all e (Args.more {d = d} {y = y} {mid = mid} {a = a} h c t) = omega (arith, actual_less xs (y ∷ mid) a d h, args_less _ _ mid rest all e t)

  actual_less : (xs rest : List FileToken) (a : Actual) (d : ℕ) → IsActual xs rest a d → length rest < length xs
  actual_less xs rest b e (IsActual.actual {mid = mid} {a = a} {d = d} h s) = omega (arith, base_less xs mid a d h, suffixed_less a d mid rest b e s)

limited_less : (xs rest : List FileToken) (a : Actual) → LimitedActual xs rest a → length rest < length xs
limited_less xs rest a (LimitedActual.limited {d = d} h le) = actual_less xs rest a d h

semicolons_less : (xs rest : List FileToken) → Semicolons xs rest → length rest ≤ length xs
semicolons_less xs rest Semicolons.none = omega arith
semicolons_less xs rest (Semicolons.more {xs = ys} e h) = omega (arith, semicolons_less ys rest h)

producer_less : (xs rest : List FileToken) (a : Actual) → IsProducer xs rest a → length rest < length xs
producer_less xs rest a (IsProducer.unnamed h) = limited_less xs rest a h
producer_less xs rest a (IsProducer.named {xs = ys} e f h) = omega (arith, limited_less ys rest a h)

producers_less : (done : List Actual) (xs rest : List FileToken) (all : List Actual) → Producers done xs rest all → length all + length rest ≤ length done + length xs
producers_less done xs rest all Producers.none = omega arith
producers_less done xs rest all (Producers.more {mid = mid} {next = next} {a = a} h s t) =
    omega (arith, producer_less xs mid a h, semicolons_less mid next s, producers_less (done ++ a ∷ []) next rest all t, length-append done (a ∷ []))

prec_less : (xs rest : List FileToken) (p : Option Ref) → IsPrec xs rest p → length rest ≤ length xs
prec_less xs rest p IsPrec.absent = omega arith
prec_less xs rest p (IsPrec.given e f) = omega arith

module _ (n : ℕ) where
  productions_short : (done : List Alternative) (xs rest : List FileToken) (all : List Alternative) → Productions done xs rest all → length xs ≤ n → Short n done → Short n all × (length rest ≤ length xs)
  productions_short done xs rest all (Productions.last {y = y} {mid = mid} {ps = ps} {p = p} h q e) le short =
      let some = producers_less [] xs mid ps h in
      let rests = prec_less mid (y ∷ rest) p q in
      (All-push (λ (k : Alternative). length k.producers ≤ n) done (alternative ps p) short (omega arith), omega arith)
  productions_short done xs rest all (Productions.more {y = y} {mid = mid} {next = next} {ps = ps} {p = p} h q e t) le short =
      let some = producers_less [] xs mid ps h in
      let rests = prec_less mid (y ∷ next) p q in
      let more = productions_short (done ++ alternative ps p ∷ []) next rest all t (omega arith) (All-push (λ (k : Alternative). length k.producers ≤ n) done (alternative ps p) short (omega arith)) in
      (more.0, omega (arith, more.1))

  with_short : (g : Option Ref) (ks : List Alternative) → Short n ks → Short n (map (with_prec g) ks)
  with_short g [] short = All-nil (λ (k : Alternative). length k.producers ≤ n)
  with_short g (k ∷ ks) short = All-cons (λ (k : Alternative). length k.producers ≤ n) (with_prec g k) (map (with_prec g) ks) (All-head (λ (k : Alternative). length k.producers ≤ n) k ks short) (with_short g ks (All-tail (λ (k : Alternative). length k.producers ≤ n) k ks short))

  groups_short : (done : List Alternative) (xs rest : List FileToken) (all : List Alternative) → Groups done xs rest all → length xs ≤ n → Short n done → Short n all × (length rest ≤ length xs)
  groups_short done xs rest all (Groups.last {ks = ks} {mid = mid} {g = g} h q) le short =
      let own = productions_short [] xs mid ks h le (All-nil (λ (k : Alternative). length k.producers ≤ n)) in
      let rests = prec_less mid rest g q in
      (All-append (λ (k : Alternative). length k.producers ≤ n) done (map (with_prec g) ks) short (with_short g ks own.0), omega (arith, own.1))
  groups_short done xs rest all (Groups.more {ks = ks} {y = y} {mid = mid} {next = next} {g = g} h q e t) le short =
      let own = productions_short [] xs mid ks h le (All-nil (λ (k : Alternative). length k.producers ≤ n)) in
      let rests = prec_less mid (y ∷ next) g q in
      let more = groups_short (done ++ map (with_prec g) ks) next rest all t (omega (arith, own.1)) (All-append (λ (k : Alternative). length k.producers ≤ n) done (map (with_prec g) ks) short (with_short g ks own.0)) in
      (more.0, omega (arith, own.1, more.1))

modifiers_less : (p i : Bool) (xs rest : List FileToken) (q j : Bool) → Modifiers p i xs rest q j → length rest ≤ length xs
modifiers_less p i xs rest q j Modifiers.none = omega arith
modifiers_less p i xs rest q j (Modifiers.public {xs = ys} e h) = omega (arith, modifiers_less _ i ys rest q j h)
modifiers_less p i xs rest q j (Modifiers.inlined {xs = ys} e h) = omega (arith, modifiers_less p _ ys rest q j h)

formals_less : (done : List (List ℕ)) (xs rest : List FileToken) (all : List (List ℕ)) → Formals done xs rest all → length rest ≤ length xs
formals_less done xs rest all (Formals.last e f) = omega arith
formals_less done xs rest all (Formals.more {xs = ys} e f h) = omega (arith, formals_less _ ys rest all h)

may_formals_less : (done : List (List ℕ)) (xs rest : List FileToken) (all : List (List ℕ)) → OptionalFormals done xs rest all → length rest ≤ length xs
may_formals_less done xs rest all OptionalFormals.absent = omega arith
may_formals_less done xs rest all (OptionalFormals.empty e f) = omega arith
may_formals_less done xs rest all (OptionalFormals.given {xs = ys} e h) = omega (arith, formals_less done ys rest all h)

bar_less : (xs rest : List FileToken) → OptionalBar xs rest → length rest ≤ length xs
bar_less xs rest (OptionalBar.absent e) = omega arith
bar_less xs rest (OptionalBar.given e) = omega arith

module _ (n : ℕ) where
  rule_short : (xs rest : List FileToken) (r : Rule) → IsRule xs rest r → length xs ≤ n → Short n r.alternatives × (length rest ≤ length xs)
  rule_short xs rest r (IsRule.rule {x = x} {y = y} {named = named} {formed = formed} {begun = begun} {grouped = grouped} {p = p} {i = i} {fs = fs} {ks = ks} m e f c b g s) le =
      let one = modifiers_less _ _ xs (x ∷ named) p i m in
      let two = may_formals_less [] named (y ∷ formed) fs f in
      let three = bar_less formed begun b in
      let own = groups_short n [] begun grouped ks g (omega arith) (All-nil (λ (k : Alternative). length k.producers ≤ n)) in
      (own.0, omega (arith, own.1, semicolons_less grouped rest s))

  rules_short : (m : Module) (xs : List FileToken) (out : Module) → Rules m xs out → length xs ≤ n → AreShort n m.rules → AreShort n out.rules
  rules_short m xs out Rules.none le short = short
  rules_short m xs out (Rules.trailer e) le short = short
  rules_short m xs out (Rules.more {mid = mid} {r = r} h t) le short =
      let own = rule_short xs mid r h le in
      rules_short (record m { rules = m.rules ++ r ∷ [] }) mid out t (omega (arith, own.1)) (All-push (λ (r : Rule). Short n r.alternatives) m.rules r short own.0)

list_less : (A : Type 0) (X : List FileToken → List FileToken → A → Type 0) → ((xs rest : List FileToken) (a : A) → X xs rest a → length rest ≤ length xs) →
    (done : List A) (xs rest : List FileToken) (all : List A) → ListOf A X done xs rest all → length rest ≤ length xs
list_less A X less done xs rest all ListOf.none = omega arith
list_less A X less done xs rest all (ListOf.next {mid = mid} {a = a} h t) = omega (arith, less xs mid a h, list_less A X less (done ++ a ∷ []) mid rest all t)
list_less A X less done xs rest all (ListOf.comma {xs = ys} {mid = mid} {a = a} e h t) = omega (arith, less ys mid a h, list_less A X less (done ++ a ∷ []) mid rest all t)

alias_less : (xs rest : List FileToken) (o : Option (List ℕ)) (c : Option ℕ) → IsAlias xs rest o c → length rest ≤ length xs
alias_less xs rest o c IsAlias.absent = omega arith
alias_less xs rest o c (IsAlias.given e) = omega arith

token_less : (xs rest : List FileToken) (t : TokenDecl) → IsTokenItem xs rest t → length rest ≤ length xs
token_less xs rest t (IsTokenItem.token {xs = ys} {o = o} {c = c} e f a) = omega (arith, alias_less ys rest o c a)

word_less : (xs rest : List FileToken) (w : List ℕ) → IsWordItem xs rest w → length rest ≤ length xs
word_less xs rest w (IsWordItem.word e) = omega arith

ref_less : (xs rest : List FileToken) (r : Ref) → IsRef xs rest r → length rest ≤ length xs
ref_less xs rest r (IsRef.reference e) = omega arith

type_less : (xs rest : List FileToken) → OptionalType xs rest → length rest ≤ length xs
type_less xs rest OptionalType.absent = omega arith
type_less xs rest (OptionalType.given e) = omega arith

limited_no_more : (xs rest : List FileToken) (a : Actual) → LimitedActual xs rest a → length rest ≤ length xs
limited_no_more xs rest a h = omega (arith, limited_less xs rest a h)

declaration_less : (m : Module) (xs rest : List FileToken) (out : Module) → Declaration m xs rest out → length rest ≤ length xs
declaration_less m xs rest out (Declaration.header e) = omega arith
declaration_less m xs rest out (Declaration.semicolon e) = omega arith
declaration_less m xs rest out (Declaration.tokens {xs = ys} {mid = mid} {ks = ks} e t l) = omega (arith, type_less ys mid t, list_less TokenDecl IsTokenItem token_less m.tokens mid rest ks l)
declaration_less m xs rest out (Declaration.starts {xs = ys} {mid = mid} {ks = ks} e t l) = omega (arith, type_less ys mid t, list_less (List ℕ) IsWordItem word_less m.starts mid rest ks l)
declaration_less m xs rest out (Declaration.types {xs = ys} {ks = ks} e f l) = omega (arith, list_less Actual LimitedActual limited_no_more [] ys rest ks l)
declaration_less m xs rest out (Declaration.levels {xs = ys} {ks = ks} e l) = omega (arith, list_less Ref IsRef ref_less [] ys rest ks l)
declaration_less m xs rest out (Declaration.on_error {xs = ys} {ks = ks} e l) = omega (arith, list_less Actual LimitedActual limited_no_more [] ys rest ks l)
declaration_less m xs rest out (Declaration.parameter e f) = omega arith
declaration_less m xs rest out (Declaration.attribute {xs = ys} {ks = ks} e l) = omega (arith, list_less Actual LimitedActual limited_no_more [] ys rest ks l)

-- Declarations do not change the rules.
declaration_rules : (m : Module) (xs rest : List FileToken) (out : Module) → Declaration m xs rest out → out.rules ≡ m.rules
declaration_rules m xs rest out (Declaration.header e) = refl
declaration_rules m xs rest out (Declaration.semicolon e) = refl
declaration_rules m xs rest out (Declaration.tokens e t l) = refl
declaration_rules m xs rest out (Declaration.starts e t l) = refl
declaration_rules m xs rest out (Declaration.types e f l) = refl
declaration_rules m xs rest out (Declaration.levels e l) = refl
declaration_rules m xs rest out (Declaration.on_error e l) = refl
declaration_rules m xs rest out (Declaration.parameter e f) = refl
declaration_rules m xs rest out (Declaration.attribute e l) = refl

file_short : (n : ℕ) (m : Module) (xs : List FileToken) (out : Module) → File m xs out → length xs ≤ n → AreShort n m.rules → AreShort n out.rules
file_short n m xs out (File.declared {n = next} {mid = mid} d f) le short =
    file_short n next mid out f (omega (arith, declaration_less m xs mid next d)) (subst (AreShort n) (sym (declaration_rules m xs mid next d)) short)
file_short n m xs out (File.ruled {xs = ys} e h) le short = rules_short n m ys out h (omega arith) short

kept_few : (o : Option TokenKind) (text : List ℕ) (c : Option ℕ) → length (file_token_by o text c) ≤ 1
kept_few None text c = omega arith
kept_few (Some g) text c = omega arith

reads_few : (bytes : List ℕ) (ls : List Lexeme) → length (file_tokens bytes ls) ≤ length ls
reads_few bytes [] = omega arith
reads_few bytes (l ∷ ls) = omega (arith, kept_few (token_kind_by l.kind (bytes_of bytes l)) (text_by l.kind (bytes_of bytes l)) (cost_after bytes ls), reads_few bytes ls, length-append (file_tokens_of bytes l (cost_after bytes ls)) (file_tokens bytes ls))

pub AreShort-spelled : (n : ℕ) (bytes : List ℕ) (m : Module) → length bytes ≤ n → Spells bytes m → AreShort n m.rules
AreShort-spelled n bytes m le (ls, lx, f) = file_short n no_module (file_tokens bytes ls) m f (omega (arith, reads_few bytes ls, lexes_few bytes ls None lx)) (All-nil (λ (r : Rule). Short n r.alternatives))
