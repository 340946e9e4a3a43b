-- The names and strings of a grammar file in the order of the text, with their roles. Each is read off the derivation
-- of the file in the grammar of grammar files (Menhir manual, syntax of grammars; the choice is a rule of this
-- project). A lexeme is given by the number of lexemes from it to the end of the file, its own included.
use Rattle.std.specs.Prelude.{◌+◌, ◌-◌, ℕ, suc, List, [], ◌∷◌, ◌++◌, length, Option}
use Rattle.mh_rules.specs.declared.modules.Actual.{Actual}
use Rattle.mh_rules.specs.declared.modules.Alternative.{Alternative}
use Rattle.mh_rules.specs.declared.modules.Ref.{Ref}
use Rattle.mh_rules.specs.declared.modules.Ref.TheVariants.{Plain, Alias}
use Rattle.mh_rules.specs.declared.modules.Rule.{Rule}
use Rattle.mh_rules.specs.declared.modules.TokenDecl.{TokenDecl}
use Rattle.mh_rules.specs.declared.modules.Module.{Module}
use Rattle.mh_reader_parser.specs.TokenKinds.{FileToken}
use Rattle.mh_reader_parser.specs.Spelling as spelling
use Rattle.mh_reader_parser.specs.Spelling.{Suffixed, Unsuffixed, Args, IsActual, LimitedActual, ListOf, IsAlias, IsTokenItem, IsWordItem, IsRef, Declaration, IsProducer, Producers, IsPrec, Productions, Groups, Formals, OptionalFormals, IsRule, Rules, File}
use Rattle.mh_reader_places.specs.declared.mentions.Role.{Role}
use Rattle.mh_reader_places.specs.declared.mentions.Role.TheVariants as roles

-- A name or string, its role, and its lexeme.
pub record Named : Type 0 where
  pub from_end : ℕ
  pub role : Role
  pub name : Ref

abbrev pub named : List FileToken → Role → Ref → Named
named xs given name = record { from_end = length xs; role = given; name = name }

-- ---- Actuals.

-- The rules that the suffixes apply, each at the lexeme of its suffix.
abbrev pub in_suffixed : {a b : Actual} {d e : ℕ} {xs rest : List FileToken} → Role → Suffixed a d xs rest b e → List Named
in_suffixed given spelling.Suffixed.bare = []
in_suffixed {xs = x ∷ xs} given (spelling.Suffixed.suffix {n = n} is more) = named (x ∷ xs) given (Plain n) ∷ in_suffixed given more

abbrev mutual
  -- The heads of an actual: a head, those of its arguments, and those of its suffixes.
  pub in_unsuffixed : {xs rest : List FileToken} {a : Actual} {d : ℕ} → Role → Unsuffixed xs rest a d → List Named
  in_unsuffixed given (spelling.Unsuffixed.plain {x = x} {xs = xs} {r = r} is) = named (x ∷ xs) given r ∷ []
  in_unsuffixed given (spelling.Unsuffixed.with_args {x = x} {y = y} {xs = xs} {r = r} is bracket args) = named (x ∷ y ∷ xs) given r ∷ in_args given args

  pub in_args : {done ks : List Actual} {m d : ℕ} {xs rest : List FileToken} → Role → Args done m xs rest ks d → List Named
  in_args given (spelling.Args.last one close) = in_actual given one
  in_args given (spelling.Args.more one comma args) = in_actual given one ++ in_args given args

  pub in_actual : {xs rest : List FileToken} {a : Actual} {d : ℕ} → Role → IsActual xs rest a d → List Named
  in_actual given (spelling.IsActual.actual first suffixes) = in_unsuffixed given first ++ in_suffixed given suffixes

abbrev pub in_limited : {xs rest : List FileToken} {a : Actual} → Role → LimitedActual xs rest a → List Named
in_limited given (spelling.LimitedActual.limited one within) = in_actual given one

-- ---- Lists of declarations.

-- The names of the items of a list, where the names of item n are given; n counts from the number given.
abbrev pub in_list : {A : Type 0} {X : List FileToken → List FileToken → A → Type 0} {done all : List A} {xs rest : List FileToken} → (ℕ → (ys zs : List FileToken) (a : A) → X ys zs a → List Named) → ℕ → ListOf A X done xs rest all → List Named
in_list of n spelling.ListOf.none = []
in_list of n (spelling.ListOf.next {xs = xs} {mid = mid} {a = a} one more) = of n xs mid a one ++ in_list of (suc n) more
in_list of n (spelling.ListOf.comma {xs = xs} {mid = mid} {a = a} is one more) = of n xs mid a one ++ in_list of (suc n) more

abbrev pub in_alias : {xs rest : List FileToken} {o : Option (List ℕ)} {c : Option ℕ} → IsAlias xs rest o c → List Named
in_alias spelling.IsAlias.absent = []
in_alias (spelling.IsAlias.given {y = y} {xs = xs} is) = named (y ∷ xs) roles.Alias (Alias y.text) ∷ []

abbrev pub in_token : ℕ → (xs rest : List FileToken) (t : TokenDecl) → IsTokenItem xs rest t → List Named
in_token n _ _ _ (spelling.IsTokenItem.token {x = x} {xs = xs} is capital alias) = named (x ∷ xs) roles.Token (Plain x.text) ∷ in_alias alias

abbrev pub in_start : ℕ → (xs rest : List FileToken) (name : List ℕ) → IsWordItem xs rest name → List Named
in_start n _ _ _ (spelling.IsWordItem.word {x = x} {xs = xs} is) = named (x ∷ xs) roles.Start (Plain x.text) ∷ []

abbrev pub in_ref : Role → ℕ → (xs rest : List FileToken) (r : Ref) → IsRef xs rest r → List Named
in_ref given n _ _ r (spelling.IsRef.reference {x = x} {xs = xs} is) = named (x ∷ xs) given r ∷ []

-- The names of an actual in the `%on_error_reduce` declaration of this rank.
abbrev pub in_on_error : ℕ → ℕ → (xs rest : List FileToken) (a : Actual) → LimitedActual xs rest a → List Named
in_on_error rank n xs rest a one = in_limited (roles.OnError rank n) one

-- The names of a declaration that follows the declarations of m.
abbrev pub in_declaration : {m n : Module} {xs rest : List FileToken} → Declaration m xs rest n → List Named
in_declaration (spelling.Declaration.tokens is type items) = in_list in_token 0 items
in_declaration (spelling.Declaration.starts is type items) = in_list in_start 0 items
in_declaration {m = m} (spelling.Declaration.levels is items) = in_list (in_ref (roles.Level (length m.levels))) 0 items
in_declaration {m = m} (spelling.Declaration.on_error is items) = in_list (in_on_error (length m.on_error)) 0 items
in_declaration other = []

-- ---- Rules. The number a is that of the alternatives of the file before.

abbrev pub in_producer : Role → {xs rest : List FileToken} {a : Actual} → IsProducer xs rest a → List Named
in_producer given (spelling.IsProducer.unnamed one) = in_limited given one
in_producer given (spelling.IsProducer.named word equals one) = in_limited given one

abbrev pub in_producers : ℕ → ℕ → {done all : List Actual} {xs rest : List FileToken} → Producers done xs rest all → List Named
in_producers a n spelling.Producers.none = []
in_producers a n (spelling.Producers.more one semicolons rest) = in_producer (roles.Head a n) one ++ in_producers a (suc n) rest

abbrev pub in_prec : Role → {xs rest : List FileToken} {p : Option Ref} → IsPrec xs rest p → List Named
in_prec given spelling.IsPrec.absent = []
in_prec given (spelling.IsPrec.given {y = y} {xs = xs} {r = r} is of) = named (y ∷ xs) given r ∷ []

abbrev pub in_productions : ℕ → {done all : List Alternative} {xs rest : List FileToken} → Productions done xs rest all → List Named
in_productions a (spelling.Productions.last producers prec action) = in_producers a 0 producers ++ in_prec (roles.Prec a) prec
in_productions a (spelling.Productions.more producers prec bar rest) = in_producers a 0 producers ++ in_prec (roles.Prec a) prec ++ in_productions (suc a) rest

abbrev pub in_groups : ℕ → {done all : List Alternative} {xs rest : List FileToken} → Groups done xs rest all → List Named
in_groups a (spelling.Groups.last {ks = ks} productions prec) = in_productions a productions ++ in_prec (roles.GroupPrec a (a + length ks - 1)) prec
in_groups a (spelling.Groups.more {ks = ks} productions prec bar rest) = in_productions a productions ++ in_prec (roles.GroupPrec a (a + length ks - 1)) prec ++ in_groups (a + length ks) rest

abbrev pub in_formals : {done all : List (List ℕ)} {xs rest : List FileToken} → Formals done xs rest all → List Named
in_formals (spelling.Formals.last {x = x} {y = y} {xs = xs} word close) = named (x ∷ y ∷ xs) roles.Formal (Plain x.text) ∷ []
in_formals (spelling.Formals.more {x = x} {y = y} {xs = xs} word comma rest) = named (x ∷ y ∷ xs) roles.Formal (Plain x.text) ∷ in_formals rest

abbrev pub in_optional_formals : {done all : List (List ℕ)} {xs rest : List FileToken} → OptionalFormals done xs rest all → List Named
in_optional_formals (spelling.OptionalFormals.given bracket formals) = in_formals formals
in_optional_formals other = []

abbrev pub in_rule : ℕ → {xs rest : List FileToken} {r : Rule} → IsRule xs rest r → List Named
in_rule a (spelling.IsRule.rule {x = x} {named = after} modifiers word formals colon bar groups semicolons) =
    named (x ∷ after) roles.Rule (Plain x.text) ∷ (in_optional_formals formals ++ in_groups a groups)

abbrev pub in_rules : ℕ → {m out : Module} {xs : List FileToken} → Rules m xs out → List Named
in_rules a (spelling.Rules.more {r = r} one rest) = in_rule a one ++ in_rules (a + length r.alternatives) rest
in_rules a other = []

-- The names and strings of a file.
abbrev pub in_file : {m out : Module} {xs : List FileToken} → File m xs out → List Named
in_file (spelling.File.declared declaration rest) = in_declaration declaration ++ in_file rest
in_file (spelling.File.ruled percents rules) = in_rules 0 rules
