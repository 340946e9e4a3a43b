-- Lemmas on the token kinds that may follow each part of a grammar file.
use Rattle.std.proofs.Common.{◌≡◌, ℕ, List, [], ◌∷◌, Option, Some, Bool, true, false, refl}
use Rattle.mh_rules.specs.declared.modules.Ref.{Ref}
use Rattle.mh_rules.specs.declared.modules.Actual.{Actual}
use Rattle.mh_rules.specs.declared.modules.Rule.{Rule}
use Rattle.mh_rules.specs.declared.modules.Module.{Module}
use Rattle.mh_reader_parser.specs.declared.token_kinds.TokenKind.{TokenKind}
use Rattle.mh_reader_parser.specs.declared.token_kinds.TokenKind.TheVariants as signs
use Rattle.mh_reader_parser.specs.TokenKinds.{FileToken}
use Rattle.mh_reader_parser.specs.Spelling as spelling
use Rattle.mh_reader_parser.specs.Spelling.{ref_by, ref_of, suffix_of, Suffixed, Unsuffixed, Args, IsActual, LimitedActual, ListOf, IsAlias, IsTokenItem, IsWordItem, IsRef, OptionalType, Declaration, Semicolons, IsProducer, Producers, IsPrec, Productions, Groups, Modifiers, Formals, OptionalFormals, OptionalBar, IsRule, Rules, File}

abbrev pub IsHead : (TokenKind → Bool) → List FileToken → Type 0
IsHead p [] = Unit {0}
IsHead p (x ∷ xs) = p x.sign ≡ true

pub IsHead-weaker : (p q : TokenKind → Bool) → ((g : TokenKind) → p g ≡ true → q g ≡ true) → (xs : List FileToken) → IsHead p xs → IsHead q xs
IsHead-weaker p q f [] h = tt
IsHead-weaker p q f (x ∷ xs) h = f x.sign h

pub holds_for_sign : (p : TokenKind → Bool) (x : FileToken) (g : TokenKind) → x.sign ≡ g → p g ≡ true → p x.sign ≡ true
holds_for_sign p x g e h = rw e h

-- Token kinds that may follow a name without arguments.
abbrev pub may_follow_name : TokenKind → Bool
may_follow_name signs.Open = false
may_follow_name signs.Equals = false
may_follow_name _ = true

-- Token kinds that may follow an actual with all its suffixes.
abbrev pub may_follow_actual : TokenKind → Bool
may_follow_actual signs.Open = false
may_follow_actual signs.Equals = false
may_follow_actual signs.Question = false
may_follow_actual signs.Star = false
may_follow_actual signs.Plus = false
may_follow_actual _ = true

-- Token kinds that may follow producers and their semicolons.
abbrev pub may_follow_producers : TokenKind → Bool
may_follow_producers signs.Open = false
may_follow_producers signs.Equals = false
may_follow_producers signs.Question = false
may_follow_producers signs.Star = false
may_follow_producers signs.Plus = false
may_follow_producers signs.Semicolon = false
may_follow_producers _ = true

-- Token kinds that may follow a list of a declaration.
abbrev pub may_follow_list : TokenKind → Bool
may_follow_list signs.Header = true
may_follow_list signs.Semicolon = true
may_follow_list signs.Token = true
may_follow_list signs.Start = true
may_follow_list signs.Type = true
may_follow_list (signs.Level g) = true
may_follow_list signs.OnErrorReduce = true
may_follow_list signs.Parameter = true
may_follow_list signs.Attribute = true
may_follow_list signs.Percents = true
may_follow_list _ = false

-- Token kinds that may follow a token's name without an alias.
abbrev pub may_follow_token_name : TokenKind → Bool
may_follow_token_name signs.Quoted = false
may_follow_token_name _ = true

-- Token kinds that may be where a type is omitted.
abbrev pub is_not_type : TokenKind → Bool
is_not_type signs.TypeText = false
is_not_type _ = true

-- Token kinds that may follow a group without a level.
abbrev pub is_not_prec : TokenKind → Bool
is_not_prec signs.Prec = false
is_not_prec _ = true

-- Token kinds with which a rule or the end of the rules begins.
abbrev pub may_begin_rule : TokenKind → Bool
may_begin_rule signs.Word = true
may_begin_rule signs.Public = true
may_begin_rule signs.Inline = true
may_begin_rule signs.Percents = true
may_begin_rule _ = false

pub may_follow_actual_name : (g : TokenKind) → may_follow_actual g ≡ true → may_follow_name g ≡ true
may_follow_actual_name signs.Open e = e
may_follow_actual_name signs.Equals e = e
may_follow_actual_name _ e = refl

pub may_follow_producers_actual : (g : TokenKind) → may_follow_producers g ≡ true → may_follow_actual g ≡ true
may_follow_producers_actual signs.Open e = e
may_follow_producers_actual signs.Equals e = e
may_follow_producers_actual signs.Question e = e
may_follow_producers_actual signs.Star e = e
may_follow_producers_actual signs.Plus e = e
may_follow_producers_actual _ e = refl

pub may_follow_list_actual : (g : TokenKind) → may_follow_list g ≡ true → may_follow_actual g ≡ true
may_follow_list_actual signs.Open e = e
may_follow_list_actual signs.Equals e = e
may_follow_list_actual signs.Question e = e
may_follow_list_actual signs.Star e = e
may_follow_list_actual signs.Plus e = e
may_follow_list_actual _ e = refl

pub may_follow_list_token_name : (g : TokenKind) → may_follow_list g ≡ true → may_follow_token_name g ≡ true
may_follow_list_token_name signs.Quoted e = e
may_follow_list_token_name _ e = refl

pub may_follow_list_not_type : (g : TokenKind) → may_follow_list g ≡ true → is_not_type g ≡ true
may_follow_list_not_type signs.TypeText e = e
may_follow_list_not_type _ e = refl

pub may_begin_rule_not_prec : (g : TokenKind) → may_begin_rule g ≡ true → is_not_prec g ≡ true
may_begin_rule_not_prec signs.Prec e = e
may_begin_rule_not_prec _ e = refl

pub suffix_may_follow_name : (g : TokenKind) (n : List ℕ) → suffix_of g ≡ Some n → may_follow_name g ≡ true
suffix_may_follow_name signs.Open n e = cc
suffix_may_follow_name signs.Equals n e = cc
suffix_may_follow_name _ n e = refl

pub ref_may_follow_producers : (g : TokenKind) (text : List ℕ) (r : Ref) → ref_by g text ≡ Some r → may_follow_producers g ≡ true
ref_may_follow_producers signs.Word text r e = refl
ref_may_follow_producers signs.Quoted text r e = refl
ref_may_follow_producers _ text r e = cc

pub ref_is_not_type : (g : TokenKind) (text : List ℕ) (r : Ref) → ref_by g text ≡ Some r → is_not_type g ≡ true
ref_is_not_type signs.TypeText text r e = cc
ref_is_not_type _ text r e = refl

pub Suffixed-follows_name : {xs rest : List FileToken} {a b : Actual} {d e : ℕ} → Suffixed a d xs rest b e → IsHead may_follow_actual rest → IsHead may_follow_name xs
Suffixed-follows_name {xs} spelling.Suffixed.bare h = IsHead-weaker may_follow_actual may_follow_name may_follow_actual_name xs h
Suffixed-follows_name (spelling.Suffixed.suffix {x = x} {n = n} e s) h = suffix_may_follow_name x.sign n e

pub Unsuffixed-follows_producers : {xs rest : List FileToken} {a : Actual} {d : ℕ} → Unsuffixed xs rest a d → IsHead may_follow_producers xs
Unsuffixed-follows_producers (spelling.Unsuffixed.plain {x = x} {r = r} e) = ref_may_follow_producers x.sign x.text r e
Unsuffixed-follows_producers (spelling.Unsuffixed.with_args {x = x} {r = r} e o b) = ref_may_follow_producers x.sign x.text r e

pub IsActual-follows_producers : {xs rest : List FileToken} {a : Actual} {d : ℕ} → IsActual xs rest a d → IsHead may_follow_producers xs
IsActual-follows_producers (spelling.IsActual.actual b t) = Unsuffixed-follows_producers b

pub LimitedActual-follows_actual : {xs rest : List FileToken} {a : Actual} → LimitedActual xs rest a → IsHead may_follow_actual xs
LimitedActual-follows_actual {xs} (spelling.LimitedActual.limited h l) = IsHead-weaker may_follow_producers may_follow_actual may_follow_producers_actual xs (IsActual-follows_producers h)

pub IsProducer-follows_producers : {xs rest : List FileToken} {a : Actual} → IsProducer xs rest a → IsHead may_follow_producers xs
IsProducer-follows_producers (spelling.IsProducer.unnamed (spelling.LimitedActual.limited h l)) = IsActual-follows_producers h
IsProducer-follows_producers (spelling.IsProducer.named {x = x} e f h) = holds_for_sign may_follow_producers x signs.Word e refl

pub Producers-follow_producers : {done all : List Actual} {xs rest : List FileToken} → Producers done xs rest all → IsHead may_follow_producers rest → IsHead may_follow_producers xs
Producers-follow_producers spelling.Producers.none h = h
Producers-follow_producers (spelling.Producers.more p s t) h = IsProducer-follows_producers p

pub Semicolons-follow_actual : {xs rest : List FileToken} → Semicolons xs rest → IsHead may_follow_producers rest → IsHead may_follow_actual xs
Semicolons-follow_actual {xs} spelling.Semicolons.none h = IsHead-weaker may_follow_producers may_follow_actual may_follow_producers_actual xs h
Semicolons-follow_actual (spelling.Semicolons.more {x = x} e s) h = holds_for_sign may_follow_actual x signs.Semicolon e refl

pub Semicolons-not_prec : {xs rest : List FileToken} → Semicolons xs rest → IsHead may_begin_rule rest → IsHead is_not_prec xs
Semicolons-not_prec {xs} spelling.Semicolons.none h = IsHead-weaker may_begin_rule is_not_prec may_begin_rule_not_prec xs h
Semicolons-not_prec (spelling.Semicolons.more {x = x} e s) h = holds_for_sign is_not_prec x signs.Semicolon e refl

pub IsPrec-follows_producers : {xs rest : List FileToken} {p : Option Ref} → IsPrec xs rest p → IsHead may_follow_producers rest → IsHead may_follow_producers xs
IsPrec-follows_producers spelling.IsPrec.absent h = h
IsPrec-follows_producers (spelling.IsPrec.given {x = x} e f) h = holds_for_sign may_follow_producers x signs.Prec e refl

-- The token kinds with which a list and what follows it may begin.
pub ListOf-head : {A : Type 0} {X : List FileToken → List FileToken → A → Type 0} (p : TokenKind → Bool) → p signs.Comma ≡ true →
    ((xs rest : List FileToken) (a : A) → X xs rest a → IsHead p xs) → {done all : List A} {xs rest : List FileToken} → ListOf A X done xs rest all → IsHead p rest → IsHead p xs
ListOf-head p c f spelling.ListOf.none h = h
ListOf-head p c f (spelling.ListOf.next {xs = xs} {mid = mid} {a = a} x t) h = f xs mid a x
ListOf-head p c f (spelling.ListOf.comma {y = y} e x t) h = holds_for_sign p y signs.Comma e c

pub Modifiers-begin_rule : {xs rest : List FileToken} {x : FileToken} {p i q j : Bool} → Modifiers p i xs (x ∷ rest) q j → x.sign ≡ signs.Word → IsHead may_begin_rule xs
Modifiers-begin_rule {x = x} spelling.Modifiers.none e = holds_for_sign may_begin_rule x signs.Word e refl
Modifiers-begin_rule (spelling.Modifiers.public {x = y} f t) e = holds_for_sign may_begin_rule y signs.Public f refl
Modifiers-begin_rule (spelling.Modifiers.inlined {x = y} f t) e = holds_for_sign may_begin_rule y signs.Inline f refl

pub IsRule-begins_rule : {xs rest : List FileToken} {r : Rule} → IsRule xs rest r → IsHead may_begin_rule xs
IsRule-begins_rule (spelling.IsRule.rule m e f c b g s) = Modifiers-begin_rule m e

pub Rules-begin_rule : {xs : List FileToken} {m out : Module} → Rules m xs out → IsHead may_begin_rule xs
Rules-begin_rule spelling.Rules.none = tt
Rules-begin_rule (spelling.Rules.trailer {x = x} e) = holds_for_sign may_begin_rule x signs.Percents e refl
Rules-begin_rule (spelling.Rules.more r t) = IsRule-begins_rule r

pub Declaration-follows_list : {xs rest : List FileToken} {m n : Module} → Declaration m xs rest n → IsHead may_follow_list xs
Declaration-follows_list (spelling.Declaration.header {x = x} e) = holds_for_sign may_follow_list x signs.Header e refl
Declaration-follows_list (spelling.Declaration.semicolon {x = x} e) = holds_for_sign may_follow_list x signs.Semicolon e refl
Declaration-follows_list (spelling.Declaration.tokens {x = x} e t h) = holds_for_sign may_follow_list x signs.Token e refl
Declaration-follows_list (spelling.Declaration.starts {x = x} e t h) = holds_for_sign may_follow_list x signs.Start e refl
Declaration-follows_list (spelling.Declaration.types {x = x} e t h) = holds_for_sign may_follow_list x signs.Type e refl
Declaration-follows_list (spelling.Declaration.levels {x = x} {g = g} e h) = holds_for_sign may_follow_list x (signs.Level g) e refl
Declaration-follows_list (spelling.Declaration.on_error {x = x} e h) = holds_for_sign may_follow_list x signs.OnErrorReduce e refl
Declaration-follows_list (spelling.Declaration.parameter {x = x} e t) = holds_for_sign may_follow_list x signs.Parameter e refl
Declaration-follows_list (spelling.Declaration.attribute {x = x} e h) = holds_for_sign may_follow_list x signs.Attribute e refl

pub File-follows_list : {xs : List FileToken} {m out : Module} → File m xs out → IsHead may_follow_list xs
File-follows_list (spelling.File.declared d f) = Declaration-follows_list d
File-follows_list (spelling.File.ruled {x = x} e r) = holds_for_sign may_follow_list x signs.Percents e refl
