-- The grammar of grammar files (Menhir manual, syntax of grammars, of which this project supports a part). Each
-- relation says that the lexemes begin with a phrase of its name, which lexemes follow the phrase, and what the phrase
-- gives, or adds to what was given before.
use Rattle.std.specs.Prelude.{◌≡◌, ◌≤◌, ℕ, suc, max, List, [], ◌∷◌, ◌++◌, map, Option, Some, None, Bool, true, false}
use Rattle.std.specs.Option.{option_or}
use Rattle.mh_grammar.specs.declared.types.Assoc.{Assoc}
use Rattle.mh_lex.specs.declared.kinds.Lexeme.{Lexeme}
use Rattle.mh_lex.specs.Lexing.{Lexes}
use Rattle.mh_rules.specs.Limits.{max_actual_depth}
use Rattle.mh_rules.specs.declared.modules.Ref.{Ref}
use Rattle.mh_rules.specs.declared.modules.Ref.TheVariants.{Plain, Alias}
use Rattle.mh_rules.specs.declared.modules.Actual.{Actual}
use Rattle.mh_rules.specs.declared.modules.Alternative.{Alternative}
use Rattle.mh_rules.specs.declared.modules.Rule.{Rule}
use Rattle.mh_rules.specs.declared.modules.TokenDecl.{TokenDecl}
use Rattle.mh_rules.specs.declared.modules.Module.{Module}
use Rattle.mh_reader_parser.specs.declared.token_kinds.TokenKind.{TokenKind}
use Rattle.mh_reader_parser.specs.declared.token_kinds.TokenKind.TheVariants as signs
use Rattle.mh_rules.specs.Modules.{applied, alternative, no_module}
use Rattle.mh_reader_parser.specs.TokenKinds.{FileToken, file_tokens, is_capital}

-- The reference of a word or a string.
abbrev pub ref_by : TokenKind → List ℕ → Option Ref
ref_by signs.Word text = Some (Plain text)
ref_by signs.Quoted text = Some (Alias text)
ref_by _ text = None

abbrev pub ref_of : FileToken → Option Ref
ref_of x = ref_by x.sign x.text

-- The name of the rule that a suffix applies: `option`, `list` or `nonempty_list`.
abbrev pub suffix_of : TokenKind → Option (List ℕ)
suffix_of signs.Question = Some (111 ∷ 112 ∷ 116 ∷ 105 ∷ 111 ∷ 110 ∷ [])
suffix_of signs.Star = Some (108 ∷ 105 ∷ 115 ∷ 116 ∷ [])
suffix_of signs.Plus = Some (110 ∷ 111 ∷ 110 ∷ 101 ∷ 109 ∷ 112 ∷ 116 ∷ 121 ∷ 95 ∷ 108 ∷ 105 ∷ 115 ∷ 116 ∷ [])
suffix_of _ = None

-- `("?" | "*" | "+")*` after the actual a of depth d makes the actual b of depth e.
pub data Suffixed : Actual → ℕ → List FileToken → List FileToken → Actual → ℕ → Type 0 where
  bare : {a : Actual} {d : ℕ} {xs : List FileToken} → Suffixed a d xs xs a d
  suffix : {a b : Actual} {d e : ℕ} {x : FileToken} {xs rest : List FileToken} {n : List ℕ} →
      suffix_of x.sign ≡ Some n → Suffixed (applied (Plain n) (a ∷ [])) (suc d) xs rest b e → Suffixed a d (x ∷ xs) rest b e

mutual
  -- `ref ["(" actual ("," actual)* ")"]`, with its depth.
  pub data Unsuffixed : List FileToken → List FileToken → Actual → ℕ → Type 0 where
    plain : {x : FileToken} {xs : List FileToken} {r : Ref} → ref_of x ≡ Some r → Unsuffixed (x ∷ xs) xs (applied r []) 1
    with_args : {x y : FileToken} {xs rest : List FileToken} {r : Ref} {ks : List Actual} {d : ℕ} →
        ref_of x ≡ Some r → y.sign ≡ signs.Open → Args [] 0 xs rest ks d → Unsuffixed (x ∷ y ∷ xs) rest (applied r ks) (suc d)

  -- `actual ("," actual)* ")"` after the arguments in `done`, with the greatest depth of these and of all.
  pub data Args : List Actual → ℕ → List FileToken → List FileToken → List Actual → ℕ → Type 0 where
    last : {done : List Actual} {m d : ℕ} {y : FileToken} {xs rest : List FileToken} {a : Actual} →
        IsActual xs (y ∷ rest) a d → y.sign ≡ signs.Close → Args done m xs rest (done ++ a ∷ []) (max m d)
    more : {done all : List Actual} {m d e : ℕ} {y : FileToken} {xs mid rest : List FileToken} {a : Actual} →
        IsActual xs (y ∷ mid) a d → y.sign ≡ signs.Comma → Args (done ++ a ∷ []) (max m d) mid rest all e → Args done m xs rest all e

  -- An actual and its depth: 1 without arguments, or one more than its deepest argument, and one more for each suffix.
  pub data IsActual : List FileToken → List FileToken → Actual → ℕ → Type 0 where
    actual : {xs mid rest : List FileToken} {a b : Actual} {d e : ℕ} → Unsuffixed xs mid a d → Suffixed a d mid rest b e → IsActual xs rest b e

-- An actual that is not too deep.
pub data LimitedActual : List FileToken → List FileToken → Actual → Type 0 where
  limited : {xs rest : List FileToken} {a : Actual} {d : ℕ} → IsActual xs rest a d → d ≤ max_actual_depth → LimitedActual xs rest a

-- `([","] X)*` after the items in `done`.
pub data ListOf (A : Type 0) (X : List FileToken → List FileToken → A → Type 0) : List A → List FileToken → List FileToken → List A → Type 0 where
  none : {done : List A} {xs : List FileToken} → ListOf A X done xs xs done
  next : {done all : List A} {xs mid rest : List FileToken} {a : A} → X xs mid a → ListOf A X (done ++ a ∷ []) mid rest all → ListOf A X done xs rest all
  comma : {done all : List A} {y : FileToken} {xs mid rest : List FileToken} {a : A} →
      y.sign ≡ signs.Comma → X xs mid a → ListOf A X (done ++ a ∷ []) mid rest all → ListOf A X done (y ∷ xs) rest all

-- `[string]`, and the cost that follows it.
pub data IsAlias : List FileToken → List FileToken → Option (List ℕ) → Option ℕ → Type 0 where
  absent : {xs : List FileToken} → IsAlias xs xs None None
  given : {y : FileToken} {xs : List FileToken} → y.sign ≡ signs.Quoted → IsAlias (y ∷ xs) xs (Some y.text) y.cost

-- `capital-word [string]`, with the first cost after the word or the string.
pub data IsTokenItem : List FileToken → List FileToken → TokenDecl → Type 0 where
  token : {x : FileToken} {xs rest : List FileToken} {o : Option (List ℕ)} {c : Option ℕ} →
      x.sign ≡ signs.Word → is_capital x.text ≡ true → IsAlias xs rest o c → IsTokenItem (x ∷ xs) rest (record { name = x.text; alias = o; cost = option_or x.cost c })

pub data IsWordItem : List FileToken → List FileToken → List ℕ → Type 0 where
  word : {x : FileToken} {xs : List FileToken} → x.sign ≡ signs.Word → IsWordItem (x ∷ xs) xs x.text

pub data IsRef : List FileToken → List FileToken → Ref → Type 0 where
  reference : {x : FileToken} {xs : List FileToken} {r : Ref} → ref_of x ≡ Some r → IsRef (x ∷ xs) xs r

-- `[type]`.
pub data OptionalType : List FileToken → List FileToken → Type 0 where
  absent : {xs : List FileToken} → OptionalType xs xs
  given : {x : FileToken} {xs : List FileToken} → x.sign ≡ signs.TypeText → OptionalType (x ∷ xs) xs

-- One declaration, which follows the declarations of m and gives n.
pub data Declaration : Module → List FileToken → List FileToken → Module → Type 0 where
  header : {m : Module} {x : FileToken} {xs : List FileToken} → x.sign ≡ signs.Header → Declaration m (x ∷ xs) xs m
  semicolon : {m : Module} {x : FileToken} {xs : List FileToken} → x.sign ≡ signs.Semicolon → Declaration m (x ∷ xs) xs m
  tokens : {m : Module} {x : FileToken} {xs mid rest : List FileToken} {ks : List TokenDecl} →
      x.sign ≡ signs.Token → OptionalType xs mid → ListOf TokenDecl IsTokenItem m.tokens mid rest ks → Declaration m (x ∷ xs) rest (record m { tokens = ks })
  starts : {m : Module} {x : FileToken} {xs mid rest : List FileToken} {ks : List (List ℕ)} →
      x.sign ≡ signs.Start → OptionalType xs mid → ListOf (List ℕ) IsWordItem m.starts mid rest ks → Declaration m (x ∷ xs) rest (record m { starts = ks })
  types : {m : Module} {x y : FileToken} {xs rest : List FileToken} {ks : List Actual} →
      x.sign ≡ signs.Type → y.sign ≡ signs.TypeText → ListOf Actual LimitedActual [] xs rest ks → Declaration m (x ∷ y ∷ xs) rest m
  levels : {m : Module} {x : FileToken} {xs rest : List FileToken} {g : Assoc} {ks : List Ref} →
      x.sign ≡ signs.Level g → ListOf Ref IsRef [] xs rest ks → Declaration m (x ∷ xs) rest (record m { levels = m.levels ++ record { assoc = g; names = ks } ∷ [] })
  on_error : {m : Module} {x : FileToken} {xs rest : List FileToken} {ks : List Actual} →
      x.sign ≡ signs.OnErrorReduce → ListOf Actual LimitedActual [] xs rest ks → Declaration m (x ∷ xs) rest (record m { on_error = m.on_error ++ ks ∷ [] })
  parameter : {m : Module} {x y : FileToken} {xs : List FileToken} → x.sign ≡ signs.Parameter → y.sign ≡ signs.TypeText → Declaration m (x ∷ y ∷ xs) xs m
  attribute : {m : Module} {x : FileToken} {xs rest : List FileToken} {ks : List Actual} →
      x.sign ≡ signs.Attribute → ListOf Actual LimitedActual [] xs rest ks → Declaration m (x ∷ xs) rest m

-- `";"*`.
pub data Semicolons : List FileToken → List FileToken → Type 0 where
  none : {xs : List FileToken} → Semicolons xs xs
  more : {x : FileToken} {xs rest : List FileToken} → x.sign ≡ signs.Semicolon → Semicolons xs rest → Semicolons (x ∷ xs) rest

-- `[word "="] actual`.
pub data IsProducer : List FileToken → List FileToken → Actual → Type 0 where
  unnamed : {xs rest : List FileToken} {a : Actual} → LimitedActual xs rest a → IsProducer xs rest a
  named : {x y : FileToken} {xs rest : List FileToken} {a : Actual} → x.sign ≡ signs.Word → y.sign ≡ signs.Equals → LimitedActual xs rest a → IsProducer (x ∷ y ∷ xs) rest a

-- `(producer ";"*)*` after the producers in `done`.
pub data Producers : List Actual → List FileToken → List FileToken → List Actual → Type 0 where
  none : {done : List Actual} {xs : List FileToken} → Producers done xs xs done
  more : {done all : List Actual} {xs mid next rest : List FileToken} {a : Actual} →
      IsProducer xs mid a → Semicolons mid next → Producers (done ++ a ∷ []) next rest all → Producers done xs rest all

-- `["%prec" ref]`.
pub data IsPrec : List FileToken → List FileToken → Option Ref → Type 0 where
  absent : {xs : List FileToken} → IsPrec xs xs None
  given : {x y : FileToken} {xs : List FileToken} {r : Ref} → x.sign ≡ signs.Prec → ref_of y ≡ Some r → IsPrec (x ∷ y ∷ xs) xs (Some r)

-- `production ("|" production)* action` after the productions in `done`.
pub data Productions : List Alternative → List FileToken → List FileToken → List Alternative → Type 0 where
  last : {done : List Alternative} {y : FileToken} {xs mid rest : List FileToken} {ps : List Actual} {p : Option Ref} →
      Producers [] xs mid ps → IsPrec mid (y ∷ rest) p → y.sign ≡ signs.Action → Productions done xs rest (done ++ alternative ps p ∷ [])
  more : {done all : List Alternative} {y : FileToken} {xs mid next rest : List FileToken} {ps : List Actual} {p : Option Ref} →
      Producers [] xs mid ps → IsPrec mid (y ∷ next) p → y.sign ≡ signs.Bar → Productions (done ++ alternative ps p ∷ []) next rest all → Productions done xs rest all

-- The production's own level, or else the group's.
abbrev pub own_or : Option Ref → Option Ref → Option Ref
own_or group None = group
own_or group (Some r) = Some r

abbrev pub with_prec : Option Ref → Alternative → Alternative
with_prec group a = alternative a.producers (own_or group a.prec)

-- `group ("|" group)*` after the alternatives in `done`.
pub data Groups : List Alternative → List FileToken → List FileToken → List Alternative → Type 0 where
  last : {done ks : List Alternative} {xs mid rest : List FileToken} {g : Option Ref} →
      Productions [] xs mid ks → IsPrec mid rest g → Groups done xs rest (done ++ map (with_prec g) ks)
  more : {done ks all : List Alternative} {y : FileToken} {xs mid next rest : List FileToken} {g : Option Ref} →
      Productions [] xs mid ks → IsPrec mid (y ∷ next) g → y.sign ≡ signs.Bar → Groups (done ++ map (with_prec g) ks) next rest all → Groups done xs rest all

-- `("%public" | "%inline")*` after other modifiers.
pub data Modifiers : Bool → Bool → List FileToken → List FileToken → Bool → Bool → Type 0 where
  none : {p i : Bool} {xs : List FileToken} → Modifiers p i xs xs p i
  public : {p i q j : Bool} {x : FileToken} {xs rest : List FileToken} → x.sign ≡ signs.Public → Modifiers true i xs rest q j → Modifiers p i (x ∷ xs) rest q j
  inlined : {p i q j : Bool} {x : FileToken} {xs rest : List FileToken} → x.sign ≡ signs.Inline → Modifiers p true xs rest q j → Modifiers p i (x ∷ xs) rest q j

-- `word ("," word)* ")"` after the formals in `done`.
pub data Formals : List (List ℕ) → List FileToken → List FileToken → List (List ℕ) → Type 0 where
  last : {done : List (List ℕ)} {x y : FileToken} {xs : List FileToken} → x.sign ≡ signs.Word → y.sign ≡ signs.Close → Formals done (x ∷ y ∷ xs) xs (done ++ x.text ∷ [])
  more : {done all : List (List ℕ)} {x y : FileToken} {xs rest : List FileToken} →
      x.sign ≡ signs.Word → y.sign ≡ signs.Comma → Formals (done ++ x.text ∷ []) xs rest all → Formals done (x ∷ y ∷ xs) rest all

-- `["(" [word ("," word)*] ")"]` after the formals in `done`.
pub data OptionalFormals : List (List ℕ) → List FileToken → List FileToken → List (List ℕ) → Type 0 where
  absent : {done : List (List ℕ)} {xs : List FileToken} → OptionalFormals done xs xs done
  empty : {done : List (List ℕ)} {x y : FileToken} {xs : List FileToken} → x.sign ≡ signs.Open → y.sign ≡ signs.Close → OptionalFormals done (x ∷ y ∷ xs) xs done
  given : {done all : List (List ℕ)} {x : FileToken} {xs rest : List FileToken} → x.sign ≡ signs.Open → Formals done xs rest all → OptionalFormals done (x ∷ xs) rest all

abbrev pub is_bar : TokenKind → Bool
is_bar signs.Bar = true
is_bar _ = false

abbrev pub starts_with_bar : List FileToken → Bool
starts_with_bar [] = false
starts_with_bar (x ∷ xs) = is_bar x.sign

-- `["|"]` after the colon of a rule. A bar right after the colon is always this optional one.
pub data OptionalBar : List FileToken → List FileToken → Type 0 where
  absent : {xs : List FileToken} → starts_with_bar xs ≡ false → OptionalBar xs xs
  given : {x : FileToken} {xs : List FileToken} → x.sign ≡ signs.Bar → OptionalBar (x ∷ xs) xs

-- `modifiers word formals ":" ["|"] groups ";"*`.
pub data IsRule : List FileToken → List FileToken → Rule → Type 0 where
  rule : {x y : FileToken} {xs named formed begun grouped rest : List FileToken} {p i : Bool} {fs : List (List ℕ)} {ks : List Alternative} →
      Modifiers false false xs (x ∷ named) p i → x.sign ≡ signs.Word → OptionalFormals [] named (y ∷ formed) fs → y.sign ≡ signs.Colon →
      OptionalBar formed begun → Groups [] begun grouped ks → Semicolons grouped rest →
      IsRule xs rest (record { public = p; inlined = i; name = x.text; formals = fs; alternatives = ks })

-- `rule* ["%%"]`, up to the end of the file, after the rules of m.
pub data Rules : Module → List FileToken → Module → Type 0 where
  none : {m : Module} → Rules m [] m
  trailer : {m : Module} {x : FileToken} → x.sign ≡ signs.Percents → Rules m (x ∷ []) m
  more : {m out : Module} {xs mid : List FileToken} {r : Rule} → IsRule xs mid r → Rules (record m { rules = m.rules ++ r ∷ [] }) mid out → Rules m xs out

-- `declaration* "%%" rule* ["%%"]`, up to the end of the file, after the declarations of m.
pub data File : Module → List FileToken → Module → Type 0 where
  declared : {m n out : Module} {xs mid : List FileToken} → Declaration m xs mid n → File n mid out → File m xs out
  ruled : {m out : Module} {x : FileToken} {xs : List FileToken} → x.sign ≡ signs.Percents → Rules m xs out → File m (x ∷ xs) out

-- The bytes have lexemes without a fault, and these, without attributes, have a derivation that gives this module.
abbrev pub Spells : List ℕ → Module → Type 0
Spells bytes m = (ls : List Lexeme) × Lexes bytes ls None × File no_module (file_tokens bytes ls) m

-- Some file begins with these lexemes.
abbrev pub BeginsFile : List FileToken → Type 0
BeginsFile xs = (ys : List FileToken) × (m : Module) × File no_module (xs ++ ys) m
