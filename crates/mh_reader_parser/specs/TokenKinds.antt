-- The lexemes of a file as the grammar of grammar files sees them (Menhir manual, syntax of grammars, of which this
-- project supports a part).
use Rattle.std.specs.Prelude.{ℕ, ◌-◌, ◌==◌, ◌&&◌, Bool, false, cond, List, [], ◌∷◌, ◌++◌, length, Option, Some, None, drop, take, nat_le}
use Rattle.std.specs.Option.{option_or}
use Rattle.mh_grammar.specs.declared.types.Assoc.TheVariants.{Left, Right, Nonassoc}
use Rattle.mh_lex_bytes.specs.declared.keywords.Keyword.{Keyword}
use Rattle.mh_lex_bytes.specs.declared.keywords.Keyword.TheVariants as keywords
use Rattle.mh_lex.specs.declared.kinds.Kind.{Kind}
use Rattle.mh_lex.specs.declared.kinds.Kind.TheVariants as kinds
use Rattle.mh_lex.specs.declared.kinds.Lexeme.{Lexeme}
use Rattle.mh_lex_bytes.specs.Bytes.{byte_at}
use Rattle.mh_lex_bytes.specs.Keywords.{keyword_named}
use Rattle.mh_lex.specs.LexemeTexts.{bytes_of}
use Rattle.mh_reader_parser.specs.declared.token_kinds.TokenKind.{TokenKind}
use Rattle.mh_reader_parser.specs.declared.token_kinds.TokenKind.TheVariants as signs
use Rattle.mh_reader_parser.specs.Costs.{cost_of}

-- A lexeme as the grammar sees it: its token kind, its text, and the cost in the attributes that follow it.
pub record FileToken : Type 0 where
  pub sign : TokenKind
  pub text : List ℕ
  pub cost : Option ℕ

-- The token kind of the mark `:`, `|`, `=`, `,`, `;`, `(`, `)`, `?`, `*` or `+`.
abbrev pub kind_of_mark : ℕ → TokenKind
kind_of_mark b =
    cond (b == 58) signs.Colon
    (cond (b == 124) signs.Bar
    (cond (b == 61) signs.Equals
    (cond (b == 44) signs.Comma
    (cond (b == 59) signs.Semicolon
    (cond (b == 40) signs.Open
    (cond (b == 41) signs.Close
    (cond (b == 63) signs.Question
    (cond (b == 42) signs.Star
    (cond (b == 43) signs.Plus signs.Unknown)))))))))

abbrev pub kind_of_keyword : Keyword → TokenKind
kind_of_keyword keywords.Token = signs.Token
kind_of_keyword keywords.Start = signs.Start
kind_of_keyword keywords.Type = signs.Type
kind_of_keyword keywords.Left = signs.Level Left
kind_of_keyword keywords.Right = signs.Level Right
kind_of_keyword keywords.Nonassoc = signs.Level Nonassoc
kind_of_keyword keywords.OnErrorReduce = signs.OnErrorReduce
kind_of_keyword keywords.Parameter = signs.Parameter
kind_of_keyword keywords.Attribute = signs.Attribute
kind_of_keyword keywords.Public = signs.Public
kind_of_keyword keywords.Inline = signs.Inline
kind_of_keyword keywords.Prec = signs.Prec

abbrev pub kind_or_unknown : Option Keyword → TokenKind
kind_or_unknown None = signs.Unknown
kind_or_unknown (Some keyword) = kind_of_keyword keyword

-- The token kind of the word after a percent sign.
abbrev pub kind_of_word : List ℕ → TokenKind
kind_of_word w = kind_or_unknown (keyword_named w)

-- The token kind of a lexeme with these bytes; an attribute has none.
abbrev pub token_kind_by : Kind → List ℕ → Option TokenKind
token_kind_by kinds.Word t = Some signs.Word
token_kind_by kinds.Mark t = Some (kind_of_mark (byte_at t 0))
token_kind_by kinds.Percents t = Some signs.Percents
token_kind_by kinds.Keyword t = Some (kind_of_word (drop 1 t))
token_kind_by kinds.Quoted t = Some signs.Quoted
token_kind_by kinds.Header t = Some signs.Header
token_kind_by kinds.Action t = Some signs.Action
token_kind_by kinds.TypeText t = Some signs.TypeText
token_kind_by kinds.Attribute t = None

-- The text of a string is the bytes between its quotes; that of another lexeme is all its bytes.
abbrev pub text_by : Kind → List ℕ → List ℕ
text_by kinds.Quoted t = take (length t - 2) (drop 1 t)
text_by _ t = t

-- The cost at the beginning of lexemes, of which the first has this token kind and this text: for an attribute its own
-- cost or, if it has none, the cost at the beginning of the lexemes after it; none for any other lexeme.
abbrev pub cost_at_front : Option TokenKind → List ℕ → Option ℕ → Option ℕ
cost_at_front None t later = option_or (cost_of t) later
cost_at_front (Some g) t later = None

-- The cost of the first cost attribute among the attributes with which the lexemes begin.
abbrev pub cost_after : List ℕ → List Lexeme → Option ℕ
cost_after bytes [] = None
cost_after bytes (l ∷ ls) = cost_at_front (token_kind_by l.kind (bytes_of bytes l)) (bytes_of bytes l) (cost_after bytes ls)

abbrev pub file_token_by : Option TokenKind → List ℕ → Option ℕ → List FileToken
file_token_by None t c = []
file_token_by (Some g) t c = record { sign = g; text = t; cost = c } ∷ []

abbrev pub file_tokens_of : List ℕ → Lexeme → Option ℕ → List FileToken
file_tokens_of bytes l c = file_token_by (token_kind_by l.kind (bytes_of bytes l)) (text_by l.kind (bytes_of bytes l)) c

-- The lexemes of a file without its attributes, each with the cost that follows it.
abbrev pub file_tokens : List ℕ → List Lexeme → List FileToken
file_tokens bytes [] = []
file_tokens bytes (l ∷ ls) = file_tokens_of bytes l (cost_after bytes ls) ++ file_tokens bytes ls

-- The word begins with `A` to `Z`.
abbrev pub is_capital : List ℕ → Bool
is_capital [] = false
is_capital (b ∷ bs) = nat_le 65 b && nat_le b 90
