-- The words that may follow a percent sign (Menhir manual, syntax of grammars; the choice of words is a rule of this
-- project).
use Rattle.std.specs.Prelude.{ℕ, Bool, List, [], ◌∷◌, Option, Some, None, map, is_some, codes, if◌then◌else◌}
use Rattle.std.specs.Str.{bytes_eq}
use Rattle.mh_lex_bytes.specs.declared.keywords.Keyword.{Keyword}
use Rattle.mh_lex_bytes.specs.declared.keywords.KeywordRow.{KeywordRow}
use Rattle.mh_lex_bytes.specs.declared.keywords.Keyword.TheVariants.{Token, Start, «Type», Left, Right, Nonassoc, OnErrorReduce, Parameter, Attribute, Public, Inline, Prec}

-- A row whose word is a list of bytes.
abbrev pub text_row : {W : Type 0} → KeywordRow W → (W → List ℕ) → KeywordRow (List ℕ)
text_row row text = record { word = text row.word; keyword = row.keyword }

abbrev pub text_rows : {W : Type 0} → List (KeywordRow W) → (W → List ℕ) → List (KeywordRow (List ℕ))
text_rows rows text = map (λ row. text_row row text) rows

-- A keyword and its word.
abbrev pub word_for : List ℕ → Keyword → KeywordRow (List ℕ)
word_for word keyword = record { word = word; keyword = keyword }

unfoldable pub keywords : List (KeywordRow (List ℕ))
keywords =
    word_for (codes "token") Token
    ∷ word_for (codes "start") Start
    ∷ word_for (codes "type") «Type»
    ∷ word_for (codes "left") Left
    ∷ word_for (codes "right") Right
    ∷ word_for (codes "nonassoc") Nonassoc
    ∷ word_for (codes "on_error_reduce") OnErrorReduce
    ∷ word_for (codes "parameter") Parameter
    ∷ word_for (codes "attribute") Attribute
    ∷ word_for (codes "public") Public
    ∷ word_for (codes "inline") Inline
    ∷ word_for (codes "prec") Prec
    ∷ []

-- The keyword of a word by some rows.
abbrev pub keyword_among : List (KeywordRow (List ℕ)) → List ℕ → Option Keyword
keyword_among [] w = None
keyword_among (row ∷ rows) w = if bytes_eq w row.word then Some row.keyword else keyword_among rows w

abbrev pub keyword_named : List ℕ → Option Keyword
keyword_named w = keyword_among keywords w

abbrev pub is_keyword : List ℕ → Bool
is_keyword w = is_some (keyword_named w)
