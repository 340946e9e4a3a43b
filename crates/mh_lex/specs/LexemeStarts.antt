-- The lexeme, comment or blank with which bytes outside of code begin (Menhir manual, syntax of grammars, of which this
-- project supports a part).
use Rattle.std.specs.Prelude.{ℕ, ◌+◌, ◌==◌, ◌&&◌, false, cond, List, [], ◌∷◌, Option, Some, None, drop, take}
use Rattle.mh_lex.specs.declared.code.Delimiter.TheVariants as ends
use Rattle.mh_lex.specs.declared.kinds.Kind.TheVariants as kinds
use Rattle.mh_lex.specs.declared.kinds.LexemeStart.{LexemeStart}
use Rattle.mh_lex.specs.declared.kinds.LexemeStart.TheVariants.{Ended, Short, Long, Fault}
use Rattle.mh_lex_bytes.specs.Bytes.{byte_at, has, is_at_end, is_word_start, is_blank, is_mark}
use Rattle.mh_lex_bytes.specs.Keywords.{is_keyword}
use Rattle.mh_lex.specs.LexemeLengths.{word_rest, string_rest}
use Rattle.mh_lex.specs.CodeSteps.{begins_comment}

-- The number of bytes before the end of the line.
abbrev pub line_rest : List ℕ → ℕ
line_rest [] = 0
line_rest (b ∷ bs) = cond (b == 10) 0 (line_rest bs + 1)

abbrev pub string_start : Option ℕ → LexemeStart
string_start None = Fault
string_start (Some n) = Short (Some kinds.Quoted) (n + 1)

-- The bytes begin with a keyword's word, which follows a percent sign: the longest word has to be a keyword.
unfoldable pub keyword_of : List ℕ → LexemeStart
keyword_of s = cond (is_keyword (take (word_rest s) s)) (Short (Some kinds.Keyword) (word_rest s + 1)) Fault

-- The bytes begin with a percent sign: `%%`, `%{`, `%[@` or a keyword.
unfoldable pub percent_start : List ℕ → LexemeStart
percent_start s = cond (has s 1 37) (Short (Some kinds.Percents) 2)
    (cond (has s 1 123) (Long (Some kinds.Header) ends.Header 2)
    (cond (has s 1 91 && has s 2 64) (Long (Some kinds.Attribute) ends.Bracket 3) (keyword_of (drop 1 s))))

-- The bytes begin with a slash: `/*` or `//`.
unfoldable pub slash_start : List ℕ → LexemeStart
slash_start s = cond (has s 1 42) (Long None ends.Slash 2) (cond (has s 1 47) (Short None (line_rest (drop 2 s) + 2)) Fault)

-- The piece with which the bytes begin, and its length: a whole lexeme, blank or line comment (`Short`), or the opening
-- of a piece that has to be closed (`Long`). A start without a kind is dropped. The opening brace of an action is one
-- byte, whatever follows it.
unfoldable pub lexeme_start : List ℕ → LexemeStart
lexeme_start s =
    cond (is_at_end s) Ended
    (cond (is_blank (byte_at s 0)) (Short None 1)
    (cond (is_word_start (byte_at s 0)) (Short (Some kinds.Word) (word_rest s))
    (cond (begins_comment s) (Long None ends.Comment 2)
    (cond (is_mark (byte_at s 0)) (Short (Some kinds.Mark) 1)
    (cond (has s 0 37) (percent_start s)
    (cond (has s 0 47) (slash_start s)
    (cond (has s 0 34) (string_start (string_rest false (drop 1 s)))
    (cond (has s 0 123) (Long (Some kinds.Action) ends.Brace 1)
    (cond (has s 0 60) (Long (Some kinds.TypeText) ends.Angle 1)
    (cond (has s 0 91 && has s 1 64) (Long (Some kinds.Attribute) ends.Bracket 2) Fault))))))))))
