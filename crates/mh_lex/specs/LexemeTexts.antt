-- Texts that are one lexeme each, and files made of them (a rule of this project).
use Rattle.std.specs.Prelude.{◌≡◌, ℕ, ◌+◌, ◌-◌, ◌==◌, ◌&&◌, Bool, true, false, not, List, [], ◌∷◌, ◌++◌, length, take, drop, codes}
use Rattle.std.specs.List.{AllByRecursion}
use Rattle.mh_lex.specs.declared.kinds.Kind.{Kind}
use Rattle.mh_lex.specs.declared.kinds.Kind.TheVariants as kinds
use Rattle.mh_lex.specs.declared.kinds.Lexeme.{Lexeme}
use Rattle.mh_lex_bytes.specs.Bytes.{is_word_start, is_word_byte, is_mark, is_decimal}
use Rattle.mh_lex_bytes.specs.Keywords.{is_keyword}

-- The text between the quotes of a string: it has no unescaped quote, and does not end with a backslash that would
-- escape the closing quote. The boolean says whether the byte before the text is a backslash that escapes the first
-- byte.
abbrev pub is_content : Bool → List ℕ → Bool
is_content taken [] = not taken
is_content taken (b ∷ bs) = not (not taken && b == 34) && is_content (not taken && b == 92) bs

-- The text, if a blank follows it, is one lexeme of this kind.
pub data LexemeText : Kind → List ℕ → Type 0 where
  word : {b : ℕ} {bs : List ℕ} → is_word_start b ≡ true → AllByRecursion (λ c. is_word_byte c ≡ true) bs → LexemeText kinds.Word (b ∷ bs)
  mark : {b : ℕ} → is_mark b ≡ true → LexemeText kinds.Mark (b ∷ [])
  percents : LexemeText kinds.Percents (37 ∷ 37 ∷ [])
  keyword : {w : List ℕ} → is_keyword w ≡ true → LexemeText kinds.Keyword (37 ∷ w)
  quoted : (s : List ℕ) → is_content false s ≡ true → LexemeText kinds.Quoted (34 ∷ s ++ 34 ∷ [])
  empty_action : LexemeText kinds.Action (123 ∷ 125 ∷ [])
  cost : (ds : List ℕ) → AllByRecursion (λ d. is_decimal d ≡ true) ds → LexemeText kinds.Attribute (codes "[@cost " ++ (ds ++ 93 ∷ []))

abbrev pub IsText : Kind × List ℕ → Type 0
IsText t = LexemeText t.0 t.1

-- The texts in sequence, with a space after each.
abbrev pub laid_out : List (Kind × List ℕ) → List ℕ
laid_out [] = []
laid_out (t ∷ ts) = t.1 ++ 32 ∷ laid_out ts

-- The lexemes of the texts, with their positions from `at` on.
abbrev pub laid_out_lexemes : ℕ → List (Kind × List ℕ) → List Lexeme
laid_out_lexemes at [] = []
laid_out_lexemes at (t ∷ ts) = record { kind = t.0; start = at; end = at + length t.1 } ∷ laid_out_lexemes (at + length t.1 + 1) ts

-- 1 for the kind of `%%`, else 0.
abbrev pub percents_in : Kind → ℕ
percents_in kinds.Percents = 1
percents_in kinds.Word = 0
percents_in kinds.Mark = 0
percents_in kinds.Keyword = 0
percents_in kinds.Quoted = 0
percents_in kinds.Header = 0
percents_in kinds.Action = 0
percents_in kinds.TypeText = 0
percents_in kinds.Attribute = 0

-- The number of `%%` among the texts.
abbrev pub count_of_percents : List (Kind × List ℕ) → ℕ
count_of_percents [] = 0
count_of_percents (t ∷ ts) = percents_in t.0 + count_of_percents ts

-- The bytes of a lexeme.
abbrev pub bytes_of : List ℕ → Lexeme → List ℕ
bytes_of bytes l = take (l.end - l.start) (drop l.start bytes)

-- The text of a lexeme of this kind; code and types are not examined.
abbrev pub HasText : Kind → List ℕ → Type 0
HasText kinds.Word t = LexemeText kinds.Word t
HasText kinds.Mark t = LexemeText kinds.Mark t
HasText kinds.Percents t = LexemeText kinds.Percents t
HasText kinds.Keyword t = LexemeText kinds.Keyword t
HasText kinds.Quoted t = LexemeText kinds.Quoted t
HasText kinds.Header t = Unit {0}
HasText kinds.Action t = Unit {0}
HasText kinds.TypeText t = Unit {0}
HasText kinds.Attribute t = Unit {0}

abbrev pub HasTextOfKind : List ℕ → Lexeme → Type 0
HasTextOfKind bytes l = HasText l.kind (bytes_of bytes l)
