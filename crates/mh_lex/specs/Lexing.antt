-- Bytes and their lexemes (Menhir manual, syntax of grammars, of which this project supports a part).
use Rattle.std.specs.Prelude.{◌≡◌, ◌≢◌, ℕ, suc, ◌-◌, ◌<◌, ◌≤◌, List, [], ◌∷◌, ◌++◌, length, Option, Some, None, drop, Result, Ok, Err}
use Rattle.mh_lex.specs.declared.kinds.PlacedFault.{PlacedFault}
use Rattle.mh_lex.specs.declared.kinds.PlacedFault.TheVariants as placed
use Rattle.mh_lex.specs.declared.kinds.SyntaxFault.{SyntaxFault}
use Rattle.mh_lex.specs.declared.kinds.SyntaxFault.TheVariants.{Syntax, Memory}
use Rattle.mh_lex.specs.declared.code.Delimiter.{Delimiter}
use Rattle.mh_lex.specs.declared.kinds.Kind.{Kind}
use Rattle.mh_lex.specs.declared.kinds.Kind.TheVariants as kinds
use Rattle.mh_lex.specs.declared.kinds.Lexeme.{Lexeme}
use Rattle.mh_lex.specs.declared.kinds.LexemeStart.TheVariants.{Ended, Short, Long}
use Rattle.mh_lex_bytes.specs.Lines.{line_at}
use Rattle.mh_lex.specs.LexemeStarts.{lexeme_start}
use Rattle.mh_lex.specs.Bodies.{Body}

-- The bytes begin with a lexeme of this kind, or with a blank or a comment, which has no kind; `rest` are the bytes
-- that follow it.
pub data Scanned : List ℕ → Option Kind → List ℕ → Type 0 where
  short : {bytes rest : List ℕ} {what : Option Kind} {n : ℕ} → lexeme_start bytes ≡ Short what n → rest ≡ drop n bytes → Scanned bytes what rest
  long : {bytes rest : List ℕ} {what : Option Kind} {e : Delimiter} {n : ℕ} → lexeme_start bytes ≡ Long what e n → Body e (drop n bytes) rest → Scanned bytes what rest

-- The lexeme between two positions; a blank or a comment gives no lexeme.
abbrev pub lexeme_between : Option Kind → ℕ → ℕ → List Lexeme
lexeme_between None start end = []
lexeme_between (Some k) start end = record { kind = k; start = start; end = end } ∷ []

-- The lexeme between two suffixes of a file of `total` bytes.
abbrev pub lexeme_between_rests : ℕ → List ℕ → Option Kind → List ℕ → List Lexeme
lexeme_between_rests total bytes what rest = lexeme_between what (total - length bytes) (total - length rest)

-- The number of `%%` that are still to come after a piece, where `suc left` is the number before the piece: a `%%` is
-- one of them, and no other piece changes the number.
abbrev pub percents_left : Option Kind → ℕ → ℕ
percents_left None left = suc left
percents_left (Some kinds.Percents) left = left
percents_left (Some kinds.Word) left = suc left
percents_left (Some kinds.Mark) left = suc left
percents_left (Some kinds.Keyword) left = suc left
percents_left (Some kinds.Quoted) left = suc left
percents_left (Some kinds.Header) left = suc left
percents_left (Some kinds.Action) left = suc left
percents_left (Some kinds.TypeText) left = suc left
percents_left (Some kinds.Attribute) left = suc left

-- The lexemes of some suffix of a file of `total` bytes, up to the end of the file, its trailer or the position of the
-- first fault. The first number says how many `%%` are still to come; the trailer begins after the second.
pub data LexesFrom (total : ℕ) : ℕ → List ℕ → List Lexeme → Option ℕ → Type 0 where
  ended : {left : ℕ} {bytes : List ℕ} → lexeme_start bytes ≡ Ended → LexesFrom total (suc left) bytes [] None
  trailer : {bytes : List ℕ} → LexesFrom total 0 bytes [] None
  taken : {left : ℕ} {bytes rest : List ℕ} {what : Option Kind} {ls all : List Lexeme} {f : Option ℕ} →
      Scanned bytes what rest → LexesFrom total (percents_left what left) rest ls f → all ≡ lexeme_between_rests total bytes what rest ++ ls → LexesFrom total (suc left) bytes all f
  fault : {left : ℕ} {bytes : List ℕ} → lexeme_start bytes ≢ Ended → ((what : Option Kind) (rest : List ℕ) → Scanned bytes what rest → ⊥) →
      LexesFrom total (suc left) bytes [] (Some (total - length bytes))

-- The lexemes of a file, up to the position of the first lexical fault, if there is one.
abbrev pub Lexes : List ℕ → List Lexeme → Option ℕ → Type 0
Lexes bytes lexemes place = LexesFrom (length bytes) 2 bytes lexemes place

-- The lexemes are between two positions, none is empty, and each begins at or after the end of the one before.
abbrev pub AreLexemesInOrder : ℕ → ℕ → List Lexeme → Type 0
AreLexemesInOrder low high [] = low ≤ high
AreLexemesInOrder low high (l ∷ ls) = (low ≤ l.start) × (l.start < l.end) × AreLexemesInOrder l.end high ls

-- The lexeme is not empty, and ends within `size` bytes.
abbrev pub IsLexemeWithin : ℕ → Lexeme → Type 0
IsLexemeWithin size l = (l.start < l.end) × (l.end ≤ size)

-- If the result is a syntax fault, its line is that of the first lexical fault.
abbrev pub ReportsLexicalLine : {X : Type 0} → List ℕ → Result X SyntaxFault → Type 0
ReportsLexicalLine bytes (Ok x) = Unit {0}
ReportsLexicalLine bytes (Err Memory) = Unit {0}
ReportsLexicalLine bytes (Err (Syntax line)) = (ls : List Lexeme) × (place : ℕ) × Lexes bytes ls (Some place) × (line ≡ line_at bytes place)

-- If the result is a syntax fault, its position is that of the first lexical fault.
abbrev pub ReportsLexicalPlace : {X : Type 0} → List ℕ → Result X PlacedFault → Type 0
ReportsLexicalPlace bytes (Ok x) = Unit {0}
ReportsLexicalPlace bytes (Err placed.Memory) = Unit {0}
ReportsLexicalPlace bytes (Err (placed.Syntax place)) = (ls : List Lexeme) × Lexes bytes ls (Some place)

-- If the fault has a position, the position is at most n, the number of the bytes.
abbrev pub IsPlaceWithin : ℕ → PlacedFault → Type 0
IsPlaceWithin n (placed.Syntax place) = place ≤ n
IsPlaceWithin n placed.Memory = Unit {0}
