-- The line of a syntax fault (a rule of this project).
use Rattle.std.specs.Prelude.{◌≡◌, ℕ, List, [], ◌∷◌, ◌++◌, length, Some, None, Result, Ok, Err, IfOk}
use Rattle.mh_lex.specs.declared.kinds.Lexeme.{Lexeme}
use Rattle.mh_lex.specs.declared.kinds.PlacedFault.{PlacedFault}
use Rattle.mh_lex.specs.declared.kinds.PlacedFault.TheVariants as placed
use Rattle.mh_lex.specs.declared.kinds.SyntaxFault.{SyntaxFault}
use Rattle.mh_lex.specs.declared.kinds.SyntaxFault.TheVariants.{Syntax, Memory}
use Rattle.mh_lex_bytes.specs.Lines.{line_at}
use Rattle.mh_lex.specs.Lexing.{Lexes}
use Rattle.mh_rules.specs.declared.modules.Module.{Module}
use Rattle.mh_reader_parser.specs.TokenKinds.{file_tokens}
use Rattle.mh_rules.specs.Modules.{no_module}
use Rattle.mh_reader_parser.specs.Spelling.{File, Spells, BeginsFile}

-- The position of the first lexeme such that some file begins with the lexemes before it, and none with these and the
-- lexeme itself. If some file begins with all lexemes, but they are not a whole file, it is the end of the file.
pub data IsUnexpectedPlace (bytes : List ℕ) (ls : List Lexeme) (place : ℕ) : Type 0 where
  unexpected : (before after : List Lexeme) (l : Lexeme) →
      ls ≡ before ++ l ∷ after → BeginsFile (file_tokens bytes before) → (BeginsFile (file_tokens bytes (before ++ l ∷ [])) → ⊥) → place ≡ l.start → IsUnexpectedPlace bytes ls place
  unfinished : BeginsFile (file_tokens bytes ls) → ((m : Module) → File no_module (file_tokens bytes ls) m → ⊥) → place ≡ length bytes → IsUnexpectedPlace bytes ls place

-- The line of this position.
abbrev pub IsUnexpectedLine : List ℕ → List Lexeme → ℕ → Type 0
IsUnexpectedLine bytes ls line = (place : ℕ) × IsUnexpectedPlace bytes ls place × (line ≡ line_at bytes place)

-- The position of the first lexical fault, if there is one; otherwise the position at which the lexemes stop being the
-- beginning of a file.
pub data IsSyntaxPlace : List ℕ → ℕ → Type 0 where
  lexical : {bytes : List ℕ} {place : ℕ} {ls : List Lexeme} → Lexes bytes ls (Some place) → IsSyntaxPlace bytes place
  syntactic : {bytes : List ℕ} {place : ℕ} {ls : List Lexeme} → Lexes bytes ls None → IsUnexpectedPlace bytes ls place → IsSyntaxPlace bytes place

-- The line of the first lexical fault, if there is one; otherwise the line at which the lexemes stop being the
-- beginning of a file.
pub data IsSyntaxLine : List ℕ → ℕ → Type 0 where
  lexical : {bytes : List ℕ} {line place : ℕ} {ls : List Lexeme} → Lexes bytes ls (Some place) → line ≡ line_at bytes place → IsSyntaxLine bytes line
  syntactic : {bytes : List ℕ} {line : ℕ} {ls : List Lexeme} → Lexes bytes ls None → IsUnexpectedLine bytes ls line → IsSyntaxLine bytes line

-- The fault with the line of its position.
abbrev pub line_fault : List ℕ → PlacedFault → SyntaxFault
line_fault bytes (placed.Syntax place) = Syntax (line_at bytes place)
line_fault bytes placed.Memory = Memory

-- If the result is a syntax fault, the lexemes spell no module and the position is that of the fault.
abbrev pub ReportsUnexpectedPlace : List ℕ → List Lexeme → Result Module PlacedFault → Type 0
ReportsUnexpectedPlace bytes ls (Ok m) = Unit {0}
ReportsUnexpectedPlace bytes ls (Err (placed.Syntax place)) = IsUnexpectedPlace bytes ls place × ((m : Module) → File no_module (file_tokens bytes ls) m → ⊥)
ReportsUnexpectedPlace bytes ls (Err placed.Memory) = Unit {0}

-- If the result is a syntax fault, the bytes spell no module and the line is that of the fault.
abbrev pub ReportsSyntaxLine : List ℕ → Result Module SyntaxFault → Type 0
ReportsSyntaxLine bytes (Ok m) = Unit {0}
ReportsSyntaxLine bytes (Err (Syntax line)) = IsSyntaxLine bytes line × ((m : Module) → Spells bytes m → ⊥)
ReportsSyntaxLine bytes (Err Memory) = Unit {0}

-- The result is one that `read_module` may return.
abbrev pub IsReadResult : List ℕ → Result Module SyntaxFault → Type 0
IsReadResult bytes answer = IfOk answer (λ m. Spells bytes m) × ReportsSyntaxLine bytes answer
