-- Lemmas on the positions of syntax faults.
use Rattle.std.proofs.Common.{◌≡◌, ℕ, List, Some, None, Result, Ok, Err, IfErr, subst}
use Rattle.std.proofs.lemmas.Option.{none-some}
use Rattle.mh_lex.specs.declared.kinds.Lexeme.{Lexeme}
use Rattle.mh_lex.specs.declared.kinds.PlacedFault.{PlacedFault}
use Rattle.mh_lex.specs.declared.kinds.PlacedFault.TheVariants as placed
use Rattle.mh_lex.specs.Lexing.{Lexes, ReportsLexicalPlace}
use Rattle.mh_rules.specs.Modules.{no_module}
use Rattle.mh_reader_parser.specs.Faults.{IsSyntaxPlace, ReportsUnexpectedPlace}
use Rattle.mh_reader_parser.specs.Spelling.{File}
use Rattle.mh_reader_parser.specs.TokenKinds.{file_tokens}
use Rattle.mh_reader_parser.proofs.ParserExact.{LexedOnce}
use Rattle.mh_reader_places.specs.Places.{ReportsLexedPlace, ReportsSyntaxPlace}
use Rattle.mh_reader_places.specs.declared.reading.PlacedModule.{PlacedModule}

-- A call that fails for lack of memory alone has no syntax fault.
pub lexed_without_fault : (bytes : List ℕ) (ls : List Lexeme) (r : Result PlacedModule PlacedFault) → IfErr r (λ fault. fault ≡ placed.Memory) → ReportsLexedPlace bytes ls r
lexed_without_fault bytes ls (Ok found) h = tt
lexed_without_fault bytes ls (Err placed.Memory) h = tt
lexed_without_fault bytes ls (Err (placed.Syntax place)) h = absurd (cc)

pub lexed_fault : (bytes : List ℕ) (ls : List Lexeme) (fault : PlacedFault) → ReportsUnexpectedPlace bytes ls (Err fault) → ReportsLexedPlace bytes ls (Err fault)
lexed_fault bytes ls placed.Memory h = tt
lexed_fault bytes ls (placed.Syntax place) h = h

-- The fault of the lexemes is that of the bytes.
pub syntax_place_if_lexed : LexedOnce → (bytes : List ℕ) (ls : List Lexeme) (r : Result PlacedModule PlacedFault) → Lexes bytes ls None → ReportsLexedPlace bytes ls r → ReportsSyntaxPlace bytes r
syntax_place_if_lexed once bytes ls (Ok found) lexes h = tt
syntax_place_if_lexed once bytes ls (Err placed.Memory) lexes h = tt
syntax_place_if_lexed once bytes ls (Err (placed.Syntax place)) lexes h =
    (IsSyntaxPlace.syntactic lexes h.0, λ m (ks, ly, f). h.1 m (subst (λ k. File no_module (file_tokens bytes k) m) (once bytes ls ks None None lexes ly).0 f))

pub syntax_place_if_lexical : LexedOnce → (bytes : List ℕ) (fault : PlacedFault) → ReportsLexicalPlace {X = PlacedModule} bytes (Err fault) → ReportsSyntaxPlace bytes (Err fault)
syntax_place_if_lexical once bytes placed.Memory h = tt
syntax_place_if_lexical once bytes (placed.Syntax place) h =
    (IsSyntaxPlace.lexical h.1, λ m (ks, ly, f). none-some place (once bytes h.0 ks (Some place) None h.1 ly).1)
