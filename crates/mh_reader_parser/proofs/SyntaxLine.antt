-- Proves that a file that spells no module has one line of its syntax fault.
use Rattle.std.proofs.Common.{◌≡◌, ℕ, List, [], ◌∷◌, ◌++◌, Some, sym, ap, subst, ◌∙◌}
use Rattle.std.proofs.lemmas.Option.{none-some}
use Rattle.mh_lex.specs.declared.kinds.Lexeme.{Lexeme}
use Rattle.mh_lex_bytes.specs.Lines.{line_at}
use Rattle.mh_lex.proofs.LexesUnique.{LexesFrom-unique}
use Rattle.mh_rules.specs.declared.modules.Module.{Module}
use Rattle.mh_reader_parser.specs.TokenKinds.{file_tokens}
use Rattle.mh_reader_parser.specs.Spelling.{Spells, BeginsFile}
use Rattle.mh_reader_parser.specs.Faults.{IsUnexpectedPlace, IsUnexpectedLine, IsSyntaxLine}
use Rattle.mh_reader_parser.specs.Faults.IsUnexpectedPlace.{unexpected, unfinished}
use Rattle.mh_reader_parser.specs.Faults.IsSyntaxLine.{lexical, syntactic}
use Rattle.mh_reader_parser.proofs.ParserExact.{BeginsFile-prefix, spelled_unique}

module _ (bytes : List ℕ) where
  -- Two positions in one list: they are equal, or one is before the other.
  data Meets (l k : Lexeme) (before behind : List Lexeme) : Type 0 where
    same : l ≡ k → Meets l k before behind
    earlier : (mid : List Lexeme) → behind ≡ before ++ l ∷ mid → Meets l k before behind
    later : (mid : List Lexeme) → before ≡ behind ++ k ∷ mid → Meets l k before behind

  meets_more : (x : Lexeme) (l k : Lexeme) (before behind : List Lexeme) → Meets l k before behind → Meets l k (x ∷ before) (x ∷ behind)
  meets_more x l k before behind (same e) = same e
  meets_more x l k before behind (earlier mid e) = earlier mid (ap (λ t. x ∷ t) e)
  meets_more x l k before behind (later mid e) = later mid (ap (λ t. x ∷ t) e)

  meets : (before behind after rest : List Lexeme) (l k : Lexeme) → before ++ l ∷ after ≡ behind ++ k ∷ rest → Meets l k before behind
  meets [] [] after rest l k e = same (cc)
  meets [] (y ∷ behind) after rest l k e = let first : y ≡ l = cc in earlier behind (ap (λ t. t ∷ behind) first)
  meets (x ∷ before) [] after rest l k e = let first : x ≡ k = cc in later before (ap (λ t. t ∷ before) first)
  meets (x ∷ before) (y ∷ behind) after rest l k e =
      let first : x ≡ y = cc in
      let more : before ++ l ∷ after ≡ behind ++ k ∷ rest = cc in
      subst (λ z. Meets l k (x ∷ before) (z ∷ behind)) first (meets_more x l k before behind (meets before behind after rest l k more))

  -- If no file begins with the lexemes up to l, l is not a lexeme of a list with which some file begins.
  not_earlier : (before behind mid : List Lexeme) (l : Lexeme) → behind ≡ before ++ l ∷ mid → (BeginsFile (file_tokens bytes (before ++ l ∷ [])) → ⊥) → BeginsFile (file_tokens bytes behind) → ⊥
  not_earlier before behind mid l e never b = never (BeginsFile-prefix bytes before mid l (subst (λ k. BeginsFile (file_tokens bytes k)) e b))

  places_once : (before behind : List Lexeme) (l k : Lexeme) → BeginsFile (file_tokens bytes before) → BeginsFile (file_tokens bytes behind) →
      (BeginsFile (file_tokens bytes (before ++ l ∷ [])) → ⊥) → (BeginsFile (file_tokens bytes (behind ++ k ∷ [])) → ⊥) → Meets l k before behind → l ≡ k
  places_once before behind l k b c never nor (same e) = e
  places_once before behind l k b c never nor (earlier mid e) = absurd (not_earlier before behind mid l e never c)
  places_once before behind l k b c never nor (later mid e) = absurd (not_earlier behind before mid k e nor b)

  halt_once : (ls : List Lexeme) (a b : ℕ) → IsUnexpectedPlace bytes ls a → IsUnexpectedPlace bytes ls b → a ≡ b
  halt_once ls a b (unexpected before after l e begins never place) (unexpected behind rest k f starts nor other) =
      let one : l ≡ k = places_once before behind l k begins starts never nor (meets before behind after rest l k (sym e ∙ f)) in
      place ∙ ap (λ (x : Lexeme). x.start) one ∙ sym other
  halt_once ls a b (unexpected before after l e begins never place) (unfinished starts none other) = absurd (not_earlier before ls after l e never starts)
  halt_once ls a b (unfinished starts none other) (unexpected before after l e begins never place) = absurd (not_earlier before ls after l e never starts)
  halt_once ls a b (unfinished starts none place) (unfinished begins never other) = place ∙ sym other

  line_once : (ls : List Lexeme) (a b : ℕ) → IsUnexpectedLine bytes ls a → IsUnexpectedLine bytes ls b → a ≡ b
  line_once ls a b (place, halt, line) (other, stop, e) = line ∙ ap (λ p. line_at bytes p) (halt_once ls place other halt stop) ∙ sym e

-- Bytes have at most one line of a syntax fault.
pub syntax_line_unique : (bytes : List ℕ) (a b : ℕ) → IsSyntaxLine bytes a → IsSyntaxLine bytes b → a ≡ b
syntax_line_unique bytes a b (lexical {place = place} lx line) (lexical {place = other} ly e) =
    let both : Some other ≡ Some place = (LexesFrom-unique lx ly).1 in
    let one : other ≡ place = cc in
    line ∙ ap (λ p. line_at bytes p) (sym one) ∙ sym e
syntax_line_unique bytes a b (lexical {place = place} lx line) (syntactic ly halt) = absurd (none-some place (LexesFrom-unique lx ly).1)
syntax_line_unique bytes a b (syntactic lx halt) (lexical {place = place} ly line) = absurd (none-some place (LexesFrom-unique ly lx).1)
syntax_line_unique bytes a b (syntactic {ls = ls} lx halt) (syntactic {ls = ks} ly stop) =
    line_once bytes ls a b halt (subst (λ k. IsUnexpectedLine bytes k b) (LexesFrom-unique lx ly).0 stop)

-- Bytes spell at most one module.
pub spelled_module_unique : (bytes : List ℕ) (one two : Module) → Spells bytes one → Spells bytes two → one ≡ two
spelled_module_unique = spelled_unique (λ bytes one two f g a b. LexesFrom-unique a b)
