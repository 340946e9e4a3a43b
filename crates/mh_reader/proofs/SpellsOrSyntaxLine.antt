-- Proves that all bytes spell a module, or have a line with a syntax error.
use Rattle.std.proofs.Common.{◌≡◌, ℕ, List, [], ◌∷◌, ◌++◌, Option, Some, None, length, refl, sym, ap, subst, ◌∙◌, append_assoc, ◌⊎◌, inl, inr}
use Rattle.std.proofs.lemmas.List.{append-nil}
use Rattle.mh_lex.specs.declared.kinds.Lexeme.{Lexeme}
use Rattle.mh_lex.specs.Lexing.{Lexes}
use Rattle.mh_lex_bytes.specs.Lines.{line_at}
use Rattle.mh_lex.specs.LexemeTexts.{bytes_of}
use Rattle.mh_rules.specs.declared.modules.Module.{Module}
use Rattle.mh_rules.specs.Modules.{no_module}
use Rattle.mh_reader_parser.specs.declared.parser_states.Parser.{Parser}
use Rattle.mh_reader_parser.specs.Costs.{cost_of}
use Rattle.mh_reader_parser.specs.TokenKinds.{file_tokens, token_kind_by, text_by}
use Rattle.mh_reader_parser.specs.Spelling.{File, Spells}
use Rattle.mh_reader_parser.specs.code.ParserSteps.{start, step_by_lexeme, finish_at}
use Rattle.mh_reader_parser.specs.Faults.{IsUnexpectedLine, IsSyntaxLine}
use Rattle.mh_reader_parser.proofs.ParserExact.{HasReadTokens, HasReadTokens-step, unexpected_lexeme, file_at_end, unexpected_end, LexedOnce, spelled_unique}

-- The lexemes form a module, or they form no module and stop at some line being the beginning of a file.
abbrev Comes : List ℕ → List Lexeme → Type 0
Comes bytes ls = ((m : Module) × File no_module (file_tokens bytes ls) m) ⊎ ((line : ℕ) × IsUnexpectedLine bytes ls line × ((m : Module) → File no_module (file_tokens bytes ls) m → ⊥))

module _ (bytes : List ℕ) where
  ended : (ls : List Lexeme) (s : Parser) (o : Option Module) → finish_at s.made s.place ≡ o → HasReadTokens (file_tokens bytes ls) s → Comes bytes ls
  ended ls s (Some m) e g = inl (m, file_at_end bytes ls s m g e)
  ended ls s None e g = let h = unexpected_end bytes ls s (length bytes) g e refl in inr (line_at bytes (length bytes), (length bytes, h.0, refl), h.1)

  walk : (ls before after : List Lexeme) (s : Parser) → ls ≡ before ++ after → HasReadTokens (file_tokens bytes before) s → Comes bytes ls
  walk ls before [] s is g = let all : before ≡ ls = sym (is ∙ append-nil before) in ended ls s (finish_at s.made s.place) refl (subst (λ k. HasReadTokens (file_tokens bytes k) s) all g)
  walk ls before (l ∷ after) s is g =
      step (step_by_lexeme s (token_kind_by l.kind (bytes_of bytes l)) (text_by l.kind (bytes_of bytes l)) (cost_of (bytes_of bytes l))) refl (λ t e. walk ls (before ++ l ∷ []) after t (is ∙ sym (append_assoc before (l ∷ []) after)) (HasReadTokens-step bytes before l s t g e))
    where
      step : (o : Option Parser) → step_by_lexeme s (token_kind_by l.kind (bytes_of bytes l)) (text_by l.kind (bytes_of bytes l)) (cost_of (bytes_of bytes l)) ≡ o
          → ((t : Parser) → step_by_lexeme s (token_kind_by l.kind (bytes_of bytes l)) (text_by l.kind (bytes_of bytes l)) (cost_of (bytes_of bytes l)) ≡ Some t → Comes bytes ls) → Comes bytes ls
      step (Some t) e onward = onward t e
      step None e onward = let h = unexpected_lexeme bytes ls before after l s l.start is g e refl in inr (line_at bytes l.start, (l.start, h.0, refl), h.1)

  read : LexedOnce → (ls : List Lexeme) (f : Option ℕ) → Lexes bytes ls f → ((m : Module) × Spells bytes m) ⊎ ((line : ℕ) × IsSyntaxLine bytes line × ((m : Module) → Spells bytes m → ⊥))
  read once ls (Some place) lx = inr (line_at bytes place, IsSyntaxLine.lexical lx refl, λ m (ks, ly, f). let e = (once bytes ls ks (Some place) None lx ly).1 in cc)
  read once ls None lx = elim (walk ls [] ls start refl refl) [
    | inl whole ↦ inl (whole.0, (ls, lx, whole.1))
    | inr halt ↦ inr (halt.0, IsSyntaxLine.syntactic lx halt.1, λ m (ks, ly, f). halt.2 m (subst (λ k. File no_module (file_tokens bytes k) m) (once bytes ls ks None None lx ly).0 f))
  ]

abbrev pub LexedAlways : Type 0
LexedAlways = (bytes : List ℕ) → (lexemes : List Lexeme) × (f : Option ℕ) × Lexes bytes lexemes f

pub read_always : LexedAlways → LexedOnce → (bytes : List ℕ) → ((m : Module) × Spells bytes m) ⊎ ((line : ℕ) × IsSyntaxLine bytes line × ((m : Module) → Spells bytes m → ⊥))
read_always always once bytes = let lexed = always bytes in read bytes once lexed.0 lexed.1 lexed.2
