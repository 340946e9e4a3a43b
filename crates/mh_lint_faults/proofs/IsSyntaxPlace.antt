-- The position of the first syntax fault of a file is unique, and a file that is read has none.
use Rattle.std.proofs.Common.{◌≡◌, ℕ, List, [], ◌∷◌, ◌++◌, sym, ap, subst, ◌∙◌, inl, inr}
use Rattle.std.proofs.lemmas.List.{append-nil}
use Rattle.std.proofs.lemmas.Option.{none-some, same_Some}
use Rattle.mh_expand.proofs.UniqueOrder.{compare_splits}
use Rattle.mh_lex.proofs.LexesUnique.{LexesFrom-unique}
use Rattle.mh_lex.specs.declared.kinds.Lexeme.{Lexeme}
use Rattle.mh_rules.specs.Modules.{no_module}
use Rattle.mh_rules.specs.declared.modules.Module.{Module}
use Rattle.mh_reader_parser.proofs.ParserExact.{BeginsFile-prefix}
use Rattle.mh_reader_parser.specs.Faults.{IsSyntaxPlace, IsUnexpectedPlace}
use Rattle.mh_reader_parser.specs.Faults as syntax
use Rattle.mh_reader_parser.specs.Spelling.{BeginsFile, File}
use Rattle.mh_reader_parser.specs.TokenKinds.{file_tokens}
use Rattle.mh_reader_places.specs.Places.{ReadsPlaced}
use Rattle.mh_reader_places.specs.declared.reading.PlacedModule.{PlacedModule}

module _ (bytes : List ℕ) where
  -- If no file begins with the lexemes up to l, no file begins with more lexemes after these.
  none_begins : (before after all : List Lexeme) (l : Lexeme) → all ≡ before ++ l ∷ after → (BeginsFile (file_tokens bytes (before ++ l ∷ [])) → ⊥) → BeginsFile (file_tokens bytes all) → ⊥
  none_begins before after all l e never b = never (BeginsFile-prefix bytes before after l (subst (λ k. BeginsFile (file_tokens bytes k)) e b))

  unexpected_once : (ls : List Lexeme) (a b : ℕ) → IsUnexpectedPlace bytes ls a → IsUnexpectedPlace bytes ls b → a ≡ b
  unexpected_once ls a b (syntax.IsUnexpectedPlace.unexpected before after l e begins never at) (syntax.IsUnexpectedPlace.unexpected others rest k f starts nor there) = elim (compare_splits before others l k after rest (sym e ∙ f)) [
    | inl same ↦ at ∙ ap (λ (x : Lexeme). x.start) same.1 ∙ sym there
    | inr apart ↦ elim apart [
      | inl h ↦ absurd (none_begins before h.0 others l h.1 never starts)
      | inr h ↦ absurd (none_begins others h.0 before k h.1 nor begins)
    ]
  ]
  unexpected_once ls a b (syntax.IsUnexpectedPlace.unexpected before after l e begins never at) (syntax.IsUnexpectedPlace.unfinished starts none there) = absurd (none_begins before after ls l e never starts)
  unexpected_once ls a b (syntax.IsUnexpectedPlace.unfinished starts none there) (syntax.IsUnexpectedPlace.unexpected before after l e begins never at) = absurd (none_begins before after ls l e never starts)
  unexpected_once ls a b (syntax.IsUnexpectedPlace.unfinished begins none at) (syntax.IsUnexpectedPlace.unfinished starts never there) = at ∙ sym there

  pub syntax_place_once : (a b : ℕ) → IsSyntaxPlace bytes a → IsSyntaxPlace bytes b → a ≡ b
  syntax_place_once a b (syntax.IsSyntaxPlace.lexical {place = place} lx) (syntax.IsSyntaxPlace.lexical {place = other} ly) = same_Some place other (sym (LexesFrom-unique lx ly).1)
  syntax_place_once a b (syntax.IsSyntaxPlace.lexical {place = place} lx) (syntax.IsSyntaxPlace.syntactic ly is) = absurd (none-some place (LexesFrom-unique lx ly).1)
  syntax_place_once a b (syntax.IsSyntaxPlace.syntactic lx is) (syntax.IsSyntaxPlace.lexical {place = place} ly) = absurd (none-some place (LexesFrom-unique ly lx).1)
  syntax_place_once a b (syntax.IsSyntaxPlace.syntactic {ls = ls} lx is) (syntax.IsSyntaxPlace.syntactic {ls = ks} ly other) =
      unexpected_once ls a b is (subst (λ k. IsUnexpectedPlace bytes k b) (LexesFrom-unique lx ly).0 other)

  file_without_fault : (ls : List Lexeme) (place : ℕ) (m : Module) → File no_module (file_tokens bytes ls) m → IsUnexpectedPlace bytes ls place → ⊥
  file_without_fault ls place m file (syntax.IsUnexpectedPlace.unexpected before after l e begins never at) =
      none_begins before after ls l e never ([], m, subst (λ k. File no_module k m) (sym (append-nil (file_tokens bytes ls))) file)
  file_without_fault ls place m file (syntax.IsUnexpectedPlace.unfinished begins none at) = none m file

  pub read_without_fault : (found : PlacedModule) (place : ℕ) → ReadsPlaced bytes found → IsSyntaxPlace bytes place → ⊥
  read_without_fault found place h (syntax.IsSyntaxPlace.lexical {place = at} lx) = none-some at (LexesFrom-unique lx h.lexes).1
  read_without_fault found place h (syntax.IsSyntaxPlace.syntactic {ls = ls} lx is) =
      file_without_fault h.lexemes place found.module h.file (subst (λ k. IsUnexpectedPlace bytes k place) (LexesFrom-unique h.lexes lx).0 is)
