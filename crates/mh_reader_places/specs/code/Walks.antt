-- The walk over all lexemes of a file.
use Rattle.std.specs.Prelude.{ℕ, List, [], ◌∷◌, Option, Some, None}
use Rattle.mh_lex.specs.declared.kinds.Lexeme.{Lexeme}
use Rattle.mh_lex.specs.LexemeTexts.{bytes_of}
use Rattle.mh_rules.specs.declared.modules.Ref.{Ref}
use Rattle.mh_reader_parser.specs.TokenKinds.{FileToken, token_kind_by, text_by}
use Rattle.mh_reader_parser.specs.declared.token_kinds.TokenKind.{TokenKind}
use Rattle.mh_reader_places.specs.Mentions.{Named, named}
use Rattle.mh_reader_places.specs.code.ScanSteps.{taken, names_after}
use Rattle.mh_reader_places.specs.declared.mentions.Mention.{Mention}
use Rattle.mh_reader_places.specs.declared.mentions.Role.{Role}
use Rattle.mh_reader_places.specs.declared.scan.Scan.{Scan}

-- The names of tokens of a file, after the names that were found before.
abbrev pub walk : Scan → List Named → List FileToken → List Named
walk s found [] = found
walk s found (x ∷ xs) = walk (taken s x.sign) (names_after (named (x ∷ xs)) s x.sign x.text found) xs

-- The same of lexemes, with positions. A lexeme without a token kind names nothing.
abbrev pub mention_at : ℕ → Role → Ref → Mention
mention_at start role name = record { start = start; role = role; name = name }

abbrev pub scan_after : Scan → Option TokenKind → Scan
scan_after s None = s
scan_after s (Some g) = taken s g

abbrev pub mentions_after : ℕ → Scan → Option TokenKind → List ℕ → List Mention → List Mention
mentions_after start s None text found = found
mentions_after start s (Some g) text found = names_after (mention_at start) s g text found

abbrev pub kind_in : List ℕ → Lexeme → Option TokenKind
kind_in bytes l = token_kind_by l.kind (bytes_of bytes l)

abbrev pub text_in : List ℕ → Lexeme → List ℕ
text_in bytes l = text_by l.kind (bytes_of bytes l)

abbrev pub mentions_from : List ℕ → Scan → List Mention → List Lexeme → List Mention
mentions_from bytes s found [] = found
mentions_from bytes s found (l ∷ ls) = mentions_from bytes (scan_after s (kind_in bytes l)) (mentions_after l.start s (kind_in bytes l) (text_in bytes l) found) ls
