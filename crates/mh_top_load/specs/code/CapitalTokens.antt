-- An invariant of modules that were read: the names of tokens begin with a capital letter.
use Rattle.std.specs.Prelude.{◌≡◌, true}
use Rattle.std.specs.List.{All}
use Rattle.mh_rules.specs.declared.modules.Module.{Module}
use Rattle.mh_rules.specs.declared.modules.TokenDecl.{TokenDecl}
use Rattle.mh_reader_parser.specs.TokenKinds.{is_capital}

-- The name of each token that the module declares begins with a capital letter.
abbrev pub HasCapitalTokens : Module → Type 0
HasCapitalTokens m = All (λ (t : TokenDecl). is_capital t.name ≡ true) m.tokens
