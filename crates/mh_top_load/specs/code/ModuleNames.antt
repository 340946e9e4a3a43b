-- An invariant of modules that were read: the names of tokens, start symbols and rules are words.
use Rattle.std.specs.Prelude.{◌≡◌, true}
use Rattle.std.specs.List.{All}
use Rattle.mh_grammar.specs.Text.{Text}
use Rattle.mh_lex_bytes.specs.Words.{is_word}
use Rattle.mh_rules.specs.declared.modules.Module.{Module}
use Rattle.mh_rules.specs.declared.modules.Rule.{Rule}
use Rattle.mh_rules.specs.declared.modules.TokenDecl.{TokenDecl}

-- The name of each token that the module declares, of each start symbol and of each rule is a word.
pub record HasWordsAsNames (m : Module) : Type 0 where
  pub tokens : All (λ (t : TokenDecl). is_word t.name ≡ true) m.tokens
  pub starts : All (λ (x : Text). is_word x ≡ true) m.starts
  pub rules : All (λ (r : Rule). is_word r.name ≡ true) m.rules
