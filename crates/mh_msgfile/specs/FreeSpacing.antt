-- The definition of sentence lines with free spacing: names with blanks between them.
use Rattle.std.specs.Prelude.{◌≡◌, ℕ, true, List, [], ◌∷◌, ◌++◌, map}
use Rattle.mh_grammar.specs.declared.types.Grammar.{Grammar}
use Rattle.mh_grammar.specs.Names.{start_name, token_name}
use Rattle.mh_grammar.specs.Text.{Text}
use Rattle.mh_msgfile.specs.Lines.{is_blank}

-- The text consists of these names in this order, with at least one blank between two names, and any number of blanks
-- before and after each.
pub data Spaced : List Text → Text → Type 0 where
  none : Spaced [] []
  blank : {names : List Text} {text : Text} (b : ℕ) → is_blank b ≡ true → Spaced names text → Spaced names (b ∷ text)
  last : {name text : Text} → text ≡ name → Spaced (name ∷ []) text
  name : {name : Text} {names : List Text} {rest text : Text} (b : ℕ) → text ≡ name ++ b ∷ rest → is_blank b ≡ true → Spaced names rest → Spaced (name ∷ names) text

-- The line consists of the name of the start, a colon and the names of the tokens, with free spacing.
pub record IsLineOf (g : Grammar) (start : ℕ) (tokens : List ℕ) (line : Text) : Type 0 where
  pub before_colon : Text
  pub after_colon : Text
  pub split : line ≡ before_colon ++ 58 ∷ after_colon
  pub named : Spaced (start_name g start ∷ []) before_colon
  pub spelled : Spaced (map (token_name g) tokens) after_colon
