-- The conditions under which a messages file that was brought up to date is read as a file of the same content: no name
-- contains LF or CR, and no line ends in a CR.
use Rattle.std.specs.Prelude.{◌≡◌, ℕ, ◌==◌, ◌||◌, not, Bool, true, List, [], ◌∷◌, ◌++◌}
use Rattle.std.specs.List.{Contains, list_all}
use Rattle.mh_grammar.specs.declared.types.Grammar.{Grammar}
use Rattle.mh_grammar.specs.Names.{token_name, nonterminal_name}
use Rattle.mh_msgfile.specs.declared.messages.MsgFile.{MsgFile}

-- Whether a byte is neither LF nor CR.
abbrev pub is_no_line_end : ℕ → Bool
is_no_line_end b = not (b == 10 || b == 13)

abbrev pub HasNoLineEnd : List ℕ → Type 0
HasNoLineEnd text = list_all is_no_line_end text ≡ true

-- No name of a token or nonterminal contains LF or CR.
pub record HasNamesWithoutLineEnds (g : Grammar) : Type 0 where
  pub tokens : (z : ℕ) → HasNoLineEnd (token_name g z)
  pub nonterminals : (n : ℕ) → HasNoLineEnd (nonterminal_name g n)

-- No line of the file ends in a CR, which would be read as part of the end of the line.
abbrev pub HasNoCrAtEnds : MsgFile → Type 0
HasNoCrAtEnds file = (line front : List ℕ) → Contains file.lines line → line ≡ front ++ 13 ∷ [] → ⊥
