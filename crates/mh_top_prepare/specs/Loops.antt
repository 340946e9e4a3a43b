-- The line on err for a table on which a relative run makes more than 10,000 reductions (the words are this project's
-- own). A relative run makes reductions from a start state alone, or above a state as long as this state is not
-- removed.
use Rattle.std.specs.Prelude.{ℕ, List, [], ◌++◌, Option, None, Some, codes, decimal, slice_index_or}
use Rattle.mh_grammar.specs.Text.{Text}

-- The beginning of the line: the state in which the reductions begin, and the state below it if there is one.
abbrev pub loop_place : Option ℕ → ℕ → Text
loop_place None s = codes "menhir: loops: state " ++ (decimal s ++ codes " on ")
loop_place (Some r) s = codes "menhir: loops: state " ++ (decimal s ++ (codes " above state " ++ (decimal r ++ codes " on ")))

-- The name of the next token, or the words for none.
abbrev pub look_text : List Text → Option ℕ → Text
look_text names None = codes "no token"
look_text names (Some token) = slice_index_or names token []

-- The whole line: the state, the state below it, and the next token.
abbrev pub loops_line : List Text → Option ℕ → ℕ → Option ℕ → Text
loops_line names below s look = loop_place below s ++ (look_text names look ++ codes "\n")
