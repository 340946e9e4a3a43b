-- The lines on err for a grammar without an automaton (the words are this project's own).
use Rattle.std.specs.Prelude.{ℕ, ◌++◌, Option, None, Some, codes, decimal}
use Rattle.mh_grammar.specs.Text.{Text}
use Rattle.mh_validate_valid.specs.declared.reason.Reason.{Reason}
use Rattle.mh_validate_valid.specs.declared.reason.Reason.TheVariants.{Header, States, Kernel, Edge, Cell, Fallback}

abbrev pub too_many_states : Text
too_many_states = codes "menhir: too many states\n"

-- The name of a test of table files.
abbrev pub reason_name : Reason → Text
reason_name Header = codes "header"
reason_name States = codes "states"
reason_name Kernel = codes "kernel"
reason_name Edge = codes "edge"
reason_name Cell = codes "cell"
reason_name Fallback = codes "fallback"

-- The part of the line after the name of the file: the state, if the test is one of a state, and the test that fails.
abbrev pub test_text : Option ℕ → Text → Text
test_text None reason = codes ": invalid: " ++ (reason ++ codes "\n")
test_text (Some s) reason = codes ": invalid: state " ++ (decimal s ++ (codes ": " ++ (reason ++ codes "\n")))

-- The line for a table file that is not valid.
abbrev pub invalid_line : Text → Option ℕ → Reason → Text
invalid_line name state reason = codes "menhir: " ++ (name ++ test_text state (reason_name reason))
