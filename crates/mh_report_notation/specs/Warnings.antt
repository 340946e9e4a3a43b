-- The line on a conflict of a table, and the warning on a conflict. The texts are this project's own.
use Rattle.std.specs.Prelude.{ℕ, [], ◌++◌, codes, decimal}
use Rattle.mh_grammar.specs.declared.types.Grammar.{Grammar}
use Rattle.mh_grammar.specs.declared.types.Look.{Look}
use Rattle.mh_resolve_cells.specs.declared.kinds.ConflictKind.{ConflictKind}
use Rattle.mh_resolve_cells.specs.declared.kinds.ConflictKind.TheVariants.{Solved, Unsolved, Stream}
use Rattle.mh_grammar.specs.Text.{Text}
use Rattle.mh_resolve_cells.specs.Names.{look_name}

-- The beginning of the line on a conflict of a cell: it names the state.
unfoldable pub conflict_place : ℕ → Text
conflict_place s = codes "conflict in state " ++ decimal s ++ codes " on "

-- The line on a conflict that precedence levels do not solve.
abbrev pub unsolved_line : Grammar → ℕ → Look → Text
unsolved_line g s look = conflict_place s ++ look_name g look ++ codes "\n"

-- The line on an end-of-stream conflict.
abbrev pub stream_line : ℕ → Text
stream_line s = codes "end-of-stream conflict in state " ++ decimal s ++ codes "\n"

-- The line on a conflict; empty if precedence levels solve the conflict.
abbrev pub conflict_line : Grammar → ℕ → Look → ConflictKind → Text
conflict_line g s look Solved = []
conflict_line g s look Unsolved = unsolved_line g s look
conflict_line g s look Stream = stream_line s

-- The beginning of each warning.
unfoldable pub warning_title : Text
warning_title = codes "menhir: warning: "

-- The warning on a conflict; empty if precedence levels solve the conflict.
abbrev pub warning_line : Grammar → ℕ → Look → ConflictKind → Text
warning_line g s look Solved = []
warning_line g s look Unsolved = warning_title ++ unsolved_line g s look
warning_line g s look Stream = warning_title ++ stream_line s
