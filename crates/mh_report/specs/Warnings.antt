-- The warnings on the conflicts of a table. The texts are this project's own.
use Rattle.std.specs.Prelude.{List, [], ◌∷◌, ◌++◌}
use Rattle.mh_grammar.specs.declared.types.Grammar.{Grammar}
use Rattle.mh_resolve_cells.specs.declared.conflicts.Conflict.{Conflict}
use Rattle.mh_grammar.specs.Text.{Text}
use Rattle.mh_report_notation.specs.Warnings.{warning_line}

abbrev pub warning_lines : Grammar → List Conflict → Text
warning_lines g [] = []
warning_lines g (c ∷ conflicts) = warning_line g c.state c.look c.kind ++ warning_lines g conflicts
