-- The warnings on conflicts (Menhir manual; which conflicts have a warning, and its words, are this project's own).
use Rattle.std.specs.Prelude.{Bool, true, false, List}
use Rattle.std.specs.List.{list_any}
use Rattle.mh_resolve_cells.specs.declared.kinds.ConflictKind.{ConflictKind}
use Rattle.mh_resolve_cells.specs.declared.kinds.ConflictKind.TheVariants.{Solved}
use Rattle.mh_resolve_cells.specs.declared.conflicts.Conflict.{Conflict}
use Rattle.mh_report.specs.Warnings.{warning_lines}
use Rattle.mh_grammar.specs.Text.{Text}
use Rattle.mh_top_drive.specs.Shapes.{Prepared}

-- True if conflicts of the kind have a warning: all but those that levels of precedence solve.
abbrev pub is_warned : ConflictKind → Bool
is_warned Solved = false
is_warned kind = true

-- True if some of the conflicts have a warning.
abbrev pub has_warning : List Conflict → Bool
has_warning conflicts = list_any (λ c. is_warned c.kind) conflicts

-- The text of all warnings on err.
abbrev pub warnings_of : Prepared → Text
warnings_of p = warning_lines p.grammar p.tabled.conflicts
