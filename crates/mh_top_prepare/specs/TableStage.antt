-- The stages that make the automaton of a grammar, or take it from a table file, and then its table and its conflicts
-- (canonical: Knuth 1965; merged: Pager 1977).
use Rattle.std.specs.Prelude.{◌≡◌, List}
use Rattle.mh_grammar.specs.declared.types.Grammar.{Grammar}
use Rattle.mh_grammar.specs.Plain.{plain_of}
use Rattle.mh_items_kernels.specs.KernelTypes.{Automaton}
use Rattle.mh_canon.specs.Canonical.{IsCanonical, CanonicalExceeds}
use Rattle.mh_pager.specs.MergeSteps.{IsMerged, MergingExceeds}
use Rattle.mh_canon.specs.Limits.{max_states}
use Rattle.mh_resolve_cells.specs.declared.kinds.Mode.{Mode}
use Rattle.mh_resolve_cells.specs.declared.kinds.Mode.TheVariants as modes
use Rattle.mh_tables_core.specs.declared.parts.StateParts.{StateParts}
use Rattle.mh_top_prepare.specs.TableTexts.{too_many_states}
use Rattle.mh_validate_valid.specs.Valid.{IsValidFor}
use Rattle.mh_top_drive.specs.StageResults.{StageResult, Go, Halt, Then}
use Rattle.mh_top_drive.specs.declared.stop.Cause.TheVariants.{Refused}
use Rattle.mh_top_prepare.specs.declared.sources.AutomatonSource.{AutomatonSource}
use Rattle.mh_top_prepare.specs.declared.sources.AutomatonSource.TheVariants.{Canonical, Merged, File}
use Rattle.mh_top_prepare.specs.InvalidTableFile.{IsInvalidTableFile}
use Rattle.mh_top_prepare.specs.ResolvedStage.{IsResolvedStage}
use Rattle.mh_top_drive.specs.Shapes.{TabledAutomaton}

-- ---- The automaton.

-- The mode of the table, by the source of the automaton.
abbrev pub mode_of : AutomatonSource → Mode
mode_of Merged = modes.Merged
mode_of Canonical = modes.Canonical
mode_of (File name raw) = raw.mode

-- The automaton from the given source, or the refusal: there are too many states, or the table file is not valid.
abbrev pub IsAutomatonStage : AutomatonSource → Grammar → StageResult Automaton → Type 0
IsAutomatonStage Merged g (Go a) = (MergingExceeds (plain_of g) max_states → ⊥) × IsMerged (plain_of g) a
IsAutomatonStage Merged g (Halt cause) = MergingExceeds (plain_of g) max_states × (cause ≡ Refused too_many_states)
IsAutomatonStage Canonical g (Go a) = (CanonicalExceeds (plain_of g) max_states → ⊥) × IsCanonical (plain_of g) a
IsAutomatonStage Canonical g (Halt cause) = CanonicalExceeds (plain_of g) max_states × (cause ≡ Refused too_many_states)
IsAutomatonStage (File name raw) g (Go a) = (parts : List StateParts) × IsValidFor g raw a parts
IsAutomatonStage (File name raw) g (Halt cause) = IsInvalidTableFile name g raw cause

-- ---- The table.

-- The automaton from the given source with its table.
abbrev pub IsTableStage : AutomatonSource → Grammar → StageResult TabledAutomaton → Type 0
IsTableStage source g s = Then (IsAutomatonStage source g) (IsResolvedStage (mode_of source) g) s
