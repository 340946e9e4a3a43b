-- The absence of all warnings on an accepted grammar.
use Rattle.std.specs.Prelude.{◌≡◌, ℕ, List, [], Some, slice_get}
use Rattle.std.specs.List.{All}
use Rattle.mh_grammar.specs.Text.{Text}
use Rattle.mh_join_names.specs.Faults.{Meanings}
use Rattle.mh_reader_places.specs.declared.mentions.Mention.{Mention}
use Rattle.mh_reader_places.specs.declared.reading.PlacedModule.{PlacedModule}
use Rattle.mh_resolve_cells.specs.declared.conflicts.Conflict.{Conflict}
use Rattle.mh_resolve_cells.specs.declared.kinds.ConflictKind.TheVariants.{Solved}
use Rattle.mh_lint_states.specs.AutomatonLines.{ordinary}
use Rattle.mh_lint_states.specs.Reductions.{IsReduced}
use Rattle.mh_lint_faults.specs.Stages.{Mentions, Stages}
use Rattle.mh_lint.specs.Built.{Built}
use Rattle.mh_lint.specs.MentionWarnings.{IsWarning}
use Rattle.mh_lint.specs.Warnings.{IsNamedBefore}

-- No name of the files has a warning; each attribute that begins with `[@cost` gives a cost; no file is named twice;
-- some state reduces each ordinary production; and levels decide each conflict.
pub record HasNoWarning (names : List Text) (s : Stages) (b : Built) (w : Meanings) : Type 0 where
  pub mentions : (file : ℕ) (before : List Mention) (x : Mention) (text : Text) → Mentions s.found file before x → IsWarning s b w file before x text → ⊥
  pub costs : (file : ℕ) (placed : PlacedModule) → slice_get s.found file ≡ Some placed → placed.bad_costs ≡ []
  pub once_named : (n : ℕ) → IsNamedBefore names n → ⊥
  pub reduced : All (IsReduced b.table) (ordinary s.grammar)
  pub decided : All (λ (c : Conflict). c.kind ≡ Solved) b.conflicts
