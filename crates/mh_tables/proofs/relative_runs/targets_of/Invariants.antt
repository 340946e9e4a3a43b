use Rattle.std.proofs.Common.{◌≡◌, ◌<◌, ◌⊎◌, ℕ, Some}
use Rattle.std.specs.List.{slice_get, All, Contains}
use Rattle.mh_grammar.specs.declared.edges.Edge.{Edge}
use Rattle.mh_tables_core.specs.Halting.{IsBeginning, NeverLoops}
use Rattle.mh_tables.proofs.relative_runs.targets_of.Given as goal

abbrev pub invariant-loop-edge : goal.invariant-loop-edge
invariant-loop-edge l = record {
  each : All (IsBeginning l.table (Some l.from)) l.targets.items;
  all : (k : ℕ) (e : Edge) → k < l.edge-index → slice_get l.edge-items k ≡ Some e → Contains l.targets.items e.target ⊎ NeverLoops l.table (Some l.from) e.target;
}
