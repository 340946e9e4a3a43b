use Rattle.std.proofs.Common.{◌≡◌, Some, ◌<◌, length}
use Rattle.std.specs.List.{All}
use Rattle.mh_tables_core.specs.Halting.{look_list, beginning}
use Rattle.mh_tables_core.specs.Run.{reductions}
use Rattle.mh_tables.proofs.relative_runs.reduced_within.Given as goal

abbrev pub invariant-tries : goal.invariant-tries
invariant-tries l = record {
  made : reductions l.table (look_list l.look) l.count (beginning l.fn.below l.state) ≡ Some l.stack.items;
  begun : 0 < length l.stack.items;
  known : All (λ s. s < length l.table.states) l.stack.items;
}
