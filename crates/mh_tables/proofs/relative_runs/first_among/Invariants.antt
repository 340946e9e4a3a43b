use Rattle.std.proofs.Common.{◌<◌, ℕ, Some, get_or}
use Rattle.mh_tables_core.specs.Halting.{NeverLoops}
use Rattle.mh_tables.proofs.relative_runs.first_among.Given as goal

abbrev pub invariant-targets : goal.invariant-targets
invariant-targets l = (k : ℕ) → k < l.target-index → NeverLoops l.table (Some l.below) (get_or l.fn.targets k 0)
