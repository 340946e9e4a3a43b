use Rattle.std.proofs.Common.{◌<◌, ℕ, None}
use Rattle.mh_tables_core.specs.Halting.{NeverLoops}
use Rattle.mh_tables.proofs.relative_runs.first_start.Given as goal

abbrev pub invariant-states : goal.invariant-states
invariant-states l = (s : ℕ) → s < l.state → NeverLoops l.table None s
