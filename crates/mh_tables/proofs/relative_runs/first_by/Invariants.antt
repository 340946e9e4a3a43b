use Rattle.std.proofs.Common.{◌<◌, ℕ, Some, None}
use Rattle.mh_tables.specs.code.Relative.{NoneLoopsAbove}
use Rattle.mh_tables.proofs.relative_runs.first_by.Given as goal

abbrev pub invariant-lower : goal.invariant-lower
invariant-lower l = record {
  alone : NoneLoopsAbove l.table None;
  lower : (r : ℕ) → r < l.below → NoneLoopsAbove l.table (Some r);
}
