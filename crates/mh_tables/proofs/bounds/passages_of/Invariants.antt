use Rattle.std.proofs.Common.{◌<◌, ℕ}
use Rattle.std.specs.List.{All}
use Rattle.mh_tables.specs.code.Passages.{IsPassageInRange, UnitsAreIn, IsCovered}
use Rattle.mh_tables.proofs.bounds.passages_of.Given as goal

abbrev pub invariant-states : goal.invariant-states
invariant-states l = record {
  known : All (IsPassageInRange l.table) l.passages.items;
  units : UnitsAreIn l.table l.passages.items;
  each : (s : ℕ) → s < l.state → IsCovered l.table l.passages.items s;
}
