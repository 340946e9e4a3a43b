use Rattle.std.proofs.Common.{◌<◌, ℕ, Some, None}
use Rattle.std.specs.List.{All}
use Rattle.mh_tables.specs.code.Passages.{IsPassageInRange, KeepsPassages, IsCoveredOn}
use Rattle.mh_tables.proofs.bounds.add_looks.Given as goal

abbrev pub invariant-tokens : goal.invariant-tokens
invariant-tokens l = record {
  known : All (IsPassageInRange l.table) l.passages.items;
  kept : KeepsPassages l.fn.passages.items l.passages.items;
  none : IsCoveredOn l.table l.passages.items l.from l.state None;
  each : (z : ℕ) → z < l.token → IsCoveredOn l.table l.passages.items l.from l.state (Some z);
}
