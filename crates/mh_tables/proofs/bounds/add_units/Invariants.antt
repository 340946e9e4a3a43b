use Rattle.std.proofs.Common.{◌≤◌, ◌<◌, ℕ, length}
use Rattle.std.specs.List.{All}
use Rattle.mh_tables.specs.code.Passages.{IsPassageInRange, UnitIsIn}
use Rattle.mh_tables.proofs.bounds.add_units.Given as goal

abbrev pub invariant-productions : goal.invariant-productions
invariant-productions l = record {
  known : All (IsPassageInRange l.table) l.passages.items;
  units : (p : ℕ) → length l.table.grammar.starts ≤ p → p < l.production → UnitIsIn l.table l.passages.items p;
}
