use Rattle.std.proofs.Common.{◌≡◌, ◌≤◌, ◌+◌, take}
use Rattle.std.specs.Prelude.{◌==◌, fold}
use Rattle.std.specs.List.{count_by}
use Rattle.mh_lint_findings.specs.Positions.{next_column}
use Rattle.mh_lint_findings.proofs.cursor.Cursor.after.Given as goal

abbrev pub invariant-loop-byte : goal.invariant-loop-byte
invariant-loop-byte l = record {
  line : l.line ≡ l.self.line + count_by (λ b. b == 10) (take l.byte-index l.bytes);
  column : l.column ≡ fold next_column l.self.column (take l.byte-index l.bytes);
  few_lines : l.line ≤ l.self.line + l.byte-index;
  few_columns : l.column ≤ l.self.column + l.byte-index;
  counted : 1 ≤ l.column;
}
