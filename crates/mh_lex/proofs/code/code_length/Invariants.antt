use Rattle.std.proofs.Common.{◌+◌, ◌≤◌, ◌-◌, length, drop}
use Rattle.mh_lex.proofs.CodeLevels.{Inside, levels}
use Rattle.mh_lex.proofs.code.code_length.Given as goal

abbrev pub invariant-loop-length : goal.invariant-loop-length
invariant-loop-length l = record {
  inside : Inside l.code l.rest (drop l.at l.rest) (levels l.code l.remarks l.outer);
  within : l.at ≤ length l.rest;
  below : l.outer + l.remarks ≤ l.at;
}

abbrev pub decreases-loop-length : goal.decreases-loop-length
decreases-loop-length l = length l.rest - l.at
