use Rattle.std.proofs.Common.{◌≡◌, ◌≤◌, take}
use Rattle.std.specs.Prelude.{◌==◌}
use Rattle.std.specs.List.{count_by}
use Rattle.mh_lex_bytes.proofs.lines.count_line_feeds.Given as goal

abbrev pub invariant-loop-byte : goal.invariant-loop-byte
invariant-loop-byte l = record {
  lines : l.count ≡ count_by (λ b. b == 10) (take l.byte-index l.bytes);
  few : l.count ≤ l.byte-index;
}
