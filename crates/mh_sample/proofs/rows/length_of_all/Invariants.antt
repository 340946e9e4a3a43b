use Rattle.std.proofs.Common.{◌≡◌, ◌≤◌, ◌*◌, ◌^◌, take}
use Rattle.mh_sample.specs.code.Rows.{lengths_in}
use Rattle.mh_sample.proofs.rows.length_of_all.Given as goal

abbrev pub invariant-loop-symbol : goal.invariant-loop-symbol
invariant-loop-symbol l = record {
  sum : l.sum ≡ lengths_in l.lengths (take l.symbol-index l.symbols);
  few : l.sum ≤ l.symbol-index * 2 ^ 16;
}
