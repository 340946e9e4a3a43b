use Rattle.std.proofs.Common.{◌≡◌, ◌≤◌, ◌++◌}
use Rattle.mh_sample.specs.Texts.{repeated_text}
use Rattle.mh_sample.proofs.texts.write_times.Given as goal

abbrev pub invariant-loop : goal.invariant-loop
invariant-loop l = record {
  text : l.text.items ≡ l.initial.text.items ++ repeated_text l.counter l.piece;
  within : l.counter ≤ l.count;
}
