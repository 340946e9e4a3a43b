use Rattle.std.proofs.Common.{◌≡◌, ◌++◌, drop}
use Rattle.mh_report.specs.Comments.{reduced_comments}
use Rattle.mh_report.proofs.lines.write_all_reduced.Given as goal

abbrev pub invariant-loop-production : goal.invariant-loop-production
invariant-loop-production l = record {
  rest : l.text.items ++ reduced_comments l.grammar (drop l.production-index l.productions) ≡ l.initial.text.items ++ reduced_comments l.grammar l.productions;
}
