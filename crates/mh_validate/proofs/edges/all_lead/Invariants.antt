use Rattle.std.proofs.Common.{◌≡◌, ◌↔◌, drop, length}
use Rattle.std.specs.List.{AllZip}
use Rattle.mh_validate.specs.code.MatchedEdges.{MatchesMove}
use Rattle.mh_validate.proofs.edges.all_lead.Given as goal

abbrev pub invariant-loop-at : goal.invariant-loop-at
invariant-loop-at g l = record {
  same : length l.moves ≡ length l.raws;
  rest : AllZip (MatchesMove l.grammar l.kernels) (drop l.at l.moves) (drop l.at l.raws) ↔ AllZip (MatchesMove l.grammar l.kernels) l.moves l.raws;
}
