use Rattle.std.proofs.Common.{take}
use Rattle.mh_pager.specs.code.Renumbering.{AreWithinLimit, IsRenumbered}
use Rattle.mh_pager.proofs.numbering.renamed.Given as goal

abbrev pub invariant-loop-edge : goal.invariant-loop-edge
invariant-loop-edge l = record {
  renamed : IsRenumbered (take l.edge-index l.row) l.new l.initial.states.keys l.states.keys;
  few : AreWithinLimit l.states.keys l.row;
}
