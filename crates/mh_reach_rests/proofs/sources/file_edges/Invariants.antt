use Rattle.std.specs.Prelude.{take}
use Rattle.mh_reach_rests.specs.code.RestRules.{FilesEdges}
use Rattle.mh_reach_rests.proofs.sources.file_edges.Given as goal

abbrev pub invariant-loop-edge : goal.invariant-loop-edge
invariant-loop-edge l = FilesEdges (take l.edge-index l.edges) l.state l.fn.rows.items l.rows.items
