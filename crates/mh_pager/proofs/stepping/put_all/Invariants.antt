use Rattle.std.proofs.Common.{◌≤◌, length}
use Rattle.mh_grammar.specs.Plain.{plain_of}
use Rattle.mh_canon.specs.Limits.{max_states}
use Rattle.mh_pager.specs.code.Worklist.{merge_state_of, IsConsistentWorklist}
use Rattle.mh_pager.specs.code.ReachedByMerging.{IsWellFormed}
use Rattle.mh_pager.proofs.PlacesAllMoves.{PutSoFar}
use Rattle.mh_pager.proofs.stepping.put_all.Given as goal

abbrev pub invariant-loop-found : goal.invariant-loop-found
invariant-loop-found g l = record {
  row : PutSoFar (plain_of l.grammar) l.fn.moves.items l.yielded (merge_state_of l.initial.worklist) (merge_state_of l.worklist) l.row.items;
  ready : IsWellFormed (plain_of l.grammar) (merge_state_of l.worklist);
  few : length l.worklist.kernels.items ≤ max_states;
  kept : IsConsistentWorklist l.worklist;
}
