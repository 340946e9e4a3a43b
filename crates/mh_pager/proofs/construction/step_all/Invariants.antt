use Rattle.std.proofs.Common.{◌≤◌, length}
use Rattle.mh_grammar.specs.Plain.{plain_of}
use Rattle.mh_canon.specs.Limits.{max_states}
use Rattle.mh_pager.specs.code.Worklist.{merge_state_of, IsConsistentWorklist}
use Rattle.mh_pager.specs.code.ReachedByMerging.{IsReachedByMerging}
use Rattle.mh_items.specs.code.MoveBuilder.{IsMoveBuilder}
use Rattle.mh_pager.proofs.TerminationMeasure.{weight}
use Rattle.mh_pager.proofs.construction.step_all.Given as goal

abbrev pub invariant-steps : goal.invariant-steps
invariant-steps g l = record {
  list : IsReachedByMerging (plain_of l.grammar) (merge_state_of l.worklist);
  few : length l.worklist.kernels.items ≤ max_states;
  kept : IsConsistentWorklist l.worklist;
  mover : IsMoveBuilder (plain_of l.grammar) l.mover;
}

abbrev pub decreases-steps : goal.decreases-steps
decreases-steps g l = weight (plain_of l.grammar) max_states (merge_state_of l.worklist)
