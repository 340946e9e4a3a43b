use Rattle.mh_pager.specs.code.Worklist.{merge_state_of, IsConsistentWorklist}
use Rattle.mh_pager.specs.code.ReachedByMerging.{IsInitialUpTo}
use Rattle.mh_pager.proofs.construction.begin.Given as goal

abbrev pub invariant-loop-start : goal.invariant-loop-start
invariant-loop-start g l = record {
  begun : IsInitialUpTo l.start (merge_state_of l.worklist);
  kept : IsConsistentWorklist l.worklist;
}
