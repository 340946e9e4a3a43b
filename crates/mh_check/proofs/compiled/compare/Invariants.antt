use Rattle.mh_check.proofs.Missing.{MissingSoFar}
use Rattle.mh_check.proofs.compiled.compare.Given as goal

abbrev pub invariant-loop-state : goal.invariant-loop-state
invariant-loop-state l = MissingSoFar l.left l.right l.states.items l.state
