use Rattle.std.proofs.Common.{take}
use Rattle.mh_lint_states.proofs.CompleteItems.{AreLooksOf}
use Rattle.mh_lint_states.proofs.reductions.looks_of.Given as goal

abbrev pub invariant-loop-item : goal.invariant-loop-item
invariant-loop-item g l = AreLooksOf l.grammar l.production (take l.item-index l.items) l.looks
