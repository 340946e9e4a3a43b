use Rattle.std.proofs.Common.{◌≡◌, ◌++◌, drop}
use Rattle.mh_update.specs.MissingStates.{missing_lines}
use Rattle.mh_update.proofs.texts.missing_text.Given as goal

abbrev pub invariant-loop-state : goal.invariant-loop-state
invariant-loop-state l = l.text.items ++ missing_lines l.left l.right (drop l.state-index l.states) ≡ missing_lines l.left l.right l.states
