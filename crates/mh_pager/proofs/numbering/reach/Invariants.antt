use Rattle.std.proofs.Common.{◌-◌, length}
use Rattle.mh_canon.specs.Limits.{max_states}
use Rattle.mh_pager.proofs.RenumberingInvariant.{RenumberingInvariant}
use Rattle.mh_pager.proofs.numbering.reach.Given as goal

abbrev pub invariant-states : goal.invariant-states
invariant-states l = RenumberingInvariant l.starts l.rows l.states.keys l.edges

abbrev pub decreases-states : goal.decreases-states
decreases-states l = max_states - length l.edges
