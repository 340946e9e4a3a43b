use Rattle.mh_resolve_cells.specs.code.LookTallies.{AreTallied}
use Rattle.mh_resolve_settle.proofs.AreTallied.{Front}
use Rattle.mh_resolve_settle.proofs.counting.tallies_of.Given as goal

abbrev pub invariant-loop-item : goal.invariant-loop-item
invariant-loop-item g l = AreTallied l.grammar (Front l.items l.item-index) l.shifts l.tallies
