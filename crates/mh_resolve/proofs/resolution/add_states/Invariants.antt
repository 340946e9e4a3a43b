use Rattle.mh_grammar.specs.Plain.{plain_of}
use Rattle.mh_items.specs.code.ClosureBuilder.{IsClosureBuilder}
use Rattle.mh_resolve_cells.proofs.AreResolved.{AreFirstStates, AreFirstConflicts}
use Rattle.mh_resolve.proofs.resolution.add_states.Given as goal

abbrev pub invariant-loop-state : goal.invariant-loop-state
invariant-loop-state g l = AreFirstStates l.grammar l.automaton l.mode l.state l.found.states.items × AreFirstConflicts l.grammar l.automaton l.state l.found.conflicts.items × IsClosureBuilder (plain_of l.grammar) l.closer
