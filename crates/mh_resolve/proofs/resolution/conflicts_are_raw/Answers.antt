use Rattle.mh_resolve_cells.proofs.ConflictsAgree.{no_conflicts_agree, raw_conflicts_agree}
use Rattle.mh_resolve.proofs.resolution.conflicts_are_raw.Goals as goal

pub returns-clause-none : goal.returns-clause-none
returns-clause-none g c = no_conflicts_agree c.args.grammar.now c.args.automaton.now c.requires

pub returns-clause-raw : goal.returns-clause-raw
returns-clause-raw g c = raw_conflicts_agree c.args.grammar.now c.args.automaton.now c.requires
