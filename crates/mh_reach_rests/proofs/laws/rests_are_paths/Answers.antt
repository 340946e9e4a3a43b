use Rattle.mh_reach_rests.proofs.CompletePaths.{are_complete_paths}
use Rattle.mh_reach_rests.proofs.laws.rests_are_paths.Goals as goal

pub returns : goal.returns
returns c = are_complete_paths c.args.table.now c.facts.ensures
