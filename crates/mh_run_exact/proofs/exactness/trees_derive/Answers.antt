use Rattle.mh_run_exact.proofs.TreesDerive.{tree_derives}
use Rattle.mh_run_exact.proofs.exactness.trees_derive.Goals as goal

pub returns : goal.returns
returns c = tree_derives
