use Rattle.mh_items_kernels.specs.Collection.{AreStarts}
use Rattle.mh_canon.proofs.collection.start_kernels.Given as goal

abbrev pub invariant-loop-start : goal.invariant-loop-start
invariant-loop-start _ l = AreStarts l.start l.kernels.set.keys
