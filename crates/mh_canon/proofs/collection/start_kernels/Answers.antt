use Rattle.mh_canon.proofs.PartialCollection.{AreStarts-none, AreStarts-step}
use Rattle.mh_canon.proofs.collection.start_kernels.Goals as goal

pub loop-start-init : goal.loop-start-init
loop-start-init _ c = rw c.new-kernels.ensures AreStarts-none

pub loop-start-preserved : goal.loop-start-preserved
loop-start-preserved _ c =
    let placed = rw c.in_ok-kernel.ensures.exact at c.in_ok-insert.ensures in
    AreStarts-step c.loop-start.start c.in_ok-insert.field-0 c.loop-start.kernels.set.keys c.insert.new.self.set.keys c.loop-start.invariant placed
