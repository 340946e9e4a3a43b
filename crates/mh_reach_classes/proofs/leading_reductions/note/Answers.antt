use Rattle.std.proofs.Common.{refl}
use Rattle.mh_reach_classes.proofs.AllReductions.{reduction_same}
use Rattle.mh_reach_classes.proofs.ReductionSets.{collects_insert}
use Rattle.mh_reach_classes.proofs.leading_reductions.note.Goals as goal

pub returns : goal.returns
returns c = collects_insert _ c.args.past.now.keys c.insert.new.self.keys c.args.reduction c.in_ok-insert.ensures.keys (λ x y e. reduction_same x y _ refl e)
