use Rattle.mh_inline.proofs.InstanceRanks.{above_all}
use Rattle.mh_inline.proofs.ranks.is_above.Goals as goal

pub returns : goal.returns
returns c = λ t. above_all c.args.expanded.now.instances c.args.ranks.now c.args.number c.args.rank c.in_ok-made_of.made_of.items c.in_ok-made_of.ensures.exact (rw (← c.as_slice.ensures.value) (c.are_below.ensures t))
