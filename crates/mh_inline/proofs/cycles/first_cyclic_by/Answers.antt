use Rattle.std.proofs.Common.{arith}
use Rattle.mh_inline_unfold.proofs.InlineProducers.{inline_instance}
use Rattle.mh_inline.proofs.IsCyclic.{reaches_user, all_sized}
use Rattle.mh_inline.proofs.cycles.first_cyclic_by.Goals as goal

pub returns-clause-first : goal.returns-clause-first
returns-clause-first c = λ n r.
    let w = (inline_instance c.args.expanded.now.instances n (reaches_user c.args.expanded.now.instances n n r)).within in
    c.loop-number.invariant n (omega (arith, c.loop-number-test.false, c.len-number-end.ensures)) r

pub returns-clause-sized : goal.returns-clause-sized
returns-clause-sized c = all_sized c.args.expanded.now.instances c.args.sizing.now.sizes.items c.requires.settled
    (λ n r. let w = (inline_instance c.args.expanded.now.instances n (reaches_user c.args.expanded.now.instances n n r)).within in
    c.loop-number.invariant n (omega (arith, c.loop-number-test.false, c.len-number-end.ensures)) r)
    c.requires.sizing.are_sizes
