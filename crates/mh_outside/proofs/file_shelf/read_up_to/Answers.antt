use Rattle.std.proofs.Common.{arith}
use Rattle.mh_outside.proofs.PassesOn.{passes_limit}
use Rattle.mh_outside.proofs.file_shelf.read_up_to.Goals as goal

pub returns-then-count-limit : goal.returns-then-count-limit
returns-then-count-limit g c =
    let so_far = c.loop-count.invariant in
    passes_limit _ _ _ _ _ c.in-Ok.count c.args.limit so_far.got c.in-Ok.ensures.bytes.0 (omega (arith, c.in-Ok.ensures.bound)) (omega arith) so_far.fits
