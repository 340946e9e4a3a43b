use Rattle.std.proofs.Common.{rules}
use Rattle.mh_items.proofs.closures.closure.Goals as goal

pub closure_over-requires : goal.closure_over-requires
closure_over-requires g c =
    let nothing = rw c.len.ensures at c.in_ok-asked.ensures in
    (search rules, (search rules, (search rules, (c.requires.fits, (c.requires.firsts, (c.requires.kernel, nothing))))))
