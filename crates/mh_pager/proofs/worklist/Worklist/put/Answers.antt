use Rattle.std.proofs.Common.{rules}
use Rattle.mh_pager.proofs.worklist.Worklist.put.Goals as goal

pub fitting-requires : goal.fitting-requires
fitting-requires g c =
    let kept = c.requires.kept in
    (search rules, (search rules, (c.requires.fits.few, (c.requires.kernel, (c.requires.ready, (record { flagged = kept.flagged; flags = kept.flags; indexed = c.in_ok-core.ensures.indexed c.args.self.now.kernels.items kept.indexed }, c.in_ok-core.ensures.group))))))

pub put_unkept-requires : goal.put_unkept-requires
put_unkept-requires g c =
    let kept = c.requires.kept in
    (search rules, (search rules, (c.requires.fits, (c.requires.kernel, (c.requires.ready, (c.requires.few, (record { flagged = kept.flagged; flags = kept.flags; indexed = c.in_ok-core.ensures.indexed c.args.self.now.kernels.items kept.indexed }, (c.in_ok-core.ensures.group, c.in-None.ensures))))))))

pub returns-in-Some-clause-kept : goal.returns-in-Some-clause-kept
returns-in-Some-clause-kept g c =
    let kept = c.requires.kept in
    record { flagged = kept.flagged; flags = kept.flags; indexed = c.in_ok-core.ensures.indexed c.args.self.now.kernels.items kept.indexed }
