use Rattle.std.proofs.Common.{rules}
use Rattle.mh_pager.proofs.worklist.Worklist.push_start.Goals as goal

pub push-requires : goal.push-requires
push-requires g c =
    let kept = c.requires.kept in
    (search rules, (search rules, (c.requires.small, (c.requires.few, (record { flagged = kept.flagged; flags = kept.flags; indexed = c.in_ok-core.ensures.indexed c.args.self.now.kernels.items kept.indexed }, c.in_ok-core.ensures.group)))))
