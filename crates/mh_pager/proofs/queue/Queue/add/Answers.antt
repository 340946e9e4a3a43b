use Rattle.std.proofs.Common.{◌≡◌, length, ◌∙◌}
use Rattle.mh_pager.proofs.AreFlagged.{flagged_push}
use Rattle.mh_pager.proofs.queue.Queue.add.Goals as goal

pub returns-clause-flagged : goal.returns-clause-flagged
returns-clause-flagged c =
    let waits = c.args.self.now.waits in
    let count : c.len.result ≡ length waits.items = c.len.ensures ∙ waits.ok.0 in
    rw (c.in_ok-push_back.ensures.items, c.in_ok-push.ensures.items, count) (flagged_push c.args.self.now.states.items waits.items c.requires.flagged)
