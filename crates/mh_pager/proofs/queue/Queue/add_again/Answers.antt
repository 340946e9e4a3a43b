use Rattle.std.proofs.Common.{◌≡◌, Some, false, length, refl, inr}
use Rattle.std.specs.List.{slice_get}
use Rattle.std.proofs.lemmas.Option.{slice_get_read}
use Rattle.mh_pager.proofs.AreFlagged.{flagged_again, not_waiting}
use Rattle.mh_pager.proofs.queue.Queue.add_again.Goals as goal

pub returns-clause-flagged : goal.returns-clause-flagged
returns-clause-flagged c =
    let flags = c.args.self.now.waits.items in
    let read = slice_get_read flags (length flags) c.args.state c.index.result.now refl c.requires.known c.index.ensures in
    let at : slice_get flags c.args.state ≡ Some false = rw c.if-index.false at read in
    rw c.in_ok-push_back.ensures.items (flagged_again c.args.state c.args.self.now.states.items flags c.requires.flagged at)

pub returns-clause-states : goal.returns-clause-states
returns-clause-states c =
    let flags = c.args.self.now.waits.items in
    let read = slice_get_read flags (length flags) c.args.state c.index.result.now refl c.requires.known c.index.ensures in
    let at : slice_get flags c.args.state ≡ Some false = rw c.if-index.false at read in
    inr (not_waiting c.args.state c.args.self.now.states.items flags c.requires.flagged at, c.in_ok-push_back.ensures.items)
