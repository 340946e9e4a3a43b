use Rattle.std.proofs.Common.{◌≡◌, refl, arith, length}
use Rattle.mh_tables_core.specs.Run.{Accepts, Asks, Refuses, Accepted, Overshot, Rejected, top_of}
use Rattle.mh_tables_core.proofs.Reductions.{no_shift_at_end}
use Rattle.mh_run.specs.code.Observers.{RunsObserved}
use Rattle.mh_tables_core.proofs.MoveCases.{no_ask_with_token, no_refusal_at_end}
use Rattle.mh_run.proofs.RunProgress.{token_ends_run, token_is_shifted, end_of_word_ends_run}
use Rattle.mh_run.proofs.runs.run.Goals as goal

pub returns-in-Accept : goal.returns-in-Accept
returns-in-Accept g c =
    token_ends_run g.F.RunObserver.following c.args.table.now c.args.start c.args.sentence.now c.args.follower.now c.loop-at.stack.items c.settle.new.stack.items c.loop-at.at _ c.loop-at.follower c.settle.new.follower Accepts (Accepted c.loop-at.at) c.loop-at.invariant c.loop-at-test.true refl
    (rw c.in-Accept.is at c.in_ok-target.ensures) refl

pub refused-requires-clause-some : goal.refused-requires-clause-some
refused-requires-clause-some g c =
    let s = rw c.in-Refuse.is at c.in_ok-target.ensures in
    rw c.as_slice.ensures.value s.run.path.not_empty

pub returns-in-Refuse : goal.returns-in-Refuse
returns-in-Refuse g c =
    let s = rw c.in-Refuse.is at c.in_ok-target.ensures in
    let ended : RunsObserved g.F.RunObserver.following c.args.table.now c.args.start c.args.sentence.now c.args.follower.now (Rejected c.loop-at.at (top_of c.settle.new.stack.items)) c.settle.new.follower =
    token_ends_run g.F.RunObserver.following c.args.table.now c.args.start c.args.sentence.now c.args.follower.now c.loop-at.stack.items c.settle.new.stack.items c.loop-at.at _ c.loop-at.follower c.settle.new.follower Refuses (Rejected c.loop-at.at (top_of c.settle.new.stack.items)) c.loop-at.invariant
    c.loop-at-test.true refl s refl in
    rw (c.refused.ensures, c.as_slice.ensures.value) ended

pub unreachable-requires : goal.unreachable-requires
unreachable-requires g c = let s = rw c.in-Ask.is at c.in_ok-target.ensures in no_ask_with_token c.args.table.now _ _ _ s.next

pub loop-at-preserved : goal.loop-at-preserved
loop-at-preserved g c =
    rw (c.in_ok-push-in-Shift.ensures.items, c.in_ok-shift-in-Shift.ensures)
    (token_is_shifted g.F.RunObserver.following c.args.table.now c.table-rows.ensures.facts.facts c.args.start c.args.sentence.now c.args.follower.now c.loop-at.stack.items c.settle.new.stack.items c.loop-at.at _ c.in-Shift.target c.loop-at.follower c.settle.new.follower c.loop-at.invariant c.loop-at-test.true
    refl (rw c.in-Shift.is at c.in_ok-target.ensures))

pub returns-in-Accept-2 : goal.returns-in-Accept-2
returns-in-Accept-2 g c =
    let all : c.loop-at.at ≡ length c.args.sentence.now = omega arith in
    let ended : RunsObserved g.F.RunObserver.following c.args.table.now c.args.start c.args.sentence.now c.args.follower.now (Accepted c.loop-at.at) c.settle-2.new.follower =
    end_of_word_ends_run g.F.RunObserver.following c.args.table.now c.args.start c.args.sentence.now c.args.follower.now c.loop-at.stack.items c.settle-2.new.stack.items c.loop-at.at c.loop-at.follower c.settle-2.new.follower Accepts (Accepted c.loop-at.at) c.loop-at.invariant c.loop-at-test.false
    (rw c.in-Accept-2.is at c.in_ok-settle.ensures) refl in
    rw all at ended

pub overshot-requires : goal.overshot-requires
overshot-requires g c =
    let s = rw c.in-Ask-2.is at c.in_ok-settle.ensures in
    rw c.as_slice-in-Ask-2.ensures.value s.run.path.not_empty

pub returns-in-Ask-2 : goal.returns-in-Ask-2
returns-in-Ask-2 g c =
    let s = rw c.in-Ask-2.is at c.in_ok-settle.ensures in
    let ended : RunsObserved g.F.RunObserver.following c.args.table.now c.args.start c.args.sentence.now c.args.follower.now (Overshot (top_of c.settle-2.new.stack.items)) c.settle-2.new.follower =
    end_of_word_ends_run g.F.RunObserver.following c.args.table.now c.args.start c.args.sentence.now c.args.follower.now c.loop-at.stack.items c.settle-2.new.stack.items c.loop-at.at c.loop-at.follower c.settle-2.new.follower Asks (Overshot (top_of c.settle-2.new.stack.items)) c.loop-at.invariant c.loop-at-test.false s refl in
    rw (c.overshot.ensures, c.as_slice-in-Ask-2.ensures.value) ended

pub unreachable-requires-in-Refuse-2 : goal.unreachable-requires-in-Refuse-2
unreachable-requires-in-Refuse-2 g c = let s = rw c.in-Refuse-2.is at c.in_ok-settle.ensures in no_refusal_at_end c.args.table.now _ s.next

pub unreachable-requires-in-Shift-2 : goal.unreachable-requires-in-Shift-2
unreachable-requires-in-Shift-2 g c = let s = rw c.in-Shift-2.is at c.in_ok-settle.ensures in no_shift_at_end c.args.table.now _ _ s.next
