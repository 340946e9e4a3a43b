use Rattle.std.proofs.Common.{◌≡◌, ℕ, List, [], ◌∷◌, ◌++◌, refl, sym, ap, subst, ◌∙◌, length, ◌≤◌, arith}
use Rattle.mh_tables_core.specs.NextActions.{move_for}
use Rattle.mh_run.proofs.RunProgress.{RunProgress, token_is_shifted}
use Rattle.mh_expected.specs.code.Trials.{null_observer, AsksOn}
use Rattle.mh_expected.specs.code.Overlaid.{Overlaid}
use Rattle.mh_expected.proofs.StatesAfter.{no_shift, only_shifts, asks_on}
use Rattle.mh_expected.proofs.sentence.states_after.Goals as goal

pub unreachable-requires : goal.unreachable-requires
unreachable-requires c =
    only_shifts c.args.table.now c.args.start c.args.sentence.now c.requires.overshoots c.loop-token.stack.stack c.loop-token.token-index c.loop-token.invariant.0 c.settle.new.stack.stack _ (move_for c.in_ok-target.field-0) c.loop-token-test.true refl c.in_ok-target.ensures.settled
    (no_shift c.in_ok-target.field-0 c.in_default.not-Shift)

pub loop-token-preserved : goal.loop-token-preserved
loop-token-preserved c = (
  rw c.in_ok-push-in-Shift.ensures.pushed
      (token_is_shifted null_observer c.args.table.now c.table-rows.ensures.facts.facts c.args.start c.args.sentence.now tt c.loop-token.stack.stack c.settle.new.stack.stack c.loop-token.token-index _ c.in-Shift.target tt tt c.loop-token.invariant.0 c.loop-token-test.true refl
      (rw c.in-Shift.is at c.in_ok-target.ensures.settled)),
  c.in_ok-push-in-Shift.ensures.base ∙ c.in_ok-target.ensures.base ∙ c.loop-token.invariant.1,
)

pub returns-clause-asks : goal.returns-clause-asks
returns-clause-asks c =
    let all : length c.args.sentence.now ≤ c.loop-token.token-index = omega (arith, c.loop-token-test.false) in
    let asks =
    asks_on c.args.table.now c.args.start c.args.sentence.now c.requires.overshoots c.loop-token.stack.stack c.loop-token.token-index c.loop-token.invariant.0 c.settle-2.new.stack.stack (move_for c.in_ok-_asks._asks) all c.in_ok-_asks.ensures.settled in
    rw c.into_above.ensures asks
