use Rattle.std.proofs.Common.{◌≡◌, ◌+◌, arith}
use Rattle.mh_check.proofs.ArePlaces.{fails_by, known_by, early_by, accepted_by, overshot_by}
use Rattle.mh_check.proofs.places.failing_state.Goals as goal

pub returns-in-Reject-clause-known : goal.returns-in-Reject-clause-known
returns-in-Reject-clause-known c =
    known_by c.args.table.now c.args.sentence.now _ c.as_slice-tokens.ensures c.table-facts.ensures.facts.facts c.in-Ok.ended c.in-Reject.at c.in-Reject.state c.requires c.in-Reject.is c.in-Ok.ensures

pub returns-in-Reject-clause-fails : goal.returns-in-Reject-clause-fails
returns-in-Reject-clause-fails c =
    fails_by c.args.table.now c.args.sentence.now _ c.as_slice-tokens.ensures c.in-Ok.ended c.in-Reject.at c.in-Reject.state c.requires c.in-Reject.is (let last = c.if-at-tokens.true in omega (arith, last)) c.in-Ok.ensures

pub returns-in-Reject-2-clause-fails : goal.returns-in-Reject-2-clause-fails
returns-in-Reject-2-clause-fails c =
    let same : c.in-Reject.at ≡ c.in-Reject-2.at = cc in
    early_by c.args.table.now c.args.sentence.now _ c.as_slice-tokens.ensures c.in-Ok.ended c.in-Reject-2.at c.in-Reject-2.state c.in-Reject-2.is (λ e. c.if-at-tokens.false (rw same e)) c.in-Ok.ensures

pub returns-in-Accept-clause-fails : goal.returns-in-Accept-clause-fails
returns-in-Accept-clause-fails c = accepted_by c.args.table.now c.args.sentence.now _ c.as_slice-tokens.ensures c.in-Ok.ended c.in-Accept.read c.in-Accept.is c.in-Ok.ensures

pub returns-in-Overshoot-clause-fails : goal.returns-in-Overshoot-clause-fails
returns-in-Overshoot-clause-fails c = overshot_by c.args.table.now c.args.sentence.now _ c.as_slice-tokens.ensures c.in-Ok.ended c.in-Overshoot.state c.in-Overshoot.is c.in-Ok.ensures
