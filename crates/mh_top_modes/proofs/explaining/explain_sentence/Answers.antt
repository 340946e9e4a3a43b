use Rattle.std.proofs.Common.{◌≡◌, ℕ}
use Rattle.mh_top_modes.proofs.IsExplained.{explained_last, explained_at_place, explained_accepted, explained_overshot}
use Rattle.mh_top_modes.proofs.explaining.explain_sentence.Goals as goal

pub returns-in_ok-entry_of-in-Reject : goal.returns-in_ok-entry_of-in-Reject
returns-in_ok-entry_of-in-Reject g c =
    explained_last c.args.prepared.now c.args.sentence.now c.as_slice-tokens.result.now c.as_slice-tokens.ensures c.in_ok-ended.ended c.in_ok-ended.ensures c.in-Reject.at c.in-Reject.state c.in-Reject.is c.if-at-tokens.true c.in_ok-entry_of-in-Reject.field-0 c.in_ok-entry_of-in-Reject.ensures

pub returns-in-Reject-2 : goal.returns-in-Reject-2
returns-in-Reject-2 g c =
    let same : c.in-Reject.at ≡ c.in-Reject-2.at = cc in
    explained_at_place c.args.prepared.now c.args.sentence.now c.as_slice-tokens.result.now c.as_slice-tokens.ensures c.in_ok-ended.ended c.in_ok-ended.ensures c.in-Reject-2.at c.in-Reject-2.state c.in-Reject-2.is (λ last. c.if-at-tokens.false (rw same last)) c.refuse_early.result c.refuse_early.ensures

pub returns-in-Accept : goal.returns-in-Accept
returns-in-Accept g c =
    explained_accepted c.args.prepared.now c.args.sentence.now c.as_slice-tokens.result.now c.as_slice-tokens.ensures c.in_ok-ended.ended c.in_ok-ended.ensures c.in-Accept.read c.in-Accept.is c.refuse_ending.result c.refuse_ending.ensures

pub returns-in-Overshoot : goal.returns-in-Overshoot
returns-in-Overshoot g c =
    explained_overshot c.args.prepared.now c.args.sentence.now c.as_slice-tokens.result.now c.as_slice-tokens.ensures c.in_ok-ended.ended c.in_ok-ended.ensures c.in-Overshoot.state c.in-Overshoot.is c.refuse_ending-in-Overshoot.result c.refuse_ending-in-Overshoot.ensures
