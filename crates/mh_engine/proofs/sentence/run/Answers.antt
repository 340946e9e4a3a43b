use Rattle.std.proofs.Common.{◌≡◌, ◌<◌, ℕ, length, slice_index_or, refl, sym, subst, ◌∙◌, arith}
use Rattle.std.proofs.lemmas.List.Elements.{All-get_or}
use Rattle.mh_tables_core.specs.Table.{TableData}
use Rattle.mh_engine.specs.code.SentenceOutcomes.{IsTokenOutcome, IsAcceptOutcome}
use Rattle.mh_engine.proofs.SentenceTokens.{IsBeforeToken-start, IsBeforeToken-settled, IsBeforeToken-too_deep, IsBeforeToken-accept, IsBeforeToken-overshoot, no_other_phase_at_end, IsBeforeToken-table}
use Rattle.mh_engine.proofs.sentence.run.Goals as goal

pub loop-place-init : goal.loop-place-init
loop-place-init c = IsBeforeToken-start c.args.table.now c.args.start c.args.sentence.now c.begin-at.result c.begin-at.ensures.value

pub feed-requires-clause-token : goal.feed-requires-clause-token
feed-requires-clause-token c =
    subst (λ (t : TableData). (slice_index_or c.args.sentence.now c.loop-place.place 0) < t.grammar.tokens) (sym (IsBeforeToken-table c.args.table.now c.args.start c.args.sentence.now c.loop-place.place c.loop-place.at c.loop-place.invariant))
    (All-get_or (λ z. z < c.args.table.now.grammar.tokens) c.args.sentence.now c.loop-place.place 0 c.loop-place-test.true c.requires.tokens)

pub returns-in-Ok-Ended-clause-reached : goal.returns-in-Ok-Ended-clause-reached
returns-in-Ok-Ended-clause-reached c =
    subst (IsTokenOutcome c.args.table.now c.args.start c.args.sentence.now c.loop-place.place) c.in-Ok-Ended.field-0-is
    (c.in-Ok-Ended.ensures.read c.args.table.now c.args.start c.args.sentence.now (record { reads = c.loop-place.invariant; index_known = c.loop-place-test.true; token_is = refl }))

pub returns-in-Err-settle-clause-deep : goal.returns-in-Err-settle-clause-deep
returns-in-Err-settle-clause-deep c = λ e. IsBeforeToken-too_deep c.args.table.now c.args.start c.args.sentence.now c.loop-place.place c.loop-place.at c.loop-place.invariant (c.in-Err-settle.ensures.deep e)

pub returns-in-InputNeeded-clause-reached : goal.returns-in-InputNeeded-clause-reached
returns-in-InputNeeded-clause-reached c =
    IsBeforeToken-overshoot c.args.table.now c.args.start c.args.sentence.now c.loop-place.place c.in-InputNeeded.state c.in-Ok.end (IsBeforeToken-settled c.args.table.now c.args.start c.args.sentence.now c.loop-place.place c.loop-place.at c.in-Ok.end c.loop-place.invariant c.in-Ok.ensures.settled) (omega (arith, c.loop-place-test.false))
    (sym c.in-InputNeeded.ensures)

pub returns-in-Accepted-clause-reached : goal.returns-in-Accepted-clause-reached
returns-in-Accepted-clause-reached c =
    let e : c.loop-place.place ≡ length c.args.sentence.now = omega (arith, c.loop-place-test.false, c.loop-place.auto.place-end) in
    IsBeforeToken-accept c.args.table.now c.args.start c.args.sentence.now c.loop-place.place c.in-Ok.end c.in_ok-accept-in-Accepted.field-0 (IsBeforeToken-settled c.args.table.now c.args.start c.args.sentence.now c.loop-place.place c.loop-place.at c.in-Ok.end c.loop-place.invariant c.in-Ok.ensures.settled)
    (sym c.in-Accepted.ensures) (subst (λ (n : ℕ). IsAcceptOutcome c.in-Ok.end.pairs.trees n c.in_ok-accept-in-Accepted.field-0) (sym e) c.in_ok-accept-in-Accepted.ensures)

pub unreachable-requires : goal.unreachable-requires
unreachable-requires c =
    let r = (IsBeforeToken-settled c.args.table.now c.args.start c.args.sentence.now c.loop-place.place c.loop-place.at c.in-Ok.end c.loop-place.invariant c.in-Ok.ensures.settled) in
    no_other_phase_at_end c.in-Ok.end r.empty r.not_refused c.in-Ok.ensures.settled.settled (λ s e. c.in_default.not-InputNeeded s (c.phase.ensures ∙ e)) (λ e. c.in_default.not-Accepted (c.phase.ensures ∙ e))
