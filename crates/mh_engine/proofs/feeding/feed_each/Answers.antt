use Rattle.std.proofs.Common.{◌<◌, length, slice_index_or, refl, sym, subst, ◌∙◌, arith}
use Rattle.std.proofs.lemmas.List.Elements.{All-get_or}
use Rattle.mh_tables_core.specs.Table.{TableData}
use Rattle.mh_engine.proofs.FedTokens.{FeedsSoFar-start, feeds_to_acceptance, feeds_all, fed_keeps_table, feeds_next, feeds_to_stop, feeds_too_deep}
use Rattle.mh_engine.proofs.feeding.feed_each.Goals as goal

pub loop-place-init : goal.loop-place-init
loop-place-init c = FeedsSoFar-start c.args.from c.args.tokens.now c.requires.can_offer c.facts.ensures

pub returns-in_default-clause-fed : goal.returns-in_default-clause-fed
returns-in_default-clause-fed c = feeds_to_acceptance c.args.from c.args.tokens.now c.loop-place.place c.loop-place.at c.loop-place.invariant (λ s e. c.in_default.not-InputNeeded s (c.phase.ensures ∙ e))

pub feed_token-requires-clause-token : goal.feed_token-requires-clause-token
feed_token-requires-clause-token c =
    subst (λ (t : TableData). slice_index_or c.args.tokens.now c.loop-place.place 0 < t.grammar.tokens) (sym c.loop-place.invariant.table)
    (All-get_or (λ z. z < c.args.from.table.grammar.tokens) c.args.tokens.now c.loop-place.place 0 c.loop-place-test.true c.requires.tokens)

pub returns-in-Err-clause-deep : goal.returns-in-Err-clause-deep
returns-in-Err-clause-deep c = λ e.
    feeds_too_deep c.args.from c.args.tokens.now c.loop-place.place c.loop-place.at c.loop-place.invariant (slice_index_or c.args.tokens.now c.loop-place.place 0) c.in-InputNeeded.state (sym c.in-InputNeeded.ensures) c.loop-place-test.true refl (c.in-Err.ensures.deep e)

pub returns-then-not-is_shifted-clause-fed : goal.returns-then-not-is_shifted-clause-fed
returns-then-not-is_shifted-clause-fed c =
    feeds_to_stop c.args.from c.args.tokens.now c.loop-place.place c.loop-place.at c.loop-place.invariant (slice_index_or c.args.tokens.now c.loop-place.place 0) c.in-InputNeeded.state (sym c.in-InputNeeded.ensures) c.loop-place-test.true refl c.in-Ok.next c.in-Ok.ensures.fed
    (λ e. let shifted = c.if-not-is_shifted.ensures.1 e in cc)

pub returns-then-not-is_shifted-clause-table : goal.returns-then-not-is_shifted-clause-table
returns-then-not-is_shifted-clause-table c =
    fed_keeps_table c.args.from c.args.tokens.now c.loop-place.place c.loop-place.at c.loop-place.invariant (slice_index_or c.args.tokens.now c.loop-place.place 0) c.in-InputNeeded.state (sym c.in-InputNeeded.ensures) c.loop-place-test.true refl c.in-Ok.next c.in-Ok.ensures.fed

pub loop-place-preserved : goal.loop-place-preserved
loop-place-preserved c =
    feeds_next c.args.from c.args.tokens.now c.loop-place.place c.loop-place.at c.loop-place.invariant (slice_index_or c.args.tokens.now c.loop-place.place 0) c.in-InputNeeded.state (sym c.in-InputNeeded.ensures) c.loop-place-test.true refl c.in-Ok.next c.in-Ok.ensures.fed
    (c.if-not-is_shifted.ensures.0 refl)

pub returns-clause-fed : goal.returns-clause-fed
returns-clause-fed c = feeds_all c.args.from c.args.tokens.now c.loop-place.place c.loop-place.at c.loop-place.invariant (length c.args.tokens.now) refl (omega (arith, c.loop-place-test.false))
