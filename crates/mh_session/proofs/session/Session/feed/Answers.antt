use Rattle.std.proofs.Common.{◌<◌, refl, sym, subst, ◌∙◌}
use Rattle.std.specs.List.{All}
use Rattle.mh_tables_core.specs.Table.{TableData}
use Rattle.mh_session.proofs.IsServed.{unknown_feed_served, wrong_feed_served, deep_feed_served, feed_served}
use Rattle.mh_session.proofs.session.Session.feed.Goals as goal

pub feed-requires-clause-tokens : goal.feed-requires-clause-tokens
feed-requires-clause-tokens c = subst (λ (t : TableData). All (λ z. z < t.grammar.tokens) c.args.tokens.now) (sym c.in-Some.ensures.table) c.requires

pub returns-in_default-phase : goal.returns-in_default-phase
returns-in_default-phase c = (refl, wrong_feed_served c.args.self.now c.args.name.now c.args.tokens.now c.in-Some.checkpoint.now (sym c.in-Some.ensures.found) c.in-Some.ensures.table c.phase-phase.result c.phase-phase.ensures c.in_default-phase.not-InputNeeded)

pub returns-in-Err-TooDeep : goal.returns-in-Err-TooDeep
returns-in-Err-TooDeep c = (
  refl,
  deep_feed_served c.args.self.now c.args.name.now c.args.tokens.now c.in-Some.checkpoint.now (sym c.in-Some.ensures.found) c.in-Some.ensures.table c.in-InputNeeded.state (sym c.in-InputNeeded.ensures) (c.in-Err-TooDeep.ensures.deep c.in-Err-TooDeep.field-0-is),
)

pub put_fed-requires : goal.put_fed-requires
put_fed-requires c = c.in-Ok.ensures.table ∙ c.in-Some.ensures.table

pub returns : goal.returns
returns c =
    feed_served c.args.self.now c.args.name.now c.args.tokens.now c.in-Some.checkpoint.now (sym c.in-Some.ensures.found) c.in-Some.ensures.table c.in-InputNeeded.state (sym c.in-InputNeeded.ensures) c.in-Ok.fed.checkpoint c.in-Ok.fed.shifted c.in-Ok.ensures.fed c.in-Ok.ensures.table
    c.put_fed.new.self c.put_fed.result c.put_fed.ensures.reply c.put_fed.ensures.fault c.put_fed.ensures.put c.put_fed.ensures.same
