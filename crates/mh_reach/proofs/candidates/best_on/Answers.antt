use Rattle.std.proofs.Common.{sym, ◌∙◌}
use Rattle.mh_reach_words.specs.code.Arrivals.{spot}
use Rattle.mh_reach.proofs.BetterCandidate.{no_candidate, candidate_on}
use Rattle.mh_reach.proofs.candidates.best_on.Goals as goal

pub add_token-requires-clause-cost : goal.add_token-requires-clause-cost
add_token-requires-clause-cost c = c.requires.arrivals (spot c.args.state c.class_of.result.representative) c.in-Some.arrival (sym c.arrival_at.ensures ∙ c.in-Some.is)

pub returns-in-None : goal.returns-in-None
returns-in-None c = no_candidate c.args.table.now c.args.classes.now c.args.spots.now.spots c.args.state c.args.token (rw c.class_of.ensures.representative at (sym c.arrival_at.ensures ∙ c.in-None.is))

pub returns-in-Some : goal.returns-in-Some
returns-in-Some c =
    candidate_on c.args.table.now c.args.classes.now c.args.spots.now.spots c.args.state c.args.token c.in-Some.arrival c.add_token.result (sym c.in-Refuse.ensures)
    (rw c.class_of.ensures.representative at (sym c.arrival_at.ensures ∙ c.in-Some.is)) c.add_token.ensures
