use Rattle.mh_reach_rests.proofs.RestNumbers.{parts_of_ended, parts_of_joined, parts_of_shifted}
use Rattle.mh_reach_rests.proofs.numbering.made_of.Goals as goal

pub returns-in-Ended : goal.returns-in-Ended
returns-in-Ended c = parts_of_ended c.args.table.now c.facts.ensures c.args.settled.now c.args.words.now c.args.item c.in-Ended.is

pub returns-in-Shifted : goal.returns-in-Shifted
returns-in-Shifted c =
    parts_of_shifted c.args.table.now c.facts.ensures c.args.settled.now c.args.words.now c.args.item c.in-Shifted.rest c.token_before.result c.number_of_rest.result c.made_of_token.result c.in-Shifted.is c.number_of_rest.ensures c.token_before.ensures c.made_of_token.ensures

pub returns-in-Joined : goal.returns-in-Joined
returns-in-Joined c =
    parts_of_joined c.args.table.now c.facts.ensures c.args.settled.now c.args.words.now c.args.item c.in-Joined.goto c.in-Joined.rest c.number_of_goto.result c.number_of_rest-in-Joined.result c.in-Joined.is c.number_of_goto.ensures c.number_of_rest-in-Joined.ensures
