use Rattle.mh_reach_rests.proofs.RestNumbers.{front_alone, front_none, front_pair}
use Rattle.mh_reach_rests.proofs.numbering.made_of_token.Goals as goal

pub returns-in-None : goal.returns-in-None
returns-in-None c = front_none c.args.words.now c.args.token c.args.rest c.in-None.is

pub returns-then-rest-eq-EMPTY : goal.returns-then-rest-eq-EMPTY
returns-then-rest-eq-EMPTY c = front_alone c.args.words.now c.args.token c.args.rest c.in-Some.token c.in-Some.is c.if-rest-eq-EMPTY.true

pub returns-else-rest-eq-EMPTY : goal.returns-else-rest-eq-EMPTY
returns-else-rest-eq-EMPTY c = front_pair c.args.words.now c.args.token c.args.rest c.in-Some.token c.number_of_token.result c.in-Some.is c.if-rest-eq-EMPTY.false c.number_of_token.ensures
