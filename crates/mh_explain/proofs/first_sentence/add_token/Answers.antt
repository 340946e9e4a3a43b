use Rattle.std.proofs.Common.{◌+◌, sym, subst}
use Rattle.mh_explain.specs.FirstSentences.{IsFoundWith}
use Rattle.mh_explain.specs.code.Searched.{IsShownBelow}
use Rattle.mh_explain.proofs.FirstWith.{none_comes, too_long}
use Rattle.mh_explain.proofs.first_sentence.add_token.Goals as goal

pub returns-in-None : goal.returns-in-None
returns-in-None c = λ look shown h. none_comes c.args.reach.now c.args.state look c.args.token c.in-None.ensures c.args.best.now h

pub returns-then-cost-gt-MAX_SENTENCE_COST : goal.returns-then-cost-gt-MAX_SENTENCE_COST
returns-then-cost-gt-MAX_SENTENCE_COST c = λ look shown h.
    subst (IsFoundWith c.args.reach.now c.args.state (IsShownBelow c.args.reach.now c.args.state look (c.args.token + 1))) (sym c.note_too_long.ensures)
    (too_long c.args.reach.now c.args.state look c.args.token shown c.in-Some.cost c.in-Some.ensures c.if-cost-gt-MAX_SENTENCE_COST.true c.args.best.now h)
