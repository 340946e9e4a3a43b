use Rattle.std.proofs.Common.{refl}
use Rattle.mh_grammar.specs.declared.types.Look.TheVariants.{End}
use Rattle.mh_explain.proofs.FirstWith.{costlier, taken, within}
use Rattle.mh_explain.proofs.first_sentence.add_sentence.Goals as goal

pub returns-then-costs_more : goal.returns-then-costs_more
returns-then-costs_more c = λ look shown h. costlier c.args.reach.now c.args.state look c.args.token c.args.cost c.requires.least c.args.best.now (c.if-costs_more.ensures.0 refl) h

pub sentence_to-requires-clause-cheap : goal.sentence_to-requires-clause-cheap
sentence_to-requires-clause-cheap c = within c.args.reach.now c.args.state End c.args.token c.args.cost c.requires.least c.requires.cheap

pub returns : goal.returns
returns c = λ look shown h.
    taken c.args.reach.now c.args.state look c.args.token shown c.args.cost c.requires.least c.requires.cheap c.in_ok-sentence.sentence c.in_ok-sentence.ensures c.args.best.now c.take_sooner.new.best c.take_sooner.ensures h
