use Rattle.std.proofs.Common.{arith}
use Rattle.std.proofs.lemmas.List.Elements.{Contains-get_or}
use Rattle.mh_reach_classes.specs.code.Reductions.{IsReductionBy}
use Rattle.mh_facts.proofs.ListGains.{firsts_begin, firsts_next, firsts_all}
use Rattle.mh_reach_classes.proofs.leading_reductions.note_each.Goals as goal

pub loop-production-init : goal.loop-production-init
loop-production-init c = firsts_begin (λ p r. IsReductionBy c.args.table.now c.args.from c.args.target p r) c.args.productions.now c.args.past.now.keys

pub note_one-requires-clause-production : goal.note_one-requires-clause-production
note_one-requires-clause-production c = c.requires.productions _ (Contains-get_or c.args.productions.now c.loop-production.production-index _ c.loop-production-test.true)

pub loop-production-preserved : goal.loop-production-preserved
loop-production-preserved c = firsts_next (λ p r. IsReductionBy c.args.table.now c.args.from c.args.target p r) c.args.productions.now c.loop-production.production-index _ c.args.past.now.keys c.loop-production.past.keys c.note_one.new.past.keys c.loop-production-test.true c.loop-production.invariant c.in_ok-note_one.ensures

pub returns : goal.returns
returns c = firsts_all (λ p r. IsReductionBy c.args.table.now c.args.from c.args.target p r) c.args.productions.now c.loop-production.production-index c.args.past.now.keys c.loop-production.past.keys
    (let a = c.loop-production-test.false in let b = c.loop-production.auto.production-index-end in omega arith) c.loop-production.invariant
