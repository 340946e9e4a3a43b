use Rattle.std.proofs.Common.{◌-◌, arith}
use Rattle.mh_grammar.proofs.FirstFlags.{AddsNothing, production_sound}
use Rattle.mh_grammar.proofs.ProductionPasses.{pass-back, pass-step, pass-end}
use Rattle.mh_grammar.proofs.firsts.add_once.Goals as goal

pub loop-place-preserved : goal.loop-place-preserved
loop-place-preserved c =
    let add = c.add_production-grown in
    let sound = production_sound c.args.productions.now c.args.nullable.now c.args.width c.loop-place.flags add.new.flags (c.loop-place.place - 1) c.index-productions-place.result (omega arith) c.index-productions-place.is add.ensures.sound in
    record {
      pass = pass-back (AddsNothing c.args.nullable.now c.args.width) c.args.productions.now c.args.flags.now c.loop-place.flags add.new.flags c.loop-place.grown add.result add.ensures.grows c.loop-place.invariant.pass;
      sound = λ g e n s. sound g e n (c.loop-place.invariant.sound g e n s);
    }

pub loop-production-preserved : goal.loop-production-preserved
loop-production-preserved c =
    let add = c.add_production-grown-in-loop-production in
    let sound = production_sound c.args.productions.now c.args.nullable.now c.args.width c.loop-production.flags add.new.flags c.loop-production.production-index c.production-item.result c.loop-production-test.true c.production-item.is add.ensures.sound in
    record {
      pass = pass-step (AddsNothing c.args.nullable.now c.args.width) c.args.productions.now c.args.flags.now c.loop-production.flags add.new.flags c.loop-production.grown add.result add.ensures.grows c.loop-production.production-index c.production-item.result
          c.loop-production-test.true c.production-item.is add.ensures.added c.loop-production.invariant.pass;
      sound = λ g e n s. sound g e n (c.loop-production.invariant.sound g e n s);
    }

pub returns-clause-added : goal.returns-clause-added
returns-clause-added c = λ e. record { added = pass-end (AddsNothing c.args.nullable.now c.args.width) c.args.productions.now c.args.flags.now c.loop-production.flags c.loop-production.grown c.loop-production.production-index (omega (arith, c.loop-production-test.false)) e c.loop-production.invariant.pass }
