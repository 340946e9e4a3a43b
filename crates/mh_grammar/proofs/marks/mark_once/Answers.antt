use Rattle.std.proofs.Common.{◌-◌, length, refl, arith}
use Rattle.std.proofs.lemmas.Option.{slice_get_read}
use Rattle.mh_grammar.proofs.LeastMarks.{Closes}
use Rattle.mh_grammar.proofs.ProductionPasses.{pass-back, pass-step, pass-end}
use Rattle.mh_grammar.proofs.marks.mark_once.Goals as goal

pub loop-place-preserved : goal.loop-place-preserved
loop-place-preserved c =
    let ps = c.args.productions.now in
    let p = c.index-productions-place.result in
    let mark = c.mark_left_side-changed in
    record {
      pass = pass-back (Closes c.args.tokens) ps c.args.marks.now c.loop-place.marks mark.new.marks c.loop-place.changed mark.result mark.ensures.grows c.loop-place.invariant.pass;
      sound = λ s. mark.ensures.sound ps (c.loop-place.place - 1) (slice_get_read ps (length ps) (c.loop-place.place - 1) p refl (omega arith) c.index-productions-place.is) (c.loop-place.invariant.sound s);
    }

pub loop-production-preserved : goal.loop-production-preserved
loop-production-preserved c =
    let ps = c.args.productions.now in
    let i = c.loop-production.production-index in
    let p = c.production-item.result in
    let mark = c.mark_left_side-changed-in-loop-production in
    record {
      pass = pass-step (Closes c.args.tokens) ps c.args.marks.now c.loop-production.marks mark.new.marks c.loop-production.changed mark.result mark.ensures.grows i p c.loop-production-test.true c.production-item.is mark.ensures.closed c.loop-production.invariant.pass;
      sound = λ s. mark.ensures.sound ps i (slice_get_read ps (length ps) i p refl c.loop-production-test.true c.production-item.is) (c.loop-production.invariant.sound s);
    }

pub returns-clause-closed : goal.returns-clause-closed
returns-clause-closed c = λ e. record { closed = pass-end (Closes c.args.tokens) c.args.productions.now c.args.marks.now c.loop-production.marks c.loop-production.changed c.loop-production.production-index (omega (arith, c.loop-production-test.false)) e c.loop-production.invariant.pass }
