use Rattle.std.proofs.Common.{◌≡◌, ◌∙◌, ◌+◌, ◌-◌, length, refl, ap, arith, subst}
use Rattle.std.proofs.lemmas.Option.{slice_get_read}
use Rattle.mh_grammar.specs.Plain.{plain_of}
use Rattle.mh_sample.proofs.ImproveAll.{PassSoFar, pass_step}
use Rattle.mh_sample.proofs.improving.improve_all.Goals as goal

pub loop-place-preserved : goal.loop-place-preserved
loop-place-preserved c =
    let g = plain_of c.args.grammar.now in
    let ps = c.args.grammar.now.productions in
    let place = c.loop-place.place - 1 in
    let p = c.index-productions-place.result in
    let at = slice_get_read ps (length ps) place p refl (omega (arith, c.loop-place-test.true, c.loop-place.auto.place, ap length c.as_slice-productions.ensures)) (rw c.as_slice-productions.ensures at c.index-productions-place.is) in
    let next : c.loop-place.place ≡ place + 1 = omega (arith, c.loop-place-test.true) in
    record {
      len = c.improve.ensures.len ∙ c.loop-place.invariant.len;
      pass = pass_step g c.args.words.now.items c.loop-place.words.items c.improve.new.words.items c.loop-place.improved c.in_ok-improved.field-0 place p at (c.in_ok-improved.ensures.improves g c.requires.range place at) c.in_ok-improved.ensures.closed
          (subst (PassSoFar g c.args.words.now.items c.loop-place.words.items c.loop-place.improved) next c.loop-place.invariant.pass);
    }
