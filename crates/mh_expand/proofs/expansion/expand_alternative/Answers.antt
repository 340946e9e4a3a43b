use Rattle.std.proofs.Common.{◌++◌, map, refl, subst, ◌∙◌}
use Rattle.std.proofs.lemmas.List.{take_all}
use Rattle.std.proofs.lemmas.Option.{slice_get_within}
use Rattle.mh_expand.specs.Terms.{arguments}
use Rattle.mh_expand.specs.Expansion.{IsFirstFaultIn, IsMemoryOr}
use Rattle.mh_expand.specs.code.SharedTerms.{terms_of, terms_at}
use Rattle.mh_expand.proofs.ReplacedActuals.{replaced_term_of}
use Rattle.mh_expand.proofs.FindsTerms.{below-extended}
use Rattle.mh_expand.proofs.ExpansionSteps.{producers_none, producers_more, producers_fail}
use Rattle.mh_expand.proofs.expansion.expand_alternative.Goals as goal

pub replace-requires : goal.replace-requires
replace-requires c = below-extended (terms_of c.args.terms.now.nodes.keys) (terms_of c.loop-producer.terms.nodes.keys) c.args.formals.now c.loop-producer.invariant.grows c.requires.formals

pub loop-producer-init : goal.loop-producer-init
loop-producer-init c = rw c.new-rhs.ensures (producers_none c.args.joined.now c.args.formals.now (terms_of c.args.terms.now.nodes.keys) c.args.found.now.keys c.requires.few)

pub loop-producer-preserved : goal.loop-producer-preserved
loop-producer-preserved c =
    let us = terms_of c.loop-producer.terms.nodes.keys in
    let vs = terms_of c.replace.new.terms.nodes.keys in
    rw c.in_ok-push-in-Ok.ensures.ok (producers_more c.args.joined.now c.args.formals.now (terms_of c.args.terms.now.nodes.keys) c.args.found.now.keys c.requires.formals us vs c.loop-producer.found.keys c.as_slice-producer-items.result.now c.loop-producer.producer-index c.producer-item.result c.loop-producer.rhs c.in_ok-number.number c.loop-producer.invariant c.loop-producer-test.true c.producer-item.is (record { grows = c.in_ok-number.ensures.grows; at = c.in_ok-number.ensures.term }) c.find.new.found.keys c.in-Ok.part c.in-Ok.ensures.few c.in-Ok.ensures.ok)

pub returns-in-Err-clause-err : goal.returns-in-Err-clause-err
returns-in-Err-clause-err c = λ before t e s.
    let us = terms_of c.loop-producer.terms.nodes.keys in
    let vs = terms_of c.replace.new.terms.nodes.keys in
    subst (λ l. IsMemoryOr (IsFirstFaultIn c.args.joined.now (before ++ map (replaced_term_of (arguments t)) l)) c.in-Err.fault) c.as_slice-producer-items.ensures (producers_fail c.args.joined.now c.args.formals.now (terms_of c.args.terms.now.nodes.keys) c.args.found.now.keys c.requires.formals us vs c.loop-producer.found.keys c.as_slice-producer-items.result.now c.loop-producer.producer-index c.producer-item.result c.loop-producer.rhs c.in_ok-number.number c.loop-producer.invariant c.loop-producer-test.true c.producer-item.is (record { grows = c.in_ok-number.ensures.grows; at = c.in_ok-number.ensures.term }) c.in-Err.fault c.in-Err.ensures.err before t e s)

pub returns-clause-ok : goal.returns-clause-ok
returns-clause-ok c = λ before t e s.
    let v = rw (take_all c.loop-producer.producer-index c.as_slice-producer-items.result.now c.loop-producer-test.false ∙ c.as_slice-producer-items.ensures) at (c.loop-producer.invariant.finds before t e s) in
    record { terms_found = v.terms_found; is_production = record { file = refl; place = refl; rhs = v.parts; prec = refl } }

pub find-requires-clause-number : goal.find-requires-clause-number
find-requires-clause-number c = slice_get_within (terms_of c.replace.new.terms.nodes.keys) c.in_ok-number.number (replaced_term_of (terms_at (terms_of c.loop-producer.terms.nodes.keys) c.args.formals.now) c.producer-item.result) c.in_ok-number.ensures.term

pub find-requires-clause-few : goal.find-requires-clause-few
find-requires-clause-few c = c.loop-producer.invariant.few

pub returns-in-Err-clause-few : goal.returns-in-Err-clause-few
returns-in-Err-clause-few c = tt

pub returns-in-Err-clause-grows : goal.returns-in-Err-clause-grows
returns-in-Err-clause-grows c = tt

pub returns-in-Err-clause-ok : goal.returns-in-Err-clause-ok
returns-in-Err-clause-ok c = tt

pub returns-clause-few : goal.returns-clause-few
returns-clause-few c = c.loop-producer.invariant.few

pub returns-clause-grows : goal.returns-clause-grows
returns-clause-grows c = c.loop-producer.invariant.grows

pub returns-clause-err : goal.returns-clause-err
returns-clause-err c = tt
