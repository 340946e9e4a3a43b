use Rattle.std.proofs.Common.{◌≤◌, List, arith, length, subst}
use Rattle.std.specs.List.{Any, Contains}
use Rattle.mh_grammar.proofs.Lists.{contains_none}
use Rattle.mh_rules.specs.declared.instances.Instance.{Instance}
use Rattle.mh_rules.specs.declared.instances.InstanceProduction.{InstanceProduction}
use Rattle.mh_lint.specs.declared.alternatives.AlternativeOf.{AlternativeOf}
use Rattle.mh_lint.proofs.Gains.{Gains, first_all, first_empty, first_next, first_none}
use Rattle.mh_lint.proofs.UsedRules.{HasPlaceOf, IsPlaceOf, Nothing, places_of}
use Rattle.mh_lint.proofs.uses.instantiated.Goals as goal

pub loop-instance-init : goal.loop-instance-init
loop-instance-init c =
    first_empty HasPlaceOf c.as_slice-instance-items.result.now Nothing (Contains c.new-found.result.keys) (λ k none. none)
    (λ k there. contains_none k (subst (λ (ks : List AlternativeOf). Contains ks k) c.new-found.ensures.empty there))

pub loop-production-init : goal.loop-production-init
loop-production-init c = first_none IsPlaceOf c.as_slice-production-items.result.now (Contains c.loop-instance.found.keys)

pub loop-production-preserved : goal.loop-production-preserved
loop-production-preserved c =
    first_next IsPlaceOf c.as_slice-production-items.result.now c.loop-production.production-index c.production-item.result (Contains c.loop-instance.found.keys) (Contains c.loop-production.found.keys) (Contains c.put_key.new.set.keys) c.loop-production-test.true c.production-item.is c.loop-production.invariant c.in_ok-put_key.ensures.keys

pub loop-instance-preserved : goal.loop-instance-preserved
loop-instance-preserved c =
    let productions = c.as_slice-production-items.result.now in
    let past : length productions ≤ c.loop-production.production-index = (let a = c.loop-production-test.false in omega (arith, a)) in
    let gained = first_all IsPlaceOf productions c.loop-production.production-index (Contains c.loop-instance.found.keys) (Contains c.loop-production.found.keys) past c.loop-production.invariant in
    first_next HasPlaceOf c.as_slice-instance-items.result.now c.loop-instance.instance-index c.instance-item.result Nothing (Contains c.loop-instance.found.keys) (Contains c.loop-production.found.keys) c.loop-instance-test.true c.instance-item.is c.loop-instance.invariant
    (subst (λ (qs : List InstanceProduction). Gains (λ k. Any (λ q. IsPlaceOf q k) qs) (Contains c.loop-instance.found.keys) (Contains c.loop-production.found.keys)) c.as_slice-production-items.ensures gained)

pub returns : goal.returns
returns c =
    let instances = c.as_slice-instance-items.result.now in
    let past : length instances ≤ c.loop-instance.instance-index = (let a = c.loop-instance-test.false in omega (arith, a)) in
    let gained = first_all HasPlaceOf instances c.loop-instance.instance-index Nothing (Contains c.loop-instance.found.keys) past c.loop-instance.invariant in
    places_of c.args.expanded.now c.loop-instance.found.keys (subst (λ (is : List Instance). Gains (λ k. Any (λ i. HasPlaceOf i k) is) Nothing (Contains c.loop-instance.found.keys)) c.as_slice-instance-items.ensures gained)
