use Rattle.std.proofs.Common.{ℕ, ◌<◌, ◌++◌, nat_eq, length, take, get_or, subst, sym, arith}
use Rattle.indexmap.specs.IndexMap.{get}
use Rattle.mh_expand.specs.Expansion.{found_terms, IsFirstFaultIn, IsMemoryOr, producers_of}
use Rattle.mh_expand.specs.code.SharedTerms.{terms_of, term_at, terms_at}
use Rattle.mh_expand.specs.code.InstanceSearch.{IsExpandable, FindsInstance}
use Rattle.mh_expand.proofs.SharedTerms.{terms_of-distinct}
use Rattle.mh_expand.proofs.FindsTerms.{IsPrefixOf-found}
use Rattle.mh_expand.proofs.IsExpanding.{fit_next, fault_next, IsExpanding-step, IsPrefixOf-refl, IsPrefixOf-trans}
use Rattle.mh_expand.proofs.expansion.expand_all.Goals as goal

pub instances-init : goal.instances-init
instances-init c =
    let ts = terms_of c.args.terms.now.nodes.keys in
    record { expanding = rw c.new-instances.ensures c.requires; longer = IsPrefixOf-refl (terms_at ts c.args.found.now.keys) }

pub expand_instance-requires-clause-place : goal.expand_instance-requires-clause-place
expand_instance-requires-clause-place c = omega (arith, c.instances-test.true, c.len.ensures, c.len-place.ensures, c.len-in-instances.ensures.len)

pub expand_instance-requires-clause-fit : goal.expand_instance-requires-clause-fit
expand_instance-requires-clause-fit c =
    let ts = terms_of c.instances.terms.nodes.keys in
    let l : length c.instances.instances < length c.instances.found.keys = omega (arith, c.instances-test.true, c.len.ensures, c.len-in-instances.ensures.len) in
    let P : ℕ → Type 0 = λ p. IsExpandable c.args.joined.now (term_at ts (get_or c.instances.found.keys p 0)) in
    subst P (sym c.len-place.ensures) (fit_next c.args.joined.now ts c.instances.found.keys c.instances.instances (get nat_eq c.args.ranks.now) c.instances.invariant.expanding l)

pub instances-preserved : goal.instances-preserved
instances-preserved c =
    let j = c.args.joined.now in
    let ts = terms_of c.instances.terms.nodes.keys in
    let us = terms_of c.expand_instance.new.terms.nodes.keys in
    let numbers = c.instances.found.keys in
    let new = c.expand_instance.new.found.keys in
    let instances = c.instances.instances in
    let rank = get nat_eq c.args.ranks.now in
    let w = c.instances.invariant.expanding in
    let l : length instances < length numbers = omega (arith, c.instances-test.true, c.len.ensures, c.len-in-instances.ensures.len) in
    let before = found_terms j (take (length instances) (terms_at ts numbers)) in
    let P : ℕ → Type 0 = λ p. FindsInstance j before ts us numbers new (term_at ts (get_or numbers p 0)) c.in-Ok.instance in
    let v = subst P c.len-place.ensures (c.in-Ok.ensures.ok before w.search) in
    let longer = IsPrefixOf-found ts us numbers new w.search.below v.terms_found.terms v.terms_found.numbers in
    record {
      expanding = rw c.in_ok-push-in-Ok.ensures.ok (IsExpanding-step j ts numbers instances rank w l us new c.in-Ok.instance (terms_of-distinct c.expand_instance.new.terms.nodes.keys c.expand_instance.new.terms.nodes_ok) c.in-Ok.ensures.few v);
      longer = IsPrefixOf-trans (terms_at (terms_of c.args.terms.now.nodes.keys) c.args.found.now.keys) (terms_at ts numbers) (terms_at us new) c.instances.invariant.longer longer;
    }

pub returns-in-Err-clause-err : goal.returns-in-Err-clause-err
returns-in-Err-clause-err c =
    let j = c.args.joined.now in
    let ts = terms_of c.instances.terms.nodes.keys in
    let numbers = c.instances.found.keys in
    let instances = c.instances.instances in
    let w = c.instances.invariant.expanding in
    let l : length instances < length numbers = omega (arith, c.instances-test.true, c.len.ensures, c.len-in-instances.ensures.len) in
    let before = found_terms j (take (length instances) (terms_at ts numbers)) in
    let e = c.in-Err.ensures.err before w.search in
    let P : ℕ → Type 0 = λ p. IsMemoryOr (IsFirstFaultIn j (found_terms j (take (length instances) (terms_at ts numbers)) ++ producers_of j (term_at ts (get_or numbers p 0)))) c.in-Err.fault in
    fault_next j ts numbers instances (get nat_eq c.args.ranks.now) w l c.in-Err.fault (subst P c.len-place.ensures e)

pub expand_instance-requires-clause-few : goal.expand_instance-requires-clause-few
expand_instance-requires-clause-few c = c.instances.invariant.expanding.few

pub expand_instance-requires-clause-below : goal.expand_instance-requires-clause-below
expand_instance-requires-clause-below c = c.instances.invariant.expanding.search.below

pub expand_instance-requires-clause-ranks : goal.expand_instance-requires-clause-ranks
expand_instance-requires-clause-ranks c = c.instances.invariant.expanding.ranks

pub returns-in-Err-clause-ok : goal.returns-in-Err-clause-ok
returns-in-Err-clause-ok c = tt
