use Rattle.std.proofs.Common.{map, subst, get_or, ◌∙◌, arith}
use Rattle.std.proofs.lemmas.List.{take_all}
use Rattle.mh_rules.specs.declared.joined.Head.TheVariants.{Rule}
use Rattle.mh_expand.specs.declared.applications.Application.{Application}
use Rattle.mh_expand.specs.Expansion.{IsFirstFaultIn, IsMemoryOr, start_term}
use Rattle.mh_expand.specs.code.SharedTerms.{terms_of}
use Rattle.mh_expand.proofs.ExpansionSteps.{start_number_in_range, start_number_head, starts_none, starts_more, starts_fail}
use Rattle.mh_expand.proofs.expansion.find_starts.Goals as goal

pub loop-rule-init : goal.loop-rule-init
loop-rule-init c = rw c.new-starts.ensures (starts_none c.args.joined.now (terms_of c.args.terms.now.nodes.keys) c.args.found.now.keys c.requires.few)

pub loop-rule-preserved : goal.loop-rule-preserved
loop-rule-preserved c = rw c.in_ok-push-in-Ok.ensures.ok (starts_more c.args.joined.now (terms_of c.args.terms.now.nodes.keys) c.args.found.now.keys (terms_of c.loop-rule.terms.nodes.keys) (terms_of c.insert.new.self.nodes.keys) c.loop-rule.found.keys c.as_slice-rule-items.result.now c.loop-rule.rule-index c.loop-rule.starts c.new.result c.in_ok-number.number c.loop-rule.invariant c.loop-rule-test.true c.new.ensures c.in_ok-number.ensures c.find_instance.new.found.keys c.in-Ok.start c.in-Ok.ensures.few c.in-Ok.ensures.ok)

pub returns-in-Err-clause-err : goal.returns-in-Err-clause-err
returns-in-Err-clause-err c = λ s. subst (λ l. IsMemoryOr (IsFirstFaultIn c.args.joined.now (map start_term l)) c.in-Err.fault) c.as_slice-rule-items.ensures (starts_fail c.args.joined.now (terms_of c.args.terms.now.nodes.keys) c.args.found.now.keys (terms_of c.loop-rule.terms.nodes.keys) (terms_of c.insert.new.self.nodes.keys) c.loop-rule.found.keys c.as_slice-rule-items.result.now c.loop-rule.rule-index c.loop-rule.starts c.new.result c.in_ok-number.number c.loop-rule.invariant c.loop-rule-test.true c.new.ensures c.in_ok-number.ensures c.in-Err.fault c.in-Err.ensures.err s)

pub returns-in-Err-clause-few : goal.returns-in-Err-clause-few
returns-in-Err-clause-few c = tt

pub returns-clause-ok : goal.returns-clause-ok
returns-clause-ok c = λ s.
    let w = rw (take_all c.loop-rule.rule-index c.as_slice-rule-items.result.now c.loop-rule-test.false ∙ c.as_slice-rule-items.ensures) at (c.loop-rule.invariant.finds s) in
    record { terms_found = w.0; are_starts = w.1 }

pub returns-in-Err-clause-ok : goal.returns-in-Err-clause-ok
returns-in-Err-clause-ok c = tt

pub insert-requires : goal.insert-requires
insert-requires c = rw c.new.ensures (λ k d l. absurd (omega (arith, l)))

pub returns-clause-few : goal.returns-clause-few
returns-clause-few c = c.loop-rule.invariant.few

pub find_instance-requires-clause-number : goal.find_instance-requires-clause-number
find_instance-requires-clause-number c =
    let node : Application = record { head = Rule (get_or c.as_slice-rule-items.result.now c.loop-rule.rule-index 0); args = c.new.result } in
    start_number_in_range (terms_of c.loop-rule.terms.nodes.keys) (terms_of c.insert.new.self.nodes.keys) node c.in_ok-number.number c.in_ok-number.ensures

pub returns-clause-err : goal.returns-clause-err
returns-clause-err c = tt

pub find_instance-requires-clause-rule : goal.find_instance-requires-clause-rule
find_instance-requires-clause-rule c =
    let node : Application = record { head = Rule (get_or c.as_slice-rule-items.result.now c.loop-rule.rule-index 0); args = c.new.result } in
    start_number_head (terms_of c.loop-rule.terms.nodes.keys) (terms_of c.insert.new.self.nodes.keys) node c.in_ok-number.number c.in_ok-number.ensures

pub find_instance-requires-clause-few : goal.find_instance-requires-clause-few
find_instance-requires-clause-few c = c.loop-rule.invariant.few
