use Rattle.std.proofs.Common.{◌≡◌, ◌≤◌, List, [], arith, length, subst}
use Rattle.mh_rules.specs.declared.joined.JoinedAlternative.{JoinedAlternative}
use Rattle.mh_rules.specs.declared.joined.JoinedRule.{JoinedRule}
use Rattle.mh_lint_faults.specs.code.Producers.{IsWrongProducerOf}
use Rattle.mh_lint_faults.specs.declared.arity.ProducerOf.{ProducerOf}
use Rattle.mh_lint_faults.proofs.KeysGained.{Gains, gains_all, gains_next, gains_none}
use Rattle.mh_lint_faults.proofs.WrongProducers.{IsWrongOfRule, all_producers}
use Rattle.mh_lint_faults.proofs.arity.wrong_producers.Goals as goal

pub loop-rule-init : goal.loop-rule-init
loop-rule-init c = rw c.new-found.ensures.empty (gains_none (IsWrongOfRule c.args.joined.now c.args.printed.now) [])

pub loop-alternative-init : goal.loop-alternative-init
loop-alternative-init c = gains_none (IsWrongProducerOf c.args.joined.now c.args.printed.now) c.loop-rule.found.keys

pub loop-alternative-preserved : goal.loop-alternative-preserved
loop-alternative-preserved c =
    gains_next (IsWrongProducerOf c.args.joined.now c.args.printed.now) c.loop-rule.found.keys c.loop-alternative.found.keys c.put_wrong.new.found.keys c.as_slice-alternative-items.result.now c.loop-alternative.alternative-index c.alternative-item.result c.loop-alternative-test.true c.alternative-item.is c.loop-alternative.invariant c.in_ok-put_wrong.ensures

pub loop-rule-preserved : goal.loop-rule-preserved
loop-rule-preserved c =
    let alternatives = c.as_slice-alternative-items.result.now in
    let past : length alternatives ≤ c.loop-alternative.alternative-index = (let a = c.loop-alternative-test.false in omega (arith, a)) in
    let gained = gains_all (IsWrongProducerOf c.args.joined.now c.args.printed.now) c.loop-rule.found.keys c.loop-alternative.found.keys alternatives c.loop-alternative.alternative-index past c.loop-alternative.invariant in
    gains_next (IsWrongOfRule c.args.joined.now c.args.printed.now) [] c.loop-rule.found.keys c.loop-alternative.found.keys c.as_slice-rule-items.result.now c.loop-rule.rule-index c.rule-item.result c.loop-rule-test.true c.rule-item.is c.loop-rule.invariant
    (subst (λ (alts : List JoinedAlternative). Gains (IsWrongProducerOf c.args.joined.now c.args.printed.now) c.loop-rule.found.keys c.loop-alternative.found.keys alts) c.as_slice-alternative-items.ensures gained)

pub returns : goal.returns
returns c =
    let rules = c.as_slice-rule-items.result.now in
    let past : length rules ≤ c.loop-rule.rule-index = (let a = c.loop-rule-test.false in omega (arith, a)) in
    let gained = gains_all (IsWrongOfRule c.args.joined.now c.args.printed.now) [] c.loop-rule.found.keys rules c.loop-rule.rule-index past c.loop-rule.invariant in
    all_producers c.args.joined.now c.args.printed.now c.loop-rule.found.keys (subst (λ (rs : List JoinedRule). Gains (IsWrongOfRule c.args.joined.now c.args.printed.now) [] c.loop-rule.found.keys rs) c.as_slice-rule-items.ensures gained)
